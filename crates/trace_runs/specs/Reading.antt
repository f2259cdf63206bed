-- What reading the text of one run comes to. Own profile.
use Rattle.std.specs.Prelude.{◌≡◌, ℕ, ◌==◌, Bool, true, false, List, [], ◌∷◌, ◌++◌, length, Option, Some, None}
use Rattle.trace_lines.specs.ReadBack.{history_of}
use Rattle.trace_lines.specs.Summaries.{summary_of, summary_line}
use Rattle.trace_lines.specs.declared.trace_line.TraceLine.{TraceLine}
use Rattle.trace_reading.specs.Faults.{FaultAt}
use Rattle.trace_reading.specs.RowReading.{line_in}
use Rattle.trace_reading.specs.Traces.{Trace, IsTrace, run_text}
use Rattle.trace_reading.specs.declared.row.Head.{Head}
use Rattle.trace_reading.specs.declared.row.Row.{Row}
use Rattle.trace_reading.specs.declared.row.Row.TheVariants.{Pool as PoolRow, Lane, Entry, Count}
use Rattle.trace_runs.specs.Begun.{run_of, first_lane, begun_text, IsBegun, MayFollow, after_row, HasNoFeed}
use Rattle.trace_runs.specs.declared.cut.Cut.{Cut}
use Rattle.trace_runs.specs.declared.run_read.RunRead.{RunRead}
use Rattle.trace_runs.specs.declared.run_read.RunRead.TheVariants as read
use Rattle.trace_runs.specs.declared.step.Step.{Step}
use Rattle.trace_runs.specs.declared.step.Step.TheVariants as steps

-- a text is empty
abbrev pub is_nothing : List ℕ → Bool
is_nothing [] = true
is_nothing (b ∷ bs) = false

-- no whole line of these bytes is at fault
abbrev pub IsSound : List ℕ → Type 0
IsSound bytes = (at : ℕ) → ¬ FaultAt bytes false at

-- a text is a line with its line feed, and what comes after it; or it has no line feed
abbrev pub CutsLine : List ℕ → Option Cut → Type 0
CutsLine text (Some cut) = (text ≡ cut.line.now ++ 10 ∷ cut.after.now) × HasNoFeed cut.line.now
CutsLine text None = HasNoFeed text

-- the line with which a history's numbers are told
abbrev pub summary_text : List TraceLine → List ℕ
summary_text lines = summary_line (summary_of (history_of lines))

-- a text doesn't begin with the summary of these lines
pub record HasNoSummary (lines : List TraceLine) (text : List ℕ) : Type 0 where
  pub none : (more : List ℕ) → ¬ (text ≡ summary_text lines ++ more)

-- how long the summary of these lines is at the beginning of a text, if it is there
abbrev pub IsSummaryAt : List TraceLine → List ℕ → Option ℕ → Type 0
IsSummaryAt lines text (Some n) = (n ≡ length (summary_text lines)) × ((more : List ℕ) × (text ≡ summary_text lines ++ more))
IsSummaryAt lines text None = HasNoSummary lines text

-- a lane or an entry, of which a run may have more than one
abbrev pub IsMore : Row → Type 0
IsMore (Lane lane) = Unit {0}
IsMore (Entry line) = Unit {0}
IsMore row = ⊥

-- the number of entries
abbrev pub IsCount : Row → Type 0
IsCount (Count n) = Unit {0}
IsCount row = ⊥

-- a line was taken as one that may follow, the last one or another, or it isn't one
abbrev pub TakesRow : Trace → Row → Trace → Step → Type 0
TakesRow t row t' steps.Goes = IsMore row × MayFollow t row × (t' ≡ after_row t row)
TakesRow t row t' steps.Ends = IsCount row × MayFollow t row × (t' ≡ t)
TakesRow t row t' steps.Refused = ¬ MayFollow t row

-- a line is none that may follow
pub record IsUnfit (t : Trace) (line : List ℕ) : Type 0 where
  pub none : (row : Row) → line_in line ≡ Some row → ¬ MayFollow t row

-- a line opens no run
pub record OpensNone (line : List ℕ) : Type 0 where
  pub none : (head : Head) → line_in line ≡ Some (PoolRow head) → ¬ IsTrace (run_of head (first_lane ∷ []) [])

-- a run that was begun goes on with a line, or is whole with it, or the line may not follow
abbrev pub TakesLine : Trace → List ℕ → Trace → Step → Type 0
TakesLine t line t' steps.Goes = IsBegun t' × (begun_text t' ≡ begun_text t ++ (line ++ 10 ∷ []))
TakesLine t line t' steps.Ends = IsTrace t' × (t'.summed ≡ false) × (run_text t' ≡ begun_text t ++ (line ++ 10 ∷ []))
TakesLine t line t' steps.Refused = IsUnfit t line

-- a run opens so, or none does
abbrev pub OpensWith : Head → Option Trace → Type 0
OpensWith head (Some t) = IsTrace (run_of head (first_lane ∷ []) []) × (t ≡ run_of head [] [])
OpensWith head None = ¬ IsTrace (run_of head (first_lane ∷ []) [])

-- a run is opened by a line, or the line opens none
abbrev pub OpensRun : List ℕ → Option Trace → Type 0
OpensRun line (Some t) = IsBegun t × (begun_text t ≡ line ++ 10 ∷ [])
OpensRun line None = OpensNone line

-- a text begins with this run, of which the text is so long; where it is not summed up, no summary of it comes next
pub record BeginsWith (text : List ℕ) (t : Trace) (len : ℕ) : Type 0 where
  pub after : List ℕ
  pub parts : text ≡ run_text t ++ after
  pub size : len ≡ length (run_text t)
  pub is : IsTrace t
  pub alone : t.summed ≡ false → HasNoSummary t.lines after

-- what is read at the beginning of a text
abbrev pub ReadsRun : List ℕ → RunRead → Type 0
ReadsRun text (read.Run t len) = BeginsWith text t len
ReadsRun text read.Nothing = text ≡ []
ReadsRun text (read.Lacking at) = FaultAt text true at × IsSound text
ReadsRun text (read.AtFault at) = FaultAt text false at

-- the first byte of a text is that of a summary
abbrev pub begins_so : List ℕ → Bool
begins_so [] = false
begins_so (b ∷ bs) = b == 99
