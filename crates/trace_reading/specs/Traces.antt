-- An input of traces: a list of runs, each the text that is printed of it. The grammar is the printer: what is no such text is no input.
-- Own profile.
use Rattle.std.specs.Prelude.{◌≡◌, ◌<◌, ◌≤◌, ◌^◌, ℕ, Bool, true, false, List, [], ◌++◌, length, All, sum_by}
use Rattle.std.specs.List.{flat_map}
use Rattle.orb_base.specs.Pool.{Pool, lane_threads}
use Rattle.orb_base.specs.declared.conn_id.ConnId.{ConnId}
use Rattle.lane_machine.specs.State.{CanOpen}
use Rattle.trace_lines.specs.ReadBack.{history_of}
use Rattle.trace_lines.specs.Summaries.{summary_of, summary_line}
use Rattle.trace_lines.specs.Texts.{head_text, line_text, count_text}
use Rattle.trace_lines.specs.declared.trace_line.OfferReply.{OfferReply}
use Rattle.trace_lines.specs.declared.trace_line.OfferReply.TheVariants as offer_reply
use Rattle.trace_lines.specs.declared.trace_line.Action.{Action}
use Rattle.trace_lines.specs.declared.trace_line.Action.TheVariants as action
use Rattle.trace_lines.specs.declared.trace_line.TraceLine.{TraceLine}
use Rattle.trace_reading.specs.RowWords.{FitsLane, FitsLine}

-- a run that is written out: what it opened with, a line for each entry of its history, and whether its summary is after them
pub record Trace : Type 0 where
  pub pool : Pool
  pub slots : ℕ
  pub per_slot : ℕ
  pub lines : List TraceLine
  pub summed : Bool

-- the summary of the history that lines say, where it is told
abbrev pub told_text : Bool → List TraceLine → List ℕ
told_text true lines = summary_line (summary_of (history_of lines))
told_text false lines = []

-- the text of a run
abbrev pub run_text : Trace → List ℕ
run_text t =
    head_text t.pool t.slots t.per_slot ++ flat_map line_text t.lines ++ count_text (length t.lines) ++ told_text t.summed t.lines

-- a run has such a connection
abbrev pub HasConn : Trace → ConnId → Type 0
HasConn t conn = (conn.slot < t.slots) × (conn.nth < t.per_slot)

-- a run has such a thread
abbrev pub HasThread : Trace → ℕ → Type 0
HasThread t n = n < sum_by lane_threads t.pool.lanes

-- the thread that a request was given to is one of the run's
abbrev pub NamesThread : Trace → OfferReply → Type 0
NamesThread t (offer_reply.Run n) = HasThread t n
NamesThread t (offer_reply.Lent n) = HasThread t n
NamesThread t r = Unit {0}

-- the connection, thread, lane and slot that a call and its reply name are the run's
abbrev pub IsOf : Trace → Action → Type 0
IsOf t (action.Offer request r) = HasConn t request.conn × (request.lane < length t.pool.lanes) × NamesThread t r
IsOf t (action.Post conn id r) = HasConn t conn
IsOf t (action.Cancel conn id r) = HasConn t conn
IsOf t (action.Take n task) = HasThread t n
IsOf t (action.Finish n k len) = HasThread t n
IsOf t (action.Collect conn r) = HasConn t conn
IsOf t (action.End conn h) = HasConn t conn
IsOf t (action.Leave slot) = slot < t.slots

-- the numbers of a line fit their fields, and what it names is the run's
abbrev pub IsWithin : Trace → TraceLine → Type 0
IsWithin t line = FitsLine line × IsOf t line.action

-- a run that an input may have: one with which a pool can open that has a lane, the numbers of which fit their fields, and whose lines
-- are within it. Without buffering the two limits of what may wait aren't said, and count as 0
pub record IsTrace (t : Trace) : Type 0 where
  pub can : CanOpen t.pool t.slots t.per_slot
  pub bare : t.pool.buffering ≡ false → (t.pool.max_requests ≡ 0) × (t.pool.max_bytes ≡ 0)
  pub some_lane : 1 ≤ length t.pool.lanes
  pub lanes : All FitsLane t.pool.lanes
  pub within : All (IsWithin t) t.lines
  pub few : length t.lines < 2 ^ 32

-- the bytes are these runs
pub record AreTraces (bytes : List ℕ) (ts : List Trace) : Type 0 where
  pub text : bytes ≡ flat_map run_text ts
  pub each : All IsTrace ts

-- an input may begin so
abbrev pub MayBegin : List ℕ → Type 0
MayBegin bytes = (more : List ℕ) × (ts : List Trace) × AreTraces (bytes ++ more) ts
