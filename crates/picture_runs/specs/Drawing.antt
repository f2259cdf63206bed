-- What is drawn of a run. Own profile.
use Rattle.std.specs.Prelude.{◌≡◌, ℕ, List}
use Rattle.lane_audit.specs.Verdicts.{IsFirstWrong}
use Rattle.lane_machine.specs.State.{opening}
use Rattle.trace_lines.specs.ReadBack.{history_of}
use Rattle.trace_reading.specs.Traces.{Trace}
use Rattle.trace_picture.specs.Pictures.{picture_text}
use Rattle.trace_picture.specs.Tables.{table_text}
use Rattle.picture_runs.specs.declared.asked.Asked.{Asked}
use Rattle.picture_runs.specs.declared.asked.Asked.TheVariants.{Picture, Table}

-- the number of the run that is asked for
abbrev pub run_of : Asked → ℕ
run_of (Picture view) = view.run
run_of (Table run) = run

-- what is asked for of a run, of which so many entries come before the first wrong one
abbrev pub asked_text : Trace → ℕ → Asked → List ℕ
asked_text t legal (Picture view) = picture_text t legal view
asked_text t legal (Table run) = table_text t legal

-- a text is what is asked for of a run, of which the entries before the first wrong one are drawn
pub record IsDrawn (t : Trace) (asked : Asked) (text : List ℕ) : Type 0 where
  pub legal : ℕ
  pub first : IsFirstWrong (opening t.pool t.slots t.per_slot) (history_of t.lines) legal
  pub is : text ≡ asked_text t legal asked
