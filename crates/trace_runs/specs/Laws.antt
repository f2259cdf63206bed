-- A law of texts of runs.
use Rattle.std.specs.Prelude.{◌≡◌, ℕ, false, List, ◌∷◌, ◌++◌}
use Rattle.trace_reading.specs.Traces.{Trace, IsTrace, MayBegin, run_text}
use Rattle.trace_runs.specs.Begun.{HasNoFeed}
use Rattle.trace_runs.specs.Reading.{HasNoSummary}

-- after a run, of which no summary comes next, a line begins an input only if it does so alone
abbrev pub GoesOnAfresh : Type 0
GoesOnAfresh =
    (t : Trace) (w after : List ℕ) → IsTrace t → (t.summed ≡ false → HasNoSummary t.lines (w ++ 10 ∷ after)) → HasNoFeed w
    → MayBegin (run_text t ++ (w ++ 10 ∷ after)) → MayBegin (w ++ 10 ∷ after)
