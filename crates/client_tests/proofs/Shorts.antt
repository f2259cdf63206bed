-- Requests that are short enough.
use Rattle.std.proofs.Common.{List, [], ◌∷◌, ◌++◌}
use Rattle.client_mux.specs.Callers.{IsShort}
use Rattle.mux_runs.specs.Callers.{AreShort}
use Rattle.mux_runs.specs.declared.jobs.Asking.{Asking}

pub short_push : (qs : List Asking) (a : Asking) → AreShort qs → IsShort a.request → AreShort (qs ++ a ∷ [])
short_push [] a s i = (i, tt)
short_push (x ∷ xs) a s i = (s.0, short_push xs a s.1 i)
