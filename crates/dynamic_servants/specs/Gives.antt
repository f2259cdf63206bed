-- What the calls of this crate answer where memory may run out.
use Rattle.std.specs.Prelude.{◌≡◌, Result, Ok, Err}
use Rattle.orb_base.specs.declared.no_memory.NoMemory.{NoMemory}
use Rattle.orb_base.specs.declared.outcome.Outcome.{Outcome}

-- the outcome is this one, or memory ran out
abbrev pub Answers : Result Outcome NoMemory → Outcome → Type 0
Answers (Ok o) asked = asked ≡ o
Answers (Err e) asked = Unit {0}
