-- What a hatch does: a place for one number.
use Rattle.std.specs.Prelude.{ℕ, Bool, Option, Some, None, is_some, is_none}
use Rattle.turn_cell.specs.declared.hatch.Hatch.{Hatch}
use Rattle.turn_cell.specs.declared.hatch.HatchCall.{HatchCall}
use Rattle.turn_cell.specs.declared.hatch.HatchCall.TheVariants.{Put, Take}
use Rattle.turn_cell.specs.declared.hatch.HatchReply.{HatchReply}
use Rattle.turn_cell.specs.declared.hatch.HatchReply.TheVariants.{Done, Took}

-- a Put is ready while the hatch is empty, a Take while it is full
abbrev pub can : Hatch → HatchCall → Bool
can h (Put number) = is_none h.held
can h Take = is_some h.held

-- the reply to a Take that is ready
abbrev pub taken_of : Option ℕ → HatchReply
taken_of (Some number) = Took number
taken_of None = Done

-- a Put fills the hatch, a Take empties it
abbrev pub step : Hatch → HatchCall → Hatch × HatchReply
step h (Put number) = (record { held = Some number }, Done)
step h Take = (record { held = None }, taken_of h.held)
