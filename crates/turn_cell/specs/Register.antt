-- What a register does, and the numbers of its seats.
use Rattle.std.specs.Prelude.{ℕ, ◌&&◌, nat_lt, ◌+◌, ◌==◌, Option, Some, None, if◌then◌else◌}
use Rattle.turn_cell.specs.declared.register.Register.{Register}
use Rattle.turn_cell.specs.declared.register.RegisterCall.{RegisterCall}
use Rattle.turn_cell.specs.declared.register.RegisterCall.TheVariants.{Put, Get}
use Rattle.turn_cell.specs.declared.register.RegisterReply.{RegisterReply}
use Rattle.turn_cell.specs.declared.register.RegisterReply.TheVariants.{Was, Done}

-- a Put sets the number, a Get answers it
abbrev pub step : Register → RegisterCall → Register × RegisterReply
step r (Put value) = (record { value = value }, Done)
step r Get = (r, Was r.value)

-- the first seat has the heirs 1 to 8, no other seat has any
abbrev pub heir : ℕ → ℕ → Option ℕ
heir n k = if (n == 0) && nat_lt k 8 then Some (k + 1) else None
