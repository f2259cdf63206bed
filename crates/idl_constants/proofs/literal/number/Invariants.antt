use Rattle.std.proofs.Common.{◌≡◌, ◌≤◌, ◌^◌, min, drop}
use Rattle.idl_constants.specs.Literals.{base_of, number_behind, number}
use Rattle.idl_constants.proofs.literal.number.Given as goal

abbrev pub invariant-loop-c : goal.invariant-loop-c
invariant-loop-c l =
    record { within : l.n ≤ 2 ^ 64; so_far : min (number_behind (base_of l.base) l.n (drop l.c-index l.digits)) (2 ^ 64) ≡ min (number (base_of l.base) l.digits) (2 ^ 64) }
