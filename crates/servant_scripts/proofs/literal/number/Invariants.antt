use Rattle.std.proofs.Common.{◌≡◌, ◌≤◌, ◌^◌, min, drop}
use Rattle.servant_scripts.specs.Literals.{number_behind, number}
use Rattle.servant_scripts.proofs.literal.number.Given as goal

abbrev pub invariant-loop-c : goal.invariant-loop-c
invariant-loop-c l = record { within : l.n ≤ 2 ^ 127; so_far : min (number_behind l.n (drop l.c-index l.digits)) (2 ^ 127) ≡ min (number l.digits) (2 ^ 127) }
