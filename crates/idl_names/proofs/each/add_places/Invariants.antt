use Rattle.std.proofs.Common.{◌≡◌, drop}
use Rattle.idl_names.specs.Each.{and_each}
use Rattle.idl_names.proofs.each.add_places.Given as goal

abbrev pub invariant-loop-place : goal.invariant-loop-place
invariant-loop-place l = and_each l.found.keys (drop l.place-index l.places) ≡ and_each l.fn.found.keys l.places
