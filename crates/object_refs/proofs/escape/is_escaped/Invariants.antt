use Rattle.std.proofs.Common.{◌≡◌, drop}
use Rattle.object_refs.specs.Locations.{is_escaped}
use Rattle.object_refs.proofs.escape.is_escaped.Given as goal

abbrev pub invariant-loop-at : goal.invariant-loop-at
invariant-loop-at l = is_escaped (drop l.at l.text) ≡ is_escaped l.text
