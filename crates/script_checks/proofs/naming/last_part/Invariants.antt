use Rattle.std.proofs.Common.{◌≡◌, drop}
use Rattle.script_checks.specs.Naming.{last_of}
use Rattle.script_checks.proofs.naming.last_part.Given as goal

abbrev pub invariant-loop-part : goal.invariant-loop-part
invariant-loop-part l = last_of l.at (drop l.part-index l.name.parts.items) ≡ last_of l.name.at l.name.parts.items
