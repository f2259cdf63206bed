use Rattle.std.proofs.Common.{◌≡◌, ◌++◌, [], drop}
use Rattle.idl_scopes.specs.Pieces.{in_parts}
use Rattle.idl_scopes.proofs.pieces.share_parts.Given as goal

abbrev pub invariant-loop-part : goal.invariant-loop-part
invariant-loop-part l = in_parts l.into.items ++ (in_parts (drop l.part-index l.parts) ++ []) ≡ in_parts l.initial.into.items ++ in_parts l.parts
