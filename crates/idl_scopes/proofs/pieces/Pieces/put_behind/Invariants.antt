use Rattle.std.proofs.Common.{◌≡◌, ◌++◌, drop}
use Rattle.idl_scopes.specs.Pieces.{in_parts, whole_of}
use Rattle.idl_scopes.proofs.pieces.Pieces.put_behind.Given as goal

abbrev pub invariant-loop-part : goal.invariant-loop-part
invariant-loop-part l = l.scopes.items ++ (in_parts (drop l.part-index l.part-items) ++ l.self.back.items) ≡ l.fn.scopes.items ++ whole_of l.self
