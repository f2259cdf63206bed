use Rattle.std.proofs.Common.{◌≡◌, take}
use Rattle.std.specs.Str.{str_to_ascii_lowercase}
use Rattle.idl_types.proofs.folding.folded_id.Given as goal

abbrev pub invariant-loop-byte : goal.invariant-loop-byte
invariant-loop-byte l = l.low.items ≡ str_to_ascii_lowercase (take l.byte-index l.byte-items)
