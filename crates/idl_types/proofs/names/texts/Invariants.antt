use Rattle.std.proofs.Common.{◌≡◌, map, take}
use Rattle.idl_types.proofs.names.texts.Given as goal

abbrev pub invariant-loop-bytes : goal.invariant-loop-bytes
invariant-loop-bytes l = l.texts.items ≡ map (λ b. b.now) (take l.bytes-index l.all)
