use Rattle.std.proofs.Common.{ap, rules, []}
use Rattle.idl_scopes.specs.Pieces.{in_parts}
use Rattle.idl_scopes.proofs.SharedParts.{part_put, parts_next}
use Rattle.idl_scopes.proofs.pieces.share_parts.Goals as goal

pub loop-part-preserved : goal.loop-part-preserved
loop-part-preserved c =
    parts_next c.args.parts.now c.loop-part.part-index c.part-item.result c.part-item.result.items (in_parts c.loop-part.into.items) (in_parts c.push.new.self.items) [] _ c.loop-part-test.true (search rules)
    (part_put c.loop-part.into.items c.push.new.self.items c.in_ok-share.field-0 c.part-item.result.items c.in_ok-push.ensures.items (ap (λ v. v.items) c.in_ok-share.ensures)) c.loop-part.invariant
