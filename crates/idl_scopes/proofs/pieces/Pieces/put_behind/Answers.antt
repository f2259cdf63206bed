use Rattle.std.proofs.Common.{◌++◌, ap, ◌∙◌}
use Rattle.idl_scopes.specs.Pieces.{in_parts, whole_of}
use Rattle.idl_scopes.proofs.SharedParts.{put_first, parts_end}
use Rattle.idl_scopes.proofs.pieces.Pieces.put_behind.Goals as goal

pub loop-part-init : goal.loop-part-init
loop-part-init c =
    ap (λ parts. c.extend_from_slice.new.self.items ++ (in_parts parts ++ c.args.self.now.back.items)) c.deref-part-items.ensures.value
    ∙ put_first c.args.scopes.now.items c.args.self.now.front.items (in_parts c.args.self.now.parts.items ++ c.args.self.now.back.items) c.extend_from_slice.new.self.items
    (c.in_ok-extend_from_slice.ensures.items ∙ ap (λ zs. c.args.scopes.now.items ++ zs) c.deref.ensures.value)

pub returns : goal.returns
returns c =
    c.in_ok-extend_from_slice-3.ensures.items ∙ ap (λ zs. c.loop-part.scopes.items ++ zs) c.deref-2.ensures.value
    ∙ parts_end c.deref-part-items.result.now c.loop-part.part-index c.loop-part.scopes.items c.args.self.now.back.items (c.args.scopes.now.items ++ whole_of c.args.self.now) c.loop-part-test.false c.loop-part.invariant
