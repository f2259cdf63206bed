use Rattle.std.proofs.Common.{◌∙◌, sym}
use Rattle.idl_types.specs.Bases.{is_base_at}
use Rattle.idl_types.specs.Contents.{things_of}
use Rattle.idl_types.specs.Marked.{is_marked}
use Rattle.idl_types.proofs.Walks.{walk_ends}
use Rattle.idl_types.proofs.Descent.{lower}
use Rattle.idl_types.proofs.repository.Repository.leads.Goals as goal

pub returns : goal.returns
returns c =
    let s = c.args.self.now in
    let h = walk_ends (is_base_at (things_of s)) (lower (things_of s) s.based) c.args.from c.loop-at.at c.args.to (is_marked c.loop-at.marks.words) c.loop-at.invariant.0 c.loop-at-test.false in
    ((λ e. h.0 (sym c.has.ensures ∙ e)), (λ r. c.has.ensures ∙ h.1 r))
