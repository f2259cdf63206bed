use Rattle.std.proofs.Common.{◌∙◌, sym}
use Rattle.idl_types.specs.Bases.{is_base_at}
use Rattle.idl_types.specs.Contents.{things_of}
use Rattle.idl_types.specs.Marked.{is_marked}
use Rattle.idl_types.proofs.Walks.{walk_on}
use Rattle.idl_types.proofs.Descent.{lower}
use Rattle.idl_types.proofs.repository.Repository.follow.Goals as goal

pub returns-then-has : goal.returns-then-has
returns-then-has c start w =
    let s = c.args.self.now in
    walk_on (is_base_at (things_of s)) (lower (things_of s) s.based) start c.args.at (is_marked c.args.marks.now.words) (is_marked c.mark_bases.new.marks.words) w
    (sym c.has.ensures ∙ c.if-has.true) c.mark_bases.ensures
