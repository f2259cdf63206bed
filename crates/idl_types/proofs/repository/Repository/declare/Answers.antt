use Rattle.std.proofs.Common.{sym, not}
use Rattle.std.proofs.lemmas.Bool.{and_parts, not-true}
use Rattle.idl_types.specs.Things.{id_of}
use Rattle.idl_types.specs.Views.{thing_of}
use Rattle.idl_types.specs.Sound.{is_reserved}
use Rattle.idl_types.specs.Declaring.{may_hold}
use Rattle.idl_types.specs.Contents.{things_of}
use Rattle.idl_types.proofs.Judging.{spent}
use Rattle.idl_types.proofs.repository.Repository.declare.Goals as goal

pub hold-requires-clause-may : goal.hold-requires-clause-may
hold-requires-clause-may c = let t = thing_of c.args.declaration in (and_parts (not (is_reserved (id_of t))) (may_hold (things_of c.args.self.now) t) c.requires).1

pub hold-requires-clause-left : goal.hold-requires-clause-left
hold-requires-clause-left c =
    let s = c.args.self.now in
    let t = thing_of c.args.declaration in
    let free = not-true (is_reserved (id_of t)) (and_parts (not (is_reserved (id_of t))) (may_hold (things_of s) t) c.requires).0 in
    spent (things_of s) t s.left c.in-Some.left free (sym c.in-Some.ensures) s.counted
