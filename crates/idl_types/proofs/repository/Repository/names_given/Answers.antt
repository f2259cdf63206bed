use Rattle.std.proofs.Common.{◌∙◌, sym, ap, List, ℕ}
use Rattle.std.specs.Prelude.{Vec}
use Rattle.std.specs.declared.alloc.Global.{Global}
use Rattle.std.proofs.lemmas.List.{drop_all}
use Rattle.idl_types.specs.Names.{names_in, with_names}
use Rattle.idl_types.specs.Inherited.{given_names}
use Rattle.idl_types.specs.Contents.{things_of}
use Rattle.idl_types.proofs.EachOnce.{one_by_one}
use Rattle.idl_types.proofs.repository.Repository.names_given.Goals as goal

pub returns : goal.returns
returns c =
    let l = c.loop-id in
    let ts = things_of c.args.self.now in
    let none = drop_all l.id-index c.args.ids.now c.loop-id-test.false in
    ap (λ (ids : List (Vec ℕ Global)). with_names (names_in l.names.keys) (given_names ts (names_in ids))) (sym none) ∙ l.invariant ∙ one_by_one (given_names ts (names_in c.args.ids.now))
