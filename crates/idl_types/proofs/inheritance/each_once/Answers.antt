use Rattle.std.proofs.Common.{◌∙◌, sym, ap, List, ℕ}
use Rattle.std.proofs.lemmas.List.{drop_all}
use Rattle.idl_types.specs.Names.{names_in, with_names}
use Rattle.idl_types.proofs.EachOnce.{one_by_one}
use Rattle.idl_types.proofs.inheritance.each_once.Goals as goal

pub returns : goal.returns
returns c =
    let l = c.loop-id in
    let none = drop_all l.id-index c.args.ids.now c.loop-id-test.false in
    ap (λ (ids : List (List ℕ)). with_names (names_in l.known.keys) ids) (sym none) ∙ l.invariant ∙ one_by_one c.args.ids.now
