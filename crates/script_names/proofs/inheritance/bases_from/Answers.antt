use Rattle.std.proofs.Common.{◌∙◌, sym, ap, List, ℕ, ◌∷◌}
use Rattle.std.specs.List.{flat_map}
use Rattle.std.proofs.lemmas.List.{drop_all}
use Rattle.cdr_values.specs.Trees.{Names}
use Rattle.idl_types.specs.Names.{names_in, with_names}
use Rattle.idl_types.proofs.EachOnce.{one_by_one}
use Rattle.script_names.specs.Views.{listed}
use Rattle.script_names.proofs.inheritance.bases_from.Goals as goal

pub returns : goal.returns
returns c =
    let l = c.loop-base in
    let es = c.args.index.now.entries in
    let none = drop_all l.base-index c.args.bases.now c.loop-base-test.false in
    ap (λ (bs : Names). with_names (names_in l.ids.keys) (flat_map (λ b. b ∷ listed es b) bs)) (sym none) ∙ l.invariant ∙ one_by_one (flat_map (λ b. b ∷ listed es b) c.args.bases.now)
