use Rattle.std.proofs.Common.{◌≡◌, ◌∙◌, drop, map, List, [], ap, sym, arith}
use Rattle.std.proofs.lemmas.List.{drop_all}
use Rattle.idl_types.specs.Views.{param_of}
use Rattle.servant_scripts.specs.declared.phrase.Part.{Part}
use Rattle.script_checks.specs.Methods.{same_names}
use Rattle.script_checks.proofs.Missing.{missing}
use Rattle.script_checks.proofs.parameters.same_names.Goals as goal

pub returns-then-names-params : goal.returns-then-names-params
returns-then-names-params c =
    let l = c.loop-at in
    let ks = c.args.params.now in
    let none : drop l.at c.args.names.now ≡ [] = drop_all l.at c.args.names.now (omega arith) in
    rw c.refuse-then-names-params.ensures
    (sym l.invariant ∙ ap (λ (ns : List Part). same_names (map param_of (drop l.at ks)) ns c.args.close) none
    ∙ missing ks l.at c.args.close (omega arith))
