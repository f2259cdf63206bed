use Rattle.std.proofs.Common.{◌≡◌, ◌+◌, ◌∷◌, drop, map, sym, ap, ◌∙◌, subst, arith, Option, List}
use Rattle.std.proofs.lemmas.List.{drop_more}
use Rattle.cdr_core.specs.Field.{Field}
use Rattle.cdr_values.specs.Values.{values_view}
use Rattle.idl_types.specs.Views.{param_of}
use Rattle.dynamic_servants.specs.Replies.{all_fields, outs_from}
use Rattle.dynamic_servants.proofs.Spellings.{Left, all_left, one_said, outs_step}
use Rattle.dynamic_servants.proofs.spelling.put_outs.Goals as goal

pub loop-at-init : goal.loop-at-init
loop-at-init c = all_left _ _

pub loop-at-preserved : goal.loop-at-preserved
loop-at-preserved c =
    let l = c.loop-at in
    let ps = c.args.params.now in
    let p = c.index-params-at.result in
    let slots = values_view c.args.slots.now in
    let here : drop l.at ps ≡ p ∷ drop (l.at + 1) ps = drop_more ps l.at p (omega arith) ∙ ap (λ y. y ∷ drop (l.at + 1) ps) (sym c.index-params-at.is) in
    let all = all_fields (outs_from 0 (map param_of ps) slots) in
    one_said c.args.writer.now l.writer c.put_out.new.writer _ _ all
    (subst (λ (o : Option (List Field)). Left c.args.writer.now l.writer o all) (outs_step (drop l.at ps) (drop (l.at + 1) ps) p l.at slots here) l.invariant)
    c.in_ok-put_out.ensures
