use Rattle.std.proofs.Common.{◌≡◌, ◌+◌, ◌∷◌, drop, sym, ap, ◌∙◌, subst, arith, Option, List}
use Rattle.std.proofs.lemmas.List.{drop_more}
use Rattle.std.proofs.lemmas.Result.{err_from_is_err_and}
use Rattle.cdr_core.specs.Field.{Field}
use Rattle.cdr_values.specs.Kinds.{members_view}
use Rattle.cdr_values.specs.Values.{values_view}
use Rattle.dynamic_servants.specs.Replies.{all_fields, members_from}
use Rattle.dynamic_servants.proofs.Spellings.{Left, all_left, one_said, one_unsaid, members_step}
use Rattle.dynamic_servants.proofs.spelling.put_members.Goals as goal

pub loop-at-init : goal.loop-at-init
loop-at-init c = all_left _ _

pub returns-in_err-put_nth : goal.returns-in_err-put_nth
returns-in_err-put_nth c =
    let l = c.loop-at in
    let ms = c.args.members.now in
    let m = c.index-members-at.result in
    let values = values_view c.args.values.now in
    let here : drop l.at ms ≡ m ∷ drop (l.at + 1) ms = drop_more ms l.at m (omega arith) ∙ ap (λ y. y ∷ drop (l.at + 1) ms) (sym c.index-members-at.is) in
    let all = all_fields (members_from 0 (members_view ms) values) in
    let p = err_from_is_err_and c.from_residual.result c.from_residual.ensures.1 in
    rw (p.1, p.2) (one_unsaid c.in_err-put_nth.field-0.0 c.args.writer.now l.writer _ _ all
    (subst (λ (o : Option (List Field)). Left c.args.writer.now l.writer o all) (members_step (drop l.at ms) (drop (l.at + 1) ms) m l.at values here) l.invariant)
    c.in_err-put_nth.ensures)

pub loop-at-preserved : goal.loop-at-preserved
loop-at-preserved c =
    let l = c.loop-at in
    let ms = c.args.members.now in
    let m = c.index-members-at.result in
    let values = values_view c.args.values.now in
    let here : drop l.at ms ≡ m ∷ drop (l.at + 1) ms = drop_more ms l.at m (omega arith) ∙ ap (λ y. y ∷ drop (l.at + 1) ms) (sym c.index-members-at.is) in
    let all = all_fields (members_from 0 (members_view ms) values) in
    one_said c.args.writer.now l.writer c.put_nth.new.writer _ _ all
    (subst (λ (o : Option (List Field)). Left c.args.writer.now l.writer o all) (members_step (drop l.at ms) (drop (l.at + 1) ms) m l.at values here) l.invariant)
    c.in_ok-put_nth.ensures
