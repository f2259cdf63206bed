use Rattle.std.proofs.Common.{◌≡◌, ◌+◌, ◌∷◌, Ok, SFits, drop, sym, ap, ◌∙◌, arith, rules}
use Rattle.std.specs.Int.{w128}
use Rattle.std.proofs.lemmas.Int.{to_z-of_z}
use Rattle.std.proofs.lemmas.List.{drop_more, drop_all}
use Rattle.std.proofs.lemmas.Result.{err_from_is_err_and}
use Rattle.cdr_values.specs.Trees.{chosen, value, no_values, cases_of}
use Rattle.cdr_values.specs.Kinds.{kind_of, cases_view}
use Rattle.cdr_values.specs.Values.{value_of}
use Rattle.cdr_values.proofs.OneMember.{one_member, bare_tree}
use Rattle.cdr_values.proofs.Endings.{front_of, each_step, each_stop, each_done, members_step, members_stop, members_done}
use Rattle.cdr_values.proofs.Wrote.{no_count, count_front, count_wrote, with_front, with_wrote, chosen_wrote, union_wrote}
use Rattle.cdr_values.proofs.encoding.+encode_here.Goals as goal

-- ---- elements

pub encode_elements-returns-then-not-is_bounded_count : goal.encode_elements-returns-then-not-is_bounded_count
encode_elements-returns-then-not-is_bounded_count t c =
    no_count (Ok tt) c.args.into.now c.args.into.now c.args.bound c.args.values.now (kind_of c.args.element.now) (sym c.is_bounded_count.ensures ∙ c.if-not-is_bounded_count.true)

pub encode_elements-returns-in_err-put_u32 : goal.encode_elements-returns-in_err-put_u32
encode_elements-returns-in_err-put_u32 t c =
    let p = err_from_is_err_and c.from_residual.result c.from_residual.ensures.1 in
    rw p.1 (count_front p.0 c.args.into.now c.put_u32.new.self c.args.bound c.args.values.now (kind_of c.args.element.now)
    (sym c.is_bounded_count.ensures ∙ c.if-not-is_bounded_count.false) c.in_err-put_u32.ensures)

pub encode_elements-returns : goal.encode_elements-returns
encode_elements-returns t c =
    count_wrote c.encode_each.result c.args.into.now c.put_u32.new.self c.encode_each.new.into c.args.bound c.args.values.now (kind_of c.args.element.now)
    (sym c.is_bounded_count.ensures ∙ c.if-not-is_bounded_count.false) c.in_ok-put_u32.ensures c.encode_each.ensures

pub encode_each-returns-in_err-encode_here : goal.encode_each-returns-in_err-encode_here
encode_each-returns-in_err-encode_here t c =
    let l = c.loop-value in
    let vs = c.args.values.now in
    let v = c.value-item.result in
    let here : drop l.value-index vs ≡ v ∷ drop (l.value-index + 1) vs = drop_more vs l.value-index v (omega arith) ∙ ap (λ y. y ∷ drop (l.value-index + 1) vs) (sym c.value-item.is) in
    let p = err_from_is_err_and c.from_residual.result c.from_residual.ensures.1 in
    rw p.1 (each_stop p.0 (kind_of c.args.element.now) (drop l.value-index vs) (drop (l.value-index + 1) vs) v
    l.into c.encode_here.new.into _ _ here c.in_err-encode_here.ensures l.invariant)

pub encode_each-loop-value-preserved : goal.encode_each-loop-value-preserved
encode_each-loop-value-preserved t c =
    let l = c.loop-value in
    let vs = c.args.values.now in
    let v = c.value-item.result in
    let here : drop l.value-index vs ≡ v ∷ drop (l.value-index + 1) vs = drop_more vs l.value-index v (omega arith) ∙ ap (λ y. y ∷ drop (l.value-index + 1) vs) (sym c.value-item.is) in
    each_step (kind_of c.args.element.now) (drop l.value-index vs) (drop (l.value-index + 1) vs) v l.into c.encode_here.new.into _ _ here c.in_ok-encode_here.ensures l.invariant

pub encode_each-returns : goal.encode_each-returns
encode_each-returns t c =
    let l = c.loop-value in
    each_done (kind_of c.args.element.now) (drop l.value-index c.args.values.now) l.into _ _ (drop_all l.value-index _ (omega arith)) l.invariant

-- ---- members

pub encode_members-returns-in_err-encode_here : goal.encode_members-returns-in_err-encode_here
encode_members-returns-in_err-encode_here t c =
    let l = c.loop-member in
    let ms = c.args.members.now in
    let m = c.member-item.result in
    let here : drop l.member-index ms ≡ m ∷ drop (l.member-index + 1) ms = drop_more ms l.member-index m (omega arith) ∙ ap (λ y. y ∷ drop (l.member-index + 1) ms) (sym c.member-item.is) in
    let v = c.value-item.result in
    let p = err_from_is_err_and c.from_residual.result c.from_residual.ensures.1 in
    rw p.1 (members_stop p.0 l.rest.now _ (drop l.member-index ms) (drop (l.member-index + 1) ms) v m
    l.into c.encode_here.new.into _ _ (front_of l.rest.now v _ c.in-len1-up.len_at_least c.value-item.is) here c.in_err-encode_here.ensures l.invariant)

pub encode_members-loop-member-preserved : goal.encode_members-loop-member-preserved
encode_members-loop-member-preserved t c =
    let l = c.loop-member in
    let ms = c.args.members.now in
    let m = c.member-item.result in
    let here : drop l.member-index ms ≡ m ∷ drop (l.member-index + 1) ms = drop_more ms l.member-index m (omega arith) ∙ ap (λ y. y ∷ drop (l.member-index + 1) ms) (sym c.member-item.is) in
    let v = c.value-item.result in
    members_step l.rest.now _ (drop l.member-index ms) (drop (l.member-index + 1) ms) v m l.into c.encode_here.new.into _ _
    (front_of l.rest.now v _ c.in-len1-up.len_at_least c.value-item.is) here c.in_ok-encode_here.ensures l.invariant

pub encode_members-returns : goal.encode_members-returns
encode_members-returns t c =
    let l = c.loop-member in
    members_done l.rest.now (drop l.member-index c.args.members.now) l.into _ _ (drop_all l.member-index _ (omega arith)) l.invariant

-- ---- unions

pub encode_union-returns-in-None : goal.encode_union-returns-in-None
encode_union-returns-in-None t c = λ name.
    let z = c.in-Chosen.number in
    let range : SFits w128 z = search rules in
    let tree : value_of c.args.value.now ≡ chosen z no_values = rw (c.in-Chosen.is, c.in-None.is) (bare_tree z) in
    union_wrote c.encode_bare.result c.args.into.now c.encode_bare.new.into name (kind_of c.args.tag.now) (cases_of (cases_view c.args.cases.now)) z _
    (value_of c.args.value.now) no_values (to_z-of_z w128 z range) tree (c.encode_bare.ensures name)

pub encode_union-returns-in-Some : goal.encode_union-returns-in-Some
encode_union-returns-in-Some t c = λ name.
    let z = c.in-Chosen.number in
    let range : SFits w128 z = search rules in
    let member = value (value_of c.deref.result.now) no_values in
    let tree : value_of c.args.value.now ≡ chosen z (value (value_of c.deref.result.now) no_values)
    = rw (c.in-Chosen.is, c.in-Some.is, c.deref.ensures) (one_member z c.in-Some.member) in
    union_wrote c.encode_with.result c.args.into.now c.encode_with.new.into name (kind_of c.args.tag.now) (cases_of (cases_view c.args.cases.now)) z _
    (value_of c.args.value.now) member (to_z-of_z w128 z range) tree (c.encode_with.ensures name)

pub encode_with-returns-in_err-encode_tag : goal.encode_with-returns-in_err-encode_tag
encode_with-returns-in_err-encode_tag t c = λ name.
    let p = err_from_is_err_and c.from_residual.result c.from_residual.ensures.1 in
    rw p.1 (with_front p.0 c.args.into.now c.encode_tag.new.into name (kind_of c.args.tag.now) (cases_of (cases_view c.args.cases.now)) c.args.number _
    (value (value_of c.args.member.now) no_values) (to_z-of_z w128 c.args.number c.ranges.number) c.in_err-encode_tag.ensures)

pub encode_with-returns : goal.encode_with-returns
encode_with-returns t c = λ name.
    with_wrote c.encode_member.result c.args.into.now c.encode_tag.new.into c.encode_member.new.into name (kind_of c.args.tag.now) (cases_of (cases_view c.args.cases.now)) c.args.number _
    (value (value_of c.args.member.now) no_values) (to_z-of_z w128 c.args.number c.ranges.number) c.in_ok-encode_tag.ensures c.encode_member.ensures

pub encode_member-returns : goal.encode_member-returns
encode_member-returns t c =
    chosen_wrote c.encode_chosen.result c.args.into.now c.encode_chosen.new.into (value_of c.args.member.now) (cases_of (cases_view c.args.cases.now)) c.args.number _ c.chosen_case.result
    (to_z-of_z w128 c.args.number c.ranges.number) c.chosen_case.ensures.value c.encode_chosen.ensures
