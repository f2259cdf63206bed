use Rattle.std.proofs.Common.{◌≡◌, ◌+◌, List, ◌∷◌, SFits, drop, sym, ap, ◌∙◌, arith, rules}
use Rattle.std.specs.Int.{w128}
use Rattle.std.proofs.lemmas.Int.{to_z-of_z}
use Rattle.std.proofs.lemmas.List.{drop_more, drop_all}
use Rattle.cdr_values.specs.declared.value.IdlValue.{IdlValue}
use Rattle.cdr_values.specs.Trees.{items, chosen, value, no_values, values_of, cases_of}
use Rattle.cdr_values.specs.Kinds.{kind_of, cases_view}
use Rattle.cdr_values.specs.Values.{value_of, values_view}
use Rattle.cdr_values.proofs.OneMember.{one_member, bare_tree, items_tree}
use Rattle.cdr_values.proofs.Endings.{front_of}
use Rattle.cdr_values.proofs.Ending.{count_ends, slots_end, each_next, each_ends, members_next, members_end, with_ends, union_ends}
use Rattle.cdr_values.proofs.length.+end_here.Goals as goal

-- ---- elements

pub end_elements-returns : goal.end_elements-returns
end_elements-returns t c = λ bound.
    count_ends c.args.place c.behind.result c.end_each.result bound c.args.values.now (kind_of c.args.element.now) c.behind.ensures c.end_each.ensures

pub end_array-returns-in-Items : goal.end_array-returns-in-Items
end_array-returns-in-Items t c = λ len.
    let there = c.deref.result.now in
    let tree : value_of c.args.value.now ≡ items (values_of (values_view there))
    = ap value_of c.in-Items.is ∙ items_tree c.in-Items.values ∙ ap (λ (vs : List IdlValue). items (values_of (values_view vs))) (sym c.deref.ensures.value) in
    rw tree (slots_end c.args.place c.end_each.result len (values_view there) (kind_of c.args.element.now) c.end_each.ensures)

pub end_each-loop-value-preserved : goal.end_each-loop-value-preserved
end_each-loop-value-preserved t c =
    let l = c.loop-value in
    let vs = c.args.values.now in
    let v = c.value-item.result in
    let here : drop l.value-index vs ≡ v ∷ drop (l.value-index + 1) vs = drop_more vs l.value-index v (omega arith) ∙ ap (λ y. y ∷ drop (l.value-index + 1) vs) (sym c.value-item.is) in
    each_next (kind_of c.args.element.now) (drop l.value-index vs) (drop (l.value-index + 1) vs) v l.at c.end_here-at.result _ _ here c.end_here-at.ensures l.invariant

pub end_each-returns : goal.end_each-returns
end_each-returns t c =
    let l = c.loop-value in
    each_ends (kind_of c.args.element.now) (drop l.value-index c.args.values.now) l.at _ _ (drop_all l.value-index _ (omega arith)) l.invariant

-- ---- members

pub end_members-loop-member-preserved : goal.end_members-loop-member-preserved
end_members-loop-member-preserved t c =
    let l = c.loop-member in
    let ms = c.args.members.now in
    let m = c.member-item.result in
    let here : drop l.member-index ms ≡ m ∷ drop (l.member-index + 1) ms = drop_more ms l.member-index m (omega arith) ∙ ap (λ y. y ∷ drop (l.member-index + 1) ms) (sym c.member-item.is) in
    let v = c.value-item.result in
    members_next l.rest.now _ (drop l.member-index ms) (drop (l.member-index + 1) ms) v m l.at c.end_here-at.result _ _
    (front_of l.rest.now v _ c.in-len1-up.len_at_least c.value-item.is) here c.end_here-at.ensures l.invariant

pub end_members-returns : goal.end_members-returns
end_members-returns t c =
    let l = c.loop-member in
    members_end l.rest.now (drop l.member-index c.args.members.now) l.at _ _ (drop_all l.member-index _ (omega arith)) l.invariant

-- ---- unions

pub end_union-returns-in-None : goal.end_union-returns-in-None
end_union-returns-in-None t c = λ name.
    let z = c.in-Chosen.number in
    let range : SFits w128 z = search rules in
    let tree : value_of c.args.value.now ≡ chosen z no_values = rw (c.in-Chosen.is, c.in-None.is) (bare_tree z) in
    union_ends c.args.place c.end_bare.result name (kind_of c.args.tag.now) (cases_of (cases_view c.args.cases.now)) z _
    (value_of c.args.value.now) no_values (to_z-of_z w128 z range) tree (c.end_bare.ensures name)

pub end_union-returns-in-Some : goal.end_union-returns-in-Some
end_union-returns-in-Some t c = λ name.
    let z = c.in-Chosen.number in
    let range : SFits w128 z = search rules in
    let member = value (value_of c.deref.result.now) no_values in
    let tree : value_of c.args.value.now ≡ chosen z (value (value_of c.deref.result.now) no_values)
    = rw (c.in-Chosen.is, c.in-Some.is, c.deref.ensures) (one_member z c.in-Some.member) in
    union_ends c.args.place c.end_with.result name (kind_of c.args.tag.now) (cases_of (cases_view c.args.cases.now)) z _
    (value_of c.args.value.now) member (to_z-of_z w128 z range) tree (c.end_with.ensures name)

pub end_with-returns : goal.end_with-returns
end_with-returns t c = λ name.
    with_ends c.args.place c.end_tag-at.result c.end_chosen.result name (kind_of c.args.tag.now) (cases_of (cases_view c.args.cases.now)) c.args.number _
    (value_of c.args.member.now) c.chosen_case.result (to_z-of_z w128 c.args.number c.ranges.number) c.chosen_case.ensures.value
    c.end_tag-at.ensures c.end_chosen.ensures
