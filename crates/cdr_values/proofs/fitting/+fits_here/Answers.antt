use Rattle.std.proofs.Common.{◌≡◌, SFits, drop, arith, rules, sym, ◌∙◌}
use Rattle.std.specs.Int.{w128}
use Rattle.std.proofs.lemmas.Bool.{ne_eqb}
use Rattle.std.proofs.lemmas.Int.{to_z-of_z}
use Rattle.std.proofs.lemmas.List.{drop_all}
use Rattle.cdr_values.specs.Kinds.{kind_of, cases_view}
use Rattle.cdr_values.specs.Trees.{chosen, value, no_values, cases_of}
use Rattle.cdr_values.specs.Values.{value_of}
use Rattle.cdr_values.proofs.FitLoops.{members_end}
use Rattle.cdr_values.proofs.HasFields.{counted_fits, uncounted, full_fits, unfull, with_number, union_fits}
use Rattle.cdr_values.proofs.OneMember.{one_member, bare_tree}
use Rattle.cdr_values.proofs.fitting.+fits_here.Goals as goal

pub fits_members-returns : goal.fits_members-returns
fits_members-returns t c =
    let l = c.loop-member in
    members_end l.rest.now (drop l.member-index c.args.members.now) _ (drop_all l.member-index _ (omega arith)) l.invariant

pub fits_elements-returns-then-not-is_bounded_count : goal.fits_elements-returns-then-not-is_bounded_count
fits_elements-returns-then-not-is_bounded_count t c =
    uncounted c.args.values.now (kind_of c.args.element.now) c.args.bound (sym c.is_bounded_count.ensures ∙ c.if-not-is_bounded_count.true)

pub fits_elements-returns : goal.fits_elements-returns
fits_elements-returns t c =
    c.fits_each.ensures ∙ counted_fits c.args.values.now (kind_of c.args.element.now) c.args.bound (sym c.is_bounded_count.ensures ∙ c.if-not-is_bounded_count.false)

pub fits_slots-returns-then-values-len : goal.fits_slots-returns-then-values-len
fits_slots-returns-then-values-len t c =
    unfull c.args.values.now (kind_of c.args.element.now) c.args.len (ne_eqb _ _ c.if-values-len.true)

pub fits_slots-returns : goal.fits_slots-returns
fits_slots-returns t c =
    c.fits_each.ensures ∙ full_fits c.args.values.now (kind_of c.args.element.now) c.args.len c.if-values-len.false

pub fits_union-returns-in-None : goal.fits_union-returns-in-None
fits_union-returns-in-None t c = λ name.
    let z = c.in-Chosen.number in
    let range : SFits w128 z = search rules in
    let tree : value_of c.args.value.now ≡ chosen z no_values = rw (c.in-Chosen.is, c.in-None.is) (bare_tree z) in
    union_fits name (kind_of c.args.tag.now) (cases_of (cases_view c.args.cases.now)) z _ (value_of c.args.value.now) no_values c.fits_without.result
    (to_z-of_z w128 z range) tree c.fits_without.ensures

pub fits_union-returns-in-Some : goal.fits_union-returns-in-Some
fits_union-returns-in-Some t c = λ name.
    let z = c.in-Chosen.number in
    let range : SFits w128 z = search rules in
    let member = value (value_of c.deref.result.now) no_values in
    let tree : value_of c.args.value.now ≡ chosen z (value (value_of c.deref.result.now) no_values)
    = rw (c.in-Chosen.is, c.in-Some.is, c.deref.ensures) (one_member z c.in-Some.member) in
    union_fits name (kind_of c.args.tag.now) (cases_of (cases_view c.args.cases.now)) z _ (value_of c.args.value.now) member c.fits_with.result
    (to_z-of_z w128 z range) tree c.fits_with.ensures

pub fits_with-returns : goal.fits_with-returns
fits_with-returns t c =
    with_number (kind_of c.args.tag.now) (cases_of (cases_view c.args.cases.now)) (value_of c.args.member.now) c.args.number _ c.chosen_case.result c.is_number.result c.fits_chosen.result
    (to_z-of_z w128 c.args.number c.ranges.number) c.is_number.ensures c.if-not-is_number.false c.chosen_case.ensures.value c.fits_chosen.ensures
