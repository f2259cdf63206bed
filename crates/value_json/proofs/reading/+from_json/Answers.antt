use Rattle.std.proofs.Common.{◌≡◌, ◌+◌, [], ◌∷◌, ◌++◌, SFits, drop, refl, sym, ap, ◌∙◌, arith, rules}
use Rattle.std.specs.Int.{w128}
use Rattle.std.proofs.lemmas.Int.{to_z-of_z}
use Rattle.std.proofs.lemmas.List.{map_push, drop_more, drop_all}
use Rattle.std.proofs.lemmas.Result.{err_from_is_err_and}
use Rattle.serde_json.specs.View.{members_view as json_members}
use Rattle.cdr_values.specs.Kinds.{kind_of, cases_view}
use Rattle.cdr_values.specs.Trees.{cases_of}
use Rattle.cdr_values.specs.Values.{value_of, values_view}
use Rattle.value_json.specs.Meant.{meant}
use Rattle.value_json.specs.Numerals.{number_in}
use Rattle.value_json.proofs.Loops.{items_on, items_fail, items_done, members_on, members_fail, members_done, case_on, case_gives, none_gives, bare_gives, nth_gives, choice_gives}
use Rattle.value_json.proofs.reading.+from_json.Goals as goal

pub items_from-returns-in_err-from_json : goal.items_from-returns-in_err-from_json
items_from-returns-in_err-from_json t c =
    let l = c.loop-json in
    let ds = c.args.list.now in
    let d = c.json-item.result in
    let here : drop l.json-index ds ≡ d ∷ drop (l.json-index + 1) ds = drop_more ds l.json-index d (omega arith) ∙ ap (λ y. y ∷ drop (l.json-index + 1) ds) (sym c.json-item.is) in
    let p = err_from_is_err_and c.from_residual-in_err-from_json.result c.from_residual-in_err-from_json.ensures.1 in
    rw (p.1, p.2) (items_fail (meant (kind_of c.args.element.now)) (values_view l.values.items) (drop l.json-index ds) (drop (l.json-index + 1) ds) d _ here l.invariant c.in_err-from_json.field-0.0 c.in_err-from_json.ensures)

pub items_from-loop-json-preserved : goal.items_from-loop-json-preserved
items_from-loop-json-preserved t c =
    let l = c.loop-json in
    let ds = c.args.list.now in
    let d = c.json-item.result in
    let here : drop l.json-index ds ≡ d ∷ drop (l.json-index + 1) ds = drop_more ds l.json-index d (omega arith) ∙ ap (λ y. y ∷ drop (l.json-index + 1) ds) (sym c.json-item.is) in
    let v = c.in_ok-from_json.field-0 in
    let e : values_view c.push.new.self.items ≡ values_view l.values.items ++ value_of v ∷ [] = rw c.in_ok-push.ensures.items (map_push _ l.values.items v) in
    rw e (items_on (meant (kind_of c.args.element.now)) (values_view l.values.items) (drop l.json-index ds) (drop (l.json-index + 1) ds) d _ here l.invariant (value_of v) c.in_ok-from_json.ensures)

pub items_from-returns : goal.items_from-returns
items_from-returns t c =
    let l = c.loop-json in
    items_done (meant (kind_of c.args.element.now)) (values_view l.values.items) (drop l.json-index c.args.list.now) _ (drop_all l.json-index _ (omega arith)) l.invariant

pub members_from-returns-in_err-member_from : goal.members_from-returns-in_err-member_from
members_from-returns-in_err-member_from t c =
    let l = c.loop-member in
    let ms = c.args.members.now in
    let m = c.member-item.result in
    let here : drop l.member-index ms ≡ m ∷ drop (l.member-index + 1) ms = drop_more ms l.member-index m (omega arith) ∙ ap (λ y. y ∷ drop (l.member-index + 1) ms) (sym c.member-item.is) in
    let p = err_from_is_err_and c.from_residual-in_err-member_from.result c.from_residual-in_err-member_from.ensures.1 in
    rw (p.1, p.2) (members_fail (values_view l.values.items) (drop l.member-index ms) (drop (l.member-index + 1) ms) m _ _ here l.invariant c.in_err-member_from.field-0.0 c.in_err-member_from.ensures)

pub members_from-loop-member-preserved : goal.members_from-loop-member-preserved
members_from-loop-member-preserved t c =
    let l = c.loop-member in
    let ms = c.args.members.now in
    let m = c.member-item.result in
    let here : drop l.member-index ms ≡ m ∷ drop (l.member-index + 1) ms = drop_more ms l.member-index m (omega arith) ∙ ap (λ y. y ∷ drop (l.member-index + 1) ms) (sym c.member-item.is) in
    let v = c.in_ok-member_from.field-0 in
    let e : values_view c.push.new.self.items ≡ values_view l.values.items ++ value_of v ∷ [] = rw c.in_ok-push.ensures.items (map_push _ l.values.items v) in
    rw e (members_on (values_view l.values.items) (drop l.member-index ms) (drop (l.member-index + 1) ms) m (json_members c.args.object.now.entries) _ here l.invariant (value_of v) c.in_ok-member_from.ensures)

pub members_from-returns : goal.members_from-returns
members_from-returns t c =
    let l = c.loop-member in
    members_done (values_view l.values.items) (drop l.member-index c.args.members.now) _ _ (drop_all l.member-index _ (omega arith)) l.invariant

pub nth_from-returns-then-left-eq0 : goal.nth_from-returns-then-left-eq0
nth_from-returns-then-left-eq0 t c =
    let l = c.loop-case in
    let cs = c.args.cases.now in
    let x = c.case-item.result in
    let here : drop l.case-index cs ≡ x ∷ drop (l.case-index + 1) cs = drop_more cs l.case-index x (omega arith) ∙ ap (λ y. y ∷ drop (l.case-index + 1) cs) (sym c.case-item.is) in
    nth_gives c.with_from.result (cases_of (cases_view cs)) c.args.index c.args.number _ (json_members c.args.object.now.entries) (to_z-of_z w128 c.args.number c.ranges.number)
    (case_gives c.with_from.result (drop l.case-index cs) (drop (l.case-index + 1) cs) x l.left _ _ (json_members c.args.object.now.entries) _ here c.if-left-eq0.true
    refl l.invariant c.with_from.ensures)

pub nth_from-loop-case-preserved : goal.nth_from-loop-case-preserved
nth_from-loop-case-preserved t c =
    let l = c.loop-case in
    let cs = c.args.cases.now in
    let x = c.case-item.result in
    let here : drop l.case-index cs ≡ x ∷ drop (l.case-index + 1) cs = drop_more cs l.case-index x (omega arith) ∙ ap (λ y. y ∷ drop (l.case-index + 1) cs) (sym c.case-item.is) in
    case_on (drop l.case-index cs) (drop (l.case-index + 1) cs) x l.left _ _ _ here (omega (arith, c.if-left-eq0.false)) l.invariant

pub nth_from-returns : goal.nth_from-returns
nth_from-returns t c =
    let l = c.loop-case in
    let none : drop l.case-index c.args.cases.now ≡ [] = drop_all l.case-index _ (omega arith) in
    nth_gives c.bare_from.result (cases_of (cases_view c.args.cases.now)) c.args.index c.args.number _ (json_members c.args.object.now.entries) (to_z-of_z w128 c.args.number c.ranges.number)
    (none_gives c.bare_from.result (drop l.case-index c.args.cases.now) l.left _ _ (json_members c.args.object.now.entries) _ none refl l.invariant c.bare_from.ensures)

pub choice_from-returns-in-None : goal.choice_from-returns-in-None
choice_from-returns-in-None t c =
    rw c.in-None.is (bare_gives c.bare_from.result (cases_of (cases_view c.args.cases.now)) c.args.number _ (json_members c.args.object.now.entries)
    (to_z-of_z w128 c.args.number c.ranges.number) c.bare_from.ensures)

pub object_from-returns-in-Some : goal.object_from-returns-in-Some
object_from-returns-in-Some t c =
    let z = c.in-Some.number in
    let range : SFits w128 z = search rules in
    let same = to_z-of_z w128 z range in
    choice_gives c.choice_from.result (cases_of (cases_view c.args.cases.now)) (number_in (kind_of c.args.tag.now)) (json_members c.args.object.now.entries) z _ _ c.chosen_case.result
    c.in-Some.ensures same same c.chosen_case.ensures c.choice_from.ensures
