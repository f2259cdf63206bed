use Rattle.std.proofs.Common.{◌≡◌, ◌+◌, [], ◌∷◌, ◌++◌, map, drop, sym, ap, ◌∙◌, arith, option_map, to_z, of_z}
use Rattle.std.specs.Int.{w128}
use Rattle.std.proofs.lemmas.Int.{to_z-of_z}
use Rattle.serde_json.specs.Data.{object as json_object}
use Rattle.serde_json.proofs.Views.{view-Object}
use Rattle.std.proofs.lemmas.List.{map_push, drop_more, drop_all}
use Rattle.serde_json.specs.View.{view, members_view as json_members}
use Rattle.cdr_values.specs.Kinds.{kind_of, cases_view}
use Rattle.cdr_values.specs.Trees.{cases_of}
use Rattle.cdr_values.specs.Values.{value_of}
use Rattle.value_json.specs.Numerals.{number_data}
use Rattle.cdr_values.proofs.Endings.{front_of}
use Rattle.value_json.proofs.Loops.{each_on, each_done, put_on, put_all, chosen_shown}
use Rattle.value_json.proofs.showing.+to_json.Goals as goal

pub each_json-loop-value-preserved : goal.each_json-loop-value-preserved
each_json-loop-value-preserved t c =
    let l = c.loop-value in
    let vs = c.args.values.now in
    let v = c.value-item.result in
    let here : drop l.value-index vs ≡ v ∷ drop (l.value-index + 1) vs = drop_more vs l.value-index v (omega arith) ∙ ap (λ y. y ∷ drop (l.value-index + 1) vs) (sym c.value-item.is) in
    let d = c.in_ok-to_json.field-0 in
    let e : map view c.push.new.self.items ≡ map view l.list.items ++ view d ∷ [] = rw c.in_ok-push.ensures.items (map_push view l.list.items d) in
    rw e (each_on (map view l.list.items) (kind_of c.args.element.now) (drop l.value-index vs) (drop (l.value-index + 1) vs) v (view d) _ here c.in_ok-to_json.ensures l.invariant)

pub each_json-returns : goal.each_json-returns
each_json-returns t c =
    let l = c.loop-value in
    each_done (map view l.list.items) (kind_of c.args.element.now) (drop l.value-index c.args.values.now) _ (drop_all l.value-index _ (omega arith)) l.invariant

pub object_json-loop-member-preserved : goal.object_json-loop-member-preserved
object_json-loop-member-preserved t c =
    let l = c.loop-member in
    let ms = c.args.members.now in
    let m = c.member-item.result in
    let here : drop l.member-index ms ≡ m ∷ drop (l.member-index + 1) ms = drop_more ms l.member-index m (omega arith) ∙ ap (λ y. y ∷ drop (l.member-index + 1) ms) (sym c.member-item.is) in
    let v = c.value-item.result in
    put_on l.rest.now _ v (drop l.member-index ms) (drop (l.member-index + 1) ms) m (json_members l.object.entries) (json_members c.put_member.new.object.entries) _
    (front_of l.rest.now v _ c.in-len1-up.len_at_least c.value-item.is) here c.in_ok-put_member.ensures l.invariant

pub object_json-returns : goal.object_json-returns
object_json-returns t c =
    let l = c.loop-member in
    put_all l.rest.now (drop l.member-index c.args.members.now) (json_members l.object.entries) _ (drop_all l.member-index _ (omega arith)) l.invariant

pub chosen_json-returns : goal.chosen_json-returns
chosen_json-returns t c =
    let same = to_z-of_z w128 c.args.number c.ranges.number in
    let passed = to_z w128 (of_z w128 c.args.number) in
    view-Object c.put_value.new.object ∙ ap json_object (chosen_shown (json_members c.put_value.new.object.entries) (kind_of c.args.tag.now) (cases_of (cases_view c.args.cases.now))
    (value_of c.args.member.now) c.args.number passed passed c.chosen_case.result (option_map view c.in_ok-shown.shown) same same
    (c.in_ok-put_value.ensures (number_data (kind_of c.args.tag.now) passed) c.in_ok-object.ensures) c.in_ok-shown.ensures c.chosen_case.ensures)
