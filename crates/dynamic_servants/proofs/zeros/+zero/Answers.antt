use Rattle.std.proofs.Common.{◌≡◌, ◌+◌, [], ◌∷◌, ◌++◌, drop, sym, ap, ◌∙◌, arith}
use Rattle.std.proofs.lemmas.List.{map_push, drop_more, drop_all}
use Rattle.cdr_values.specs.Values.{value_of, values_view}
use Rattle.dynamic_servants.proofs.ZeroParts.{members_on, members_done, case_on, case_found, case_none}
use Rattle.dynamic_servants.proofs.zeros.+zero.Goals as goal

pub zero_members-loop-member-preserved : goal.zero_members-loop-member-preserved
zero_members-loop-member-preserved t c =
    let l = c.loop-member in
    let ms = c.args.members.now in
    let m = c.member-item.result in
    let here : drop l.member-index ms ≡ m ∷ drop (l.member-index + 1) ms = drop_more ms l.member-index m (omega arith) ∙ ap (λ y. y ∷ drop (l.member-index + 1) ms) (sym c.member-item.is) in
    let v = c.in_ok-zero.field-0 in
    let e : values_view c.push.new.self.items ≡ values_view l.values.items ++ value_of v ∷ [] = rw c.in_ok-push.ensures.items (map_push _ l.values.items v) in
    rw e (members_on (values_view l.values.items) (drop l.member-index ms) m (drop (l.member-index + 1) ms) (value_of v) _ here c.in_ok-zero.ensures l.invariant)

pub zero_members-returns : goal.zero_members-returns
zero_members-returns t c =
    let l = c.loop-member in
    members_done (values_view l.values.items) (drop l.member-index c.args.members.now) _ (drop_all l.member-index _ (omega arith)) l.invariant

pub zero_at-returns-then-left-eq0 : goal.zero_at-returns-then-left-eq0
zero_at-returns-then-left-eq0 t c =
    let l = c.loop-case in
    let cs = c.args.cases.now in
    let x = c.case-item.result in
    let here : drop l.case-index cs ≡ x ∷ drop (l.case-index + 1) cs = drop_more cs l.case-index x (omega arith) ∙ ap (λ y. y ∷ drop (l.case-index + 1) cs) (sym c.case-item.is) in
    case_found (drop l.case-index cs) (drop (l.case-index + 1) cs) x l.left (value_of c.in_ok-zero.field-0) _ here c.if-left-eq0.true c.in_ok-zero.ensures l.invariant

pub zero_at-loop-case-preserved : goal.zero_at-loop-case-preserved
zero_at-loop-case-preserved t c =
    let l = c.loop-case in
    let cs = c.args.cases.now in
    let x = c.case-item.result in
    let here : drop l.case-index cs ≡ x ∷ drop (l.case-index + 1) cs = drop_more cs l.case-index x (omega arith) ∙ ap (λ y. y ∷ drop (l.case-index + 1) cs) (sym c.case-item.is) in
    case_on (drop l.case-index cs) (drop (l.case-index + 1) cs) x l.left _ here (omega (arith, c.if-left-eq0.false)) l.invariant

pub zero_at-returns : goal.zero_at-returns
zero_at-returns t c =
    let l = c.loop-case in
    case_none (drop l.case-index c.args.cases.now) l.left _ (drop_all l.case-index _ (omega arith)) l.invariant
