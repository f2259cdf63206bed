use Rattle.std.proofs.Common.{subst, ◌≡◌, ◌+◌, [], ◌∷◌, ◌++◌, drop, sym, ap, ◌∙◌, arith}
use Rattle.std.proofs.lemmas.List.{map_push, drop_more, drop_all}
use Rattle.std.proofs.lemmas.Result.{err_from_is_err_and}
use Rattle.cdr_values.specs.Reading.{read, read_members, times}
use Rattle.cdr_values.specs.Kinds.{kind_of, members_view}
use Rattle.cdr_values.specs.Trees.{members_of}
use Rattle.cdr_values.specs.Values.{value_of, values_view}
use Rattle.cdr_core.specs.Cursor.{Reads}
use Rattle.cdr_values.specs.Trees.{Value}
use Rattle.cdr_values.specs.Gives.{Gives}
use Rattle.cdr_values.proofs.Members.{labels_read, case_on, case_found, case_fails, case_none}
use Rattle.cdr_values.proofs.Loops.{times_on, times_fails, times_done, members_on, members_fail, members_done}
use Rattle.cdr_values.proofs.decoding.+decode_here.Goals as goal

pub decode_times-returns-in_err-decode_here : goal.decode_times-returns-in_err-decode_here
decode_times-returns-in_err-decode_here t c =
    let p = err_from_is_err_and c.from_residual.result c.from_residual.ensures.1 in
    rw (p.1, p.2) (times_fails c.in_err-decode_here.field-0.0 (read (kind_of c.args.kind.now)) (values_view c.loop.values.items) c.args.n c.loop.counter c.loop.reader _ c.loop-test.true c.in_err-decode_here.ensures c.loop.invariant)

pub decode_times-loop-preserved : goal.decode_times-loop-preserved
decode_times-loop-preserved t c =
    let v = c.in_ok-decode_here.field-0 in
    let e : values_view c.push.new.self.items ≡ values_view c.loop.values.items ++ value_of v ∷ [] = rw c.in_ok-push.ensures.items (map_push _ c.loop.values.items v) in
    rw e (times_on (read (kind_of c.args.kind.now)) (values_view c.loop.values.items) c.args.n c.loop.counter c.loop.reader (value_of v) c.decode_here.new.reader _ c.loop-test.true c.in_ok-decode_here.ensures c.loop.invariant)

pub decode_times-returns : goal.decode_times-returns
decode_times-returns t c = times_done (read (kind_of c.args.kind.now)) (values_view c.loop.values.items) c.args.n c.loop.counter c.loop.reader _ c.loop-test.false c.loop.invariant

pub decode_members-returns-in_err-decode_here : goal.decode_members-returns-in_err-decode_here
decode_members-returns-in_err-decode_here t c =
    let l = c.loop-member in
    let ms = c.args.members.now in
    let m = c.member-item.result in
    let here : drop l.member-index ms ≡ m ∷ drop (l.member-index + 1) ms = drop_more ms l.member-index m (omega arith) ∙ ap (λ y. y ∷ drop (l.member-index + 1) ms) (sym c.member-item.is) in
    let p = err_from_is_err_and c.from_residual.result c.from_residual.ensures.1 in
    rw (p.1, p.2) (members_fail c.in_err-decode_here.field-0.0 (values_view l.values.items) (drop l.member-index ms) m (drop (l.member-index + 1) ms) l.reader _ here c.in_err-decode_here.ensures l.invariant)

pub decode_members-loop-member-preserved : goal.decode_members-loop-member-preserved
decode_members-loop-member-preserved t c =
    let l = c.loop-member in
    let ms = c.args.members.now in
    let m = c.member-item.result in
    let here : drop l.member-index ms ≡ m ∷ drop (l.member-index + 1) ms = drop_more ms l.member-index m (omega arith) ∙ ap (λ y. y ∷ drop (l.member-index + 1) ms) (sym c.member-item.is) in
    let v = c.in_ok-decode_here.field-0 in
    let e : values_view c.push.new.self.items ≡ values_view l.values.items ++ value_of v ∷ [] = rw c.in_ok-push.ensures.items (map_push _ l.values.items v) in
    rw e (members_on (values_view l.values.items) (drop l.member-index ms) m (drop (l.member-index + 1) ms) l.reader (value_of v) c.decode_here.new.reader _ here c.in_ok-decode_here.ensures l.invariant)

pub decode_members-returns : goal.decode_members-returns
decode_members-returns t c =
    let l = c.loop-member in
    members_done (values_view l.values.items) (drop l.member-index c.args.members.now) l.reader _ (drop_all l.member-index _ (omega arith)) l.invariant

pub decode_case-returns-in_err-decode_here : goal.decode_case-returns-in_err-decode_here
decode_case-returns-in_err-decode_here t c =
    let l = c.loop-case in
    let cs = c.args.cases.now in
    let x = c.case-item.result in
    let here : drop l.case-index cs ≡ x ∷ drop (l.case-index + 1) cs = drop_more cs l.case-index x (omega arith) ∙ ap (λ y. y ∷ drop (l.case-index + 1) cs) (sym c.case-item.is) in
    let p = err_from_is_err_and c.from_residual.result c.from_residual.ensures.1 in
    rw (p.1, p.2) (case_fails c.in_err-decode_here.field-0.0 (drop l.case-index cs) (drop (l.case-index + 1) cs) x l.left l.reader _ here c.if-left-eq0.true c.in_err-decode_here.ensures l.invariant)

pub decode_case-returns-then-left-eq0 : goal.decode_case-returns-then-left-eq0
decode_case-returns-then-left-eq0 t c =
    let l = c.loop-case in
    let cs = c.args.cases.now in
    let x = c.case-item.result in
    let here : drop l.case-index cs ≡ x ∷ drop (l.case-index + 1) cs = drop_more cs l.case-index x (omega arith) ∙ ap (λ y. y ∷ drop (l.case-index + 1) cs) (sym c.case-item.is) in
    case_found (drop l.case-index cs) (drop (l.case-index + 1) cs) x l.left l.reader c.decode_here.new.reader (value_of c.in_ok-decode_here.field-0) _ here c.if-left-eq0.true c.in_ok-decode_here.ensures l.invariant

pub decode_case-loop-case-preserved : goal.decode_case-loop-case-preserved
decode_case-loop-case-preserved t c =
    let l = c.loop-case in
    let cs = c.args.cases.now in
    let x = c.case-item.result in
    let here : drop l.case-index cs ≡ x ∷ drop (l.case-index + 1) cs = drop_more cs l.case-index x (omega arith) ∙ ap (λ y. y ∷ drop (l.case-index + 1) cs) (sym c.case-item.is) in
    case_on (drop l.case-index cs) (drop (l.case-index + 1) cs) x l.left l.reader _ here (omega (arith, c.if-left-eq0.false)) l.invariant

pub decode_case-returns : goal.decode_case-returns
decode_case-returns t c =
    let l = c.loop-case in
    case_none (drop l.case-index c.args.cases.now) l.left l.reader _ (drop_all l.case-index _ (omega arith)) l.invariant
