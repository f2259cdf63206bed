-- The laws of typed values, by the reading and its way back.
use Rattle.std.proofs.Common.{◌≡◌, ℕ, ◌+◌, List, ◌++◌, length, Result, Ok, Err, refl, sym, ap, subst, ◌∙◌, arith}
use Rattle.std.specs.Prelude.{IsTrue, IfErr}
use Rattle.std.proofs.lemmas.List.{append_cancel_right}
use Rattle.orb_base.specs.declared.order.Order.{Order}
use Rattle.cdr_core.specs.declared.fault.CdrFault.{CdrFault}
use Rattle.cdr_core.specs.Cursor.{Cursor, AreBytes, Reads, cursor}
use Rattle.cdr_core.specs.Passing.{Spans}
use Rattle.cdr_core.proofs.CallerLemmas.{ok_is}
use Rattle.cdr_values.specs.declared.fault.DecodeFault.{DecodeFault}
use Rattle.cdr_values.specs.declared.fault.DecodeFault.TheVariants.{Cdr, NoMemory}
use Rattle.cdr_values.specs.declared.value.IdlValue.{IdlValue}
use Rattle.cdr_values.specs.Trees.{Kind, Value}
use Rattle.cdr_values.specs.Values.{value_of}
use Rattle.cdr_values.specs.Spelling as spelling
use Rattle.cdr_values.specs.Lawful.{is_lawful}
use Rattle.cdr_values.specs.Reading.{read}
use Rattle.cdr_values.specs.Gives.{Decodes}
use Rattle.cdr_values.specs.FirstFault.{Fails}
use Rattle.cdr_values.specs.Laws.{IsFirst, AnswersOnly, TellsFirst, ReadsExactly, ReadsBack, ReadsOneWay}
use Rattle.cdr_values.proofs.Taking.{read_takes}
use Rattle.cdr_values.proofs.Refused.{read_fails}
use Rattle.cdr_values.proofs.ReadBack.{read_again}
use Rattle.cdr_values.proofs.Refusing.{read_refuses}

-- a spelling with any pads is between two cursors
between : (order : Order) (place : ℕ) (k : Kind) (v : Value) (x behind : List ℕ) (c : spelling.Cdr order place k v x)
    → Spans (cursor order place (x ++ behind)) (cursor order (place + length x) behind) c.0
between order place k v x behind c = record { spelling = x; parts = refl; spelled = c.2; order = refl; place = refl }

pub reads_back_law : ReadsBack
reads_back_law order place k v x behind lawful c = read_again k lawful v c.0 _ _ c.1 (between order place k v x behind c)

pub reads_one_way_law : ReadsOneWay
reads_one_way_law order place k v w x y bx by lawful cx cy same =
    let first = reads_back_law order place k v x bx lawful cx in
    let second = reads_back_law order place k w y by lawful cy in
    let both : read k (cursor order place (x ++ bx)) ≡ Ok (w, cursor order (place + length y) by) =
    subst (λ (bytes : List ℕ). read k (cursor order place bytes) ≡ Ok (w, cursor order (place + length y) by)) (sym same) second in
    let h = ok_is (v, cursor order (place + length x) bx) (w, cursor order (place + length y) by) (sym first ∙ both) in
    let behind : bx ≡ by = ap (λ (p : Value × Cursor). p.1.rest) h in
    (ap (λ (p : Value × Cursor). p.0) h, append_cancel_right x y by (rw behind at same))

pub reads_exactly_law : ReadsExactly
reads_exactly_law k c lawful fits = record {
  found = λ v d. (λ e. read_takes k c v d fits e, λ p. read_again k lawful v p.fields c d p.asks p.spans);
  fails = λ f. (λ e. read_fails k c f fits e, λ h. read_refuses k lawful c f h);
}

-- ---- what a decoding answers

abbrev Answer : Type 0
Answer = Result (IdlValue × ℕ) DecodeFault

pub tells_first_fault : (r : Answer) (order : Order) (place : ℕ) (k : Kind) (bytes : List ℕ) → AreBytes bytes → Decodes r order place k bytes
    → IfErr r (λ e. IsFirst e k (cursor order place bytes))
tells_first_fault (Ok x) order place k bytes fits e = tt
tells_first_fault (Err (Cdr f)) order place k bytes fits e = read_fails k (cursor order place bytes) f fits e
tells_first_fault (Err NoMemory) order place k bytes fits e = tt

stands_there : (order : Order) (place : ℕ) (k : Kind) (bytes : List ℕ) → IsTrue (is_lawful k) → (v : Value) (front behind : List ℕ) → spelling.Cdr order place k v front → bytes ≡ front ++ behind
    → read k (cursor order place bytes) ≡ Ok (v, cursor order (place + length front) behind)
stands_there order place k bytes lawful v front behind c same =
    subst (λ (x : List ℕ). read k (cursor order place x) ≡ Ok (v, cursor order (place + length front) behind)) (sym same) (reads_back_law order place k v front behind lawful c)

pub answers_only : (r : Answer) (order : Order) (place : ℕ) (k : Kind) (bytes : List ℕ) → Decodes r order place k bytes → AnswersOnly r order place k bytes
answers_only (Ok x) order place k bytes e = λ lawful v front behind c same.
    let there = stands_there order place k bytes lawful v front behind c same in
    let h = ok_is (value_of x.0, cursor order (place + x.1) _) (v, cursor order (place + length front) behind) (sym e ∙ there) in
    let far : place + x.1 ≡ place + length front = ap (λ (p : Value × Cursor). p.1.place) h in
    (ap (λ (p : Value × Cursor). p.0) h, omega (arith, far))
answers_only (Err (Cdr f)) order place k bytes e = λ lawful v front behind c same.
    let there = sym e ∙ stands_there order place k bytes lawful v front behind c same in
    absurd cc
answers_only (Err NoMemory) order place k bytes e = λ lawful v front behind c same. tt

err_is : (f g : CdrFault) → ◌≡◌ {A = Reads Value} (Err f) (Err g) → f ≡ g
err_is f g e = cc

pub tells_no_other : (r : Answer) (order : Order) (place : ℕ) (k : Kind) (bytes : List ℕ) → Decodes r order place k bytes → TellsFirst r order place k bytes
tells_no_other (Ok x) order place k bytes e = λ lawful f h.
    let there = sym e ∙ read_refuses k lawful (cursor order place bytes) f h in
    absurd cc
tells_no_other (Err (Cdr g)) order place k bytes e = λ lawful f h. err_is g f (sym e ∙ read_refuses k lawful (cursor order place bytes) f h)
tells_no_other (Err NoMemory) order place k bytes e = λ lawful f h. tt
