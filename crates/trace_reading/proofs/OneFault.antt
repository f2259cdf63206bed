-- An input has its first line at fault at one offset at most.
use Rattle.std.proofs.Common.{◌≡◌, ℕ, ◌+◌, ◌-◌, ◌<◌, ◌≤◌, ltb, Bool, inl, inr, List, [], ◌∷◌, ◌++◌, length, get_or, take, drop, Option, Some, None, refl, sym, ap, subst, ◌∙◌, arith, append_assoc}
use Rattle.std.specs.Prelude.{position}
use Rattle.std.specs.List.{position_or_len}
use Rattle.std.proofs.lemmas.Bool.{both_ways, cases_order, ltb-false}
use Rattle.std.proofs.lemmas.List.{take_at, drop_at, take-append-le, drop-append-le, take-append-drop, get_or_at, get_or-append-add, get_or_append_left, length-append}
use Rattle.std.proofs.lemmas.List.Quantifiers.{position-Some}
use Rattle.std.proofs.lemmas.List.Sums.{fails_before_first}
use Rattle.trace_reading.specs.Faults.{FaultAt, GoesWrong, IsWholeLines, is_feed}
use Rattle.trace_reading.specs.Laws.{HasOneFault}
use Rattle.trace_reading.specs.Traces.{AreTraces, MayBegin}
use Rattle.trace_reading.proofs.Parts.{cond_none}

-- an input may begin with a prefix of what it may begin with
pub may_begin : (front rest : List ℕ) → MayBegin (front ++ rest) → MayBegin front
may_begin front rest h = (rest ++ h.0, h.1, subst (λ (z : List ℕ). AreTraces z h.1) (append_assoc front rest h.0) h.2)

-- whole lines end with a line feed
pub last_feed : (bytes : List ℕ) → IsWholeLines bytes → 0 < length bytes → get_or bytes (length bytes - 1) 0 ≡ 10
last_feed bytes (inl none) some = absurd (omega (arith, ap length none))
last_feed bytes (inr h) some =
    let n : length bytes ≡ length h.0 + 1 = ap length h.1 ∙ length-append h.0 (10 ∷ []) in
    ap (λ (z : List ℕ). get_or z (length bytes - 1) 0) h.1 ∙ get_or_at h.0 10 [] 0 (length bytes - 1) (omega arith)

-- a line feed among these bytes is found
pub found : (xs : List ℕ) (m : ℕ) (o : Option ℕ) → position is_feed xs ≡ o → m < length xs → get_or xs m 0 ≡ 10 → (p : ℕ) × (o ≡ Some p) × (p ≤ m)
found xs m (Some p) e l is =
    let h = position-Some is_feed xs p 0 e in
    let within : p ≤ m = elim (cases_order p m) [
      | inl same ↦ omega arith
      | inr other ↦ elim other [
        | inl less ↦ omega arith
        | inr more ↦ absurd (both_ways (is_feed (get_or xs m 0)) (h.2 m more) (ap is_feed is))
      ]
    ] in (p, refl, within)
found xs m None e l is =
    let past = ltb-false (position_or_len is_feed xs) (length xs) (cond_none (ltb (position_or_len is_feed xs) (length xs)) (position_or_len is_feed xs) e) in
    absurd (both_ways (is_feed (get_or xs m 0)) (fails_before_first is_feed xs m 0 (omega arith)) (ap is_feed is))

-- what follows the shorter of two beginnings of an input, in the longer one
pub longer : (a b c d : List ℕ) → a ++ b ≡ c ++ d → length a ≤ length c → (x : List ℕ) × (c ≡ a ++ x) × (b ≡ x ++ d)
longer a b c d e l =
    let front : a ≡ take (length a) c = sym (take_at a b (length a) refl) ∙ ap (take (length a)) e ∙ take-append-le (length a) c d l in (
      drop (length a) c,
      sym (take-append-drop (length a) c) ∙ ap (λ (z : List ℕ). z ++ drop (length a) c) (sym front),
      sym (drop_at a b (length a) refl) ∙ ap (drop (length a)) e ∙ drop-append-le (length a) c d l,
    )

-- where a line goes wrong, an input doesn't begin with it and more
stops : (ended : Bool) (before after x rest : List ℕ) (p : ℕ) → GoesWrong ended before after (Some p) → after ≡ x ++ rest → p + 1 ≤ length x → ¬ MayBegin (before ++ x)
stops ended before after x rest p wrong is l begins =
    let cut : take (p + 1) after ≡ take (p + 1) x = ap (take (p + 1)) is ∙ take-append-le (p + 1) x rest l in
    let all : before ++ x ≡ (before ++ take (p + 1) x) ++ drop (p + 1) x = ap (λ (z : List ℕ). before ++ z) (sym (take-append-drop (p + 1) x)) ∙ sym (append_assoc before (take (p + 1) x) (drop (p + 1) x)) in
    wrong (subst (λ (z : List ℕ). MayBegin (before ++ z)) (sym cut) (may_begin (before ++ take (p + 1) x) (drop (p + 1) x) (subst MayBegin all begins)))

-- the last byte of what is joined
pub at_end : (a x c : List ℕ) → c ≡ a ++ x → 0 < length x → get_or c (length c - 1) 0 ≡ 10 → get_or x (length x - 1) 0 ≡ 10
at_end a x c is some e =
    let size : length c ≡ length a + length x = ap length is ∙ length-append a x in
    let place : length c - 1 ≡ length a + (length x - 1) = omega arith in
    sym (ap (λ (z : List ℕ). get_or z (length c - 1) 0) is ∙ ap (λ (n : ℕ). get_or (a ++ x) n 0) place ∙ get_or-append-add a x (length x - 1) 0) ∙ e

-- no fault is after another
faults_apart : (bytes : List ℕ) (ended : Bool) (at at' : ℕ) → FaultAt bytes ended at → FaultAt bytes ended at' → at < at' → ⊥
faults_apart bytes ended at at' f g less =
    let first = f.place in let second = g.place in
    let h = longer f.before f.after g.before g.after (sym f.parts ∙ g.parts) (omega arith) in
    let size : length g.before ≡ length f.before + length h.0 = ap length h.1 ∙ length-append f.before h.0 in
    let n = length g.before - 1 in
    let m = length h.0 - 1 in
    let feed : get_or g.before n 0 ≡ 10 = last_feed g.before g.lines (omega arith) in
    let here : get_or h.0 m 0 ≡ 10 = at_end f.before h.0 g.before h.1 (omega arith) feed in
    let there : get_or f.after m 0 ≡ 10 = ap (λ (z : List ℕ). get_or z m 0) h.2 ∙ get_or_append_left h.0 g.after 0 m (omega arith) ∙ here in
    let long : length f.after ≡ length h.0 + length g.after = ap length h.2 ∙ length-append h.0 g.after in
    let k = found f.after m (position is_feed f.after) refl (omega arith) there in
    let within : k.0 + 1 ≤ length h.0 = let w = k.2 in omega arith in
    stops ended f.before f.after h.0 g.after k.0 (subst (GoesWrong ended f.before f.after) k.1 f.wrong) h.2 within (subst MayBegin h.1 g.begins)

pub one_fault : HasOneFault
one_fault bytes ended at at' f g = elim (cases_order at at') [
  | inl same ↦ same
  | inr other ↦ elim other [
    | inl less ↦ absurd (faults_apart bytes ended at at' f g less)
    | inr more ↦ absurd (faults_apart bytes ended at' at g f more)
  ]
]
