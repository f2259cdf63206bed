-- Where a text goes on with a token, reading takes that token, along the marks of that text.
use Rattle.std.proofs.Common.{◌≡◌, ℕ, zero, suc, Bool, true, false, List, [], ◌∷◌, ◌++◌, length, Result, Ok, Err, refl, sym, ap, subst, ◌∙◌, append_assoc, append-nil}
use Rattle.grammar.specs.Language.{Placed, Language, RuleOf}
use Rattle.grammar.specs.Reading.{Stream, stream}
use Rattle.grammar.specs.Grammar.{took, did, MarkOf, Spelled, SpelledInner, Sentence, tokens_of, acts}
use Rattle.grammar.specs.Plain.{goes_on, is_plain, IsPlain}
use Rattle.grammar.proofs.Basics.{before, ok_is}
use Rattle.grammar.proofs.Complete.{read_complete}
use Rattle.first_faults.specs.Beginnings.{Begun, BegunInner, Beginning}
use Rattle.first_faults.proofs.Begun.{whole_begun}
use Rattle.first_faults.proofs.Meets.{not_nil, Refusal, read_meets}
use Rattle.first_faults.proofs.Paths.{counting, run, stays, Shape, PathOf}

-- ---- the language that counts

plain_counting : (g : Language) → IsPlain g → IsPlain (counting g)
plain_counting g p = record { same_is = p.same_is; inside_is = p.inside_is }

spelled_counting : (g : Language) (depth : ℕ) → SpelledInner g depth ≡ SpelledInner (counting g) depth
unfolding SpelledInner
spelled_counting g zero = refl
spelled_counting g (suc depth) = ap (λ f r ms. Spelled g f (g.inside r) ms) (spelled_counting g depth)

begun_counting : (g : Language) (depth : ℕ) → BegunInner g depth ≡ BegunInner (counting g) depth
unfolding BegunInner
begun_counting g zero = refl
begun_counting g (suc depth) =
    ap (λ f r ms. Begun g (SpelledInner g depth) f (g.inside r) ms) (begun_counting g depth)
    ∙ ap (λ f r ms. Begun g f (BegunInner (counting g) depth) (g.inside r) ms) (spelled_counting g depth)

abbrev reached : (g : Language) → List (MarkOf g) → Result (ℕ × List (MarkOf g)) (List (MarkOf g))
reached g ms = Ok (zero, ms)

-- marks are counted down
counted_all : (g : Language) (ms p : List (MarkOf g)) → acts (counting g) ms (length ms, p) ≡ reached g (p ++ ms)
counted_all g [] p = ap (reached g) (sym (append-nil p))
counted_all g (took l t ∷ ms) p = counted_all g ms (p ++ took l t ∷ []) ∙ ap (reached g) (append_assoc p (took l t ∷ []) ms)
counted_all g (did l ∷ ms) p = counted_all g ms (p ++ did l ∷ []) ∙ ap (reached g) (append_assoc p (did l ∷ []) ms)

abbrev pub failed : {A E : Type 0} → E → Result A E
failed x = Err x

pub err_is : {A E : Type 0} (x y : E) → failed {A = A} {E = E} x ≡ failed y → x ≡ y
err_is x y e = cc

abbrev fine : {A E : Type 0} → A → Result A E
fine x = Ok x

-- the refusal has the first marks
caught : (g : Language) (ms : List (MarkOf g)) (n : ℕ) (p q : List (MarkOf g)) → acts (counting g) ms (n, p) ≡ Err q → (rest : List (MarkOf g)) × (p ++ ms ≡ q ++ rest)
caught g [] n p q e = absurd cc
caught g (took l t ∷ ms) zero p q e =
    let f = err_is (p ++ took l t ∷ []) q (sym (stays (counting g) ms (p ++ took l t ∷ [])) ∙ e) in
    (ms, sym (append_assoc p (took l t ∷ []) ms) ∙ ap (λ z. z ++ ms) f)
caught g (did l ∷ ms) zero p q e =
    let f = err_is (p ++ did l ∷ []) q (sym (stays (counting g) ms (p ++ did l ∷ [])) ∙ e) in
    (ms, sym (append_assoc p (did l ∷ []) ms) ∙ ap (λ z. z ++ ms) f)
caught g (took l t ∷ ms) (suc n) p q e = let h = caught g ms n (p ++ took l t ∷ []) q e in (h.0, sym (append_assoc p (took l t ∷ []) ms) ∙ h.1)
caught g (did l ∷ ms) (suc n) p q e = let h = caught g ms n (p ++ did l ∷ []) q e in (h.0, sym (append_assoc p (did l ∷ []) ms) ∙ h.1)

-- what was not refused has all marks
through : (g : Language) (ms : List (MarkOf g)) (n k : ℕ) (p q : List (MarkOf g)) → acts (counting g) ms (n, p) ≡ Ok (k, q) → q ≡ p ++ ms
through g [] n k p q e = sym (ap (λ z. z.1) (ok_is (n, p) (k, q) e)) ∙ sym (append-nil p)
through g (took l t ∷ ms) zero k p q e = let f = sym (stays (counting g) ms (p ++ took l t ∷ [])) ∙ e in absurd cc
through g (did l ∷ ms) zero k p q e = let f = sym (stays (counting g) ms (p ++ did l ∷ [])) ∙ e in absurd cc
through g (took l t ∷ ms) (suc n) k p q e = through g ms n k (p ++ took l t ∷ []) q e ∙ append_assoc p (took l t ∷ []) ms
through g (did l ∷ ms) (suc n) k p q e = through g ms n k (p ++ did l ∷ []) q e ∙ append_assoc p (did l ∷ []) ms

-- ---- reading follows

refused_run : (g : Language) (o : Bool) (a : Result (ℕ × List (MarkOf g)) (List (MarkOf g))) (t : Stream g.Kind) (y : List (MarkOf g)) (m : MarkOf g) → run (counting g) o a t ≡ Err (y ++ m ∷ []) → a ≡ Err (y ++ m ∷ [])
refused_run g true (Ok c) t y m e = absurd cc
refused_run g false (Ok c) t y m e = absurd (not_nil y m [] (err_is [] (y ++ m ∷ []) e))
refused_run g true (Err f) t y m e = ap Err (err_is f (y ++ m ∷ []) e)
refused_run g false (Err f) t y m e = ap Err (err_is f (y ++ m ∷ []) e)

pub follows : (g : Language) → IsPlain g → (depth : ℕ) (r : RuleOf g) → is_plain g r ≡ true → (y : List (MarkOf g)) (l : g.Label) (u : Placed g.Kind) (rest : List (MarkOf g)) → Beginning g depth r (y ++ took l u ∷ rest)
    → (s : Stream g.Kind) (us : List (Placed g.Kind)) (end : Placed g.Kind) → s ≡ before y (stream (u ∷ us) end) → (path : PathOf g depth r s) → (z : List (MarkOf g)) × (path.marks ≡ y ++ took l u ∷ z)
follows g p depth r plain y l u rest h s us end goes path =
    let c = counting g in
    let z = y ++ took l u ∷ rest in
    let begun : Beginning c depth r z = subst (λ f. Begun g f (BegunInner c depth) r z) (spelled_counting g depth) (subst (λ f. Begun g (SpelledInner g depth) f r z) (begun_counting g depth) h) in
    let x : Refusal c z (length y, []) s (y ++ took l u ∷ []) = record { m = y; l = l; u = u; ks = rest; c = (zero, y); us = us; end = end; is = refl; acts_are = counted_all g y []; refused = refl; goes = goes } in
    let met = read_meets c (plain_counting g p) depth r plain z begun (length y, []) s (y ++ took l u ∷ []) x in
    let ran = sym (path.counted (length y, [])) ∙ met in
    let k = caught g path.marks (length y) [] (y ++ took l u ∷ []) (refused_run g path.over _ path.at y (took l u) ran) in
    (k.0, k.1 ∙ append_assoc y (took l u ∷ []) k.0)

over_run : (g : Language) (o : Bool) (a : Result (ℕ × List (MarkOf g)) (List (MarkOf g))) (t v : Stream g.Kind) (c : ℕ × List (MarkOf g)) → run (counting g) o a t ≡ Ok (c, v) → (o ≡ true) × (a ≡ Ok c)
over_run g true (Ok d) t v c e = (refl, ap (λ z. fine z.0) (ok_is (d, t) (c, v) e))
over_run g false (Ok d) t v c e = absurd cc
over_run g true (Err f) t v c e = absurd cc
over_run g false (Err f) t v c e = absurd cc

-- a text is read along its marks
pub reads_sentence : (g : Language) → IsPlain g → (depth : ℕ) (r : RuleOf g) → is_plain g r ≡ true → (y : List (MarkOf g)) → Sentence g depth r y
    → (s : Stream g.Kind) → s.tokens ≡ tokens_of y → goes_on g r s.end.kind ≡ false → (path : PathOf g depth r s) → (path.over ≡ true) × (path.marks ≡ y)
reads_sentence g p depth r plain y h s is off path =
    let c = counting g in
    let t : Stream g.Kind = stream [] s.end in
    let h' : Sentence c depth r y = subst (λ f. Spelled g f r y) (spelled_counting g depth) h in
    let goes : s ≡ before y t = ap (λ z. stream z s.end) (is ∙ sym (append-nil (tokens_of y))) in
    let read = read_complete c (plain_counting g p) depth r plain y h' ((length y, []), s) ((zero, y), t) goes (counted_all g y []) off in
    let ran = over_run g path.over _ path.at t (zero, y) (sym (path.counted (length y, [])) ∙ read) in
    (ran.0, sym (through g path.marks (length y) zero [] y ran.1))

pub begins_path : (g : Language) (depth : ℕ) (r : RuleOf g) (s : Stream g.Kind) (path : PathOf g depth r s) → Beginning g depth r path.marks
begins_path g depth r s path = begun_by path.over path.shape
  where
    begun_by : (o : Bool) → Shape (Sentence g depth r) (Beginning g depth r) o path.marks → Beginning g depth r path.marks
    begun_by true h = whole_begun g (SpelledInner g depth) (BegunInner g depth) r path.marks h
    begun_by false h = h
