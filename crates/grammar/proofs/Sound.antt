-- What is read is in the grammar, and it was done so along it.
use Rattle.std.proofs.Common.{◌≡◌, ◌⊎◌, ℕ, zero, suc, ◌+◌, Bool, true, false, List, [], ◌∷◌, ◌++◌, length, Option, Some, None, Result, Ok, Err, refl, sym, ap, subst, ◌∙◌, append_assoc, inl, inr}
use Rattle.grammar.specs.Rules.{Rule, one, does, ◌then◌, ◌or◌, maybe, many, chained, nested}
use Rattle.grammar.specs.Language.{Placed, Language, RuleOf}
use Rattle.grammar.specs.Reading.{Stream, stream, State, Reads, Readers, ◌>>=◌, front, behind, stop, acted, take_one, begins, repeated, bracketed, by_rule, read_inner, read_rule}
use Rattle.grammar.specs.Grammar.{Mark, took, did, MarkOf, Parts, Spelled, SpelledInner, Goes, acts_then, acts}
use Rattle.grammar.proofs.Basics.{bind_ok, ok_is, chosen, Goes-then, acts-then, acts_one}

-- from s to t are marks that are spelled so, and it was done so along them
pub record Read (g : Language) (s t : State g) (spelled : List (MarkOf g) → Type 0) : Type 0 where
  pub marks : List (MarkOf g)
  pub is : spelled marks
  pub goes : Goes g marks s.1 t.1
  pub acts_are : acts g marks s.0 ≡ Ok t.0

Read-then : (g : Language) (a b c : State g) (p q r : List (MarkOf g) → Type 0) → ((x y : List (MarkOf g)) → p x → q y → r (x ++ y)) → Read g a b p → Read g b c q → Read g a c r
Read-then g a b c p q r join x y = record {
  marks = x.marks ++ y.marks;
  is = join x.marks y.marks x.is y.is;
  goes = Goes-then g x.marks y.marks a.1 b.1 c.1 x.goes y.goes;
  acts_are = acts-then g x.marks y.marks (Ok a.0) ∙ ap (acts_then g y.marks) x.acts_are ∙ y.acts_are;
}

Read-as : (g : Language) (a b : State g) (p q : List (MarkOf g) → Type 0) → ((x : List (MarkOf g)) → p x → q x) → Read g a b p → Read g a b q
Read-as g a b p q f x = record { marks = x.marks; is = f x.marks x.is; goes = x.goes; acts_are = x.acts_are }

Read-none : (g : Language) (a : State g) (p : List (MarkOf g) → Type 0) → p [] → Read g a a p
Read-none g a p h = record { marks = []; is = h; goes = refl; acts_are = refl }

pub acted_ok : (g : Language) (r : Result g.Built g.Fault) (s : Stream g.Kind) (t : State g) → acted g r s ≡ Ok t → (r ≡ Ok t.0) × (s ≡ t.1)
acted_ok g (Ok n) s t e = let k = ok_is (n, s) t e in (ap (λ (z : State g). Ok z.0) k, ap (λ (z : State g). z.1) k)
acted_ok g (Err c) s t e = absurd cc

abbrev pub IsOne : (g : Language) → g.Kind → g.Label → List (MarkOf g) → Type 0
IsOne g k l ms = (t : Placed g.Kind) × (g.same t.kind k ≡ true) × (ms ≡ took l t ∷ [])

one_from : (g : Language) (k : g.Kind) (l : g.Label) (b : g.Built) (ts : List (Placed g.Kind)) (end : Placed g.Kind) (t : State g) → take_one g k l (b, stream ts end) ≡ Ok t → Read g (b, stream ts end) t (IsOne g k l)
unfolding take_one
one_from g k l b [] end t e = absurd cc
one_from g k l b (u ∷ us) end t e =
    elim (chosen (g.same u.kind k) _ _ (Ok t) e) [
      | inl here ↦
          let a = acted_ok g (g.act l u b) (stream us end) t here.1 in
          record { marks = took l u ∷ []; is = (u, here.0, refl); goes = ap (λ z. stream (u ∷ z.tokens) z.end) a.1; acts_are = acts_one g _ ∙ a.0 }
      | inr not ↦ absurd cc
    ]

pub one_sound : (g : Language) (k : g.Kind) (l : g.Label) (s t : State g) → take_one g k l s ≡ Ok t → Read g s t (IsOne g k l)
one_sound g k l s t e = one_from g k l s.0 s.1.tokens s.1.end t e

repeated_sound : (g : Language) (p : List (MarkOf g) → Type 0) (b : g.Kind → Bool) (turn : State g → Reads g) → ((s t : State g) → turn s ≡ Ok t → Read g s t p) → (n : ℕ) (s t : State g) → repeated g n b turn s ≡ Ok t → Read g s t (λ ms. (k : ℕ) × Parts g p k ms)
unfolding repeated
repeated_sound g p b turn sound zero s t e = subst (λ z. Read g s z (λ ms. (k : ℕ) × Parts g p k ms)) (ok_is s t e) (Read-none g s _ (0, refl))
repeated_sound g p b turn sound (suc n) s t e =
    elim (chosen (b (front s.1).kind) _ _ (Ok t) e) [
      | inl here ↦
          let a = bind_ok (turn s) (repeated g n b turn) t here.1 in
          Read-then g s a.0 t p (λ ms. (k : ℕ) × Parts g p k ms) (λ ms. (k : ℕ) × Parts g p k ms) (λ x y h k. (suc k.0, (x, y, h, k.1, refl))) (sound s a.0 a.1) (repeated_sound g p b turn sound n a.0 t a.2)
      | inr over ↦ subst (λ z. Read g s z (λ ms. (k : ℕ) × Parts g p k ms)) (ok_is s t over.1) (Read-none g s _ (0, refl))
    ]

abbrev pub SoundInner : (g : Language) → Readers g → (g.Inner → List (MarkOf g) → Type 0) → Type 0
SoundInner g None spelled = Unit {0}
SoundInner g (Some inner) spelled = (r : g.Inner) (s t : State g) → inner r s ≡ Ok t → Read g s t (spelled r)

bracketed_sound : (g : Language) (inner : Readers g) (spelled : g.Inner → List (MarkOf g) → Type 0) → SoundInner g inner spelled → (k : g.Kind) (o : g.Label) (r : g.Inner) (c : g.Kind) (l : g.Label) (s t : State g) → bracketed g k o inner r c l s ≡ Ok t → Read g s t (Spelled g spelled (nested k o r c l))
bracketed_sound g None spelled sound k o r c l s t e = absurd cc
bracketed_sound g (Some inner) spelled sound k o r c l s t e =
    let a = bind_ok (take_one g k o s >>= inner r) (take_one g c l) t e in
    let b = bind_ok (take_one g k o s) (inner r) a.0 a.1 in
    let first = one_sound g k o s b.0 b.1 in
    let middle = sound r b.0 a.0 b.2 in
    let last = one_sound g c l a.0 t a.2 in
    Read-then g s b.0 t (IsOne g k o) (λ ms. (x : List (MarkOf g)) × (u : Placed g.Kind) × spelled r x × (g.same u.kind c ≡ true) × (ms ≡ x ++ took l u ∷ [])) (Spelled g spelled (nested k o r c l))
    (λ x y h m. (h.0, m.0, m.1, h.1, m.2, m.3, ap (λ z. z ++ y) h.2 ∙ ap (λ z. took o h.0 ∷ z) m.4)) first
    (Read-then g b.0 a.0 t (spelled r) (IsOne g c l) (λ ms. (x : List (MarkOf g)) × (u : Placed g.Kind) × spelled r x × (g.same u.kind c ≡ true) × (ms ≡ x ++ took l u ∷ [])) (λ x y h m. (x, m.0, h, m.1, ap (λ z. x ++ z) m.2)) middle last)

abbrev SoundRule : (g : Language) → Readers g → (g.Inner → List (MarkOf g) → Type 0) → RuleOf g → Type 0
SoundRule g inner spelled r = (s t : State g) → by_rule g inner r s ≡ Ok t → Read g s t (Spelled g spelled r)

then_sound : (g : Language) (inner : Readers g) (spelled : g.Inner → List (MarkOf g) → Type 0) (a b : RuleOf g) → SoundRule g inner spelled a → SoundRule g inner spelled b → SoundRule g inner spelled (a then b)
then_sound g inner spelled a b f k s t e =
    let x = bind_ok (by_rule g inner a s) (by_rule g inner b) t e in
    Read-then g s x.0 t (Spelled g spelled a) (Spelled g spelled b) (Spelled g spelled (a then b)) (λ y z h k. (y, z, h, k, refl)) (f s x.0 x.1) (k x.0 t x.2)

does_sound : (g : Language) (inner : Readers g) (spelled : g.Inner → List (MarkOf g) → Type 0) (l : g.Label) → SoundRule g inner spelled (does l)
does_sound g inner spelled l s t e =
    let a = acted_ok g (g.judge l s.0) s.1 t e in
    record { marks = did l ∷ []; is = refl; goes = a.1; acts_are = acts_one g _ ∙ a.0 }

turn_sound : (g : Language) (inner : Readers g) (spelled : g.Inner → List (MarkOf g) → Type 0) (a o : RuleOf g) (l : g.Label) → SoundRule g inner spelled a → SoundRule g inner spelled o → SoundRule g inner spelled (o then (a then does l))
turn_sound g inner spelled a o l f k = then_sound g inner spelled o (a then does l) k (then_sound g inner spelled a (does l) f (does_sound g inner spelled l))

pub by_rule_sound : (g : Language) (inner : Readers g) (spelled : g.Inner → List (MarkOf g) → Type 0) → SoundInner g inner spelled → (r : RuleOf g) (s t : State g) → by_rule g inner r s ≡ Ok t → Read g s t (Spelled g spelled r)
by_rule_sound g inner spelled sound (one k l) s t e = one_sound g k l s t e
by_rule_sound g inner spelled sound (does l) s t e =
    let a = acted_ok g (g.judge l s.0) s.1 t e in
    record { marks = did l ∷ []; is = refl; goes = a.1; acts_are = acts_one g _ ∙ a.0 }
by_rule_sound g inner spelled sound (a then b) s t e =
    let x = bind_ok (by_rule g inner a s) (by_rule g inner b) t e in
    Read-then g s x.0 t (Spelled g spelled a) (Spelled g spelled b) (Spelled g spelled (a then b)) (λ y z h k. (y, z, h, k, refl)) (by_rule_sound g inner spelled sound a s x.0 x.1) (by_rule_sound g inner spelled sound b x.0 t x.2)
by_rule_sound g inner spelled sound (a or b) s t e =
    elim (chosen (begins g a (front s.1).kind) _ _ (Ok t) e) [
      | inl here ↦ Read-as g s t (Spelled g spelled a) (Spelled g spelled (a or b)) (λ x h. inl h) (by_rule_sound g inner spelled sound a s t here.1)
      | inr here ↦ Read-as g s t (Spelled g spelled b) (Spelled g spelled (a or b)) (λ x h. inr h) (by_rule_sound g inner spelled sound b s t here.1)
    ]
by_rule_sound g inner spelled sound (maybe a) s t e =
    elim (chosen (begins g a (front s.1).kind) _ _ (Ok t) e) [
      | inl here ↦ Read-as g s t (Spelled g spelled a) (Spelled g spelled (maybe a)) (λ x h. inl h) (by_rule_sound g inner spelled sound a s t here.1)
      | inr over ↦ subst (λ z. Read g s z (Spelled g spelled (maybe a))) (ok_is s t over.1) (Read-none g s _ (inr refl))
    ]
by_rule_sound g inner spelled sound (many a) s t e = repeated_sound g (Spelled g spelled a) (begins g a) (by_rule g inner a) (by_rule_sound g inner spelled sound a) (length s.1.tokens + 1) s t e
by_rule_sound g inner spelled sound (chained a o l) s t e =
    let turn = o then (a then does l) in
    let f = by_rule_sound g inner spelled sound a in
    let k = by_rule_sound g inner spelled sound o in
    then_sound g inner spelled a (many turn) f
    (λ u v d. repeated_sound g (Spelled g spelled turn) (begins g turn) (by_rule g inner turn) (turn_sound g inner spelled a o l f k) (length u.1.tokens + 1) u v d) s t e
by_rule_sound g inner spelled sound (nested k o r c l) s t e = bracketed_sound g inner spelled sound k o r c l s t e

pub inner_sound : (g : Language) (depth : ℕ) → SoundInner g (read_inner g depth) (SpelledInner g depth)
unfolding read_inner SpelledInner
inner_sound g zero = tt
inner_sound g (suc depth) = λ r s t e. by_rule_sound g (read_inner g depth) (SpelledInner g depth) (inner_sound g depth) (g.inside r) s t e

-- what a rule reads is what the grammar spells, and it was done so along it
pub read_sound : (g : Language) (depth : ℕ) (r : RuleOf g) (s t : State g) → read_rule g depth r s ≡ Ok t → Read g s t (Spelled g (SpelledInner g depth) r)
unfolding read_rule
read_sound g depth r s t e = by_rule_sound g (read_inner g depth) (SpelledInner g depth) (inner_sound g depth) r s t e
