-- A reading depends on the tokens that it took and on the one where it stopped.
use Rattle.std.proofs.Common.{◌≡◌, ◌⊎◌, ℕ, zero, suc, ◌+◌, ◌<◌, Bool, true, false, cond, not, List, [], ◌∷◌, ◌++◌, length, Option, Some, None, Result, Ok, Err, refl, sym, ap, subst, ◌∙◌, append_assoc, length-append, inl, inr, arith}
use Rattle.std.proofs.lemmas.Bool.{and_parts, not-true}
use Rattle.std.specs.Prelude.{◌||◌, ◌&&◌}
use Rattle.grammar.specs.Rules.{Rule, one, does, ◌then◌, ◌or◌, maybe, many, chained, nested}
use Rattle.grammar.specs.Language.{Placed, Language, RuleOf}
use Rattle.grammar.specs.Reading.{Stream, stream, State, Reads, Readers, ◌>>=◌, front, first_or, behind, is_empty, stop, acted, take_one, may_be_empty, begins, repeated, bracketed, by_rule, read_inner, read_rule}
use Rattle.grammar.specs.Grammar.{Mark, took, did, MarkOf, Parts, Spelled, SpelledInner, tokens_of, Goes, acts_then, acts}
use Rattle.grammar.specs.Plain.{goes_on, some_first, some_next, is_plain, IsPlain}
use Rattle.grammar.proofs.Basics.{before, before_append, acts_one, acts-then, Goes-then, tokens_append}
use Rattle.grammar.proofs.First.{Opens, opens}
use Rattle.grammar.proofs.Complete.{plain_long, plain_turn}
use Rattle.grammar.proofs.Sound.{Read, by_rule_sound, inner_sound}

-- the same grammar where nothing is done, and the fault is the token
abbrev pub bare : Language → Language
bare g = record {
  Kind = g.Kind;
  Label = g.Label;
  Inner = g.Inner;
  Built = Unit {0};
  Fault = Placed g.Kind;
  same = g.same;
  inside = g.inside;
  act = λ l t b. Ok b;
  judge = λ l b. Ok b;
  stop = λ t. t;
}

abbrev heads : {X : Type 0} → List X → X → X × Bool
heads [] end = (end, true)
heads (t ∷ ts) end = (t, false)

-- the same token is before both, or after all
abbrev pub Alike : {K : Type 0} → Stream K → Stream K → Type 0
Alike s t = heads s.tokens s.end ≡ heads t.tokens t.end

heads_front : {X : Type 0} (ts : List X) (end : X) → (heads ts end).0 ≡ first_or ts end
heads_front [] end = refl
heads_front (t ∷ ts) end = refl

heads_empty : {X : Type 0} (ts : List X) (end : X) → (heads ts end).1 ≡ is_empty ts
heads_empty [] end = refl
heads_empty (t ∷ ts) end = refl

pub alike_front : {K : Type 0} (s t : Stream K) → Alike s t → front s ≡ front t
alike_front s t e = sym (heads_front s.tokens s.end) ∙ ap (λ z. z.0) e ∙ heads_front t.tokens t.end

alike_empty : {K : Type 0} (s t : Stream K) → Alike s t → is_empty s.tokens ≡ is_empty t.tokens
alike_empty s t e = sym (heads_empty s.tokens s.end) ∙ ap (λ z. z.1) e ∙ heads_empty t.tokens t.end

heads_append : {X : Type 0} (ts xs ys : List X) (d e : X) → heads xs d ≡ heads ys e → heads (ts ++ xs) d ≡ heads (ts ++ ys) e
heads_append [] xs ys d e h = h
heads_append (t ∷ ts) xs ys d e h = refl

-- what is after the same tokens is alike before them
alike_before : {K L : Type 0} (ms : List (Mark K L)) (s t z u : Stream K) → s ≡ before ms t → z ≡ before ms u → Alike t u → Alike s z
alike_before ms s t z u p q a =
    ap (λ (x : Stream _). heads x.tokens x.end) p ∙ heads_append (tokens_of ms) t.tokens u.tokens t.end u.end a ∙ sym (ap (λ (x : Stream _). heads x.tokens x.end) q)

abbrev Bare : Language → Type 0
Bare g = State (bare g) → Reads (bare g)

pub record Passes (g : Language) (read : State (bare g) → Reads (bare g)) (s t : State g) : Type 0 where
  pub marks : List (MarkOf g)
  pub goes : Goes g marks s.1 t.1
  pub acts_are : acts g marks s.0 ≡ Ok t.0
  pub local : (z u : Stream g.Kind) → Goes g marks z u → Alike t.1 u → read (tt, z) ≡ Ok (tt, u)

pub record Stops (g : Language) (read : State (bare g) → Reads (bare g)) (s : State g) (f : g.Fault) : Type 0 where
  pub marks : List (MarkOf g)
  pub built : g.Built
  pub at : Stream g.Kind
  pub goes : Goes g marks s.1 at
  pub acts_are : acts g marks s.0 ≡ Ok built
  pub why : ((f ≡ g.stop (front at)) × ((z u : Stream g.Kind) → Goes g marks z u → Alike at u → read (tt, z) ≡ Err (front u))) ⊎ (((l : g.Label) × (g.act l (front at) built ≡ Err f)) ⊎ ((l : g.Label) × (g.judge l built ≡ Err f)))

abbrev pub Outcome : (g : Language) → Bare g → State g → Reads g → Type 0
Outcome g read s (Ok t) = Passes g read s t
Outcome g read s (Err f) = Stops g read s f

abbrev done : {A E : Type 0} → A → Result A E
done x = Ok x

-- ---- one part

stops_here : (g : Language) (read : Bare g) (s : State g) → ((z : Stream g.Kind) → Alike s.1 z → read (tt, z) ≡ Err (front z)) → Outcome g read s (stop g s)
stops_here g read s h = record { marks = []; built = s.0; at = s.1; goes = refl; acts_are = refl; why = inl (refl, λ z u goes alike. subst (λ (x : Stream g.Kind). read (tt, x) ≡ Err (front u)) (sym goes) (h u alike)) }

one_local : (g : Language) (k : g.Kind) (l : g.Label) (b : g.Built) (ts : List (Placed g.Kind)) (end : Placed g.Kind) → Outcome g (take_one (bare g) k l) (b, stream ts end) (take_one g k l (b, stream ts end))
unfolding take_one
one_local g k l b [] end = stops_here g (take_one (bare g) k l) (b, stream [] end) (λ z alike. let e = alike_empty (stream [] end) z alike in rw (sym e) refl)
one_local g k l b (u ∷ us) end = one_by (g.same u.kind k) refl (g.act l u b) refl
  where
    one_by : (c : Bool) → g.same u.kind k ≡ c → (r : Result g.Built g.Fault) → g.act l u b ≡ r → Outcome g (take_one (bare g) k l) (b, stream (u ∷ us) end) (cond c (acted g r (stream us end)) (stop g (b, stream (u ∷ us) end)))
    one_by true is (Ok n) e = record { marks = took l u ∷ []; goes = refl; acts_are = acts_one g _ ∙ e; local = λ z v goes alike. rw (goes, is) refl }
    one_by true is (Err f) e = record { marks = []; built = b; at = stream (u ∷ us) end; goes = refl; acts_are = refl; why = inr (inl (l, e)) }
    one_by false is r e = stops_here g (take_one (bare g) k l) (b, stream (u ∷ us) end) (λ z alike. let d = alike_empty (stream (u ∷ us) end) z alike in let f = alike_front (stream (u ∷ us) end) z alike in rw (sym d, sym f, is) refl)

-- ---- parts behind each other

bind_fails : {A E : Type 0} (r : Result A E) (f : A → Result A E) (e : E) → r ≡ Err e → (r >>= f) ≡ Err e
bind_fails r f e h = rw h refl

bind_goes : {A E : Type 0} (r : Result A E) (f : A → Result A E) (x : A) (y : Result A E) → r ≡ Ok x → f x ≡ y → (r >>= f) ≡ y
bind_goes r f x y h e = rw h e

then_local : (g : Language) (fst snd : Bare g) (s : State g) (r : Reads g) (f : State g → Reads g) → Outcome g fst s r → ((x : State g) → r ≡ Ok x → Outcome g snd x (f x)) → Outcome g (λ z. fst z >>= snd) s (r >>= f)
then_local g fst snd s (Err e) f h k = record {
  marks = h.marks;
  built = h.built;
  at = h.at;
  goes = h.goes;
  acts_are = h.acts_are;
  why = elim h.why [
    | inl w ↦ inl (w.0, λ z u goes alike. bind_fails (fst (tt, z)) snd (front u) (w.1 z u goes alike))
    | inr w ↦ inr w
  ];
}
then_local g fst snd s (Ok x) f h k = then_by (f x) (k x refl)
  where
    then_by : (q : Reads g) → Outcome g snd x q → Outcome g (λ z. fst z >>= snd) s q
    then_by (Ok t) b = record {
      marks = h.marks ++ b.marks;
      goes = Goes-then g h.marks b.marks s.1 x.1 t.1 h.goes b.goes;
      acts_are = acts-then g h.marks b.marks (Ok s.0) ∙ ap (acts_then g b.marks) h.acts_are ∙ b.acts_are;
      local = λ z u goes alike.
          bind_goes (fst (tt, z)) snd (tt, before b.marks u) (Ok (tt, u))
          (h.local z (before b.marks u) (goes ∙ before_append h.marks b.marks u) (alike_before b.marks x.1 t.1 (before b.marks u) u b.goes refl alike))
          (b.local (before b.marks u) u refl alike);
    }
    then_by (Err e) b = record {
      marks = h.marks ++ b.marks;
      built = b.built;
      at = b.at;
      goes = Goes-then g h.marks b.marks s.1 x.1 b.at h.goes b.goes;
      acts_are = acts-then g h.marks b.marks (Ok s.0) ∙ ap (acts_then g b.marks) h.acts_are ∙ b.acts_are;
      why = elim b.why [
        | inl w ↦ inl (
          w.0,
          λ z u goes alike.
              bind_goes (fst (tt, z)) snd (tt, before b.marks u) (Err (front u))
              (h.local z (before b.marks u) (goes ∙ before_append h.marks b.marks u) (alike_before b.marks x.1 b.at (before b.marks u) u b.goes refl alike))
              (w.1 (before b.marks u) u refl alike),
        )
        | inr w ↦ inr w
      ];
    }

-- ---- a choice by the front token

-- snd readings that agree on what is alike
as_local : (g : Language) (fst snd : Bare g) (s : State g) (r : Reads g) → ((z : Stream g.Kind) → Alike s.1 z → snd (tt, z) ≡ fst (tt, z)) → Outcome g fst s r → Outcome g snd s r
as_local g fst snd s (Ok t) agree h = record {
  marks = h.marks;
  goes = h.goes;
  acts_are = h.acts_are;
  local = λ z u goes alike. agree z (alike_before h.marks s.1 t.1 z u h.goes goes alike) ∙ h.local z u goes alike;
}
as_local g fst snd s (Err e) agree h = record {
  marks = h.marks;
  built = h.built;
  at = h.at;
  goes = h.goes;
  acts_are = h.acts_are;
  why = elim h.why [
    | inl w ↦ inl (w.0, λ z u goes alike. agree z (alike_before h.marks s.1 h.at z u h.goes goes alike) ∙ w.1 z u goes alike)
    | inr w ↦ inr w
  ];
}

if_local : (g : Language) (b : g.Kind → Bool) (fst snd : Bare g) (s : State g) (c : Bool) (q r : Reads g) → b (front s.1).kind ≡ c → Outcome g fst s q → Outcome g snd s r
    → Outcome g (λ z. cond (b (front z.1).kind) (fst z) (snd z)) s (cond c q r)
if_local g b fst snd s true q r e h k = as_local g fst (λ z. cond (b (front z.1).kind) (fst z) (snd z)) s q (λ z alike. let f = ap (λ (x : Placed g.Kind). b x.kind) (sym (alike_front s.1 z alike)) ∙ e in rw f refl) h
if_local g b fst snd s false q r e h k = as_local g snd (λ z. cond (b (front z.1).kind) (fst z) (snd z)) s r (λ z alike. let f = ap (λ (x : Placed g.Kind). b x.kind) (sym (alike_front s.1 z alike)) ∙ e in rw f refl) k

ok_local : (g : Language) (s : State g) → Outcome g (λ z. Ok z) s (Ok s)
ok_local g s = record { marks = []; goes = refl; acts_are = refl; local = λ z u goes alike. ap (λ x. done (tt, x)) goes }

judge_local : (g : Language) (l : g.Label) (s : State g) (r : Result g.Built g.Fault) → g.judge l s.0 ≡ r → Outcome g (by_rule (bare g) None (does l)) s (acted g r s.1)
judge_local g l s (Ok n) e = record { marks = did l ∷ []; goes = refl; acts_are = acts_one g _ ∙ e; local = λ z u goes alike. ap (λ x. done (tt, x)) goes }
judge_local g l s (Err f) e = record { marks = []; built = s.0; at = s.1; goes = refl; acts_are = refl; why = inr (inr (l, e)) }

-- ---- several times

abbrev Consumes : (g : Language) → (State g → Reads g) → Type 0
Consumes g turn = (s t : State g) → turn s ≡ Ok t → length t.1.tokens < length s.1.tokens

-- any number above that of the tokens is enough
fuel_enough : (g : Language) (b : g.Kind → Bool) (turn : State g → Reads g) → Consumes g turn → (n m : ℕ) (s : State g) → length s.1.tokens < n → length s.1.tokens < m → repeated g n b turn s ≡ repeated g m b turn s
unfolding repeated
fuel_enough g b turn f zero m s p q = absurd (omega (arith, p))
fuel_enough g b turn f (suc n) zero s p q = absurd (omega (arith, q))
fuel_enough g b turn f (suc n) (suc m) s p q = fuel_by (turn s) refl (λ t l. fuel_enough g b turn f n m t (omega (arith, p, l)) (omega (arith, q, l)))
  where
    fuel_by : (r : Reads g) → turn s ≡ r → ((t : State g) → length t.1.tokens < length s.1.tokens → repeated g n b turn t ≡ repeated g m b turn t) → cond (b (front s.1).kind) (r >>= repeated g n b turn) (Ok s) ≡ cond (b (front s.1).kind) (r >>= repeated g m b turn) (Ok s)
    fuel_by (Ok t) e h = ap (λ z. cond (b (front s.1).kind) z (Ok s)) (h t (f s t e))
    fuel_by (Err d) e h = refl

abbrev all_turns : (g : Language) → (g.Kind → Bool) → Bare g → Bare g
all_turns g b turn z = repeated (bare g) (length z.1.tokens + 1) b turn z

all_step : (g : Language) (b : g.Kind → Bool) (turn : Bare g) → Consumes (bare g) turn → (z : State (bare g)) → all_turns g b turn z ≡ cond (b (front z.1).kind) (turn z >>= all_turns g b turn) (Ok z)
unfolding repeated
all_step g b turn f z = rw k (step_by (turn z) refl)
  where
    k : length z.1.tokens + 1 ≡ suc (length z.1.tokens)
    k = omega arith

    step_by : (r : Reads (bare g)) → turn z ≡ r → cond (b (front z.1).kind) (r >>= repeated (bare g) (length z.1.tokens) b turn) (Ok z) ≡ cond (b (front z.1).kind) (r >>= all_turns g b turn) (Ok z)
    step_by (Ok t) e = let l = f z t e in ap (λ x. cond (b (front z.1).kind) x (Ok z)) (fuel_enough (bare g) b turn f (length z.1.tokens) (length t.1.tokens + 1) t l (omega arith))
    step_by (Err d) e = refl

repeated_local : (g : Language) (b : g.Kind → Bool) (turn : State g → Reads g) (fst : Bare g) → Consumes g turn → Consumes (bare g) fst → ((s : State g) → Outcome g fst s (turn s)) → (n : ℕ) (s : State g) → length s.1.tokens < n → Outcome g (all_turns g b fst) s (repeated g n b turn s)
unfolding repeated
repeated_local g b turn fst f h k zero s lt = absurd (omega (arith, lt))
repeated_local g b turn fst f h k (suc n) s lt =
    as_local g (λ z. cond (b (front z.1).kind) (fst z >>= all_turns g b fst) (Ok z)) (all_turns g b fst) s _ (λ z alike. all_step g b fst h (tt, z))
    (if_local g b (λ z. fst z >>= all_turns g b fst) (λ z. Ok z) s (b (front s.1).kind) _ _ refl
    (then_local g fst (all_turns g b fst) s (turn s) (repeated g n b turn) (k s) (λ x e. let l = f s x e in repeated_local g b turn fst f h k n x (omega (arith, lt, l))))
    (ok_local g s))

goes_length : (g : Language) (ms : List (MarkOf g)) (s t : Stream g.Kind) → Goes g ms s t → length s.tokens ≡ length (tokens_of ms ++ t.tokens)
goes_length g ms s t e = ap (λ (z : Stream g.Kind). length z.tokens) e

some_length : (g : Language) (r : RuleOf g) (ts : List (Placed g.Kind)) → Opens g r ts → may_be_empty g r ≡ false → 0 < length ts
some_length g r [] o n = absurd cc
some_length g r (t ∷ ts) o n = omega arith

-- a rule that isn't empty takes a token
consumes : (g : Language) (depth : ℕ) (r : RuleOf g) → may_be_empty g r ≡ false → Consumes g (by_rule g (read_inner g depth) r)
consumes g depth r full s t e =
    let x = by_rule_sound g (read_inner g depth) (SpelledInner g depth) (inner_sound g depth) r s t e in
    let o = some_length g r (tokens_of x.marks) (opens g (SpelledInner g depth) r x.marks x.is) full in
    let l = goes_length g x.marks s.1 t.1 x.goes in
    omega (arith, o, l, length-append (tokens_of x.marks) t.1.tokens)

-- ---- every rule

abbrev LocalInner : (g : Language) → Readers g → Readers (bare g) → Type 0
LocalInner g None None = Unit {0}
LocalInner g None (Some read) = ⊥
LocalInner g (Some inner) None = ⊥
LocalInner g (Some inner) (Some read) = (r : g.Inner) (s : State g) → Outcome g (read r) s (inner r s)

bracketed_local : (g : Language) (inner : Readers g) (read : Readers (bare g)) → LocalInner g inner read → (k : g.Kind) (o : g.Label) (r : g.Inner) (c : g.Kind) (l : g.Label) (s : State g) → Outcome g (bracketed (bare g) k o read r c l) s (bracketed g k o inner r c l s)
bracketed_local g None None f k o r c l s = stops_here g (λ z. stop (bare g) z) s (λ z alike. refl)
bracketed_local g None (Some read) f k o r c l s = absurd f
bracketed_local g (Some inner) None f k o r c l s = absurd f
bracketed_local g (Some inner) (Some read) f k o r c l s =
    then_local g (λ z. take_one (bare g) k o z >>= read r) (take_one (bare g) c l) s (take_one g k o s >>= inner r) (take_one g c l)
    (then_local g (take_one (bare g) k o) (read r) s (take_one g k o s) (inner r) (one_local g k o s.0 s.1.tokens s.1.end) (λ x e. f r x))
    (λ x e. one_local g c l x.0 x.1.tokens x.1.end)

by_rule_local : (g : Language) → IsPlain g → (depth : ℕ) → LocalInner g (read_inner g depth) (read_inner (bare g) depth) → (r : RuleOf g) → is_plain g r ≡ true → (s : State g) → Outcome g (by_rule (bare g) (read_inner (bare g) depth) r) s (by_rule g (read_inner g depth) r s)
by_rule_local g p depth f (one k l) plain s = one_local g k l s.0 s.1.tokens s.1.end
by_rule_local g p depth f (does l) plain s = judge_local g l s (g.judge l s.0) refl
by_rule_local g p depth f (a then b) plain s =
    let nx = not (some_next g (begins g b) a) in
    let x = and_parts (nx && is_plain g a) (is_plain g b) plain in
    let y = and_parts nx (is_plain g a) x.0 in
    then_local g (by_rule (bare g) (read_inner (bare g) depth) a) (by_rule (bare g) (read_inner (bare g) depth) b) s (by_rule g (read_inner g depth) a s) (by_rule g (read_inner g depth) b) (by_rule_local g p depth f a y.1 s) (λ t e. by_rule_local g p depth f b x.1 t)
by_rule_local g p depth f (a or b) plain s =
    let n = not (may_be_empty g a) && not (may_be_empty g b) && not (some_first g (begins g b) a) in
    let x = and_parts (n && is_plain g a) (is_plain g b) plain in
    let y = and_parts n (is_plain g a) x.0 in
    if_local g (begins g a) (by_rule (bare g) (read_inner (bare g) depth) a) (by_rule (bare g) (read_inner (bare g) depth) b) s (begins g a (front s.1).kind) _ _ refl (by_rule_local g p depth f a y.1 s) (by_rule_local g p depth f b x.1 s)
by_rule_local g p depth f (maybe a) plain s =
    let x = and_parts (not (may_be_empty g a)) (is_plain g a) plain in
    if_local g (begins g a) (by_rule (bare g) (read_inner (bare g) depth) a) (λ z. Ok z) s (begins g a (front s.1).kind) _ _ refl (by_rule_local g p depth f a x.1 s) (ok_local g s)
by_rule_local g p depth f (many a) plain s =
    let nx = not (some_next g (begins g a) a) in
    let x = and_parts (not (may_be_empty g a) && nx) (is_plain g a) plain in
    let y = and_parts (not (may_be_empty g a)) nx x.0 in
    let full = not-true (may_be_empty g a) y.0 in
    repeated_local g (begins g a) (by_rule g (read_inner g depth) a) (by_rule (bare g) (read_inner (bare g) depth) a) (consumes g depth a full) (consumes (bare g) depth a full) (by_rule_local g p depth f a x.1) (length s.1.tokens + 1) s (omega arith)
by_rule_local g p depth f (chained a o l) plain s =
    let turn = o then (a then does l) in
    let q = plain_long g a o l plain in
    let r = plain_turn g a o l q.3 in
    let of_a = by_rule_local g p depth f a q.4 in
    let of_o = by_rule_local g p depth f o r.1 in
    let rd = read_inner g depth in
    let bd = read_inner (bare g) depth in
    let rest : (t : State g) → Outcome g (by_rule (bare g) bd (a then does l)) t (by_rule g rd (a then does l) t) =
    λ t. then_local g (by_rule (bare g) bd a) (by_rule (bare g) bd (does l)) t (by_rule g rd a t) (by_rule g rd (does l)) (of_a t) (λ u e. judge_local g l u (g.judge l u.0) refl) in
    let of_turn : (t : State g) → Outcome g (by_rule (bare g) bd turn) t (by_rule g rd turn t) =
    λ t. then_local g (by_rule (bare g) bd o) (by_rule (bare g) bd (a then does l)) t (by_rule g rd o t) (by_rule g rd (a then does l)) (of_o t) (λ u e. rest u) in
    then_local g (by_rule (bare g) bd a) (by_rule (bare g) bd (many turn)) s (by_rule g rd a s) (by_rule g rd (many turn)) (of_a s)
    (λ t e. repeated_local g (begins g turn) (by_rule g rd turn) (by_rule (bare g) bd turn) (consumes g depth turn q.1) (consumes (bare g) depth turn q.1) of_turn (length t.1.tokens + 1) t (omega arith))
by_rule_local g p depth f (nested k o r c l) plain s = bracketed_local g (read_inner g depth) (read_inner (bare g) depth) f k o r c l s

inner_local : (g : Language) → IsPlain g → (depth : ℕ) → LocalInner g (read_inner g depth) (read_inner (bare g) depth)
unfolding read_inner
inner_local g p zero = tt
inner_local g p (suc depth) = λ r s. by_rule_local g p depth (inner_local g p depth) (g.inside r) (p.inside_is r) s

pub read_local : (g : Language) → IsPlain g → (depth : ℕ) (r : RuleOf g) → is_plain g r ≡ true → (s : State g) → Outcome g (read_rule (bare g) depth r) s (read_rule g depth r s)
unfolding read_rule
read_local g p depth r plain s = by_rule_local g p depth (inner_local g p depth) r plain s
