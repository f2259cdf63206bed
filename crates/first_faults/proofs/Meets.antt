-- A label that is refused at a token is met where a text goes on so, whatever comes after the token.
use Rattle.std.proofs.Common.{◌≡◌, ◌⊎◌, ℕ, zero, suc, ◌+◌, ◌<◌, Bool, true, false, not, List, [], ◌∷◌, ◌++◌, length, Some, None, Result, Ok, Err, refl, sym, ap, subst, ◌∙◌, append_assoc, length-append, inl, inr, arith}
use Rattle.std.proofs.lemmas.Bool.{and_parts, not-true}
use Rattle.std.specs.Prelude.{◌&&◌}
use Rattle.grammar.specs.Rules.{one, does, ◌then◌, ◌or◌, maybe, many, chained, nested}
use Rattle.grammar.specs.Language.{Placed, Language, RuleOf}
use Rattle.grammar.specs.Reading.{Stream, stream, State, Reads, Readers, ◌>>=◌, front, first_or, take_one, may_be_empty, begins, repeated, bracketed, by_rule, read_inner, read_rule}
use Rattle.grammar.specs.Grammar.{took, did, MarkOf, Parts, Spelled, SpelledInner, tokens_of, Goes, acts}
use Rattle.grammar.specs.Plain.{goes_on, some_first, some_next, is_plain, IsPlain}
use Rattle.grammar.proofs.Basics.{false_unless, ok_is, before, before_append, acts_one, acts_split, tokens_append}
use Rattle.grammar.proofs.First.{first_has, next_has, Opens, opens}
use Rattle.grammar.proofs.Sound.{IsOne}
use Rattle.grammar.proofs.Complete.{read_complete, plain_long, plain_turn}
use Rattle.first_faults.specs.Beginnings.{InBrackets, Begun, BegunInner, Beginning}
use Rattle.first_faults.proofs.Begun.{whole_begun, inner_begun, FirstOf, begun_first}

-- ---- lists that are one list after another

pub not_nil : {X : Type 0} (m : List X) (k : X) (ks : List X) → [] ≡ m ++ k ∷ ks → ⊥
not_nil [] k ks e = absurd cc
not_nil (x ∷ m) k ks e = absurd cc

pub alone : {X : Type 0} (x : X) (m : List X) (k : X) (ks : List X) → x ∷ [] ≡ m ++ k ∷ ks → (m ≡ []) × (x ≡ k)
alone x [] k ks e = (refl, cc)
alone x (y ∷ m) k ks e = let t : [] ≡ m ++ k ∷ ks = cc in absurd (not_nil m k ks t)

-- an item of two lists is in the first or in the second
pub in_either : {X : Type 0} (x y m : List X) (k : X) (ks : List X) → x ++ y ≡ m ++ k ∷ ks
    → ((rest : List X) × (x ≡ m ++ k ∷ rest)) ⊎ ((n : List X) × (m ≡ x ++ n) × (y ≡ n ++ k ∷ ks))
in_either [] y m k ks e = inr (m, refl, e)
in_either (a ∷ x) y [] k ks e = inl (x, cc)
in_either (a ∷ x) y (d ∷ m) k ks e =
    let t : x ++ y ≡ m ++ k ∷ ks = cc in
    elim (in_either x y m k ks t) [
      | inl h ↦ let f = h.1 in inl (h.0, cc)
      | inr h ↦ let f = h.1 in inr (h.0, cc, h.2)
    ]

-- ---- where a label is refused at a token

-- along these marks, from there, this label is refused at a token
pub record Refusal (g : Language) (z : List (MarkOf g)) (b : g.Built) (s : Stream g.Kind) (f : g.Fault) : Type 0 where
  pub m : List (MarkOf g)
  pub l : g.Label
  pub u : Placed g.Kind
  pub ks : List (MarkOf g)
  pub c : g.Built
  pub us : List (Placed g.Kind)
  pub end : Placed g.Kind
  pub is : z ≡ m ++ took l u ∷ ks
  pub acts_are : acts g m b ≡ Ok c
  pub refused : g.act l u c ≡ Err f
  pub goes : s ≡ before m (stream (u ∷ us) end)

-- the first part is done, and the refusal is in the second
pub record Later (g : Language) (x y : List (MarkOf g)) (b : g.Built) (s : Stream g.Kind) (f : g.Fault) : Type 0 where
  pub c : g.Built
  pub t : Stream g.Kind
  pub acts_are : acts g x b ≡ Ok c
  pub goes : Goes g x s t
  pub rest : Refusal g y c t f

pub parted : (g : Language) (x y : List (MarkOf g)) (b : g.Built) (s : Stream g.Kind) (f : g.Fault) → Refusal g (x ++ y) b s f → Refusal g x b s f ⊎ Later g x y b s f
parted g x y b s f r =
    elim (in_either x y r.m (took r.l r.u) r.ks r.is) [
      | inl h ↦ inl (record { m = r.m; l = r.l; u = r.u; ks = h.0; c = r.c; us = r.us; end = r.end; is = h.1; acts_are = r.acts_are; refused = r.refused; goes = r.goes })
      | inr h ↦
          let along = acts_split g x h.0 b r.c (ap (λ z. acts g z b) (sym h.1) ∙ r.acts_are) in
          let w = stream (r.u ∷ r.us) r.end in
          inr (record {
            c = along.0;
            t = before h.0 w;
            acts_are = along.1;
            goes = r.goes ∙ ap (λ z. before z w) h.1 ∙ before_append x h.0 w;
            rest = record { m = h.0; l = r.l; u = r.u; ks = r.ks; c = r.c; us = r.us; end = r.end; is = h.2; acts_are = along.2; refused = r.refused; goes = refl };
          })
    ]

same_refusal : (g : Language) (x y : List (MarkOf g)) (b : g.Built) (s : Stream g.Kind) (f : g.Fault) → x ≡ y → Refusal g x b s f → Refusal g y b s f
same_refusal g x y b s f e r = subst (λ z. Refusal g z b s f) e r

first_here : (g : Language) (r : RuleOf g) (ts : List (Placed g.Kind)) (u : Placed g.Kind) (ks us : List (Placed g.Kind)) (end : Placed g.Kind) → FirstOf g r (ts ++ u ∷ ks) → begins g r (first_or (ts ++ u ∷ us) end).kind ≡ true
first_here g r [] u ks us end h = h
first_here g r (t ∷ ts) u ks us end h = h

-- the front token begins the rule
pub begun_front : (g : Language) (w n : InBrackets g) (r : RuleOf g) (z : List (MarkOf g)) → Begun g w n r z → (b : g.Built) (s : Stream g.Kind) (f : g.Fault) → Refusal g z b s f → begins g r (front s).kind ≡ true
begun_front g w n r z h b s f x =
    let first : FirstOf g r (tokens_of x.m ++ x.u ∷ tokens_of x.ks) = subst (λ t. FirstOf g r t) (ap (λ t. tokens_of t) x.is ∙ tokens_append x.m (took x.l x.u ∷ x.ks)) (begun_first g w n r z h) in
    ap (λ (t : Stream g.Kind). begins g r (front t).kind) x.goes ∙ first_here g r (tokens_of x.m) x.u (tokens_of x.ks) x.us x.end first

-- ---- what a plain grammar tells by one token

not_first : (g : Language) → IsPlain g → (such : g.Kind → Bool) (r : RuleOf g) (kind : g.Kind) → not (some_first g such r) ≡ true → such kind ≡ true → begins g r kind ≡ false
not_first g p such r kind n h = false_unless (begins g r kind) (λ b. let e = first_has g p.same_is such r kind b h in let f = not-true (some_first g such r) n in absurd cc)

not_next : (g : Language) → IsPlain g → (such : g.Kind → Bool) (r : RuleOf g) (kind : g.Kind) → not (some_next g such r) ≡ true → such kind ≡ true → goes_on g r kind ≡ false
not_next g p such r kind n h = false_unless (goes_on g r kind) (λ b. let e = next_has g p.same_is such r kind b h in let f = not-true (some_next g such r) n in absurd cc)

-- ---- reading meets the refusal

abbrev Meets : (g : Language) → (State g → Reads g) → (List (MarkOf g) → Type 0) → Type 0
Meets g read begun = (z : List (MarkOf g)) → begun z → (b : g.Built) (s : Stream g.Kind) (f : g.Fault) → Refusal g z b s f → read (b, s) ≡ Err f

abbrev Complete : (g : Language) → (State g → Reads g) → (List (MarkOf g) → Type 0) → (g.Kind → Bool) → Type 0
Complete g read whole more = (ms : List (MarkOf g)) → whole ms → (b c : g.Built) → acts g ms b ≡ Ok c → (s t : Stream g.Kind) → Goes g ms s t → more (front t).kind ≡ false → read (b, s) ≡ Ok (c, t)

pub stays_err : {A E : Type 0} (r : Result A E) (f : A → Result A E) (e : E) → r ≡ Err e → (r >>= f) ≡ Err e
stays_err r f e h = rw h refl

pub goes_on_to : {A E : Type 0} (r : Result A E) (f : A → Result A E) (x : A) (y : Result A E) → r ≡ Ok x → f x ≡ y → (r >>= f) ≡ y
goes_on_to r f x y h e = rw h e

refused_here : (g : Language) (k : g.Kind) (l : g.Label) (u : Placed g.Kind) (b : g.Built) (f : g.Fault) (s : Stream g.Kind) (us : List (Placed g.Kind)) (end : Placed g.Kind) → g.same u.kind k ≡ true → g.act l u b ≡ Err f → s ≡ stream (u ∷ us) end → take_one g k l (b, s) ≡ Err f
unfolding take_one
refused_here g k l u b f s us end is e goes = rw (goes, is, e) refl

taken : (g : Language) (k : g.Kind) (l : g.Label) (u : Placed g.Kind) (b c : g.Built) (s t : Stream g.Kind) → g.same u.kind k ≡ true → g.act l u b ≡ Ok c → s ≡ stream (u ∷ t.tokens) t.end → take_one g k l (b, s) ≡ Ok (c, t)
unfolding take_one
taken g k l u b c s t is e goes = rw (goes, is, e) refl

one_by : (g : Language) (k : g.Kind) (l v : g.Label) (t u : Placed g.Kind) (m : List (MarkOf g)) (b c : g.Built) (f : g.Fault) (s : Stream g.Kind) (us : List (Placed g.Kind)) (end : Placed g.Kind)
    → g.same t.kind k ≡ true → m ≡ [] → took l t ≡ took v u → acts g m b ≡ Ok c → g.act v u c ≡ Err f → s ≡ before m (stream (u ∷ us) end) → take_one g k l (b, s) ≡ Err f
one_by g k l v t u m b c f s us end is none same along bad goes =
    let lab : l ≡ v = cc in
    let tok : t ≡ u = cc in
    let here : acts g [] b ≡ Ok c = ap (λ z. acts g z b) (sym none) ∙ along in
    let built : b ≡ c = ok_is b c (sym (acts_one g (Ok b)) ∙ here) in
    let at : s ≡ stream (u ∷ us) end = goes ∙ ap (λ z. before z (stream (u ∷ us) end)) none in
    refused_here g k l u b f s us end (ap (λ (z : Placed g.Kind). g.same z.kind k) (sym tok) ∙ is) (ap (λ z. g.act z u b) lab ∙ ap (λ z. g.act v u z) built ∙ bad) at

one_meets : (g : Language) (k : g.Kind) (l : g.Label) → Meets g (take_one g k l) (IsOne g k l)
one_meets g k l z h b s f x =
    let a = alone (took l h.0) x.m (took x.l x.u) x.ks (sym h.2 ∙ x.is) in
    one_by g k l x.l h.0 x.u x.m b x.c f s x.us x.end h.1 a.0 a.1 x.acts_are x.refused x.goes

abbrev MeetsRule : (g : Language) → ℕ → RuleOf g → Type 0
MeetsRule g depth r = Meets g (by_rule g (read_inner g depth) r) (Begun g (SpelledInner g depth) (BegunInner g depth) r)

does_meets : (g : Language) (depth : ℕ) (l : g.Label) → MeetsRule g depth (does l)
does_meets g depth l z (inl e) b s f x = absurd (not_nil x.m (took x.l x.u) x.ks (sym e ∙ x.is))
does_meets g depth l z (inr e) b s f x = let a = alone (did l) x.m (took x.l x.u) x.ks (sym e ∙ x.is) in let d = a.1 in absurd cc

abbrev CompleteRule : (g : Language) → ℕ → RuleOf g → Type 0
CompleteRule g depth r = Complete g (by_rule g (read_inner g depth) r) (Spelled g (SpelledInner g depth) r) (goes_on g r)

complete : (g : Language) → IsPlain g → (depth : ℕ) (r : RuleOf g) → is_plain g r ≡ true → CompleteRule g depth r
unfolding read_rule
complete g p depth r plain ms h b c e s t goes over = read_complete g p depth r plain ms h (b, s) (c, t) goes e over

then_meets : (g : Language) → IsPlain g → (depth : ℕ) (a b : RuleOf g) → not (some_next g (begins g b) a) ≡ true → CompleteRule g depth a → MeetsRule g depth a → MeetsRule g depth b → MeetsRule g depth (a then b)
then_meets g p depth a b nx done f k z (inl h) q s d x = stays_err (by_rule g (read_inner g depth) a (q, s)) (by_rule g (read_inner g depth) b) d (f z h q s d x)
then_meets g p depth a b nx done f k z (inr h) q s d x =
    let w = SpelledInner g depth in
    let n = BegunInner g depth in
    let fst = by_rule g (read_inner g depth) a in
    let snd = by_rule g (read_inner g depth) b in
    elim (parted g h.0 h.1 q s d (same_refusal g z (h.0 ++ h.1) q s d h.4 x)) [
      | inl r ↦ stays_err (fst (q, s)) snd d (f h.0 (whole_begun g w n a h.0 h.2) q s d r)
      | inr r ↦
          let off = not_next g p (begins g b) a (front r.t).kind nx (begun_front g w n b h.1 h.3 r.c r.t d r.rest) in
          goes_on_to (fst (q, s)) snd (r.c, r.t) (Err d) (done h.0 h.2 q r.c r.acts_are s r.t r.goes off) (k h.1 h.3 r.c r.t d r.rest)
    ]

shorter : {X : Type 0} (n : ℕ) (ws xs ys : List X) → ws ≡ xs ++ ys → 0 < length xs → length ws < suc n → length ys < n
shorter n ws xs ys e some le = omega (arith, ap (λ z. length z) e, length-append xs ys, some, le)

some_tokens : (g : Language) (r : RuleOf g) (ts : List (Placed g.Kind)) → Opens g r ts → may_be_empty g r ≡ false → 0 < length ts
some_tokens g r [] o n = absurd cc
some_tokens g r (t ∷ ts) o n = omega arith

repeated_meets : (g : Language) → IsPlain g → (depth : ℕ) (a : RuleOf g) → CompleteRule g depth a → MeetsRule g depth a → may_be_empty g a ≡ false → not (some_next g (begins g a) a) ≡ true
    → (fuel n : ℕ) (x y z : List (MarkOf g)) → Parts g (Spelled g (SpelledInner g depth) a) n x → Begun g (SpelledInner g depth) (BegunInner g depth) a y → z ≡ x ++ y
    → (b : g.Built) (s : Stream g.Kind) (f : g.Fault) → Refusal g z b s f → length s.tokens < fuel → repeated g fuel (begins g a) (by_rule g (read_inner g depth) a) (b, s) ≡ Err f
unfolding repeated
repeated_meets g p depth a done k full next zero n x y z h begun e b s f r lt = absurd (omega (arith, lt))
repeated_meets g p depth a done k full next (suc fuel) zero x y z h begun e b s f r lt =
    let turn = by_rule g (read_inner g depth) a in
    let is : z ≡ y = e ∙ ap (λ t. t ++ y) h in
    let here = same_refusal g z y b s f is r in
    let on : begins g a (front s).kind ≡ true = begun_front g (SpelledInner g depth) (BegunInner g depth) a y begun b s f here in
    rw on (stays_err (turn (b, s)) (repeated g fuel (begins g a) turn) f (k y begun b s f here))
repeated_meets g p depth a done k full next (suc fuel) (suc n) x y z h begun e b s f r lt =
    let w = SpelledInner g depth in
    let m = BegunInner g depth in
    let turn = by_rule g (read_inner g depth) a in
    let is : z ≡ h.0 ++ (h.1 ++ y) = e ∙ ap (λ t. t ++ y) h.4 ∙ append_assoc h.0 h.1 y in
    let here = same_refusal g z (h.0 ++ (h.1 ++ y)) b s f is r in
    let on : begins g a (front s).kind ≡ true = begun_front g w m (many a) z (x, y, (suc n, h), begun, e) b s f r in
    elim (parted g h.0 (h.1 ++ y) b s f here) [
      | inl q ↦ rw on (stays_err (turn (b, s)) (repeated g fuel (begins g a) turn) f (k h.0 (whole_begun g w m a h.0 h.2) b s f q))
      | inr q ↦
          let off = not_next g p (begins g a) a (front q.t).kind next (begun_front g w m (many a) (h.1 ++ y) (h.1, y, (n, h.3), begun, refl) q.c q.t f q.rest) in
          let len : length q.t.tokens < fuel = shorter fuel s.tokens (tokens_of h.0) q.t.tokens (ap (λ (t : Stream g.Kind). t.tokens) q.goes) (some_tokens g a (tokens_of h.0) (opens g w a h.0 h.2) full) lt in
          rw on (goes_on_to (turn (b, s)) (repeated g fuel (begins g a) turn) (q.c, q.t) (Err f) (done h.0 h.2 b q.c q.acts_are s q.t q.goes off)
          (repeated_meets g p depth a done k full next fuel n h.1 y (h.1 ++ y) h.3 begun refl q.c q.t f q.rest len))
    ]

many_meets : (g : Language) → IsPlain g → (depth : ℕ) (a : RuleOf g) → CompleteRule g depth a → MeetsRule g depth a → may_be_empty g a ≡ false → not (some_next g (begins g a) a) ≡ true → MeetsRule g depth (many a)
many_meets g p depth a done k full next z h b s f r = repeated_meets g p depth a done k full next (length s.tokens + 1) h.2.0 h.0 h.1 z h.2.1 h.3 h.4 b s f r (omega arith)

-- ---- brackets

abbrev MeetsInner : (g : Language) → Readers g → InBrackets g → Type 0
MeetsInner g None begun = (r : g.Inner) (ms : List (MarkOf g)) → begun r ms → ⊥
MeetsInner g (Some inner) begun = (r : g.Inner) → Meets g (inner r) (begun r)

abbrev CompleteInner : (g : Language) → Readers g → InBrackets g → Type 0
CompleteInner g None whole = (r : g.Inner) (ms : List (MarkOf g)) → whole r ms → ⊥
CompleteInner g (Some inner) whole = (r : g.Inner) → Complete g (inner r) (whole r) (goes_on g (g.inside r))

abbrev InnerBegun : (g : Language) → InBrackets g → InBrackets g → Type 0
InnerBegun g whole begun = (r : g.Inner) (ms : List (MarkOf g)) → whole r ms → begun r ms

-- the opening token was taken, or is where the refusal is
opened : (g : Language) (k : g.Kind) (o : g.Label) (t : Placed g.Kind) (x : List (MarkOf g)) (b : g.Built) (s : Stream g.Kind) (f : g.Fault) → g.same t.kind k ≡ true → Refusal g (took o t ∷ x) b s f
    → (take_one g k o (b, s) ≡ Err f) ⊎ ((c : g.Built) × (v : Stream g.Kind) × (take_one g k o (b, s) ≡ Ok (c, v)) × Refusal g x c v f)
opened g k o t x b s f is r =
    elim (parted g (took o t ∷ []) x b s f r) [
      | inl q ↦ inl (one_meets g k o (took o t ∷ []) (t, is, refl) b s f q)
      | inr q ↦ inr (q.c, q.t, taken g k o t b q.c s q.t is (sym (acts_one g _) ∙ q.acts_are) q.goes, q.rest)
    ]

nested_meets : (g : Language) → IsPlain g → (inner : Readers g) (w n : InBrackets g) → CompleteInner g inner w → MeetsInner g inner n → InnerBegun g w n → (k : g.Kind) (o : g.Label) (r : g.Inner) (c : g.Kind) (l : g.Label)
    → goes_on g (g.inside r) c ≡ false → Meets g (bracketed g k o inner r c l) (Begun g w n (nested k o r c l))
nested_meets g p inner w n done f all k o r c l off z (inl e) b s d x = absurd (not_nil x.m (took x.l x.u) x.ks (sym e ∙ x.is))
nested_meets g p None w n done f all k o r c l off z (inr (inl h)) b s d x = absurd (f r h.1 h.3)
nested_meets g p (Some inner) w n done f all k o r c l off z (inr (inl h)) b s d x =
    let fst = take_one g k o in
    let last = take_one g c l in
    elim (opened g k o h.0 h.1 b s d h.2 (same_refusal g z (took o h.0 ∷ h.1) b s d h.4 x)) [
      | inl e ↦ stays_err (fst (b, s) >>= inner r) last d (stays_err (fst (b, s)) (inner r) d e)
      | inr q ↦ stays_err (fst (b, s) >>= inner r) last d (goes_on_to (fst (b, s)) (inner r) (q.0, q.1) (Err d) q.2 (f r h.1 h.3 q.0 q.1 d q.3))
    ]
nested_meets g p None w n done f all k o r c l off z (inr (inr h)) b s d x = absurd (done r h.1 h.4)
nested_meets g p (Some inner) w n done f all k o r c l off z (inr (inr h)) b s d x =
    let fst = take_one g k o in
    let last = take_one g c l in
    let v = h.2 in
    elim (opened g k o h.0 (h.1 ++ took l v ∷ []) b s d h.3 (same_refusal g z (took o h.0 ∷ h.1 ++ took l v ∷ []) b s d h.6 x)) [
      | inl e ↦ stays_err (fst (b, s) >>= inner r) last d (stays_err (fst (b, s)) (inner r) d e)
      | inr q ↦
          elim (parted g h.1 (took l v ∷ []) q.0 q.1 d q.3) [
            | inl y ↦ stays_err (fst (b, s) >>= inner r) last d (goes_on_to (fst (b, s)) (inner r) (q.0, q.1) (Err d) q.2 (f r h.1 (all r h.1 h.4) q.0 q.1 d y))
            | inr y ↦
                let here : g.same (front y.t).kind c ≡ true = begun_front g w n (one c l) (took l v ∷ []) (inr (v, h.5, refl)) y.c y.t d y.rest in
                let over : goes_on g (g.inside r) (front y.t).kind ≡ false = ap (goes_on g (g.inside r)) (p.same_is (front y.t).kind c here) ∙ off in
                goes_on_to (fst (b, s) >>= inner r) last (y.c, y.t) (Err d)
                (goes_on_to (fst (b, s)) (inner r) (q.0, q.1) (Ok (y.c, y.t)) q.2 (done r h.1 h.4 q.0 y.c y.acts_are q.1 y.t y.goes over))
                (one_meets g c l (took l v ∷ []) (v, h.5, refl) y.c y.t d y.rest)
          ]
    ]

-- ---- every rule

plain_or : (g : Language) (x y : RuleOf g) → is_plain g (x or y) ≡ true → (not (some_first g (begins g y) x) ≡ true) × (is_plain g x ≡ true) × (is_plain g y ≡ true)
plain_or g x y plain =
    let a = not (may_be_empty g x) in
    let b = not (may_be_empty g y) in
    let c = not (some_first g (begins g y) x) in
    let one = and_parts (a && b && c && is_plain g x) (is_plain g y) plain in
    let two = and_parts (a && b && c) (is_plain g x) one.0 in
    let three = and_parts (a && b) c two.0 in
    (three.1, two.1, one.1)

rule_meets : (g : Language) → IsPlain g → (depth : ℕ) → CompleteInner g (read_inner g depth) (SpelledInner g depth) → MeetsInner g (read_inner g depth) (BegunInner g depth) → (r : RuleOf g) → is_plain g r ≡ true → MeetsRule g depth r
rule_meets g p depth done inner (one k l) plain z (inl e) b s f x = absurd (not_nil x.m (took x.l x.u) x.ks (sym e ∙ x.is))
rule_meets g p depth done inner (one k l) plain z (inr h) b s f x = one_meets g k l z h b s f x
rule_meets g p depth done inner (does l) plain z h b s f x = does_meets g depth l z h b s f x
rule_meets g p depth done inner (a then b) plain z h q s f x =
    let nx = not (some_next g (begins g b) a) in
    let one = and_parts (nx && is_plain g a) (is_plain g b) plain in
    let two = and_parts nx (is_plain g a) one.0 in
    then_meets g p depth a b two.0 (complete g p depth a two.1) (rule_meets g p depth done inner a two.1) (rule_meets g p depth done inner b one.1) z h q s f x
rule_meets g p depth done inner (a or b) plain z (inl h) q s f x =
    let one = plain_or g a b plain in
    let on : begins g a (front s).kind ≡ true = begun_front g (SpelledInner g depth) (BegunInner g depth) a z h q s f x in
    rw on (rule_meets g p depth done inner a one.1 z h q s f x)
rule_meets g p depth done inner (a or b) plain z (inr h) q s f x =
    let one = plain_or g a b plain in
    let on : begins g b (front s).kind ≡ true = begun_front g (SpelledInner g depth) (BegunInner g depth) b z h q s f x in
    let off : begins g a (front s).kind ≡ false = not_first g p (begins g b) a (front s).kind one.0 on in
    rw off (rule_meets g p depth done inner b one.2 z h q s f x)
rule_meets g p depth done inner (maybe a) plain z h q s f x =
    let one = and_parts (not (may_be_empty g a)) (is_plain g a) plain in
    let on : begins g a (front s).kind ≡ true = begun_front g (SpelledInner g depth) (BegunInner g depth) a z h q s f x in
    rw on (rule_meets g p depth done inner a one.1 z h q s f x)
rule_meets g p depth done inner (many a) plain z h q s f x =
    let nx = not (some_next g (begins g a) a) in
    let one = and_parts (not (may_be_empty g a) && nx) (is_plain g a) plain in
    let two = and_parts (not (may_be_empty g a)) nx one.0 in
    many_meets g p depth a (complete g p depth a one.1) (rule_meets g p depth done inner a one.1) (not-true (may_be_empty g a) two.0) two.1 z h q s f x
rule_meets g p depth done inner (chained a o l) plain z h q s f x =
    let turn = o then (a then does l) in
    let y = plain_long g a o l plain in
    let v = plain_turn g a o l y.3 in
    let of_a = rule_meets g p depth done inner a y.4 in
    let of_o = rule_meets g p depth done inner o v.1 in
    let of_turn : MeetsRule g depth turn = then_meets g p depth o (a then does l) v.0 (complete g p depth o v.1) of_o (then_meets g p depth a (does l) v.2 (complete g p depth a y.4) of_a (does_meets g depth l)) in
    then_meets g p depth a (many turn) y.0 (complete g p depth a y.4) of_a (many_meets g p depth turn (complete g p depth turn y.3) of_turn y.1 y.2) z h q s f x
rule_meets g p depth done inner (nested k o r c l) plain z h b s f x =
    nested_meets g p (read_inner g depth) (SpelledInner g depth) (BegunInner g depth) done inner (inner_begun g depth) k o r c l (not-true (goes_on g (g.inside r) c) plain) z h b s f x

inner_complete : (g : Language) → IsPlain g → (depth : ℕ) → CompleteInner g (read_inner g depth) (SpelledInner g depth)
unfolding read_inner SpelledInner
inner_complete g p zero = λ r ms h. h
inner_complete g p (suc depth) = λ r. complete g p depth (g.inside r) (p.inside_is r)

inner_meets : (g : Language) → IsPlain g → (depth : ℕ) → MeetsInner g (read_inner g depth) (BegunInner g depth)
unfolding read_inner BegunInner
inner_meets g p zero = λ r ms h. h
inner_meets g p (suc depth) = λ r. rule_meets g p depth (inner_complete g p depth) (inner_meets g p depth) (g.inside r) (p.inside_is r)

-- where a text goes on so, what is refused at a token is the reading's fault
pub read_meets : (g : Language) → IsPlain g → (depth : ℕ) (r : RuleOf g) → is_plain g r ≡ true → (z : List (MarkOf g)) → Beginning g depth r z → (b : g.Built) (s : Stream g.Kind) (f : g.Fault) → Refusal g z b s f → read_rule g depth r (b, s) ≡ Err f
unfolding read_rule
read_meets g p depth r plain z h b s f x = rule_meets g p depth (inner_complete g p depth) (inner_meets g p depth) r plain z h b s f x
