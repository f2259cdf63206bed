-- Choices, results and what comes before.
use Rattle.std.proofs.Common.{◌≡◌, ◌⊎◌, Bool, true, false, cond, not, List, [], ◌∷◌, ◌++◌, Result, Ok, Err, refl, sym, ap, subst, ◌∙◌, append_assoc, inl, inr}
use Rattle.std.specs.Prelude.{◌||◌, ◌&&◌}
use Rattle.grammar.specs.Language.{Placed, Language}
use Rattle.grammar.specs.Reading.{Stream, stream, ◌>>=◌}
use Rattle.grammar.specs.Grammar.{Mark, took, did, MarkOf, tokens_of, Goes, act_mark, acts_then, acts}

pub or_true : (a b : Bool) → (a || b) ≡ true → (a ≡ true) ⊎ (b ≡ true)
or_true true b e = inl refl
or_true false b e = inr e

pub false_unless : (a : Bool) → (a ≡ true → ⊥) → a ≡ false
false_unless true h = absurd (h refl)
false_unless false h = refl

pub bind_ok : {A E : Type 0} (r : Result A E) (f : A → Result A E) (y : A) → (r >>= f) ≡ Ok y → (x : A) × (r ≡ Ok x) × (f x ≡ Ok y)
bind_ok (Ok x) f y e = (x, refl, e)
bind_ok (Err d) f y e = absurd cc

pub bind_err : {A E : Type 0} (r : Result A E) (f : A → Result A E) (d : E) → (r >>= f) ≡ Err d → (r ≡ Err d) ⊎ ((x : A) × (r ≡ Ok x) × (f x ≡ Err d))
bind_err (Ok x) f d e = inr (x, refl, e)
bind_err (Err c) f d e = inl e

abbrev done : {A E : Type 0} → A → Result A E
done x = Ok x

pub ok_is : {A E : Type 0} (x y : A) → done {A = A} {E = E} x ≡ done y → x ≡ y
ok_is x y e = cc

pub chosen : {X : Type 0} (b : Bool) (x y z : X) → cond b x y ≡ z → ((b ≡ true) × (x ≡ z)) ⊎ ((b ≡ false) × (y ≡ z))
chosen true x y z e = inl (refl, e)
chosen false x y z e = inr (refl, e)

pub tokens_append : {K L : Type 0} (x y : List (Mark K L)) → tokens_of (x ++ y) ≡ tokens_of x ++ tokens_of y
tokens_append [] y = refl
tokens_append (took l t ∷ ms) y = ap (λ z. t ∷ z) (tokens_append ms y)
tokens_append (did l ∷ ms) y = tokens_append ms y

-- the stream after the first of two
abbrev pub before : {K L : Type 0} → List (Mark K L) → Stream K → Stream K
before ms t = stream (tokens_of ms ++ t.tokens) t.end

pub before_append : {K L : Type 0} (x y : List (Mark K L)) (t : Stream K) → before (x ++ y) t ≡ before x (before y t)
before_append x y t = ap (λ z. stream z t.end) (ap (λ z. z ++ t.tokens) (tokens_append x y) ∙ append_assoc (tokens_of x) (tokens_of y) t.tokens)

pub Goes-then : (g : Language) (x y : List (MarkOf g)) (a b c : Stream g.Kind) → Goes g x a b → Goes g y b c → Goes g (x ++ y) a c
Goes-then g x y a b c p q = p ∙ ap (before x) q ∙ sym (before_append x y c)

pub acts-then : (g : Language) (x y : List (MarkOf g)) (r : Result g.Built g.Fault) → acts_then g (x ++ y) r ≡ acts_then g y (acts_then g x r)
acts-then g [] y (Ok n) = refl
acts-then g [] y (Err c) = refl
acts-then g (m ∷ ms) y (Ok n) = acts-then g ms y (act_mark g m n)
acts-then g (m ∷ ms) [] (Err c) = refl
acts-then g (m ∷ ms) (k ∷ ks) (Err c) = refl

pub acts_one : (g : Language) (r : Result g.Built g.Fault) → acts_then g [] r ≡ r
acts_one g (Ok n) = refl
acts_one g (Err c) = refl

acts_ok_of : (g : Language) (y : List (MarkOf g)) (r : Result g.Built g.Fault) (c : g.Built) → acts_then g y r ≡ Ok c → (m : g.Built) × (r ≡ Ok m)
acts_ok_of g y (Ok m) c e = (m, refl)
acts_ok_of g [] (Err f) c e = absurd cc
acts_ok_of g (k ∷ ks) (Err f) c e = absurd cc

-- what is done along two lists was done along the first
pub acts_split : (g : Language) (x y : List (MarkOf g)) (b c : g.Built) → acts g (x ++ y) b ≡ Ok c → (m : g.Built) × (acts g x b ≡ Ok m) × (acts g y m ≡ Ok c)
acts_split g x y b c e =
    let both : acts_then g y (acts g x b) ≡ Ok c = sym (acts-then g x y (Ok b)) ∙ e in
    let m = acts_ok_of g y (acts g x b) c both in
    (m.0, m.1, ap (acts_then g y) (sym m.1) ∙ both)
