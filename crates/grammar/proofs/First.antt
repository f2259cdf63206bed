-- The first tokens of what a rule spells, and those that go on after it.
use Rattle.std.proofs.Common.{◌≡◌, ◌⊎◌, ℕ, zero, suc, ◌+◌, Bool, true, false, not, List, [], ◌∷◌, ◌++◌, length, Option, Some, None, Result, Ok, Err, refl, sym, ap, subst, ◌∙◌, append_assoc, inl, inr}
use Rattle.std.proofs.lemmas.Bool.{and_parts}
use Rattle.std.specs.Prelude.{◌||◌, ◌&&◌}
use Rattle.grammar.specs.Rules.{Rule, one, does, ◌then◌, ◌or◌, maybe, many, chained, nested}
use Rattle.grammar.specs.Language.{Placed, Language, RuleOf}
use Rattle.grammar.specs.Reading.{may_be_empty, begins}
use Rattle.grammar.specs.Grammar.{Mark, took, did, MarkOf, Parts, Spelled, tokens_of}
use Rattle.grammar.specs.Plain.{goes_on, some_first, some_next, is_plain, IsPlain}
use Rattle.grammar.proofs.Chained.{first_chain, next_chain, goes_chain}
use Rattle.grammar.proofs.Basics.{or_true, tokens_append}

or_left : (a b : Bool) → a ≡ true → (a || b) ≡ true
or_left true b e = refl
or_left false b e = absurd cc

or_right : (a b : Bool) → b ≡ true → (a || b) ≡ true
or_right true b e = refl
or_right false b e = e

and_both : (a b : Bool) → a ≡ true → b ≡ true → (a && b) ≡ true
and_both true b d e = e
and_both false b d e = absurd cc

abbrev SameIs : Language → Type 0
SameIs g = (a b : g.Kind) → g.same a b ≡ true → a ≡ b

such_at : (g : Language) → SameIs g → (such : g.Kind → Bool) (kind k : g.Kind) → g.same kind k ≡ true → such kind ≡ true → such k ≡ true
such_at g is such kind k e h = subst (λ z. such z ≡ true) (is kind k e) h

abbrev HasFirst : (g : Language) → (g.Kind → Bool) → RuleOf g → Type 0
HasFirst g such r = (kind : g.Kind) → begins g r kind ≡ true → such kind ≡ true → some_first g such r ≡ true

then_first : (g : Language) (such : g.Kind → Bool) (x y : RuleOf g) → HasFirst g such x → HasFirst g such y → HasFirst g such (x then y)
then_first g such x y f k kind b h =
    let one = may_be_empty g x && some_first g such y in
    let two = some_first g such x in
    elim (or_true (may_be_empty g x && begins g y kind) (begins g x kind) b) [
      | inl e ↦ let p = and_parts (may_be_empty g x) (begins g y kind) e in or_left one two (and_both (may_be_empty g x) (some_first g such y) p.0 (k kind p.1 h))
      | inr e ↦ or_right one two (f kind e h)
    ]

does_first : (g : Language) (such : g.Kind → Bool) (l : g.Label) → HasFirst g such (does l)
does_first g such l kind b h = absurd cc

turn_first : (g : Language) (such : g.Kind → Bool) (a o : RuleOf g) (l : g.Label) → HasFirst g such a → HasFirst g such o → HasFirst g such (o then (a then does l))
turn_first g such a o l f k = then_first g such o (a then does l) k (then_first g such a (does l) f (does_first g such l))

pub first_has : (g : Language) → SameIs g → (such : g.Kind → Bool) (r : RuleOf g) (kind : g.Kind) → begins g r kind ≡ true → such kind ≡ true → some_first g such r ≡ true
first_has g is such (one k l) kind b h = such_at g is such kind k b h
first_has g is such (does l) kind b h = absurd cc
first_has g is such (x then y) kind b h =
    let one = may_be_empty g x && some_first g such y in
    let two = some_first g such x in
    elim (or_true (may_be_empty g x && begins g y kind) (begins g x kind) b) [
      | inl e ↦ let p = and_parts (may_be_empty g x) (begins g y kind) e in or_left one two (and_both (may_be_empty g x) (some_first g such y) p.0 (first_has g is such y kind p.1 h))
      | inr e ↦ or_right one two (first_has g is such x kind e h)
    ]
first_has g is such (x or y) kind b h =
    elim (or_true (begins g x kind) (begins g y kind) b) [
      | inl e ↦ or_left (some_first g such x) (some_first g such y) (first_has g is such x kind e h)
      | inr e ↦ or_right (some_first g such x) (some_first g such y) (first_has g is such y kind e h)
    ]
first_has g is such (maybe x) kind b h = first_has g is such x kind b h
first_has g is such (many x) kind b h = first_has g is such x kind b h
first_has g is such (chained a o l) kind b h =
    first_chain g such a o l ∙ then_first g such a (many (o then (a then does l))) (first_has g is such a) (turn_first g such a o l (first_has g is such a) (first_has g is such o)) kind b h
first_has g is such (nested k o r c l) kind b h = such_at g is such kind k b h

abbrev HasNext : (g : Language) → (g.Kind → Bool) → RuleOf g → Type 0
HasNext g such r = (kind : g.Kind) → goes_on g r kind ≡ true → such kind ≡ true → some_next g such r ≡ true

then_next : (g : Language) (such : g.Kind → Bool) (x y : RuleOf g) → HasNext g such x → HasNext g such y → HasNext g such (x then y)
then_next g such x y f k kind b h =
    let one = may_be_empty g y && some_next g such x in
    let two = some_next g such y in
    elim (or_true (may_be_empty g y && goes_on g x kind) (goes_on g y kind) b) [
      | inl e ↦ let p = and_parts (may_be_empty g y) (goes_on g x kind) e in or_left one two (and_both (may_be_empty g y) (some_next g such x) p.0 (f kind p.1 h))
      | inr e ↦ or_right one two (k kind e h)
    ]

does_next : (g : Language) (such : g.Kind → Bool) (l : g.Label) → HasNext g such (does l)
does_next g such l kind b h = absurd cc

many_next : (g : Language) (such : g.Kind → Bool) (x : RuleOf g) → HasFirst g such x → HasNext g such x → HasNext g such (many x)
many_next g such x f k kind b h =
    elim (or_true (begins g x kind) (goes_on g x kind) b) [
      | inl e ↦ or_left (some_first g such x) (some_next g such x) (f kind e h)
      | inr e ↦ or_right (some_first g such x) (some_next g such x) (k kind e h)
    ]

turn_next : (g : Language) (such : g.Kind → Bool) (a o : RuleOf g) (l : g.Label) → HasNext g such a → HasNext g such o → HasNext g such (o then (a then does l))
turn_next g such a o l f k = then_next g such o (a then does l) k (then_next g such a (does l) f (does_next g such l))

pub next_has : (g : Language) → SameIs g → (such : g.Kind → Bool) (r : RuleOf g) (kind : g.Kind) → goes_on g r kind ≡ true → such kind ≡ true → some_next g such r ≡ true
next_has g is such (one k l) kind b h = absurd cc
next_has g is such (does l) kind b h = absurd cc
next_has g is such (x then y) kind b h =
    let one = may_be_empty g y && some_next g such x in
    let two = some_next g such y in
    elim (or_true (may_be_empty g y && goes_on g x kind) (goes_on g y kind) b) [
      | inl e ↦ let p = and_parts (may_be_empty g y) (goes_on g x kind) e in or_left one two (and_both (may_be_empty g y) (some_next g such x) p.0 (next_has g is such x kind p.1 h))
      | inr e ↦ or_right one two (next_has g is such y kind e h)
    ]
next_has g is such (x or y) kind b h =
    elim (or_true (goes_on g x kind) (goes_on g y kind) b) [
      | inl e ↦ or_left (some_next g such x) (some_next g such y) (next_has g is such x kind e h)
      | inr e ↦ or_right (some_next g such x) (some_next g such y) (next_has g is such y kind e h)
    ]
next_has g is such (maybe x) kind b h =
    elim (or_true (begins g x kind) (goes_on g x kind) b) [
      | inl e ↦ or_left (some_first g such x) (some_next g such x) (first_has g is such x kind e h)
      | inr e ↦ or_right (some_first g such x) (some_next g such x) (next_has g is such x kind e h)
    ]
next_has g is such (many x) kind b h =
    elim (or_true (begins g x kind) (goes_on g x kind) b) [
      | inl e ↦ or_left (some_first g such x) (some_next g such x) (first_has g is such x kind e h)
      | inr e ↦ or_right (some_first g such x) (some_next g such x) (next_has g is such x kind e h)
    ]
next_has g is such (chained a o l) kind b h =
    next_chain g such a o l ∙ then_next g such a (many (o then (a then does l))) (next_has g is such a)
    (many_next g such (o then (a then does l)) (turn_first g such a o l (first_has g is such a) (first_has g is such o)) (turn_next g such a o l (next_has g is such a) (next_has g is such o))) kind (sym (goes_chain g a o l kind) ∙ b) h
next_has g is such (nested k o r c l) kind b h = absurd cc

-- no tokens and the rule may be empty, or the first of them begins it
abbrev pub Opens : (g : Language) → RuleOf g → List (Placed g.Kind) → Type 0
Opens g r [] = may_be_empty g r ≡ true
Opens g r (t ∷ ts) = begins g r t.kind ≡ true

opens_then : (g : Language) (a b : RuleOf g) (x y : List (Placed g.Kind)) → Opens g a x → Opens g b y → Opens g (a then b) (x ++ y)
opens_then g a b [] [] p q = and_both (may_be_empty g a) (may_be_empty g b) p q
opens_then g a b [] (t ∷ ts) p q = or_left (may_be_empty g a && begins g b t.kind) (begins g a t.kind) (and_both (may_be_empty g a) (begins g b t.kind) p q)
opens_then g a b (t ∷ ts) y p q = or_right (may_be_empty g a && begins g b t.kind) (begins g a t.kind) p

opens_or_left : (g : Language) (a b : RuleOf g) (x : List (Placed g.Kind)) → Opens g a x → Opens g (a or b) x
opens_or_left g a b [] p = or_left (may_be_empty g a) (may_be_empty g b) p
opens_or_left g a b (t ∷ ts) p = or_left (begins g a t.kind) (begins g b t.kind) p

opens_or_right : (g : Language) (a b : RuleOf g) (x : List (Placed g.Kind)) → Opens g b x → Opens g (a or b) x
opens_or_right g a b [] p = or_right (may_be_empty g a) (may_be_empty g b) p
opens_or_right g a b (t ∷ ts) p = or_right (begins g a t.kind) (begins g b t.kind) p

opens_maybe : (g : Language) (a : RuleOf g) (x : List (Placed g.Kind)) → Opens g a x → Opens g (maybe a) x
opens_maybe g a [] p = refl
opens_maybe g a (t ∷ ts) p = p

opens_many : (g : Language) (a : RuleOf g) (x y : List (Placed g.Kind)) → Opens g a x → Opens g (many a) y → Opens g (many a) (x ++ y)
opens_many g a [] [] p q = refl
opens_many g a [] (t ∷ ts) p q = q
opens_many g a (t ∷ ts) y p q = p

opens_parts : (g : Language) (a : RuleOf g) (p : List (MarkOf g) → Type 0) → ((ms : List (MarkOf g)) → p ms → Opens g a (tokens_of ms)) → (n : ℕ) (ms : List (MarkOf g)) → Parts g p n ms → Opens g (many a) (tokens_of ms)
opens_parts g a p f zero ms h = subst (λ z. Opens g (many a) (tokens_of z)) (sym h) refl
opens_parts g a p f (suc n) ms h =
    subst (λ z. Opens g (many a) z) (sym (ap (λ z. tokens_of z) h.4 ∙ tokens_append h.0 h.1))
    (opens_many g a (tokens_of h.0) (tokens_of h.1) (f h.0 h.2) (opens_parts g a p f n h.1 h.3))

abbrev HasOpens : (g : Language) → (g.Inner → List (MarkOf g) → Type 0) → RuleOf g → Type 0
HasOpens g inner r = (ms : List (MarkOf g)) → Spelled g inner r ms → Opens g r (tokens_of ms)

then_opens : (g : Language) (inner : g.Inner → List (MarkOf g) → Type 0) (a b : RuleOf g) → HasOpens g inner a → HasOpens g inner b → HasOpens g inner (a then b)
then_opens g inner a b f k ms h =
    subst (λ z. Opens g (a then b) z) (sym (ap (λ z. tokens_of z) h.4 ∙ tokens_append h.0 h.1))
    (opens_then g a b (tokens_of h.0) (tokens_of h.1) (f h.0 h.2) (k h.1 h.3))

does_opens : (g : Language) (inner : g.Inner → List (MarkOf g) → Type 0) (l : g.Label) → HasOpens g inner (does l)
does_opens g inner l ms h = subst (λ z. Opens g (does l) (tokens_of z)) (sym h) refl

turn_opens : (g : Language) (inner : g.Inner → List (MarkOf g) → Type 0) (a o : RuleOf g) (l : g.Label) → HasOpens g inner a → HasOpens g inner o → HasOpens g inner (o then (a then does l))
turn_opens g inner a o l f k = then_opens g inner o (a then does l) k (then_opens g inner a (does l) f (does_opens g inner l))

pub opens : (g : Language) (inner : g.Inner → List (MarkOf g) → Type 0) (r : RuleOf g) (ms : List (MarkOf g)) → Spelled g inner r ms → Opens g r (tokens_of ms)
opens g inner (one k l) ms h = subst (λ z. Opens g (one k l) (tokens_of z)) (sym h.2) h.1
opens g inner (does l) ms h = subst (λ z. Opens g (does l) (tokens_of z)) (sym h) refl
opens g inner (a then b) ms h =
    subst (λ z. Opens g (a then b) z) (sym (ap (λ z. tokens_of z) h.4 ∙ tokens_append h.0 h.1))
    (opens_then g a b (tokens_of h.0) (tokens_of h.1) (opens g inner a h.0 h.2) (opens g inner b h.1 h.3))
opens g inner (a or b) ms (inl h) = opens_or_left g a b (tokens_of ms) (opens g inner a ms h)
opens g inner (a or b) ms (inr h) = opens_or_right g a b (tokens_of ms) (opens g inner b ms h)
opens g inner (maybe a) ms (inl h) = opens_maybe g a (tokens_of ms) (opens g inner a ms h)
opens g inner (maybe a) ms (inr h) = subst (λ z. Opens g (maybe a) (tokens_of z)) (sym h) refl
opens g inner (many a) ms h = opens_parts g a (Spelled g inner a) (opens g inner a) h.0 ms h.1
opens g inner (chained a o l) ms h =
    then_opens g inner a (many (o then (a then does l))) (opens g inner a)
    (λ ps k. opens_parts g (o then (a then does l)) (Spelled g inner (o then (a then does l))) (turn_opens g inner a o l (opens g inner a) (opens g inner o)) k.0 ps k.1) ms h
opens g inner (nested k o r c l) ms h = subst (λ z. Opens g (nested k o r c l) (tokens_of z)) (sym h.6) h.3
