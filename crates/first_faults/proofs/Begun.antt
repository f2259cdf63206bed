-- Nothing is a beginning, each text is one, and the first token of a beginning begins the rule.
use Rattle.std.proofs.Common.{◌≡◌, ℕ, zero, suc, Bool, true, false, List, [], ◌∷◌, ◌++◌, refl, sym, ap, subst, ◌∙◌, append-nil, inl, inr}
use Rattle.std.specs.Prelude.{◌||◌, ◌&&◌}
use Rattle.grammar.specs.Rules.{one, does, ◌then◌, ◌or◌, maybe, many, chained, nested}
use Rattle.grammar.specs.Language.{Placed, Language, RuleOf}
use Rattle.grammar.specs.Reading.{may_be_empty, begins}
use Rattle.grammar.specs.Grammar.{MarkOf, Spelled, SpelledInner, tokens_of}
use Rattle.grammar.proofs.Basics.{tokens_append}
use Rattle.grammar.proofs.First.{Opens, opens}
use Rattle.first_faults.specs.Beginnings.{InBrackets, Begun, BegunInner}

pub nothing : (g : Language) (w n : InBrackets g) (r : RuleOf g) → Begun g w n r []
nothing g w n (one k l) = inl refl
nothing g w n (does l) = inl refl
nothing g w n (a then b) = inl (nothing g w n a)
nothing g w n (a or b) = inl (nothing g w n a)
nothing g w n (maybe a) = nothing g w n a
nothing g w n (many a) = ([], [], (0, refl), nothing g w n a, refl)
nothing g w n (chained a o l) = inl (nothing g w n a)
nothing g w n (nested k o r c l) = inl refl

-- ---- each text is a beginning

abbrev pub AllBegun : (g : Language) → InBrackets g → InBrackets g → RuleOf g → Type 0
AllBegun g w n r = (ms : List (MarkOf g)) → Spelled g w r ms → Begun g w n r ms

then_all : (g : Language) (w n : InBrackets g) (a b : RuleOf g) → AllBegun g w n b → AllBegun g w n (a then b)
then_all g w n a b f ms h = inr (h.0, h.1, h.2, f h.1 h.3, h.4)

many_all : (g : Language) (w n : InBrackets g) (a : RuleOf g) → AllBegun g w n (many a)
many_all g w n a ms h = (ms, [], h, nothing g w n a, sym (append-nil ms))

pub whole_begun : (g : Language) (w n : InBrackets g) (r : RuleOf g) (ms : List (MarkOf g)) → Spelled g w r ms → Begun g w n r ms
whole_begun g w n (one k l) ms h = inr h
whole_begun g w n (does l) ms h = inr h
whole_begun g w n (a then b) ms h = then_all g w n a b (whole_begun g w n b) ms h
whole_begun g w n (a or b) ms (inl h) = inl (whole_begun g w n a ms h)
whole_begun g w n (a or b) ms (inr h) = inr (whole_begun g w n b ms h)
whole_begun g w n (maybe a) ms (inl h) = whole_begun g w n a ms h
whole_begun g w n (maybe a) ms (inr h) = subst (λ z. Begun g w n a z) (sym h) (nothing g w n a)
whole_begun g w n (many a) ms h = many_all g w n a ms h
whole_begun g w n (chained a o l) ms h = then_all g w n a (many (o then (a then does l))) (many_all g w n (o then (a then does l))) ms h
whole_begun g w n (nested k o r c l) ms h = inr (inr h)

pub inner_begun : (g : Language) (depth : ℕ) (r : g.Inner) (ms : List (MarkOf g)) → SpelledInner g depth r ms → BegunInner g depth r ms
unfolding SpelledInner BegunInner
inner_begun g zero r ms h = h
inner_begun g (suc depth) r ms h = whole_begun g (SpelledInner g depth) (BegunInner g depth) (g.inside r) ms h

-- ---- the first token

or_left : (a b : Bool) → a ≡ true → (a || b) ≡ true
or_left true b e = refl
or_left false b e = absurd cc

or_right : (a b : Bool) → b ≡ true → (a || b) ≡ true
or_right true b e = refl
or_right false b e = e

and_both : (a b : Bool) → a ≡ true → b ≡ true → (a && b) ≡ true
and_both true b d e = e
and_both false b d e = absurd cc

-- the first of these tokens begins the rule
abbrev pub FirstOf : (g : Language) → RuleOf g → List (Placed g.Kind) → Type 0
FirstOf g r [] = Unit {0}
FirstOf g r (t ∷ ts) = begins g r t.kind ≡ true

first_opens : (g : Language) (r : RuleOf g) (ts : List (Placed g.Kind)) → Opens g r ts → FirstOf g r ts
first_opens g r [] h = tt
first_opens g r (t ∷ ts) h = h

first_left : (g : Language) (a b : RuleOf g) (ts : List (Placed g.Kind)) → FirstOf g a ts → FirstOf g (a then b) ts
first_left g a b [] h = tt
first_left g a b (t ∷ ts) h = or_right (may_be_empty g a && begins g b t.kind) (begins g a t.kind) h

first_both : (g : Language) (a b : RuleOf g) (x y : List (Placed g.Kind)) → Opens g a x → FirstOf g b y → FirstOf g (a then b) (x ++ y)
first_both g a b [] [] p q = tt
first_both g a b [] (t ∷ ts) p q = or_left (may_be_empty g a && begins g b t.kind) (begins g a t.kind) (and_both (may_be_empty g a) (begins g b t.kind) p q)
first_both g a b (t ∷ ts) y p q = or_right (may_be_empty g a && begins g b t.kind) (begins g a t.kind) p

first_one : (g : Language) (a b : RuleOf g) (ts : List (Placed g.Kind)) → FirstOf g a ts → FirstOf g (a or b) ts
first_one g a b [] h = tt
first_one g a b (t ∷ ts) h = or_left (begins g a t.kind) (begins g b t.kind) h

first_other : (g : Language) (a b : RuleOf g) (ts : List (Placed g.Kind)) → FirstOf g b ts → FirstOf g (a or b) ts
first_other g a b [] h = tt
first_other g a b (t ∷ ts) h = or_right (begins g a t.kind) (begins g b t.kind) h

first_maybe : (g : Language) (a : RuleOf g) (ts : List (Placed g.Kind)) → FirstOf g a ts → FirstOf g (maybe a) ts
first_maybe g a [] h = tt
first_maybe g a (t ∷ ts) h = h

first_many : (g : Language) (a : RuleOf g) (x y : List (Placed g.Kind)) → Opens g (many a) x → FirstOf g a y → FirstOf g (many a) (x ++ y)
first_many g a [] [] p q = tt
first_many g a [] (t ∷ ts) p q = q
first_many g a (t ∷ ts) y p q = p

abbrev pub HasFirst : (g : Language) → InBrackets g → InBrackets g → RuleOf g → Type 0
HasFirst g w n r = (ms : List (MarkOf g)) → Begun g w n r ms → FirstOf g r (tokens_of ms)

then_first : (g : Language) (w n : InBrackets g) (a b : RuleOf g) → HasFirst g w n a → HasFirst g w n b → HasFirst g w n (a then b)
then_first g w n a b f k ms (inl h) = first_left g a b (tokens_of ms) (f ms h)
then_first g w n a b f k ms (inr h) =
    subst (λ z. FirstOf g (a then b) z) (sym (ap (λ z. tokens_of z) h.4 ∙ tokens_append h.0 h.1))
    (first_both g a b (tokens_of h.0) (tokens_of h.1) (opens g w a h.0 h.2) (k h.1 h.3))

many_first : (g : Language) (w n : InBrackets g) (a : RuleOf g) → HasFirst g w n a → HasFirst g w n (many a)
many_first g w n a f ms h =
    subst (λ z. FirstOf g (many a) z) (sym (ap (λ z. tokens_of z) h.4 ∙ tokens_append h.0 h.1))
    (first_many g a (tokens_of h.0) (tokens_of h.1) (opens g w (many a) h.0 h.2) (f h.1 h.3))

does_first : (g : Language) (w n : InBrackets g) (l : g.Label) → HasFirst g w n (does l)
does_first g w n l ms (inl e) = subst (λ z. FirstOf g (does l) (tokens_of z)) (sym e) tt
does_first g w n l ms (inr e) = subst (λ z. FirstOf g (does l) (tokens_of z)) (sym e) tt

first_chain : (g : Language) (a o : RuleOf g) (l : g.Label) (ts : List (Placed g.Kind)) → FirstOf g (a then many (o then (a then does l))) ts → FirstOf g (chained a o l) ts
first_chain g a o l [] f = tt
first_chain g a o l (t ∷ ts) f = f

pub begun_first : (g : Language) (w n : InBrackets g) (r : RuleOf g) (ms : List (MarkOf g)) → Begun g w n r ms → FirstOf g r (tokens_of ms)
begun_first g w n (one k l) ms (inl e) = subst (λ z. FirstOf g (one k l) (tokens_of z)) (sym e) tt
begun_first g w n (one k l) ms (inr h) = subst (λ z. FirstOf g (one k l) (tokens_of z)) (sym h.2) h.1
begun_first g w n (does l) ms h = does_first g w n l ms h
begun_first g w n (a then b) ms h = then_first g w n a b (begun_first g w n a) (begun_first g w n b) ms h
begun_first g w n (a or b) ms (inl h) = first_one g a b (tokens_of ms) (begun_first g w n a ms h)
begun_first g w n (a or b) ms (inr h) = first_other g a b (tokens_of ms) (begun_first g w n b ms h)
begun_first g w n (maybe a) ms h = first_maybe g a (tokens_of ms) (begun_first g w n a ms h)
begun_first g w n (many a) ms h = many_first g w n a (begun_first g w n a) ms h
begun_first g w n (chained a o l) ms h =
    let of_a = begun_first g w n a in
    let of_turn = then_first g w n o (a then does l) (begun_first g w n o) (then_first g w n a (does l) of_a (does_first g w n l)) in
    first_chain g a o l (tokens_of ms) (then_first g w n a (many (o then (a then does l))) of_a (many_first g w n (o then (a then does l)) of_turn) ms h)
begun_first g w n (nested k o r c l) ms (inl e) = subst (λ z. FirstOf g (nested k o r c l) (tokens_of z)) (sym e) tt
begun_first g w n (nested k o r c l) ms (inr (inl h)) = subst (λ z. FirstOf g (nested k o r c l) (tokens_of z)) (sym h.4) h.2
begun_first g w n (nested k o r c l) ms (inr (inr h)) = first_opens g (nested k o r c l) (tokens_of ms) (opens g w (nested k o r c l) ms h)
