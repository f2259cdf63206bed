-- What may be before the rest of a text, said without reading.
use Rattle.std.specs.Prelude.{◌≡◌, ◌⊎◌, ℕ, zero, suc, true, List, [], ◌∷◌, ◌++◌}
use Rattle.grammar.specs.Rules.{one, does, ◌then◌, ◌or◌, maybe, many, chained, nested}
use Rattle.grammar.specs.Language.{Placed, Language, RuleOf}
use Rattle.grammar.specs.Grammar.{MarkOf, took, did, Parts, Spelled, SpelledInner}

-- which marks belong to each rule in brackets
abbrev pub InBrackets : Language → Type 1
InBrackets g = g.Inner → List (MarkOf g) → Type 0

-- The marks are the first ones of a text of the rule, all or none of them too: a part may be whole and another one begun
-- after it. Of what is in brackets `whole` says the texts, and `begun` the beginnings.
abbrev pub Begun : (g : Language) → InBrackets g → InBrackets g → RuleOf g → List (MarkOf g) → Type 0
Begun g whole begun (one k l) ms = (ms ≡ []) ⊎ ((t : Placed g.Kind) × (g.same t.kind k ≡ true) × (ms ≡ took l t ∷ []))
Begun g whole begun (does l) ms = (ms ≡ []) ⊎ (ms ≡ did l ∷ [])
Begun g whole begun (a then b) ms = Begun g whole begun a ms ⊎ ((x : List (MarkOf g)) × (y : List (MarkOf g)) × Spelled g whole a x × Begun g whole begun b y × (ms ≡ x ++ y))
Begun g whole begun (a or b) ms = Begun g whole begun a ms ⊎ Begun g whole begun b ms
Begun g whole begun (maybe a) ms = Begun g whole begun a ms
Begun g whole begun (many a) ms = (x : List (MarkOf g)) × (y : List (MarkOf g)) × ((n : ℕ) × Parts g (Spelled g whole a) n x) × Begun g whole begun a y × (ms ≡ x ++ y)
-- a chain is its first, and then any number of turns: the second, the first again, and what is done after it
Begun g whole begun (chained a o l) ms =
    Begun g whole begun a ms
    ⊎ ((x : List (MarkOf g)) × (y : List (MarkOf g)) × Spelled g whole a x
    × ((p : List (MarkOf g)) × (q : List (MarkOf g)) × ((n : ℕ) × Parts g (Spelled g whole (o then (a then does l))) n p)
    × (Begun g whole begun o q
    ⊎ ((u : List (MarkOf g)) × (v : List (MarkOf g)) × Spelled g whole o u
    × (Begun g whole begun a v ⊎ ((w : List (MarkOf g)) × (z : List (MarkOf g)) × Spelled g whole a w × ((z ≡ []) ⊎ (z ≡ did l ∷ [])) × (v ≡ w ++ z)))
    × (q ≡ u ++ v)))
    × (y ≡ p ++ q))
    × (ms ≡ x ++ y))
Begun g whole begun (nested k o r c l) ms =
    (ms ≡ [])
    ⊎ (((t : Placed g.Kind) × (x : List (MarkOf g)) × (g.same t.kind k ≡ true) × begun r x × (ms ≡ took o t ∷ x)) ⊎ Spelled g whole (nested k o r c l) ms)

-- inside brackets, where this many may still open; where none may, not even the opening one is there
unfoldable pub BegunInner : (g : Language) → ℕ → g.Inner → List (MarkOf g) → Type 0
BegunInner g zero r ms = ⊥
BegunInner g (suc depth) r ms = Begun g (SpelledInner g depth) (BegunInner g depth) (g.inside r) ms

-- the marks begin a text of the rule, where this many brackets may open
abbrev pub Beginning : (g : Language) → ℕ → RuleOf g → List (MarkOf g) → Type 0
Beginning g depth r ms = Begun g (SpelledInner g depth) (BegunInner g depth) r ms
