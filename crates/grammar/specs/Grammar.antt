-- Which tokens a rule spells, said without reading.
use Rattle.std.specs.Prelude.{◌≡◌, ◌⊎◌, ℕ, zero, suc, Bool, true, List, [], ◌∷◌, ◌++◌, Result, Ok, Err}
use Rattle.grammar.specs.Rules.{Rule, one, does, ◌then◌, ◌or◌, maybe, many, chained, nested}
use Rattle.grammar.specs.Language.{Placed, Language, RuleOf}
use Rattle.grammar.specs.Reading.{Stream, stream}

-- a token and what is done there, or something done without one
pub data Mark (K L : Type 0) : Type 0 where
  took : L → Placed K → Mark K L
  did : L → Mark K L

-- the marks of a language
abbrev pub MarkOf : Language → Type 0
MarkOf g = Mark g.Kind g.Label

-- which lists of marks belong to something
abbrev pub Language-of-marks : Language → Type 1
Language-of-marks g = List (MarkOf g) → Type 0

-- the marks are parts that each pass
abbrev pub Parts : (g : Language) → (List (MarkOf g) → Type 0) → ℕ → List (MarkOf g) → Type 0
Parts g part zero ms = ms ≡ []
Parts g part (suc n) ms = (x : List (MarkOf g)) × (y : List (MarkOf g)) × part x × Parts g part n y × (ms ≡ x ++ y)

-- the marks are those of a text of the rule; what is in brackets is said by `inner`
abbrev pub Spelled : (g : Language) → (g.Inner → List (MarkOf g) → Type 0) → RuleOf g → List (MarkOf g) → Type 0
Spelled g inner (one k l) ms = (t : Placed g.Kind) × (g.same t.kind k ≡ true) × (ms ≡ took l t ∷ [])
Spelled g inner (does l) ms = ms ≡ did l ∷ []
Spelled g inner (a then b) ms = (x : List (MarkOf g)) × (y : List (MarkOf g)) × Spelled g inner a x × Spelled g inner b y × (ms ≡ x ++ y)
Spelled g inner (a or b) ms = Spelled g inner a ms ⊎ Spelled g inner b ms
Spelled g inner (maybe a) ms = Spelled g inner a ms ⊎ (ms ≡ [])
Spelled g inner (many a) ms = (n : ℕ) × Parts g (Spelled g inner a) n ms
Spelled g inner (chained a o l) ms =
    (x : List (MarkOf g)) × (y : List (MarkOf g)) × Spelled g inner a x
    × ((n : ℕ) × Parts g (λ ps. (p : List (MarkOf g)) × (q : List (MarkOf g)) × Spelled g inner o p × ((u : List (MarkOf g)) × (v : List (MarkOf g)) × Spelled g inner a u × (v ≡ did l ∷ []) × (q ≡ u ++ v)) × (ps ≡ p ++ q)) n y) × (ms ≡ x ++ y)
Spelled g inner (nested k o r c l) ms = (t : Placed g.Kind) × (x : List (MarkOf g)) × (u : Placed g.Kind) × (g.same t.kind k ≡ true) × inner r x × (g.same u.kind c ≡ true) × (ms ≡ took o t ∷ x ++ took l u ∷ [])

-- inside brackets, where this many may still open
unfoldable pub SpelledInner : (g : Language) → ℕ → g.Inner → List (MarkOf g) → Type 0
SpelledInner g zero r ms = ⊥
SpelledInner g (suc depth) r ms = Spelled g (SpelledInner g depth) (g.inside r) ms

-- the marks are a sentence of the rule, where this many brackets may open
abbrev pub Sentence : (g : Language) → ℕ → RuleOf g → List (MarkOf g) → Type 0
Sentence g depth r ms = Spelled g (SpelledInner g depth) r ms

-- the tokens of the marks
abbrev pub tokens_of : {K L : Type 0} → List (Mark K L) → List (Placed K)
tokens_of [] = []
tokens_of (took l t ∷ ms) = t ∷ tokens_of ms
tokens_of (did l ∷ ms) = tokens_of ms

-- the marks' tokens are before s, and t is after them
abbrev pub Goes : (g : Language) → List (MarkOf g) → Stream g.Kind → Stream g.Kind → Type 0
Goes g ms s t = s ≡ stream (tokens_of ms ++ t.tokens) t.end

-- what is done at one mark
abbrev pub act_mark : (g : Language) → MarkOf g → g.Built → Result g.Built g.Fault
act_mark g (took l t) b = g.act l t b
act_mark g (did l) b = g.judge l b

-- what is done along the marks
abbrev pub acts_then : (g : Language) → List (MarkOf g) → Result g.Built g.Fault → Result g.Built g.Fault
acts_then g [] (Ok b) = Ok b
acts_then g [] (Err f) = Err f
acts_then g (m ∷ ms) (Err f) = Err f
acts_then g (m ∷ ms) (Ok b) = acts_then g ms (act_mark g m b)

-- what is built along the marks, or the first refusal
abbrev pub acts : (g : Language) → List (MarkOf g) → g.Built → Result g.Built g.Fault
acts g ms b = acts_then g ms (Ok b)
