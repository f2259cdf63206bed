-- Which token is at fault, said without reading.
use Rattle.std.specs.Prelude.{◌≡◌, ◌⊎◌, ℕ, true, List, [], ◌∷◌, ◌++◌, Result, Ok, Err}
use Rattle.grammar.specs.Language.{Placed, Language, RuleOf}
use Rattle.grammar.specs.Reading.{Stream, State, front}
use Rattle.grammar.specs.Grammar.{MarkOf, Spelled, SpelledInner, Sentence, tokens_of, Goes, acts}

-- no sentence of the rule begins with these tokens and the next one; where none is left, these tokens are none
abbrev pub NoSentence : (g : Language) → (List (MarkOf g) → Type 0) → List (Placed g.Kind) → List (Placed g.Kind) → Type 0
NoSentence g sentence before [] = (y : List (MarkOf g)) → sentence y → tokens_of y ≡ before → ⊥
NoSentence g sentence before (u ∷ us) = (y : List (MarkOf g)) (z : List (Placed g.Kind)) → sentence y → tokens_of y ≡ before ++ u ∷ z → ⊥

-- no text that is a sentence begins with these tokens and the next one; where none is left and the end is an end, these tokens are none
abbrev pub NoText : (g : Language) → (List (MarkOf g) → Type 0) → g.Kind → List (Placed g.Kind) → List (Placed g.Kind) → Placed g.Kind → Type 0
NoText g sentence end before [] last = g.same last.kind end ≡ true → (y : List (MarkOf g)) → sentence y → tokens_of y ≡ before → ⊥
NoText g sentence end before (u ∷ us) last = (y : List (MarkOf g)) (z : List (Placed g.Kind)) → sentence y → tokens_of y ≡ before ++ u ∷ z → ⊥

-- no text of the rule begins with the tokens of these marks and the next one after them
abbrev pub NoneHere : (g : Language) → ℕ → g.Kind → RuleOf g → List (MarkOf g) → Stream g.Kind → Type 0
NoneHere g depth end r ms t = NoText g (Sentence g depth r) end (tokens_of ms) t.tokens t.end

-- f is the fault of the first token at fault: the tokens before it were taken, and what is to be done was done along them;
-- at it nothing goes on, or what is to be done there is refused
pub record Refused (g : Language) (none : List (MarkOf g) → Stream g.Kind → Type 0) (s : State g) (f : g.Fault) : Type 0 where
  pub marks : List (MarkOf g)
  pub built : g.Built
  pub at : Stream g.Kind
  pub goes : Goes g marks s.1 at
  pub acts_are : acts g marks s.0 ≡ Ok built
  pub why : ((f ≡ g.stop (front at)) × none marks at) ⊎ (((l : g.Label) × (g.act l (front at) built ≡ Err f)) ⊎ ((l : g.Label) × (g.judge l built ≡ Err f)))

-- a text that the grammar has, and what is built of it
pub record Whole (g : Language) (sentence : List (MarkOf g) → Type 0) (end : g.Kind) (s : Stream g.Kind) (old new : g.Built) : Type 0 where
  pub marks : List (MarkOf g)
  pub is : sentence marks
  pub tokens_are : s.tokens ≡ tokens_of marks
  pub end_is : g.same s.end.kind end ≡ true
  pub acts_are : acts g marks old ≡ Ok new
