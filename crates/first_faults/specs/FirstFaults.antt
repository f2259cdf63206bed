-- Which token is the first one at fault, said without reading.
use Rattle.std.specs.Prelude.{◌≡◌, ◌⊎◌, ℕ, true, false, List, [], ◌∷◌, ◌++◌, Ok, Err}
use Rattle.grammar.specs.Language.{Placed, Language, RuleOf}
use Rattle.grammar.specs.Reading.{Stream, State, front, is_empty}
use Rattle.grammar.specs.Grammar.{MarkOf, took, did, Sentence, tokens_of, Goes, acts}
use Rattle.first_faults.specs.Beginnings.{Beginning}

-- some text of the rule goes on after these tokens with the next one; where none is left, some text has these tokens, and
-- the end is an end
abbrev pub GoesOn : (g : Language) → ℕ → g.Kind → RuleOf g → List (Placed g.Kind) → List (Placed g.Kind) → Placed g.Kind → Type 0
GoesOn g depth end r before [] last = (g.same last.kind end ≡ true) × ((y : List (MarkOf g)) × Sentence g depth r y × (tokens_of y ≡ before))
GoesOn g depth end r before (u ∷ us) last = (y : List (MarkOf g)) × (l : g.Label) × (rest : List (MarkOf g)) × (tokens_of y ≡ before) × Beginning g depth r (y ++ took l u ∷ rest)

-- whatever goes on with the next token has this label done before it; where none is left, each text of these tokens has it
abbrev pub IsDue : (g : Language) → ℕ → RuleOf g → List (MarkOf g) → g.Label → List (Placed g.Kind) → Type 0
IsDue g depth r ms l [] = (y : List (MarkOf g)) → Sentence g depth r y → tokens_of y ≡ tokens_of ms → (z : List (MarkOf g)) × (y ≡ ms ++ did l ∷ z)
IsDue g depth r ms l (u ∷ us) =
    (y : List (MarkOf g)) (k : g.Label) (rest : List (MarkOf g)) → tokens_of y ≡ tokens_of ms → Beginning g depth r (y ++ took k u ∷ rest)
    → (z : List (MarkOf g)) × (y ≡ ms ++ did l ∷ z)

-- what is to be done at the next token is refused, though a text goes on so
pub record AtToken (g : Language) (depth : ℕ) (r : RuleOf g) (marks : List (MarkOf g)) (built : g.Built) (at : Stream g.Kind) (f : g.Fault) : Type 0 where
  pub label : g.Label
  pub rest : List (MarkOf g)
  pub is_there : is_empty at.tokens ≡ false
  pub begins : Beginning g depth r (marks ++ took label (front at) ∷ rest)
  pub refused : g.act label (front at) built ≡ Err f

-- something is to be done before the next token, and is refused
pub record BeforeToken (g : Language) (depth : ℕ) (r : RuleOf g) (marks : List (MarkOf g)) (built : g.Built) (at : Stream g.Kind) (f : g.Fault) : Type 0 where
  pub label : g.Label
  pub rest : List (MarkOf g)
  pub begins : Beginning g depth r (marks ++ did label ∷ rest)
  pub is_due : IsDue g depth r marks label at.tokens
  pub refused : g.judge label built ≡ Err f

-- no text goes on with the next token
pub record NoToken (g : Language) (depth : ℕ) (end : g.Kind) (r : RuleOf g) (marks : List (MarkOf g)) (at : Stream g.Kind) (f : g.Fault) : Type 0 where
  pub begins : Beginning g depth r marks
  pub none : GoesOn g depth end r (tokens_of marks) at.tokens at.end → ⊥
  pub stopped : f ≡ g.stop (front at)

-- f is the fault of the first token at fault: the tokens before it begin a text of the rule, and all that is to be done
-- along them may be done
pub record FirstFault (g : Language) (depth : ℕ) (end : g.Kind) (r : RuleOf g) (s : State g) (f : g.Fault) : Type 0 where
  pub marks : List (MarkOf g)
  pub built : g.Built
  pub at : Stream g.Kind
  pub goes : Goes g marks s.1 at
  pub acts_are : acts g marks s.0 ≡ Ok built
  pub why : AtToken g depth r marks built at f ⊎ (BeforeToken g depth r marks built at f ⊎ NoToken g depth end r marks at f)
