-- What a grammar is over: kinds of tokens, labels, and what is done at a token.
use Rattle.std.specs.Prelude.{ℕ, Bool, List, Result}
pub use Rattle.idl_tokens.specs.Placed.{Placed}
use Rattle.grammar.specs.Rules.{Rule}

-- a language: its grammar's names, what is built along it, and the faults
pub record Language : Type 1 where
  pub Kind : Type 0
  pub Label : Type 0
  pub Inner : Type 0
  -- what was built so far
  pub Built : Type 0
  pub Fault : Type 0
  pub same : Kind → Kind → Bool
  -- the rules in brackets
  pub inside : Inner → Rule Kind Label Inner
  -- what is done at a token, and without one
  pub act : Label → Placed Kind → Built → Result Built Fault
  pub judge : Label → Built → Result Built Fault
  -- a token that the grammar doesn't have there
  pub stop : Placed Kind → Fault

-- the rules of a language
abbrev pub RuleOf : Language → Type 0
RuleOf g = Rule g.Kind g.Label g.Inner
