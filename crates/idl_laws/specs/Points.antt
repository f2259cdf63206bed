-- Points of a text.
use Rattle.std.specs.Prelude.{◌≡◌, ℕ, List, ◌++◌, Ok}
use Rattle.grammar.specs.Grammar.{MarkOf, Sentence, tokens_of, acts}
use Rattle.idl_tokens.specs.Cutting.{text_tokens}
use Rattle.idl_tokens.specs.declared.dialect.Dialect.TheVariants.{Idl}
use Rattle.idl_grammar.specs.IdlRules.{file}
use Rattle.idl_names.specs.State.{Built, nothing_built}
use Rattle.idl_names.specs.Declaring.{idl}

-- A point of a text that the grammar has, with the marks before it and after it; what the marks before it declare is known there.
pub record Point (text : List ℕ) (before after : List (MarkOf idl)) (known : Built) : Type 0 where
  pub spelled : Sentence idl 64 file (before ++ after)
  pub tokens_are : (text_tokens Idl text).tokens ≡ tokens_of (before ++ after)
  pub acts_are : acts idl before nothing_built ≡ Ok known
