-- Tokens as contracts see them.
use Rattle.std.specs.Prelude.{ℕ, Bool, List}
use denote.Enum.Bare.{sameb}
use Rattle.idl_tokens.specs.declared.kind.Kind.{Kind}
use Rattle.idl_tokens.specs.contracts.kind.Kind.{the_type}
use Rattle.idl_tokens.specs.declared.token.Token.{Token}

-- a token: its kind, its bytes, and where it begins
pub record Placed (K : Type 0) : Type 0 where
  pub kind : K
  pub text : List ℕ
  pub line : ℕ
  pub column : ℕ

-- a token of the program without where it lies in memory
abbrev pub seen : Token → Placed Kind
seen t = record { kind = t.kind; text = t.text.now; line = t.line; column = t.column }

-- the two kinds are one
unfoldable pub same_kind : Kind → Kind → Bool
same_kind = sameb the_type
