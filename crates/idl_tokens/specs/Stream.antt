-- What is left of a text's tokens.
use Rattle.std.specs.Prelude.{Bool, true, false, List, [], ◌∷◌}
use Rattle.idl_tokens.specs.Placed.{Placed}

-- the tokens that are left, and the end after them
pub record Stream (K : Type 0) : Type 0 where
  pub tokens : List (Placed K)
  pub end : Placed K

-- these tokens with this end after them
abbrev pub stream : {K : Type 0} → List (Placed K) → Placed K → Stream K
stream tokens end = record { tokens = tokens; end = end }

-- the first of a list, or what is after it
abbrev pub first_or : {X : Type 0} → List X → X → X
first_or [] end = end
first_or (t ∷ ts) end = t

-- the next token, or the end
abbrev pub front : {K : Type 0} → Stream K → Placed K
front s = first_or s.tokens s.end

-- a list without its first
abbrev pub rest_of : {X : Type 0} → List X → List X
rest_of [] = []
rest_of (t ∷ ts) = ts

-- what is left after the next token
abbrev pub behind : {K : Type 0} → Stream K → Stream K
behind s = stream (rest_of s.tokens) s.end

-- nothing is left
abbrev pub is_empty : {X : Type 0} → List X → Bool
is_empty [] = true
is_empty (t ∷ ts) = false
