-- What holds of each of several tokens.
use Rattle.std.proofs.Common.{List, [], ◌∷◌}
use Rattle.grammar.specs.Language.{Placed}

-- what holds of each token
abbrev pub EachToken : {K : Type 0} → (Placed K → Type 0) → List (Placed K) → Type 0
EachToken P [] = Unit {0}
EachToken P (t ∷ ts) = P t × EachToken P ts
