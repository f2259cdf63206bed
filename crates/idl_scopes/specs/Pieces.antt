-- A list of scopes in pieces, of which long ones are shared.
use Rattle.std.specs.Prelude.{ℕ, List, [], ◌∷◌, ◌++◌, Vec}
use Rattle.std.specs.declared.alloc.Global.{Global}
use Rattle.idl_scopes.specs.declared.pieces.Pieces.{Pieces}

-- one part after the other
abbrev pub in_parts : List (Vec ℕ Global) → List ℕ
in_parts [] = []
in_parts (part ∷ parts) = part.items ++ in_parts parts

-- all scopes of a list
abbrev pub whole_of : Pieces → List ℕ
whole_of p = p.front.items ++ (in_parts p.parts.items ++ p.back.items)
