-- The bases of interfaces: CORBA 3.0.3, chapter 3, interface inheritance.
use Rattle.std.specs.Prelude.{ℕ, ◌==◌, ◌&&◌, Bool, false, not, List, Option, Some}
use Rattle.std.specs.List.{list_any}
use Rattle.idl_scopes.specs.Table.{Declared, Table}
use Rattle.idl_scopes.specs.Finding.{among}

-- both are there and aren't the same
abbrev pub differs : Option ℕ → Option ℕ → Bool
differs (Some i) (Some j) = not (i == j)
differs a b = false

-- a scope is among these
abbrev pub holds : List ℕ → ℕ → Bool
holds scopes scope = list_any (λ s. s == scope) scopes

-- a declaration of the later scopes, whose name means one thing in the earlier ones and another in these
abbrev pub clashes : Table → List ℕ → List ℕ → Declared → Bool
clashes t earlier later d = holds later d.scope && differs (among t d.name earlier) (among t d.name later)

-- a further base gives another thing of a name than the bases before it
abbrev pub bases_clash : Table → List ℕ → List ℕ → Bool
bases_clash t earlier later = list_any (clashes t earlier later) t.declared
