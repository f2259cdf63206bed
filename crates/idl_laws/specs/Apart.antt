-- No scope of a text has two names alike, case aside: CORBA 3.0.3, chapter 3, names and scoping.
use Rattle.std.specs.Prelude.{◌≡◌, ℕ, List, slice_get, Some, codes}
use Rattle.idl_scopes.specs.Table.{Declared, Table}
use Rattle.idl_scopes.specs.Finding.{lowered}
use Rattle.idl_names.specs.State.{Built}
use Rattle.idl_names.specs.Whole.{Declares}

-- two names are the same, case aside
abbrev pub AreAlike : List ℕ → List ℕ → Type 0
AreAlike a b = lowered a ≡ lowered b

-- two declarations of one scope whose names are alike are one declaration
abbrev pub AreApart : Table → Type 0
AreApart t =
    (i j : ℕ) (d e : Declared) → slice_get t.declared i ≡ Some d → slice_get t.declared j ≡ Some e
    → d.scope ≡ e.scope → AreAlike d.name e.name → i ≡ j

-- so of the names that each text declares
abbrev pub NamesAreApart : Type 0
NamesAreApart = (text : List ℕ) (new : Built) → Declares text new → AreApart new.scopes

-- and the name of the built-in module is none of the file's scope
abbrev pub OrbIsFree : Type 0
OrbIsFree =
    (text : List ℕ) (new : Built) → Declares text new
    → (i : ℕ) (d : Declared) → slice_get new.scopes.declared i ≡ Some d → d.scope ≡ 0 → AreAlike d.name (codes "orb") → ⊥
