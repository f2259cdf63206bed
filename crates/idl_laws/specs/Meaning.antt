-- What a name means, said over the declarations alone: CORBA 3.0.3, chapter 3, names and scoping.
use Rattle.std.specs.Prelude.{◌≡◌, ◌⊎◌, ℕ, true, List, [], ◌∷◌, slice_get, Some}
use Rattle.idl_scopes.specs.Table.{Declared, Table}
use Rattle.idl_scopes.specs.Finding.{is_finished, above, outer}

-- The declaration with this number is in this scope, is spelled so, and is found: its end has been read, or it is a module,
-- an interface whose body is open, or an attribute.
pub record IsNamed (t : Table) (scope : ℕ) (name : List ℕ) (i : ℕ) : Type 0 where
  pub declared : Declared
  pub there : slice_get t.declared i ≡ Some declared
  pub scope_is : declared.scope ≡ scope
  pub name_is : declared.name ≡ name
  pub found : is_finished declared.sort ≡ true

-- the scope has no such declaration
abbrev pub HasNone : Table → ℕ → List ℕ → Type 0
HasNone t scope name = (i : ℕ) → IsNamed t scope name i → ⊥

-- the declaration is in the first of these scopes that has the name
abbrev pub IsFirst : Table → List ℕ → List ℕ → ℕ → Type 0
IsFirst t name [] i = ⊥
IsFirst t name (scope ∷ scopes) i = IsNamed t scope name i ⊎ (HasNone t scope name × IsFirst t name scopes i)

-- none of these scopes has it
abbrev pub AreNone : Table → List ℕ → List ℕ → Type 0
AreNone t name [] = Unit {0}
AreNone t name (scope ∷ scopes) = HasNone t scope name × AreNone t name scopes

-- What a name means in a scope: what the scope declares, or else the bases of that interface, in order; or, where none of
-- these has the name, what it means in the scope around.
pub data Means (t : Table) (name : List ℕ) (i : ℕ) : ℕ → Type 0 where
  inside : (scope : ℕ) → IsFirst t name (scope ∷ above t scope) i → Means t name i scope
  around : (scope : ℕ) → AreNone t name (scope ∷ above t scope) → (scope ≡ 0 → ⊥) → Means t name i (outer t scope) → Means t name i scope
