-- Numbers that are kept by keys, in the program: the places of the keys that have a name, and of the declarations of a scope.
use Rattle.std.specs.Prelude.{◌≡◌, ℕ, ◌+◌, ◌==◌, ◌&&◌, Bool, true, false, List, [], ◌∷◌, Vec, Option, Some, None, slice_get, nat_eq, not, if◌then◌else◌}
use Rattle.std.specs.declared.alloc.Global.{Global}
use Rattle.std.specs.Str.{bytes_eq}
use Rattle.indexmap.specs.IndexMap.{get}
use Rattle.idl_scopes.specs.Table as t
use Rattle.idl_scopes.specs.Table.{Table}
use Rattle.idl_scopes.specs.Finding.{place_in, among, sort_at, is_operation}
use Rattle.idl_scopes.specs.Taking.{is_operation_in}
use Rattle.idl_scopes.specs.Bases.{differs, holds}
use Rattle.idl_scopes.specs.declared.groups.Groups.{Groups}
use Rattle.idl_scopes.specs.declared.known.Known.{Known}
use Rattle.idl_scopes.specs.declared.declared.Declared.{Declared}

-- a list that is there
abbrev pub items_of : Option (Vec ℕ Global) → List ℕ
items_of None = []
items_of (Some list) = list.items

-- the list at a place
abbrev pub listed : List (Vec ℕ Global) → Option ℕ → List ℕ
listed lists None = []
listed lists (Some i) = items_of (slice_get lists i)

-- the numbers of a key
abbrev pub numbers_of : {K : Type 0} → (K → K → Bool) → Groups K → K → List ℕ
numbers_of eq g key = listed g.lists.items (get eq g.numbered key)

-- names in lower case are the same
abbrev pub same_name : Vec ℕ Global → Vec ℕ Global → Bool
same_name a b = bytes_eq a.items b.items

-- each key, from this place on, is among those of its name
abbrev pub named_in : Groups (Vec ℕ Global) → ℕ → List Known → Bool
named_in g n [] = true
named_in g n (k ∷ ks) = holds (numbers_of same_name g k.name) n && named_in g (n + 1) ks

-- each declaration, from this place on, is among those of its scope
abbrev pub placed_in : Groups ℕ → ℕ → List Declared → Bool
placed_in g n [] = true
placed_in g n (d ∷ ds) = holds (numbers_of nat_eq g d.scope) n && placed_in g (n + 1) ds

-- the scope of a key, before others
abbrev pub with_scope : Option (ℕ × List ℕ) → List ℕ → List ℕ
with_scope None scopes = scopes
with_scope (Some k) scopes = k.0 ∷ scopes

-- the scopes of the declarations at these places, or of the operations and attributes among them
abbrev pub scopes_at : Table → Bool → List ℕ → List ℕ
scopes_at t operations [] = []
scopes_at t operations (i ∷ is) = if not (operations && not (is_operation (sort_at t i))) then with_scope (slice_get t.keys i) (scopes_at t operations is) else scopes_at t operations is

-- among these scopes are all that have a name, case aside
abbrev pub AreHolders : Table → List ℕ → List ℕ → Type 0
AreHolders t name scopes = (scope i : ℕ) → place_in t name scope ≡ Some i → holds scopes scope ≡ true

-- among these scopes are all that have an operation or attribute of a name, case aside
abbrev pub AreOwners : Table → List ℕ → List ℕ → Type 0
AreOwners t name scopes = (scope : ℕ) → is_operation_in t name scope ≡ true → holds scopes scope ≡ true

-- a declaration of a scope, whose name means one thing in the earlier scopes and another in the later ones
abbrev pub clashes_in : Table → List ℕ → List ℕ → ℕ → t.Declared → Bool
clashes_in t earlier later scope d = (scope == d.scope) && differs (among t d.name earlier) (among t d.name later)

-- what is at a place is one
abbrev pub clashes_here : Table → List ℕ → List ℕ → ℕ → Option t.Declared → Bool
clashes_here t earlier later scope None = false
clashes_here t earlier later scope (Some d) = clashes_in t earlier later scope d

-- the declaration at a place is one
abbrev pub clashes_at : Table → List ℕ → List ℕ → ℕ → ℕ → Bool
clashes_at t earlier later scope i = clashes_here t earlier later scope (slice_get t.declared i)
