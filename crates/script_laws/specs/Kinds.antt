-- The values of the kinds of expressions, and the variables of a scope.
use Rattle.std.specs.Prelude.{◌≡◌, ℕ, ℤ, true, Bool, List, [], ◌∷◌, Option, Some, None}
use Rattle.cdr_values.specs.Trees.{Scalar, boolean, char, unsigned, signed, enumeration, Kind, scalar, words, sequence, array, structure, union, Members, no_members, member, Value, truth, number, letter, text, items, label, Values, list_of}
use Rattle.cdr_values.specs.Fitting.{is_of}
use Rattle.idl_types.specs.declared.type_ref.TypeRef.{TypeRef}
use Rattle.idl_types.specs.Things.{Thing}
use Rattle.idl_types.specs.References.{kind_at}
use Rattle.script_checks.specs.Scene.{Var}

-- so it is of each of a list
abbrev pub Every : {A : Type 0} → (A → Type 0) → List A → Type 0
Every P [] = Unit {0}
Every P (x ∷ xs) = P x × Every P xs

-- a value of a scalar type, whatever its range
abbrev pub IsScalar : Scalar → Value → Type 0
IsScalar boolean v = (b : Bool) × (v ≡ truth b)
IsScalar char v = (n : ℕ) × (v ≡ letter n)
IsScalar (unsigned s) v = (z : ℤ) × (v ≡ number z)
IsScalar (signed s) v = (z : ℤ) × (v ≡ number z)
IsScalar (enumeration name labels) v = (n : ℕ) × (v ≡ label n)

-- a value of a kind, whatever the ranges, bounds and lengths; no expression looks into a union
abbrev mutual
  pub HasKind : Kind → Value → Type 0
  HasKind (scalar s) v = IsScalar s v
  HasKind (words bound) v = (t : List ℕ) × (v ≡ text t)
  HasKind (sequence k bound) v = (vs : Values) × (v ≡ items vs) × Every (HasKind k) (list_of vs)
  HasKind (array k n) v = (vs : Values) × (v ≡ items vs) × Every (HasKind k) (list_of vs)
  HasKind (structure name ms) v = (vs : Values) × (v ≡ items vs) × HaveKinds ms (list_of vs)
  HasKind (union name d cs) v = Unit {0}

  -- the members of a struct
  pub HaveKinds : Members → List Value → Type 0
  HaveKinds no_members vs = vs ≡ []
  HaveKinds (member name k ms) [] = ⊥
  HaveKinds (member name k ms) (v ∷ vs) = HasKind k v × HaveKinds ms vs

-- a variable that may be set has its own type due, and a value of that type
abbrev pub FitsDue : List Thing → Kind → Option TypeRef → Value → Type 0
FitsDue ts k None v = Unit {0}
FitsDue ts k (Some due) v = (kind_at ts due ≡ Some k) × (is_of v k ≡ true)

-- a slot holds a value of its variable's kind
abbrev pub Holds : List Thing → Var → Option Value → Type 0
Holds ts x None = ⊥
Holds ts x (Some v) = HasKind x.kind v × FitsDue ts x.kind x.due v

-- the slots hold values of the variables of a scope, in order
abbrev pub Stands : List Thing → List Var → List (Option Value) → Type 0
Stands ts [] os = Unit {0}
Stands ts (x ∷ xs) [] = ⊥
Stands ts (x ∷ xs) (o ∷ os) = Holds ts x o × Stands ts xs os
