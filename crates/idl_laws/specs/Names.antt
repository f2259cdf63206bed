-- Scoped names at the points of a text, and what they mean: CORBA 3.0.3, chapter 3, names and scoping.
use Rattle.std.specs.Prelude.{◌≡◌, ◌⊎◌, ℕ, ◌+◌, ◌-◌, Bool, true, false, List, [], ◌∷◌}
use Rattle.grammar.specs.Language.{Placed}
use Rattle.grammar.specs.Grammar.{Mark, took, did, MarkOf}
use Rattle.idl_tokens.specs.declared.kind.Kind.{Kind}
use Rattle.idl_grammar.specs.declared.label.IdlLabel.{IdlLabel}
use Rattle.idl_grammar.specs.declared.label.IdlLabel.TheVariants as l
use Rattle.idl_scopes.specs.Table.{Table}
use Rattle.idl_scopes.specs.Finding.{is_operation, sort_at, name_at, outer, scopes_of}
use Rattle.idl_names.specs.Declaring.{idl}
use Rattle.idl_lookup.specs.declared.head.Head.{Head}
use Rattle.idl_lookup.specs.declared.head.Head.TheVariants.{Outside, Parameters, Raises}
use Rattle.idl_laws.specs.Meaning.{IsNamed, HasNone, IsFirst, Means}

-- ---- the marks of a scoped name

-- a mark is the `::` that a scoped name begins with
abbrev pub is_root : Mark Kind IdlLabel → Bool
is_root (took l.Rooted t) = true
is_root m = false

-- whether the last of these marks is, and where there is none whether an earlier one was
abbrev pub ends_rooted : Bool → List (MarkOf idl) → Bool
ends_rooted was [] = was
ends_rooted was (m ∷ ms) = ends_rooted (is_root m) ms

-- the name after these marks begins with `::`
abbrev pub is_rooted : List (MarkOf idl) → Bool
is_rooted before = ends_rooted false before

-- the marks are further parts of a name, each after `::`
abbrev pub FurtherParts : List (List ℕ) → List (MarkOf idl) → Type 0
FurtherParts [] ms = ms ≡ []
FurtherParts (name ∷ names) ms =
    (colons : Placed Kind) × (part : Placed Kind) × (rest : List (MarkOf idl)) × (part.text ≡ name) × FurtherParts names rest
    × (ms ≡ took l.Skip colons ∷ took l.NamePart part ∷ did l.Skip ∷ rest)

-- the marks are the parts of a name, without the `::` that it may begin with
abbrev pub PartsOf : List ℕ → List (List ℕ) → List (MarkOf idl) → Type 0
PartsOf first names ms =
    (part : Placed Kind) × (rest : List (MarkOf idl)) × (part.text ≡ first) × FurtherParts names rest × (ms ≡ took l.NamePart part ∷ rest)

-- what a scoped name is used as: a base, a type, a value, or an exception that is raised
abbrev pub is_use : IdlLabel → Bool
is_use l.Base = true
is_use l.UseType = true
is_use l.UseConst = true
is_use l.Raised = true
is_use l.ResultName = true
is_use label = false

-- ---- what it means

-- Around the scope of an operation: in its interface the operation's own name means the operation itself, and any other one
-- means there what it means.
abbrev pub MeansAround : Table → ℕ → List ℕ → ℕ → Type 0
MeansAround t here name i =
    ((name_at t (here - 1) ≡ name) × (i ≡ here - 1)) ⊎ ((name_at t (here - 1) ≡ name → ⊥) × Means t name i (outer t here))

-- The first part of a name, where no `::` is before it: it means what it means in the open scope. In an operation's parameters it
-- is looked up among these and then around the operation, and in what the operation raises only around it.
abbrev pub MeansHere : Head → Table → ℕ → List ℕ → ℕ → Type 0
MeansHere Outside t here name i = Means t name i here
MeansHere Parameters t here name i = IsNamed t here name i ⊎ (HasNone t here name × MeansAround t here name i)
MeansHere Raises t here name i = MeansAround t here name i

-- the first part of a name; after `::` it is in the file's scope alone
abbrev pub FirstMeans : Bool → Head → Table → ℕ → List ℕ → ℕ → Type 0
FirstMeans true head t here name i = IsNamed t 0 name i
FirstMeans false head t here name i = MeansHere head t here name i

-- a further part: inside what was found, in its scope and then in what it inherits; an operation has no names outside of it
abbrev pub MeansInside : Table → List ℕ → ℕ → ℕ → Type 0
MeansInside t name j i = (is_operation (sort_at t j) ≡ false) × IsFirst t name (scopes_of t j) i

-- a further part is the name of the operation that is read, in its interface
abbrev pub IsItself : Table → ℕ → List ℕ → ℕ → Type 0
IsItself t here name j = (j + 1 ≡ outer t here) × (name_at t (here - 1) ≡ name)

-- In an operation: inside the operation itself nothing is found, and inside its interface its name means the operation.
abbrev pub MeansWithin : Table → ℕ → List ℕ → ℕ → ℕ → Type 0
MeansWithin t here name j i =
    (j ≡ here - 1 → ⊥) × ((IsItself t here name j × (i ≡ here - 1)) ⊎ ((IsItself t here name j → ⊥) × MeansInside t name j i))

-- a further part, outside of an operation and in one
abbrev pub FurtherMeans : Head → Table → ℕ → List ℕ → ℕ → ℕ → Type 0
FurtherMeans Outside t here name j i = MeansInside t name j i
FurtherMeans Parameters t here name j i = MeansWithin t here name j i
FurtherMeans Raises t here name j i = MeansWithin t here name j i

-- the further parts, each inside what the one before it means
abbrev pub RestMeans : Head → Table → ℕ → List (List ℕ) → ℕ → ℕ → Type 0
RestMeans head t here [] j i = j ≡ i
RestMeans head t here (name ∷ names) j i = (k : ℕ) × FurtherMeans head t here name j k × RestMeans head t here names k i

-- a whole name
pub record NameMeans (rooted : Bool) (head : Head) (t : Table) (here : ℕ) (first : List ℕ) (names : List (List ℕ)) (i : ℕ) : Type 0 where
  pub start : ℕ
  pub first_means : FirstMeans rooted head t here first start
  pub rest_means : RestMeans head t here names start i
