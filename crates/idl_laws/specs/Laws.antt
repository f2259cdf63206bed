-- What names mean at the points of a text.
use Rattle.std.specs.Prelude.{◌≡◌, ◌≤◌, ◌↔◌, ℕ, true, List, [], ◌∷◌, ◌++◌, length, Some, Ok}
use Rattle.grammar.specs.Grammar.{did, MarkOf, acts}
use Rattle.idl_grammar.specs.declared.label.IdlLabel.{IdlLabel}
use Rattle.idl_grammar.specs.declared.label.IdlLabel.TheVariants as l
use Rattle.idl_scopes.specs.Finding.{looked_up}
use Rattle.idl_scopes.specs.Ids.{id_of}
use Rattle.idl_constants.specs.ConstValues.{Value, choice}
use Rattle.idl_names.specs.Sizes.{Sized}
use Rattle.idl_names.specs.State.{Thing, type, constant, enumerator, Built}
use Rattle.idl_names.specs.Changes.{thing_at}
use Rattle.idl_names.specs.Interfaces.{is_interface, is_exception}
use Rattle.idl_names.specs.Declaring.{idl}
use Rattle.idl_laws.specs.Meaning.{Means}
use Rattle.idl_laws.specs.Points.{Point}
use Rattle.idl_laws.specs.Names.{is_rooted, PartsOf, is_use, NameMeans}

-- in each scope that is declared before a point, looking up a name finds what it means over the declarations before the point
abbrev pub LooksUp : Type 0
LooksUp =
    (text : List ℕ) (before after : List (MarkOf idl)) (s : Built) → Point text before after s
    → (name : List ℕ) (scope i : ℕ) → scope ≤ length s.scopes.declared
    → (looked_up s.scopes name scope ≡ Some i) ↔ Means s.scopes name i scope

-- a thing is this value: a constant its own, an enumerator itself
abbrev pub IsValue : Thing → Value → Type 0
IsValue (constant kind w) v = v ≡ w
IsValue (enumerator enum n) v = v ≡ choice enum n
IsValue thing v = ⊥

-- The declaration with this number is used as the label says, at the point s, after which c is known: it is a base more, the newest
-- type, the newest value, or an exception more that is raised. A result of a oneway is always refused.
abbrev pub Uses : IdlLabel → Built → ℕ → Built → Type 0
Uses l.Base s i c = (is_interface (thing_at s i) ≡ true) × (c.parts.bases ≡ s.parts.bases ++ i ∷ [])
Uses l.UseType s i c = (k : Sized) × (thing_at s i ≡ type k) × (c.type ≡ k)
Uses l.UseConst s i c = (v : Value) × IsValue (thing_at s i) v × (c.value.value ≡ v)
Uses l.Raised s i c = (is_exception (thing_at s i) ≡ true) × (c.parts.raises ≡ s.parts.raises ++ id_of s.scopes i ∷ [])
Uses label s i c = ⊥

-- Each name of a text in the place of a base, a type, a value or an exception means what looking it up gives over the declarations
-- before it, and that is what is used. A label, a bound, a length and what a constant is are values.
abbrev pub NamesMean : Type 0
NamesMean =
    (text : List ℕ) (before name after : List (MarkOf idl)) (label : IdlLabel) (first : List ℕ) (names : List (List ℕ)) (s c : Built)
    → Point text before (name ++ did label ∷ after) s → PartsOf first names name → is_use label ≡ true
    → acts idl (name ++ did label ∷ []) s ≡ Ok c
    → (i : ℕ) × NameMeans (is_rooted before) s.parts.head s.scopes s.here first names i × Uses label s i c
