-- What the service contexts of a message tell of priorities: Real-time CORBA 1.2, CORBA priorities and Priority banded
-- connections. That the first context of an id counts is own profile.
use Rattle.std.specs.Prelude.{◌≡◌, ℕ, List, ◌∷◌, ◌++◌, Option, Some, None, ◌⊎◌}
use Rattle.cdr_core.specs.Lists as Lists
use Rattle.orb_base.specs.Span.{Span}
use Rattle.orb_base.specs.Tagged.{Context}
use Rattle.service_contexts.specs.declared.contexts.Contexts.{Contexts}
use Rattle.service_contexts.specs.declared.contexts.ContextFault.{ContextFault}
use Rattle.service_contexts.specs.declared.contexts.TheConstants.{PRIORITY_CONTEXT, RANGE_CONTEXT}
use Rattle.service_contexts.specs.Carrying.{CarriesPriority, CarriesBand}

-- the first context of an id, if there is one
abbrev pub first_of : ℕ → List Context → Option Context
first_of id list = Lists.first_of (λ context. context.id) id list

-- what the first context of an id carries, or None where there is none of the id
abbrev pub TellsFirst : {A : Type 0} → ℕ → (A → List ℕ → Type 0) → List Context → Option A → Type 0
TellsFirst id Carried list None = first_of id list ≡ None
TellsFirst id Carried list (Some value) =
    (context : Context) × (first_of id list ≡ Some context) × Carried value context.bytes

-- the contexts tell this of priorities: each that counts has a reading
pub record Tells (list : List Context) (told : Contexts) : Type 0 where
  pub priority : TellsFirst PRIORITY_CONTEXT CarriesPriority list told.priority
  pub range : TellsFirst RANGE_CONTEXT CarriesBand list told.range

-- a context of the one or the other id that has no reading
abbrev pub IsFaulty : Context → Type 0
IsFaulty context =
    ((context.id ≡ PRIORITY_CONTEXT) × ((level : ℕ) → ¬ CarriesPriority level context.bytes))
    ⊎ ((context.id ≡ RANGE_CONTEXT) × ((band : Span) → ¬ CarriesBand band context.bytes))

-- the first context in the list that counts, since none of its id is before it, and has no reading
pub record IsFirstFault (list : List Context) (f : ContextFault) : Type 0 where
  pub before : List Context
  pub context : Context
  pub behind : List Context
  pub parts : list ≡ before ++ context ∷ behind
  pub told : f.id ≡ context.id
  pub counts : first_of context.id before ≡ None
  pub faulty : IsFaulty context
  pub so_far : Contexts
  pub earlier : Tells before so_far
