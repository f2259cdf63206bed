-- What an expression of a script may speak of.
use Rattle.std.specs.Prelude.{ℕ, ◌+◌, Bool, List, [], ◌∷◌, Result, Ok, Err, Option, Some, None, if◌then◌else◌}
use Rattle.std.specs.Str.{bytes_eq}
use Rattle.cdr_values.specs.Trees.{Name, Kind}
use Rattle.idl_types.specs.Things.{Thing}
use Rattle.idl_types.specs.declared.type_ref.TypeRef.{TypeRef}
use Rattle.servant_scripts.specs.declared.phrase.At.{At}
use Rattle.script_names.specs.Known.{Known}
use Rattle.script_values.specs.Trees.{Term}
use Rattle.script_checks.specs.declared.fault.CheckCause.{CheckCause}
use Rattle.script_checks.specs.declared.fault.CheckFault.{CheckFault}

-- the things of the repository, what their names mean, and the id of the interface whose scope names are looked up in
pub record Scene : Type 0 where
  pub things : List Thing
  pub known : Known
  pub interface : Name

-- a variable is in the slot that has its place in the scope; one that may be set has the type that is due
pub record Var : Type 0 where
  pub name : Name
  pub kind : Kind
  pub due : Option TypeRef

-- an expression as it is run, and its kind
abbrev pub Typed : Type 0
Typed = Term × Kind

-- a part of the check: what is checked, or the first fault
abbrev pub Checks : Type 0 → Type 0
Checks A = Result A CheckFault

infixl 10 ◌>>=◌
-- the second is asked of what the first gave
abbrev pub ◌>>=◌ : {A B : Type 0} → Checks A → (A → Checks B) → Checks B
(Ok x) >>= f = f x
(Err e) >>= f = Err e

-- a fault with its place
abbrev pub refused : {A : Type 0} → CheckCause → At → Checks A
refused cause at = Err (record { cause = cause; line = at.line; column = at.column })

-- what is there, or the fault that it isn't
abbrev pub or_refused : {A : Type 0} → CheckCause → At → Option A → Checks A
or_refused cause at (Some x) = Ok x
or_refused cause at None = refused cause at

-- this, where the test holds, or the fault that it doesn't
abbrev pub if_holds : {A : Type 0} → Bool → CheckCause → At → A → Checks A
if_holds holds cause at x = if holds then Ok x else refused cause at

-- the slot and the kind of the first variable of a name, and the type that is due, where it may be set
abbrev pub find_var : ℕ → List Var → Name → Option (ℕ × Kind × Option TypeRef)
find_var n [] name = None
find_var n (v ∷ vs) name = if bytes_eq v.name name then Some (n, v.kind, v.due) else find_var (n + 1) vs name
