-- The check of a whole script: servant by servant, and method by method, in the order of the text (own profile). That an operation
-- has no method is given after all other faults of its servant.
use Rattle.std.specs.Prelude.{ℕ, ◌+◌, ◌==◌, ◌||◌, Bool, true, false, List, [], ◌∷◌, ◌++◌, slice_get, Ok, Option, Some, None, if◌then◌else◌}
use Rattle.std.specs.Str.{bytes_eq}
use Rattle.idl_types.specs.Things.{OperationView, InterfaceView, Thing, interface}
use Rattle.idl_types.specs.Sound.{ping_id}
use Rattle.servant_scripts.specs.Trees.{Scoped, ServantSaid}
use Rattle.script_names.specs.declared.meaning.Meaning.{Meaning}
use Rattle.script_names.specs.declared.meaning.Meaning.TheVariants as means
use Rattle.script_names.specs.Finding.{meant}
use Rattle.script_names.specs.Known.{Known, known}
use Rattle.script_checks.specs.declared.fault.CheckCause.TheVariants as cause
use Rattle.script_checks.specs.Scene.{Checks, ◌>>=◌, or_refused, if_holds}
use Rattle.script_checks.specs.Naming.{known_or, last_part}
use Rattle.script_checks.specs.Methods.{MethodView, methods, has_method}

-- a servant that was checked: the place of its interface, and its methods in the order of the text
pub record ServantView : Type 0 where
  pub interface : ℕ
  pub methods : List MethodView

-- every operation from an index on has a method
abbrev pub all_there : ℕ → List OperationView → List MethodView → Bool
all_there n [] done = true
all_there n (o ∷ os) done = if has_method done n then all_there (n + 1) os done else false

-- the interface that a thing is, and its place
abbrev pub interface_in : ℕ → Option Thing → Option (ℕ × InterfaceView)
interface_in i (Some (interface x)) = Some (i, x)
interface_in i t = None

-- the interface that a meaning is, and its place
abbrev pub interface_of : List Thing → Meaning → Option (ℕ × InterfaceView)
interface_of ts (means.Thing i) = interface_in i (slice_get ts i)
interface_of ts m = None

-- the interface of a name, looked up in the file's scope
abbrev pub interface_named : List Thing → Known → Scoped → Checks (ℕ × InterfaceView)
interface_named ts k n =
    known_or cause.UnknownInterface (meant k [] n) >>= λ m. or_refused cause.UnknownInterface (last_part n) (interface_of ts m)

-- the interface at a place has a servant
abbrev pub is_served : List ServantView → ℕ → Bool
is_served [] i = false
is_served (v ∷ vs) i = (v.interface == i) || is_served vs i

-- an interface has one servant, and the built-in one has it already
abbrev pub new_servant : List ServantView → Scoped → ℕ × InterfaceView → Checks (ℕ × InterfaceView)
new_servant done n i = if_holds (if bytes_eq i.1.id ping_id || is_served done i.0 then false else true) cause.Twice (last_part n) i

-- a servant after those before it
abbrev pub servant : List Thing → Known → List ServantView → ServantSaid → Checks ServantView
servant ts k done v =
    interface_named ts k v.name >>= new_servant done v.name
    >>= λ i. methods (record { things = ts; known = k; interface = i.1.id }) i.0 i.1 [] v.methods
    >>= λ ms. if_holds (all_there 0 i.1.operations ms) cause.Missing v.at (record { interface = i.0; methods = ms })

-- all servants after those before them
abbrev pub servants : List Thing → Known → List ServantView → List ServantSaid → Checks (List ServantView)
servants ts k done [] = Ok done
servants ts k done (v ∷ vs) = servant ts k done v >>= λ x. servants ts k (done ++ x ∷ []) vs

-- a whole script
abbrev pub checked : List Thing → List ServantSaid → Checks (List ServantView)
checked ts script = servants ts (known ts) [] script
