-- What is built, in the check of an expression: the members of a struct or an exception, and the elements of a list (own profile).
use Rattle.std.specs.Prelude.{ℕ, suc, ◌==◌, ◌||◌, Bool, true, false, List, [], ◌∷◌, length, Ok, Option, Some, None, if◌then◌else◌}
use Rattle.cdr_values.specs.Trees.{Kind, Members, no_members, member}
use Rattle.idl_types.specs.References.{kind_at}
use Rattle.idl_types.specs.Things.{Thing}
use Rattle.idl_types.specs.declared.type_ref.TypeRef.{TypeRef}
use Rattle.servant_scripts.specs.declared.phrase.At.{At}
use Rattle.servant_scripts.specs.declared.phrase.Part.{Part}
use Rattle.script_values.specs.Trees as run
use Rattle.script_values.specs.Trees.{build, terms_of}
use Rattle.script_checks.specs.declared.fault.CheckCause.TheVariants as cause
use Rattle.script_checks.specs.Kinds.{element_of, is_list_len}
use Rattle.script_checks.specs.Scene.{Typed, Checks, ◌>>=◌, refused, or_refused, if_holds}
use Rattle.script_checks.specs.Operators.{find_member}

-- how many members there are
abbrev pub members_len : Members → ℕ
members_len no_members = 0
members_len (member m k ms) = suc (members_len ms)

-- a member was given already
abbrev pub is_given : List run.Part → ℕ → Bool
is_given [] n = false
is_given (p ∷ ps) n = (p.0 == n) || is_given ps n

-- the member that a field gives: it is there, and wasn't given; both faults are at the field's name
abbrev pub new_member : Members → List run.Part → Part → Checks ℕ
new_member ms given p =
    or_refused cause.Members p.at (find_member 0 ms p.name)
    >>= λ m. if_holds (if is_given given m.0 then false else true) cause.Members p.at m.0

-- all members were given, or the closing brace is at fault
abbrev pub complete : Members → At → List run.Part → Checks (List run.Part)
complete ms close given = if_holds (length given == members_len ms) cause.Members close given

-- a list may be where a sequence or an array is due
abbrev pub list_due : List Thing → Option TypeRef → At → Checks (TypeRef × Kind)
list_due ts None at = refused cause.Kind at
list_due ts (Some due) at = or_refused cause.Kind at (kind_at ts due) >>= λ k. or_refused cause.Kind at (element_of k) >>= λ e. Ok (due, k)

-- a whole list, of as many as an array has
abbrev pub list_of : Kind → At → List run.Part → Checks Typed
list_of k at parts = if_holds (is_list_len k (length parts)) cause.Kind at (build (terms_of parts), k)
