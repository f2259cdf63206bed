-- What the check's values stand for.
use Rattle.std.specs.Prelude.{ℕ, List, map, Option}
use Rattle.cdr_values.specs.Trees.{Name, Kind}
use Rattle.cdr_values.specs.Kinds.{kind_of}
use Rattle.idl_types.specs.Things.{Thing}
use Rattle.idl_types.specs.Contents.{things_of}
use Rattle.idl_types.specs.declared.repository.Repository.{Repository}
use Rattle.script_names.specs.declared.names.Names.{Names}
use Rattle.script_names.specs.Contents.{known_of}
use Rattle.script_values.specs.Views.{term_of}
use Rattle.script_checks.specs.declared.ground.Ground.{Ground}
use Rattle.script_checks.specs.declared.scene.Sort.{Sort}
use Rattle.script_checks.specs.declared.scene.Sort.TheVariants as sort
use Rattle.script_checks.specs.declared.scene.Variable.{Variable}
use Rattle.script_checks.specs.declared.scene.Checked.{Checked}
use Rattle.script_checks.specs.declared.scene.Slot.{Slot}
use Rattle.script_checks.specs.declared.scene.Place.{Place}
use Rattle.script_checks.specs.declared.scene.Named.{Named}
use Rattle.script_checks.specs.declared.scene.Settable.{Settable}
use Rattle.script_checks.specs.declared.scene.Asked.{Asked}
use Rattle.script_checks.specs.declared.scene.ListDue.{ListDue}
use Rattle.script_checks.specs.declared.scene.Thrown.{Thrown}
use Rattle.idl_types.specs.Things.{ExceptionView}
use Rattle.idl_types.specs.Views.{exception_of}
use Rattle.idl_types.specs.declared.type_ref.TypeRef.{TypeRef}
use Rattle.script_checks.specs.Kinds.{number_kind, truth_kind, text_kind}
use Rattle.script_checks.specs.Scene.{Scene, Var, Typed}

-- what may be spoken of in an interface
abbrev pub scene_of : Repository → Names → Name → Scene
scene_of r names interface = record { things = things_of r; known = known_of names; interface = interface }

-- the same by what a method is checked over, and the things of its repository
abbrev pub ground_of : Ground → Scene
ground_of g = scene_of g.repository.now g.names.now g.interface.now

-- the things of the repository that a method is checked over
abbrev pub things_in : Ground → List Thing
things_in g = things_of g.repository.now

-- the kind of an expression
abbrev pub sort_of : Sort → Kind
sort_of sort.Truth = truth_kind
sort_of sort.Number = number_kind
sort_of sort.Words = text_kind
sort_of (sort.Type k) = kind_of k.now

-- a variable
abbrev pub var_of : Variable → Var
var_of v = record { name = v.name.now; kind = sort_of v.sort; due = v.due }

-- all variables that are alive
abbrev pub vars_view : List Variable → List Var
vars_view = map var_of

-- an expression as it is run, with its kind
abbrev pub checked_of : List Thing → Checked → Typed
checked_of ts c = (term_of ts c.expr, sort_of c.sort)

-- a member by its index
abbrev pub slot_of : Slot → ℕ × Kind
slot_of s = (s.index, kind_of s.kind.now)

-- the slot of a variable, its kind, and the type that is due
abbrev pub place_of : Place → ℕ × Kind × Option TypeRef
place_of p = (p.slot, sort_of p.sort, p.due)

-- a named type, by the place of its thing
abbrev pub named_of : Named → ℕ × Kind
named_of n = (n.place, kind_of n.kind.now)

-- the kind that a second operand must have, and the kind that both give
abbrev pub asked_of : Asked → Kind × Kind
asked_of a = (sort_of a.need, sort_of a.gives)

-- the type that is due where a list is
abbrev pub list_due_of : ListDue → TypeRef × Kind
list_due_of l = (l.due, kind_of l.kind.now)

-- an exception, by the place of its thing
abbrev pub thrown_of : Thrown → ℕ × ExceptionView
thrown_of t = (t.place, exception_of t.exception.now)

-- a slot, and the type that is due
abbrev pub set_of : Settable → ℕ × TypeRef
set_of s = (s.slot, s.due)
