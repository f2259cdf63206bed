-- No script that was checked meets a default: the definitions of what comes of it, in which something stands for what isn't there, are
-- the same as those in which nothing does.
use Rattle.std.specs.Prelude.{◌≡◌, ℕ, List, [], map, slice_get, true, Option, Some, Ok, IfOk}
use Rattle.orb_base.specs.JobRecord.{JobRecord}
use Rattle.cdr_core.specs.Cursor.{AreBytes}
use Rattle.cdr_values.specs.Trees.{Name, Value}
use Rattle.cdr_values.specs.Fitting.{is_of}
use Rattle.idl_types.specs.declared.way.Way.TheVariants.{Output}
use Rattle.idl_types.specs.declared.type_ref.TypeRef.{TypeRef}
use Rattle.idl_types.specs.Things.{Thing, interface, ParamView, OperationView, InterfaceView}
use Rattle.idl_types.specs.Finding.{place_named}
use Rattle.idl_types.specs.Sound.{ping_id}
use Rattle.idl_types.specs.BuiltIn.{ping, with_ping}
use Rattle.idl_reader.specs.Whole.{Declares}
use Rattle.servant_scripts.specs.Trees.{Said, MethodSaid, ServantSaid}
use Rattle.script_names.specs.Known.{known}
use Rattle.script_values.specs.Operations.{or_blank}
use Rattle.script_values.specs.Evaluation.{value_at}
use Rattle.script_checks.specs.Scene.{Scene, Var, Typed}
use Rattle.script_checks.specs.Checking.{typed}
use Rattle.script_checks.specs.Methods.{MethodView, method_for}
use Rattle.dynamic_servants.specs.Outcome.{Served, carried_out, outcome_of}
use Rattle.dynamic_servants.specs.Served.{served_by}
use Rattle.dynamic_servants.specs.Zeros.{zero_of}
use Rattle.script_laws.specs.Evaluation.{defined_value}
use Rattle.script_laws.specs.Kinds.{HasKind, Stands}
use Rattle.script_laws.specs.Things.{IsSound, AreOf}
use Rattle.script_laws.specs.Held.{AreDeclared, AreCounted, ArePlain}
use Rattle.script_laws.specs.Outcome.{defined_work, defined_outcome}

-- A checked expression, over slots that hold values of the variables: what its evaluation gives is defined without defaults, and a value
-- that it gives is of the kind that the check has given.
abbrev pub ExpressionsAreDefined : Type 0
ExpressionsAreDefined =
    (s : Scene) (vars : List Var) (want : Option TypeRef) (e : Said) (x : Typed) (priority : ℕ) (slots : List (Option Value))
    → IsSound s.things → s.known ≡ known s.things → typed s vars want e ≡ Ok x → Stands s.things vars slots
    → (defined_value priority slots x.0 ≡ Some (value_at priority (map or_blank slots) x.0)) × IfOk (value_at priority (map or_blank slots) x.0) (HasKind x.1)

-- A checked method of an operation, on values of the types of its parameters: what carrying it out comes to is defined without defaults.
abbrev pub MethodsAreDefined : Type 0
MethodsAreDefined =
    (s : Scene) (place o : ℕ) (x : InterfaceView) (op : OperationView) (m : MethodSaid) (v : MethodView) (job : JobRecord) (args : List Value)
    → IsSound s.things → s.known ≡ known s.things → slice_get s.things place ≡ Some (interface x) → slice_get x.operations o ≡ Some op
    → method_for s place o op m ≡ Ok v → AreOf op.params args
    → defined_work s.things op (v.lets, v.body) job args ≡ Some (carried_out s.things op (v.lets, v.body) job args)

-- the types of parameters that only come out have a zero
abbrev pub HaveZeros : List Thing → Type 0
HaveZeros ts =
    (i : ℕ) (x : InterfaceView) (o : ℕ) (op : OperationView) (j : ℕ) (p : ParamView) → slice_get ts i ≡ Some (interface x) → slice_get x.operations o ≡ Some op
    → slice_get op.params j ≡ Some p → p.way ≡ Output → is_of (zero_of p.kind) p.kind ≡ true

-- the thing of the built-in interface's id is that interface
abbrev pub HasBuiltIn : List Thing → Type 0
HasBuiltIn ts = (place : ℕ) → place_named ts ping_id ≡ Some place → slice_get ts place ≡ Some ping

-- What servants answer that were checked over sound things: the outcome of each job, whatever its bytes, is defined without defaults.
abbrev pub ServedAreDefined : Type 0
ServedAreDefined =
    (ts : List Thing) (script : List ServantSaid) (s : Served) (id : Name) (job : JobRecord)
    → IsSound ts → HaveZeros ts → HasBuiltIn ts → AreBytes job.body → served_by ts script ≡ Ok s
    → defined_outcome s id job ≡ Some (outcome_of s id job)

-- The same of servants that were checked over the things that a repository takes one by one, with the built-in interface after them.
abbrev pub ScriptsAreDefined : Type 0
ScriptsAreDefined =
    (ts : List Thing) (script : List ServantSaid) (s : Served) (id : Name) (job : JobRecord)
    → AreDeclared [] ts → ArePlain ts → AreBytes job.body → served_by (with_ping ts) script ≡ Ok s
    → defined_outcome s id job ≡ Some (outcome_of s id job)

-- The same of servants that were checked over the things that a text declares, with the built-in interface after them. Of the things
-- only counts are asked.
abbrev pub TextsAreDefined : Type 0
TextsAreDefined =
    (text : List ℕ) (ts : List Thing) (script : List ServantSaid) (s : Served) (id : Name) (job : JobRecord)
    → Declares text ts → AreCounted ts → AreBytes job.body → served_by (with_ping ts) script ≡ Ok s
    → defined_outcome s id job ≡ Some (outcome_of s id job)
