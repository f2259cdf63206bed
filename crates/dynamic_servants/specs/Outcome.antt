-- What an object of an interface answers to a job: the broker's own operations, and the outcomes of scripts (own profile).
use Rattle.std.specs.Prelude.{ℕ, ◌==◌, ◌++◌, List, [], ◌∷◌, replicate, slice_get, codes, Bool, false, Ok, Err, Option, Some, None, if◌then◌else◌}
use Rattle.std.specs.Option.{option_and_then}
use Rattle.std.specs.Str.{bytes_eq}
use Rattle.orb_base.specs.JobRecord.{JobRecord}
use Rattle.orb_base.specs.Outcomes.{bad_operation}
use Rattle.orb_base.specs.declared.outcome.Outcome.{Outcome}
use Rattle.cdr_core.specs.Cursor.{Cursor, cursor, Reads}
use Rattle.cdr_core.specs.Reading.{string_at}
use Rattle.cdr_values.specs.Trees.{Name, scalar, boolean, Value, truth}
use Rattle.idl_types.specs.Things.{Thing, OperationView, InterfaceView}
use Rattle.idl_types.specs.Finding.{place_named}
use Rattle.script_values.specs.Trees.{Steps, no_steps}
use Rattle.script_values.specs.Operations.{Comes, ◌>>=◌, blank}
use Rattle.script_values.specs.Running.{run}
use Rattle.script_checks.specs.Methods.{MethodView, find_operation}
use Rattle.script_checks.specs.Servants.{ServantView, interface_in}
use Rattle.dynamic_servants.specs.Arguments.{arguments}
use Rattle.dynamic_servants.specs.Kin.{is_one_of}
use Rattle.dynamic_servants.specs.Exceptions.{marshal, or_limited}
use Rattle.dynamic_servants.specs.Ending.{returns, ended}

-- ---- whom a job is for

-- what is served: the things of a repository, and the servants of its interfaces
pub record Served : Type 0 where
  pub things : List Thing
  pub servants : List ServantView

-- the servant of the interface at a place
abbrev pub servant_at : List ServantView → ℕ → Option ServantView
servant_at [] place = None
servant_at (v ∷ vs) place = if v.interface == place then Some v else servant_at vs place

-- an interface with its servant
abbrev pub Target : Type 0
Target = InterfaceView × ServantView

-- an interface with its servant, where both are there
abbrev pub both_of : Option (ℕ × InterfaceView) → Option ServantView → Option Target
both_of None v = None
both_of (Some i) None = None
both_of (Some i) (Some v) = Some (i.1, v)

-- those of the interface at a place
abbrev pub target_at : Served → ℕ → Option Target
target_at s place = both_of (interface_in place (slice_get s.things place)) (servant_at s.servants place)

-- those of the interface of an id
abbrev pub target_of : Served → Name → Option Target
target_of s id = option_and_then (target_at s) (place_named s.things id)

-- what a method runs: how many variables it has after its parameters, and its statements
abbrev pub Work : Type 0
Work = ℕ × Steps

-- what the method of an operation runs; the check leaves no operation without one
abbrev pub work_at : List MethodView → ℕ → Work
work_at [] o = (0, no_steps)
work_at (m ∷ ms) o = if m.operation == o then (m.lets, m.body) else work_at ms o

-- ---- what is answered

-- what a method comes to on the values of the parameters: it is run, up to its first limit, and ends
abbrev pub carried_out : List Thing → OperationView → Work → JobRecord → List Value → Comes Outcome
carried_out ts op w job vs = run job.priority w.1 (vs ++ replicate w.0 blank) >>= ended ts op job.order

-- the same where the parameters have a reading
abbrev pub carried : List Thing → OperationView → Work → JobRecord → Reads (List Value) → Outcome
carried ts op w job (Ok x) = or_limited (carried_out ts op w job x.0)
carried ts op w job (Err f) = marshal

-- a job's body, which begins where a message has its first multiple of 8 after its header
abbrev pub body_at : JobRecord → Cursor
body_at job = cursor job.order 24 job.body

-- an operation of the interface, where it has one of the name
abbrev pub asked : List Thing → ServantView → JobRecord → Option (ℕ × OperationView) → Outcome
asked ts v job None = bad_operation
asked ts v job (Some o) = carried ts o.1 (work_at v.methods o.0) job (arguments o.1.params [] (body_at job))

-- a truth is returned
abbrev pub told : JobRecord → Bool → Outcome
told job b = or_limited (returns job.order ((scalar boolean, truth b) ∷ []))

-- whether the interface is one of the id that the body has
abbrev pub told_kin : List Thing → Name → JobRecord → Reads Name → Outcome
told_kin ts id job (Ok x) = told job (is_one_of ts id x.0)
told_kin ts id job (Err f) = marshal

-- what an object of an interface answers: the broker itself answers `_is_a` and `_non_existent`
abbrev pub answered : List Thing → Name → JobRecord → Option Target → Outcome
answered ts id job None = bad_operation
answered ts id job (Some t) =
    if bytes_eq job.operation (codes "_is_a") then told_kin ts id job (string_at (body_at job))
    else if bytes_eq job.operation (codes "_non_existent") then told job false
    else asked ts t.1 job (find_operation 0 t.0.operations job.operation)

-- the outcome of a job for an object of the interface of an id
unfoldable pub outcome_of : Served → Name → JobRecord → Outcome
outcome_of s id job = answered s.things id job (target_of s id)
