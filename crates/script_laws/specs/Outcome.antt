-- What an object answers without defaults: each operation has a method, each result that is due is there and no other, each parameter
-- that comes out has a value, each exception is one of the operation's, and all that is sent is of its type.
use Rattle.std.specs.Prelude.{ℕ, ◌+◌, ◌++◌, ◌==◌, List, [], ◌∷◌, map, replicate, codes, Option, Some, None, Ok, Err, false, if◌then◌else◌}
use Rattle.std.specs.Option.{option_map, option_and_then}
use Rattle.std.specs.Str.{bytes_eq}
use Rattle.orb_base.specs.declared.order.Order.{Order}
use Rattle.orb_base.specs.declared.outcome.Outcome.{Outcome}
use Rattle.orb_base.specs.declared.outcome.Outcome.TheVariants.{Returned, User}
use Rattle.orb_base.specs.JobRecord.{JobRecord}
use Rattle.orb_base.specs.Outcomes.{bad_operation}
use Rattle.cdr_core.specs.Cursor.{Reads}
use Rattle.cdr_core.specs.Reading.{string_at}
use Rattle.cdr_core.specs.Spelling.{fields_bytes}
use Rattle.cdr_values.specs.Trees.{Name, Kind, words, Value, text, items, list_of}
use Rattle.idl_types.specs.declared.way.Way.{Way}
use Rattle.idl_types.specs.declared.way.Way.TheVariants.{Input, Output, Both}
use Rattle.idl_types.specs.Things.{Thing, ParamView, OperationView, ExceptionView}
use Rattle.script_values.specs.Running.{End, next, returned, gone, raised}
use Rattle.script_checks.specs.Methods.{MethodView, find_operation}
use Rattle.script_checks.specs.Servants.{ServantView}
use Rattle.dynamic_servants.specs.Arguments.{arguments}
use Rattle.dynamic_servants.specs.Replies.{Typed, all_fields, within}
use Rattle.dynamic_servants.specs.Exceptions.{marshal, or_limited}
use Rattle.dynamic_servants.specs.Ending.{exception_at}
use Rattle.dynamic_servants.specs.Outcome.{Served, Target, Work, target_of, body_at, told, told_kin}
use Rattle.script_laws.specs.Defined.{Defined, ◌and_then◌, got}
use Rattle.script_laws.specs.Running.{defined_run}

-- ---- what is sent

-- a result where one is due, and none where none is
abbrev pub defined_result : Option Kind → Option Value → Option (List Typed)
defined_result (Some k) (Some v) = Some ((k, v) ∷ [])
defined_result None None = Some []
defined_result (Some k) None = None
defined_result None (Some v) = None

-- a parameter where it comes out, which has a value
abbrev pub defined_out : Way → Kind → Option Value → Option (List Typed)
defined_out Input k o = Some []
defined_out Output k o = option_map (λ v. (k, v) ∷ []) o
defined_out Both k o = option_map (λ v. (k, v) ∷ []) o

-- the one after the other, where both are there
abbrev pub both_lists : Option (List Typed) → Option (List Typed) → Option (List Typed)
both_lists a b = option_and_then (λ xs. option_map (λ ys. xs ++ ys) b) a

-- the parameters that come out, from the variable at an index on
abbrev pub defined_outs : ℕ → List ParamView → List (Option Value) → Option (List Typed)
defined_outs n [] slots = Some []
defined_outs n (p ∷ ps) slots = both_lists (defined_out p.way p.kind (got slots n)) (defined_outs (n + 1) ps slots)

-- the members of an exception, as many values as members
abbrev pub defined_members : List (Name × Kind) → List Value → Option (List Typed)
defined_members [] [] = Some []
defined_members (m ∷ ms) (v ∷ vs) = option_map (λ xs. (m.1, v) ∷ xs) (defined_members ms vs)
defined_members [] (v ∷ vs) = None
defined_members (m ∷ ms) [] = None

-- an exception: its id, then its members
abbrev pub defined_exception : ExceptionView → Value → Option (List Typed)
defined_exception e (items vs) = option_map (λ xs. (words 0, text e.id) ∷ xs) (defined_members e.members (list_of vs))
defined_exception e _ = None

-- the body of a reply, all of whose values are of their types, where a reply has room for it
abbrev pub defined_body : Order → Option (List Typed) → Defined (List ℕ)
defined_body order o = option_map (λ fs. within (fields_bytes order 24 fs)) (option_and_then all_fields o)

-- ---- how an operation ends

-- it returns these values
abbrev pub defined_return : Order → Option (List Typed) → Defined Outcome
defined_return order o = defined_body order o and_then λ body. Some (Ok (Returned body))

-- it raises the exception, which is there, with these members
abbrev pub defined_raise : Order → Option ExceptionView → Value → Defined Outcome
defined_raise order None v = None
defined_raise order (Some e) v = defined_body order (defined_exception e v) and_then λ body. Some (Ok (User body))

-- by how its method ended, and what its variables hold then
abbrev pub defined_ends : List Thing → OperationView → Order → List (Option Value) → End → Defined Outcome
defined_ends ts op order slots (returned v) = defined_return order (both_lists (defined_result op.result (Some v)) (defined_outs 0 op.params slots))
defined_ends ts op order slots next = defined_return order (both_lists (defined_result op.result None) (defined_outs 0 op.params slots))
defined_ends ts op order slots gone = defined_return order (both_lists (defined_result op.result None) (defined_outs 0 op.params slots))
defined_ends ts op order slots (raised n v) = defined_raise order (exception_at ts op.raises n) v

-- the same of a run
abbrev pub defined_ended : List Thing → OperationView → Order → End × List (Option Value) → Defined Outcome
defined_ended ts op order x = defined_ends ts op order x.1 x.0

-- what a method comes to on the values of the parameters; its other variables have none yet
abbrev pub defined_work : List Thing → OperationView → Work → JobRecord → List Value → Defined Outcome
defined_work ts op w job vs = defined_run job.priority w.1 (map (λ v. Some v) vs ++ replicate w.0 None) and_then defined_ended ts op job.order

-- ---- what is answered

-- what the method of an operation runs, where there is one
abbrev pub defined_work_at : List MethodView → ℕ → Option Work
defined_work_at [] o = None
defined_work_at (m ∷ ms) o = if m.operation == o then Some (m.lets, m.body) else defined_work_at ms o

-- a method is there, and it is carried out where the parameters have a reading
abbrev pub defined_carried : List Thing → OperationView → JobRecord → Option Work → Reads (List Value) → Option Outcome
defined_carried ts op job None r = None
defined_carried ts op job (Some w) (Ok x) = option_map or_limited (defined_work ts op w job x.0)
defined_carried ts op job (Some w) (Err f) = Some marshal

-- an operation of the interface, where it has one of the name
abbrev pub defined_asked : List Thing → ServantView → JobRecord → Option (ℕ × OperationView) → Option Outcome
defined_asked ts v job None = Some bad_operation
defined_asked ts v job (Some o) = defined_carried ts o.1 job (defined_work_at v.methods o.0) (arguments o.1.params [] (body_at job))

-- what an object of an interface answers: the broker itself answers `_is_a` and `_non_existent`
abbrev pub defined_answer : List Thing → Name → JobRecord → Option Target → Option Outcome
defined_answer ts id job None = Some bad_operation
defined_answer ts id job (Some t) =
    if bytes_eq job.operation (codes "_is_a") then Some (told_kin ts id job (string_at (body_at job)))
    else if bytes_eq job.operation (codes "_non_existent") then Some (told job false)
    else defined_asked ts t.1 job (find_operation 0 t.0.operations job.operation)

-- the outcome of a job for an object of the interface of an id
abbrev pub defined_outcome : Served → Name → JobRecord → Option Outcome
defined_outcome s id job = defined_answer s.things id job (target_of s id)
