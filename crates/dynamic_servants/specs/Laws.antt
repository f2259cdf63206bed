-- Where objects answer BAD_OPERATION and MARSHAL, and nowhere else.
use Rattle.std.specs.Prelude.{◌≡◌, ◌↔◌, ℕ, ◌||◌, Bool, true, false, [], codes, is_some, Ok, Err, Option, Some, None, if◌then◌else◌}
use Rattle.std.specs.Str.{bytes_eq}
use Rattle.orb_base.specs.JobRecord.{JobRecord}
use Rattle.orb_base.specs.Outcomes.{bad_operation}
use Rattle.cdr_core.specs.Cursor.{Reads}
use Rattle.cdr_core.specs.Reading.{string_at}
use Rattle.cdr_values.specs.Trees.{Name}
use Rattle.idl_types.specs.Things.{OperationView}
use Rattle.script_checks.specs.Methods.{find_operation}
use Rattle.dynamic_servants.specs.Arguments.{arguments}
use Rattle.dynamic_servants.specs.Exceptions.{marshal}
use Rattle.dynamic_servants.specs.Outcome.{Served, Target, target_of, body_at, outcome_of}

-- whether an interface is served and has an operation of the name: one of the broker's, or its own
abbrev pub has_operation : Option Target → Name → Bool
has_operation None name = false
has_operation (Some t) name =
    bytes_eq name (codes "_is_a") || (bytes_eq name (codes "_non_existent") || is_some (find_operation 0 t.0.operations name))

-- whether a reading gives a value
abbrev pub is_read : {A : Type 0} → Reads A → Bool
is_read (Ok x) = true
is_read (Err f) = false

-- whether a job's body has the parameters of an operation of the interface, where it is one
abbrev pub are_read : JobRecord → Option (ℕ × OperationView) → Bool
are_read job None = true
are_read job (Some o) = is_read (arguments o.1.params [] (body_at job))

-- whether a job's body has the parameters of its operation, where the interface has it
abbrev pub has_parameters : Option Target → JobRecord → Bool
has_parameters None job = true
has_parameters (Some t) job =
    if bytes_eq job.operation (codes "_is_a") then is_read (string_at (body_at job))
    else if bytes_eq job.operation (codes "_non_existent") then true
    else are_read job (find_operation 0 t.0.operations job.operation)

-- an object answers BAD_OPERATION exactly where its interface isn't served or has no such operation
abbrev pub RefusesUnknown : Type 0
RefusesUnknown = (s : Served) (id : Name) (job : JobRecord) → (outcome_of s id job ≡ bad_operation) ↔ (has_operation (target_of s id) job.operation ≡ false)

-- and MARSHAL exactly where it has the operation, but the body hasn't its parameters
abbrev pub RefusesUnread : Type 0
RefusesUnread = (s : Served) (id : Name) (job : JobRecord) → (outcome_of s id job ≡ marshal) ↔ (has_parameters (target_of s id) job ≡ false)
