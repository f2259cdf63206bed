-- How an operation ends: CORBA 3.0.3, section 15.4. It returns its result, and then the parameters that come out, in order; or it
-- raises one of its exceptions.
use Rattle.std.specs.Prelude.{ℕ, ◌++◌, List, slice_get, Ok, Err, Option, Some, None}
use Rattle.std.specs.Option.{option_and_then}
use Rattle.orb_base.specs.declared.order.Order.{Order}
use Rattle.orb_base.specs.declared.outcome.Outcome.{Outcome}
use Rattle.orb_base.specs.declared.outcome.Outcome.TheVariants.{Returned, User}
use Rattle.cdr_values.specs.Trees.{Names, Value}
use Rattle.idl_types.specs.Things.{Thing, OperationView, ExceptionView}
use Rattle.idl_types.specs.Finding.{exception_named}
use Rattle.script_values.specs.declared.limit.Limit.TheVariants.{Misfit}
use Rattle.script_values.specs.Operations.{Comes, ◌>>=◌}
use Rattle.script_values.specs.Running.{End, next, returned, gone, raised}
use Rattle.dynamic_servants.specs.Replies.{Typed, result_of, outs_from, exception_values, body_of}

-- it returns these values
abbrev pub returns : Order → List Typed → Comes Outcome
returns order xs = body_of order xs >>= λ body. Ok (Returned body)

-- the exception at an index of those that an operation may raise
abbrev pub exception_at : List Thing → Names → ℕ → Option ExceptionView
exception_at ts ids n = option_and_then (exception_named ts) (slice_get ids n)

-- it raises the exception with these members; the check leaves none that isn't there
abbrev pub raises : Order → Option ExceptionView → Value → Comes Outcome
raises order (Some e) v = body_of order (exception_values e.id e.members v) >>= λ body. Ok (User body)
raises order None v = Err Misfit

-- what an operation comes to whose method ended so, by what its variables hold then
abbrev pub ends : List Thing → OperationView → Order → List Value → End → Comes Outcome
ends ts op order slots (returned v) = returns order (result_of op.result (Some v) ++ outs_from 0 op.params slots)
ends ts op order slots next = returns order (outs_from 0 op.params slots)
ends ts op order slots gone = returns order (outs_from 0 op.params slots)
ends ts op order slots (raised n v) = raises order (exception_at ts op.raises n) v

-- the same of a run
abbrev pub ended : List Thing → OperationView → Order → End × List Value → Comes Outcome
ended ts op order x = ends ts op order x.1 x.0
