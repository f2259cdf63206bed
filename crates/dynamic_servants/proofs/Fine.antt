-- What objects never answer to an operation that they have: BAD_OPERATION, and a body that a reply has no room for.
use Rattle.std.proofs.Common.{◌≡◌, ◌≤◌, ℕ, Bool, true, false, cond, refl, ap, List, [], ◌∷◌, ◌++◌, length, replicate, Option, Some, None, Ok, Err, arith}
use Rattle.std.specs.Prelude.{nat_lt, codes}
use Rattle.std.specs.Str.{bytes_eq}
use Rattle.std.proofs.lemmas.Bool.{ltb-false}
use Rattle.orb_base.specs.JobRecord.{JobRecord}
use Rattle.orb_base.specs.Outcomes.{bad_operation, body_len}
use Rattle.orb_base.specs.declared.limits.TheConstants.{MAX_BODY}
use Rattle.orb_base.specs.declared.order.Order.{Order}
use Rattle.orb_base.specs.declared.outcome.Outcome.{Outcome}
use Rattle.orb_base.specs.declared.outcome.Outcome.TheVariants.{Returned, User, System}
use Rattle.orb_base.specs.declared.system.SysName.{SysName}
use Rattle.orb_base.specs.declared.system.SysName.TheVariants.{Marshal, ImpLimit, BadOperation}
use Rattle.cdr_core.specs.Field.{Field}
use Rattle.cdr_core.specs.Spelling.{fields_bytes}
use Rattle.cdr_core.specs.Cursor.{Reads}
use Rattle.cdr_core.specs.Reading.{string_at}
use Rattle.cdr_values.specs.Trees.{Name, scalar, boolean, Value, truth}
use Rattle.idl_types.specs.Things.{Thing, OperationView, ExceptionView}
use Rattle.script_values.specs.declared.limit.Limit.{Limit}
use Rattle.script_values.specs.declared.limit.Limit.TheVariants.{TooLarge, Misfit}
use Rattle.script_values.specs.Operations.{◌>>=◌, blank}
use Rattle.script_values.specs.Running.{End, next, returned, gone, raised, Ran, run}
use Rattle.script_checks.specs.Methods.{find_operation}
use Rattle.script_checks.specs.Servants.{ServantView}
use Rattle.dynamic_servants.specs.Arguments.{arguments}
use Rattle.dynamic_servants.specs.Replies.{Typed, result_of, outs_from, exception_values, all_fields, spelled}
use Rattle.dynamic_servants.specs.Kin.{is_one_of}
use Rattle.dynamic_servants.specs.Exceptions.{marshal, limited, or_limited}
use Rattle.dynamic_servants.specs.Ending.{returns, raises, ends, ended, exception_at}
use Rattle.dynamic_servants.specs.Outcome.{Served, Target, Work, carried_out, carried, body_at, asked, told, told_kin, answered, outcome_of, target_of, work_at}

-- it is no BAD_OPERATION and no MARSHAL, and its body is small
pub record Fine (o : Outcome) : Type 0 where
  pub other : o ≡ bad_operation → ⊥
  pub read : o ≡ marshal → ⊥
  pub small : body_len o ≤ MAX_BODY

name_of : Outcome → SysName
name_of (System s) = s.name
name_of (Returned body) = Marshal
name_of (User body) = Marshal

limited_fine : (l : Limit) → Fine (limited l)
unfolding name_of
limited_fine l = record {
  other = λ e. let h : ImpLimit ≡ BadOperation = ap name_of e in cc;
  read = λ e. let h : ImpLimit ≡ Marshal = ap name_of e in cc;
  small = omega arith;
}

pub bad_is_read : bad_operation ≡ marshal → ⊥
unfolding name_of
bad_is_read e = let h : BadOperation ≡ Marshal = ap name_of e in cc

marshal_other : marshal ≡ bad_operation → ⊥
unfolding name_of
marshal_other e = let h : Marshal ≡ BadOperation = ap name_of e in cc

returned_fine : (b : Bool) (body : List ℕ) → nat_lt MAX_BODY (length body) ≡ b → Fine (or_limited (cond b (Err TooLarge) (Ok body) >>= λ x. Ok (Returned x)))
returned_fine true body e = limited_fine TooLarge
returned_fine false body e = record { other = λ h. cc; read = λ h. cc; small = ltb-false MAX_BODY (length body) e }

raised_fine : (b : Bool) (body : List ℕ) → nat_lt MAX_BODY (length body) ≡ b → Fine (or_limited (cond b (Err TooLarge) (Ok body) >>= λ x. Ok (User x)))
raised_fine true body e = limited_fine TooLarge
raised_fine false body e = record { other = λ h. cc; read = λ h. cc; small = ltb-false MAX_BODY (length body) e }

spelled_returned : (order : Order) (o : Option (List Field)) → Fine (or_limited (spelled order o >>= λ x. Ok (Returned x)))
spelled_returned order None = limited_fine Misfit
spelled_returned order (Some fs) = returned_fine (nat_lt MAX_BODY (length (fields_bytes order 24 fs))) (fields_bytes order 24 fs) refl

spelled_raised : (order : Order) (o : Option (List Field)) → Fine (or_limited (spelled order o >>= λ x. Ok (User x)))
spelled_raised order None = limited_fine Misfit
spelled_raised order (Some fs) = raised_fine (nat_lt MAX_BODY (length (fields_bytes order 24 fs))) (fields_bytes order 24 fs) refl

returns_fine : (order : Order) (xs : List Typed) → Fine (or_limited (returns order xs))
returns_fine order xs = spelled_returned order (all_fields xs)

raises_fine : (order : Order) (e : Option ExceptionView) (v : Value) → Fine (or_limited (raises order e v))
raises_fine order None v = limited_fine Misfit
raises_fine order (Some e) v = spelled_raised order (all_fields (exception_values e.id e.members v))

ends_fine : (ts : List Thing) (op : OperationView) (order : Order) (slots : List Value) (end : End) → Fine (or_limited (ends ts op order slots end))
ends_fine ts op order slots (returned v) = returns_fine order (result_of op.result (Some v) ++ outs_from 0 op.params slots)
ends_fine ts op order slots next = returns_fine order (outs_from 0 op.params slots)
ends_fine ts op order slots gone = returns_fine order (outs_from 0 op.params slots)
ends_fine ts op order slots (raised n v) = raises_fine order (exception_at ts op.raises n) v

ended_fine : (ts : List Thing) (op : OperationView) (order : Order) (r : Ran) → Fine (or_limited (r >>= ended ts op order))
ended_fine ts op order (Ok x) = ends_fine ts op order x.1 x.0
ended_fine ts op order (Err l) = limited_fine l

pub carried_out_fine : (ts : List Thing) (op : OperationView) (w : Work) (job : JobRecord) (vs : List Value) → Fine (or_limited (carried_out ts op w job vs))
carried_out_fine ts op w job vs = ended_fine ts op job.order (run job.priority w.1 (vs ++ replicate w.0 blank))

pub told_fine : (job : JobRecord) (b : Bool) → Fine (told job b)
told_fine job b = returns_fine job.order ((scalar boolean, truth b) ∷ [])

-- ---- as calls cite it

pub carried_other : (ts : List Thing) (op : OperationView) (w : Work) (job : JobRecord) (x : Reads (List Value)) → carried ts op w job x ≡ bad_operation → ⊥
carried_other ts op w job (Ok x) = (carried_out_fine ts op w job x.0).other
carried_other ts op w job (Err f) = marshal_other

pub told_other : (job : JobRecord) (b : Bool) → told job b ≡ bad_operation → ⊥
told_other job b = (told_fine job b).other

pub told_kin_other : (ts : List Thing) (id : Name) (job : JobRecord) (x : Reads Name) → told_kin ts id job x ≡ bad_operation → ⊥
told_kin_other ts id job (Ok x) = (told_fine job (is_one_of ts id x.0)).other
told_kin_other ts id job (Err f) = marshal_other

-- ---- the sizes of bodies

carried_small : (ts : List Thing) (op : OperationView) (w : Work) (job : JobRecord) (x : Reads (List Value)) → body_len (carried ts op w job x) ≤ MAX_BODY
carried_small ts op w job (Ok x) = (carried_out_fine ts op w job x.0).small
carried_small ts op w job (Err f) = omega arith

told_kin_small : (ts : List Thing) (id : Name) (job : JobRecord) (x : Reads Name) → body_len (told_kin ts id job x) ≤ MAX_BODY
told_kin_small ts id job (Ok x) = (told_fine job (is_one_of ts id x.0)).small
told_kin_small ts id job (Err f) = omega arith

asked_small : (ts : List Thing) (v : ServantView) (job : JobRecord) (o : Option (ℕ × OperationView)) → body_len (asked ts v job o) ≤ MAX_BODY
asked_small ts v job None = omega arith
asked_small ts v job (Some o) = carried_small ts o.1 (work_at v.methods o.0) job (arguments o.1.params [] (body_at job))

cond_small : (b : Bool) (x y : Outcome) → body_len x ≤ MAX_BODY → body_len y ≤ MAX_BODY → body_len (cond b x y) ≤ MAX_BODY
cond_small true x y p q = p
cond_small false x y p q = q

answered_small : (ts : List Thing) (id : Name) (job : JobRecord) (t : Option Target) → body_len (answered ts id job t) ≤ MAX_BODY
answered_small ts id job None = omega arith
answered_small ts id job (Some t) =
    let rest = asked ts t.1 job (find_operation 0 t.0.operations job.operation) in
    cond_small (bytes_eq job.operation (codes "_is_a")) (told_kin ts id job (string_at (body_at job)))
    (cond (bytes_eq job.operation (codes "_non_existent")) (told job false) rest)
    (told_kin_small ts id job (string_at (body_at job)))
    (cond_small (bytes_eq job.operation (codes "_non_existent")) (told job false) rest (told_fine job false).small
    (asked_small ts t.1 job (find_operation 0 t.0.operations job.operation)))

pub outcome_small : (s : Served) (id : Name) (job : JobRecord) → body_len (outcome_of s id job) ≤ MAX_BODY
unfolding outcome_of
outcome_small s id job = answered_small s.things id job (target_of s id)
