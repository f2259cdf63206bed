-- Where an object refuses.
use Rattle.std.proofs.Common.{◌≡◌, ◌↔◌, ℕ, Bool, true, false, ◌||◌, cond, refl, List, [], Option, Some, None, Ok, Err}
use Rattle.std.specs.Prelude.{codes, is_some}
use Rattle.std.specs.Str.{bytes_eq}
use Rattle.std.proofs.lemmas.Bool.{both_ways}
use Rattle.orb_base.specs.JobRecord.{JobRecord}
use Rattle.orb_base.specs.Outcomes.{bad_operation}
use Rattle.orb_base.specs.declared.outcome.Outcome.{Outcome}
use Rattle.cdr_core.specs.Cursor.{Reads}
use Rattle.cdr_core.specs.Reading.{string_at}
use Rattle.cdr_values.specs.Trees.{Name, Value}
use Rattle.idl_types.specs.Things.{Thing, OperationView}
use Rattle.script_checks.specs.Methods.{find_operation}
use Rattle.script_checks.specs.Servants.{ServantView}
use Rattle.dynamic_servants.specs.Arguments.{arguments}
use Rattle.dynamic_servants.specs.Kin.{is_one_of}
use Rattle.dynamic_servants.specs.Exceptions.{marshal}
use Rattle.dynamic_servants.specs.Outcome.{Target, Work, work_at, carried, body_at, asked, told, told_kin, answered, target_of, outcome_of}
use Rattle.dynamic_servants.specs.Laws.{has_operation, has_parameters, is_read, are_read, RefusesUnknown, RefusesUnread}
use Rattle.dynamic_servants.proofs.Fine.{carried_out_fine, carried_other, told_fine, told_kin_other, bad_is_read}

not_false : true ≡ false → ⊥
not_false e = both_ways true e refl

carried_read : (ts : List Thing) (op : OperationView) (w : Work) (job : JobRecord) (r : Reads (List Value)) → (carried ts op w job r ≡ marshal) ↔ (is_read r ≡ false)
carried_read ts op w job (Ok x) = ((λ e. absurd ((carried_out_fine ts op w job x.0).read e)), (λ e. absurd (not_false e)))
carried_read ts op w job (Err f) = ((λ e. refl), (λ e. refl))

kin_read : (ts : List Thing) (id : Name) (job : JobRecord) (r : Reads Name) → (told_kin ts id job r ≡ marshal) ↔ (is_read r ≡ false)
kin_read ts id job (Ok x) = ((λ e. absurd ((told_fine job (is_one_of ts id x.0)).read e)), (λ e. absurd (not_false e)))
kin_read ts id job (Err f) = ((λ e. refl), (λ e. refl))

asked_read : (ts : List Thing) (v : ServantView) (job : JobRecord) (o : Option (ℕ × OperationView)) → (asked ts v job o ≡ marshal) ↔ (are_read job o ≡ false)
asked_read ts v job None = ((λ e. absurd (bad_is_read e)), (λ e. absurd (not_false e)))
asked_read ts v job (Some o) = carried_read ts o.1 (work_at v.methods o.0) job (arguments o.1.params [] (body_at job))

asked_known : (ts : List Thing) (v : ServantView) (job : JobRecord) (o : Option (ℕ × OperationView)) → (asked ts v job o ≡ bad_operation) ↔ (is_some o ≡ false)
asked_known ts v job None = ((λ e. refl), (λ e. refl))
asked_known ts v job (Some o) =
    ((λ e. absurd (carried_other ts o.1 (work_at v.methods o.0) job (arguments o.1.params [] (body_at job)) e)), (λ e. absurd (not_false e)))

-- one of three, by two tests
known_cases : (a b c : Bool) (x y z : Outcome) → (x ≡ bad_operation → ⊥) → (y ≡ bad_operation → ⊥) → (z ≡ bad_operation) ↔ (c ≡ false)
    → (cond a x (cond b y z) ≡ bad_operation) ↔ ((a || (b || c)) ≡ false)
known_cases true b c x y z p q r = ((λ e. absurd (p e)), (λ e. absurd (not_false e)))
known_cases false true c x y z p q r = ((λ e. absurd (q e)), (λ e. absurd (not_false e)))
known_cases false false c x y z p q r = r

read_cases : (a b c d : Bool) (x y z : Outcome) → (x ≡ marshal) ↔ (c ≡ false) → (y ≡ marshal → ⊥) → (z ≡ marshal) ↔ (d ≡ false)
    → (cond a x (cond b y z) ≡ marshal) ↔ (cond a c (cond b true d) ≡ false)
read_cases true b c d x y z p q r = p
read_cases false true c d x y z p q r = ((λ e. absurd (q e)), (λ e. absurd (not_false e)))
read_cases false false c d x y z p q r = r

known : (ts : List Thing) (id : Name) (job : JobRecord) (t : Option Target) → (answered ts id job t ≡ bad_operation) ↔ (has_operation t job.operation ≡ false)
known ts id job None = ((λ e. refl), (λ e. refl))
known ts id job (Some t) =
    let o = find_operation 0 t.0.operations job.operation in
    known_cases (bytes_eq job.operation (codes "_is_a")) (bytes_eq job.operation (codes "_non_existent")) (is_some o)
    (told_kin ts id job (string_at (body_at job))) (told job false) (asked ts t.1 job o)
    (told_kin_other ts id job (string_at (body_at job))) (told_fine job false).other (asked_known ts t.1 job o)

unread : (ts : List Thing) (id : Name) (job : JobRecord) (t : Option Target) → (answered ts id job t ≡ marshal) ↔ (has_parameters t job ≡ false)
unread ts id job None = ((λ e. absurd (bad_is_read e)), (λ e. absurd (not_false e)))
unread ts id job (Some t) =
    let o = find_operation 0 t.0.operations job.operation in
    read_cases (bytes_eq job.operation (codes "_is_a")) (bytes_eq job.operation (codes "_non_existent")) (is_read (string_at (body_at job))) (are_read job o)
    (told_kin ts id job (string_at (body_at job))) (told job false) (asked ts t.1 job o)
    (kin_read ts id job (string_at (body_at job))) (told_fine job false).read (asked_read ts t.1 job o)

pub unknown_refused : RefusesUnknown
unfolding outcome_of
unknown_refused s id job = known s.things id job (target_of s id)

pub unread_refused : RefusesUnread
unfolding outcome_of
unread_refused s id job = unread s.things id job (target_of s id)
