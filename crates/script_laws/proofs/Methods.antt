-- A checked method is carried out without defaults.
use Rattle.std.proofs.Common.{◌≡◌, ◌⊎◌, inl, inr, ◌<◌, ◌^◌, ℕ, suc, ◌+◌, Bool, true, false, List, [], ◌∷◌, ◌++◌, length, replicate, Option, Some, None, Ok, refl, sym, ap, ◌∙◌, subst, slice_get, append-nil, append_assoc, length-append, add-zero, add-one, bytes_eq, arith}
use Rattle.std.proofs.lemmas.List.{length-replicate}
use Rattle.std.specs.Option.{option_map, option_and_then}
use Rattle.std.proofs.lemmas.Slice.Eq.{bytes_eq-Decides}
use Rattle.std.proofs.lemmas.Option.{none-some, same_Some}
use Rattle.orb_base.specs.declared.order.Order.{Order}
use Rattle.orb_base.specs.JobRecord.{JobRecord}
use Rattle.cdr_values.specs.Trees.{Kind, Value}
use Rattle.cdr_values.specs.Fitting.{is_of}
use Rattle.idl_types.specs.declared.type_ref.TypeRef.{TypeRef}
use Rattle.idl_types.specs.declared.way.Way.{Way}
use Rattle.idl_types.specs.declared.way.Way.TheVariants as way
use Rattle.idl_types.specs.Things.{Thing, exception, interface, ParamView, OperationView, ExceptionView, InterfaceView}
use Rattle.idl_types.specs.Finding as finding
use Rattle.idl_types.specs.Finding.{as_exception}
use Rattle.idl_types.specs.References.{kind_at}
use Rattle.servant_scripts.specs.declared.phrase.At.{At}
use Rattle.servant_scripts.specs.Trees.{MethodSaid}
use Rattle.script_values.specs.Trees.{Steps, Step, steps_of}
use Rattle.script_values.specs.Operations.{blank}
use Rattle.script_values.specs.Running as values
use Rattle.script_values.specs.Running.{End, next, returned, gone, raised}
use Rattle.script_checks.specs.declared.fault.CheckCause.TheVariants as cause
use Rattle.script_checks.specs.Scene.{Scene, Var, ◌>>=◌}
use Rattle.script_checks.specs.Dues.{result_due, param_due}
use Rattle.script_checks.specs.Blocks.{lines, ends}
use Rattle.script_checks.specs.Methods.{MethodView, param_set, param_var, params_behind, same_names, ends_well, due_of, method_for}
use Rattle.dynamic_servants.specs.Replies.{Typed, result_of, outs_from}
use Rattle.dynamic_servants.specs.Ending.{exception_at, ended}
use Rattle.dynamic_servants.specs.Ending as ending
use Rattle.dynamic_servants.specs.Outcome.{carried_out}
use Rattle.script_laws.specs.Defined.{got}
use Rattle.script_laws.specs.Running.{defined_run}
use Rattle.script_laws.specs.Outcome.{defined_result, defined_outs, defined_ended, defined_ends, defined_raise, both_lists, defined_work}
use Rattle.script_laws.specs.Kinds.{Every, FitsDue, Stands}
use Rattle.script_laws.specs.Things.{IsSound, AreOf}
use Rattle.script_laws.proofs.Good.{Good, bind, itself}
use Rattle.script_laws.proofs.Checks.{both, if_ok, ok_is}
use Rattle.script_laws.proofs.Shapes.{fits_kind}
use Rattle.script_laws.proofs.Holes.{shown, somes, blanks_shown, get_within}
use Rattle.script_laws.proofs.References.{result_ref, param_ref, short_is}
use Rattle.script_laws.proofs.Expressions.{Ground}
use Rattle.script_laws.proofs.Blocks.{shown_run, IsNext, MayEnd, Ran, lines_good}
use Rattle.script_laws.proofs.Sent.{Any, IsTyped, params_from, outs_sent, lists_sent, return_sent, raise_sent, position_is}

-- ---- the variables at the beginning

params_are : (place o : ℕ) (ps : List ParamView) (vs : List Var) → params_behind place o vs ps ≡ vs ++ params_from place o (length vs) ps
params_are place o [] vs = sym (append-nil vs)
params_are place o (p ∷ ps) vs =
    let x : Var = param_var place o (length vs) p in
    let long : length (vs ++ x ∷ []) ≡ suc (length vs) = length-append vs (x ∷ []) ∙ add-one (length vs) in
    params_are place o ps (vs ++ x ∷ [])
    ∙ ap (λ (n : ℕ). (vs ++ x ∷ []) ++ params_from place o n ps) long
    ∙ append_assoc vs (x ∷ []) (params_from place o (suc (length vs)) ps)

params_long : (place o n : ℕ) (ps : List ParamView) → length (params_from place o n ps) ≡ length ps
params_long place o n [] = refl
params_long place o n (p ∷ ps) = ap suc (params_long place o (suc n) ps)

args_long : (ps : List ParamView) (vs : List Value) → AreOf ps vs → length vs ≡ length ps
args_long [] [] h = refl
args_long [] (v ∷ vs) h = absurd h
args_long (p ∷ ps) [] h = absurd h
args_long (p ∷ ps) (v ∷ vs) h = ap suc (args_long ps vs h.1)

fits_way : (ts : List Thing) (w : Way) (due : TypeRef) (k : Kind) (v : Value) → kind_at ts due ≡ Some k → is_of v k ≡ true → FitsDue ts k (param_set w due) v
fits_way ts way.Input due k v at is = tt
fits_way ts way.Output due k v at is = (at, is)
fits_way ts way.Both due k v at is = (at, is)

args_stand : (ts : List Thing) (place o n : ℕ) (ps : List ParamView) (vs : List Value) (rest : List (Option Value)) → AreOf ps vs
    → ((j : ℕ) (q : ParamView) → slice_get ps j ≡ Some q → kind_at ts (param_due place o (n + j)) ≡ Some q.kind) → Stands ts (params_from place o n ps) (somes vs ++ rest)
args_stand ts place o n [] [] rest h refs = tt
args_stand ts place o n [] (v ∷ vs) rest h refs = absurd h
args_stand ts place o n (p ∷ ps) [] rest h refs = absurd h
args_stand ts place o n (p ∷ ps) (v ∷ vs) rest h refs =
    let here : kind_at ts (param_due place o n) ≡ Some p.kind = ap (λ (m : ℕ). kind_at ts (param_due place o m)) (sym (add-zero n)) ∙ refs 0 p refl in (
      (fits_kind v p.kind h.0, fits_way ts p.way (param_due place o n) p.kind v here h.0),
      args_stand ts place o (suc n) ps vs rest h.1 (λ j q e. ap (λ (m : ℕ). kind_at ts (param_due place o m)) (let z : suc n + j ≡ n + suc j = omega arith in z) ∙ refs (suc j) q e),
    )

pub somes_shown : (vs : List Value) (os : List (Option Value)) → shown (somes vs ++ os) ≡ vs ++ shown os
somes_shown [] os = refl
somes_shown (v ∷ vs) os = ap (λ (ws : List Value). v ∷ ws) (somes_shown vs os)

somes_long : (vs : List Value) → length (somes vs) ≡ length vs
somes_long [] = refl
somes_long (v ∷ vs) = ap suc (somes_long vs)

abbrev pub none_yet : Option Value
none_yet = None

-- ---- how it ends

mapped_some : (place o : ℕ) (r : Option Kind) (due : TypeRef) → option_map (λ (k : Kind). result_due place o) r ≡ Some due → (k : Kind) × (r ≡ Some k) × (result_due place o ≡ due)
mapped_some place o (Some k) due e = (k, refl, same_Some (result_due place o) due e)
mapped_some place o None due e = absurd (none-some due e)

mapped_none : (place o : ℕ) (r : Option Kind) → option_map (λ (k : Kind). result_due place o) r ≡ None → r ≡ None
mapped_none place o None e = refl
mapped_none place o (Some k) e = absurd (none-some (result_due place o) (sym e))

ends_is : (r : Option TypeRef) (all : Bool) (at : At) (u : Unit {0}) → ends_well r all at ≡ Ok u → (r ≡ None) ⊎ (all ≡ true)
ends_is None all at u e = inl refl
ends_is (Some due) all at u e = inr (if_ok all cause.MissingReturn at tt u e).0

no_result : (r : Option TypeRef) (all : Bool) → (r ≡ None) ⊎ (all ≡ true) → all ≡ false → r ≡ None
no_result r all (inl e) f = e
no_result r all (inr e) f = absurd (let g : true ≡ false = sym e ∙ f in cc)

exception_found : (ts : List Thing) (place : ℕ) (e : ExceptionView) → IsSound ts → slice_get ts place ≡ Some (exception e) → finding.exception_named ts e.id ≡ Some e
exception_found ts place e sound at = ap (option_and_then as_exception) (sound.ids place (exception e) at)

module _ (s : Scene) (g : Ground s) (place o : ℕ) (x : InterfaceView) (op : OperationView) (at : slice_get s.things place ≡ Some (interface x)) (is : slice_get x.operations o ≡ Some op) where
  near : place < 2 ^ 32
  near = let a = get_within s.things place (interface x) at in let b = g.sound.places in omega (arith, a, b)

  few : o < 2 ^ 32
  few = let a = get_within x.operations o op is in let b = g.sound.operations place x at in omega (arith, a, b)

  result_is : kind_at s.things (result_due place o) ≡ op.result
  result_is = result_ref s.things place o x op at is near few

  params_refs : (j : ℕ) (q : ParamView) → slice_get op.params j ≡ Some q → kind_at s.things (param_due place o (0 + j)) ≡ Some q.kind
  params_refs j q e =
      let a = get_within op.params j q e in
      let b = g.sound.params place x o op at is in
      ap (λ (m : ℕ). kind_at s.things (param_due place o m)) (let z : 0 + j ≡ j = omega arith in z) ∙ param_ref s.things place o j x op q at is e near few (omega (arith, a, b))

  outs_are : (os : List (Option Value)) → Stands s.things (params_from place o 0 op.params) os → (defined_outs 0 op.params os ≡ Some (outs_from 0 op.params (shown os))) × Every IsTyped (outs_from 0 op.params (shown os))
  outs_are os st = outs_sent s.things place o os op.params 0 os st (λ j. ap (λ (m : ℕ). got os m) (let z : 0 + j ≡ j = omega arith in z))

  without : (order : Order) (os : List (Option Value)) → op.result ≡ None → Stands s.things (params_from place o 0 op.params) os
      → Good itself Any (defined_ends s.things op order os next) (ending.ends s.things op order (shown os) next)
  without order os none st =
      let outs = outs_are os st in
      return_sent order (both_lists (defined_result op.result None) (defined_outs 0 op.params os)) (outs_from 0 op.params (shown os))
      (lists_sent (defined_result op.result None) (defined_outs 0 op.params os) [] (outs_from 0 op.params (shown os)) (ap (λ (r : Option Kind). defined_result r None) none) outs.0) outs.1

  ends_good : (order : Order) (all : Bool) (end : End) (os : List (Option Value)) → ((due_of place o op).result ≡ None) ⊎ (all ≡ true) → (IsNext end → all ≡ false) → MayEnd s.things (due_of place o op) end
      → Stands s.things (params_from place o 0 op.params) os → Good itself Any (defined_ends s.things op order os end) (ending.ends s.things op order (shown os) end)
  ends_good order all next os well on may st = without order os (mapped_none place o op.result (no_result (due_of place o op).result all well (on tt))) st
  ends_good order all gone os well on may st = without order os (mapped_none place o op.result may) st
  ends_good order all (returned v) os well on may st =
      let outs = outs_are os st in
      let r = mapped_some place o op.result may.0 may.1 in
      let same : Some r.0 ≡ Some may.2 = sym r.1 ∙ sym result_is ∙ ap (kind_at s.things) r.2 ∙ may.3 in
      let fits : is_of v r.0 ≡ true = subst (λ (k : Kind). is_of v k ≡ true) (sym (same_Some r.0 may.2 same)) may.4 in
      let total : result_of op.result (Some v) ≡ (r.0, v) ∷ [] = ap (λ (k : Option Kind). result_of k (Some v)) r.1 in
      let typed : Every IsTyped (((r.0, v) ∷ []) ++ outs_from 0 op.params (shown os)) = (fits, outs.1) in
      return_sent order (both_lists (defined_result op.result (Some v)) (defined_outs 0 op.params os)) (result_of op.result (Some v) ++ outs_from 0 op.params (shown os))
      (lists_sent (defined_result op.result (Some v)) (defined_outs 0 op.params os) (result_of op.result (Some v)) (outs_from 0 op.params (shown os))
      (ap (λ (k : Option Kind). defined_result k (Some v)) r.1 ∙ ap Some (sym total)) outs.0)
      (subst (λ (xs : List Typed). Every IsTyped (xs ++ outs_from 0 op.params (shown os))) (sym total) typed)
  ends_good order all (raised n v) os well on may st =
      let e = may.1 in
      let p = position_is (bytes_eq e.id) op.raises may.2 may.4 in
      let most = g.sound.raises place x o op at is in
      let within = p.0 in
      let index : n ≡ may.2 = may.5 ∙ short_is may.2 (omega (arith, within, most)) in
      let same : e.id ≡ p.1 = (bytes_eq-Decides e.id p.1).0 p.3 in
      let there : exception_at s.things op.raises n ≡ Some e =
      ap (exception_at s.things op.raises) index ∙ ap (option_and_then (finding.exception_named s.things)) p.2 ∙ ap (finding.exception_named s.things) (sym same) ∙ exception_found s.things may.0 e g.sound may.3 in
      let are = may.6 in
      subst (λ (o : Option ExceptionView). Good itself Any (defined_raise order o v) (ending.raises order o v)) (sym there)
      (subst (λ (w : Value). Good itself Any (defined_raise order (Some e) w) (ending.raises order (Some e) w)) (sym are.1)
      (raise_sent order e are.0 (g.sound.texts may.0 e may.3) are.2 are.3))

  -- a checked method
  pub method_good : (m : MethodSaid) (view : MethodView) (job : JobRecord) (args : List Value) → method_for s place o op m ≡ Ok view → AreOf op.params args
      → (view.operation ≡ o) × Good itself Any (defined_work s.things op (view.lets, view.body) job args) (carried_out s.things op (view.lets, view.body) job args)
  method_good m view job args h are =
      let due = due_of place o op in
      let vars = params_behind place o [] op.params in
      let a = both (same_names op.params m.parameters m.close) (λ (u : Unit {0}). lines s due vars 0 m.body [] >>= λ (y : List Step × ℕ). ends_well due.result (ends m.body) m.end >>= λ (w : Unit {0}). Ok (record { operation = o; lets = y.1; body = steps_of y.0 })) view h in
      let b = both (lines s due vars 0 m.body []) (λ (y : List Step × ℕ). ends_well due.result (ends m.body) m.end >>= λ (w : Unit {0}). Ok (record { operation = o; lets = y.1; body = steps_of y.0 })) view a.2 in
      let c = both (ends_well due.result (ends m.body) m.end) (λ (w : Unit {0}). Ok (record { operation = o; lets = b.0.1; body = steps_of b.0.0 })) view b.2 in
      let made : MethodView = record { operation = o; lets = b.0.1; body = steps_of b.0.0 } in
      let same : made ≡ view = ok_is made view c.2 in
      let well = ends_is due.result (ends m.body) m.end c.0 c.1 in
      let are_vars : vars ≡ params_from place o 0 op.params = params_are place o op.params [] in
      let count : length vars ≡ length op.params = ap length are_vars ∙ params_long place o 0 op.params in
      let run = lines_good s g due job.priority (length op.params) vars 0 m.body [] b.0 b.1 (omega (arith, count)) in
      let os : List (Option Value) = somes args ++ replicate b.0.1 none_yet in
      let long : length os ≡ length op.params + b.0.1 =
      length-append (somes args) (replicate b.0.1 none_yet) ∙ ap (λ (n : ℕ). n + length (replicate b.0.1 none_yet)) (somes_long args ∙ args_long op.params args are) ∙ ap (λ (n : ℕ). length op.params + n) (length-replicate b.0.1 none_yet) in
      let st : Stands s.things vars os = subst (λ (vs : List Var). Stands s.things vs os) (sym are_vars) (args_stand s.things place o 0 op.params args (replicate b.0.1 none_yet) are params_refs) in
      let shows : shown os ≡ args ++ replicate b.0.1 blank = somes_shown args (replicate b.0.1 none_yet) ∙ ap (λ (vs : List Value). args ++ vs) (blanks_shown b.0.1) in
      let body : steps_of run.0 ≡ steps_of b.0.0 = ap steps_of (sym run.1) in
      let ran = run.3 os (omega (arith, long)) st in
      let ran' : Good shown_run (Ran s due vars (ends m.body) (length os)) (defined_run job.priority (steps_of b.0.0) os) (values.run job.priority (steps_of b.0.0) (args ++ replicate b.0.1 blank)) =
      subst (λ (vs : List Value). Good shown_run (Ran s due vars (ends m.body) (length os)) (defined_run job.priority (steps_of b.0.0) os) (values.run job.priority (steps_of b.0.0) vs)) shows
      (subst (λ (t : Steps). Good shown_run (Ran s due vars (ends m.body) (length os)) (defined_run job.priority t os) (values.run job.priority t (shown os))) body ran) in
      let whole : Good itself Any (defined_work s.things op (b.0.1, steps_of b.0.0) job args) (carried_out s.things op (b.0.1, steps_of b.0.0) job args) =
      bind shown_run (Ran s due vars (ends m.body) (length os)) itself Any (defined_run job.priority (steps_of b.0.0) os) (values.run job.priority (steps_of b.0.0) (args ++ replicate b.0.1 blank))
      (defined_ended s.things op job.order) (ended s.things op job.order) ran'
      (λ y r. ends_good job.order (ends m.body) y.0 y.1 well r.on r.ending (subst (λ (vs : List Var). Stands s.things vs y.1) are_vars r.stands)) in
      (ap (λ (v : MethodView). v.operation) (sym same), subst (λ (v : MethodView). Good itself Any (defined_work s.things op (v.lets, v.body) job args) (carried_out s.things op (v.lets, v.body) job args)) same whole)
