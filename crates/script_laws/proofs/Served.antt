-- What checked servants answer, is answered without defaults.
use Rattle.std.proofs.Common.{◌≡◌, ◌⊎◌, inl, inr, ⊎_elim, ◌<◌, ◌^◌, ℕ, zero, suc, ◌+◌, ◌==◌, ◌||◌, Bool, true, false, cond, List, [], ◌∷◌, ◌++◌, Option, Some, None, Ok, Err, refl, sym, ap, ◌∙◌, subst, slice_get, append-nil, append_assoc, bytes_eq, codes, is_some, true≢false, arith}
use Rattle.std.proofs.lemmas.Bool.{eqb-true}
use Rattle.std.specs.Option.{option_map}
use Rattle.std.proofs.lemmas.Option.{none-some, same_Some}
use Rattle.orb_base.specs.JobRecord.{JobRecord}
use Rattle.orb_base.specs.declared.outcome.Outcome.{Outcome}
use Rattle.cdr_core.specs.Cursor.{Cursor, Reads, AreBytes}
use Rattle.cdr_core.specs.Reading.{string_at}
use Rattle.cdr_core.proofs.CallerLemmas.{bind_ok}
use Rattle.cdr_core.proofs.CallerLemmas as core
use Rattle.cdr_values.specs.Trees.{Name, size2, signed, Kind, scalar, words, Value}
use Rattle.cdr_values.specs.Fitting.{is_of}
use Rattle.cdr_values.specs.Reading.{read}
use Rattle.cdr_values.proofs.Taking.{read_takes, bytes_behind}
use Rattle.idl_types.specs.declared.way.Way.{Way}
use Rattle.idl_types.specs.declared.way.Way.TheVariants as way
use Rattle.idl_types.specs.Things.{Thing, constant, named, exception, interface, ParamView, OperationView, InterfaceView}
use Rattle.idl_types.specs.Finding.{place_named}
use Rattle.idl_types.specs.Sound.{ping_id}
use Rattle.idl_types.specs.BuiltIn as built
use Rattle.idl_types.specs.References.{kind_at}
use Rattle.servant_scripts.specs.Trees.{MethodSaid, ServantSaid}
use Rattle.script_names.specs.declared.meaning.Meaning.{Meaning}
use Rattle.script_names.specs.declared.meaning.Meaning.TheVariants as means
use Rattle.script_names.specs.Finding.{meant}
use Rattle.script_names.specs.Known.{known}
use Rattle.script_values.specs.Trees.{Term, Step, steps_of, priority, slot, no_steps, step, give}
use Rattle.script_values.specs.Evaluation.{value_at, fit_in}
use Rattle.script_values.specs.Running as values
use Rattle.script_values.specs.Running.{End, returned}
use Rattle.script_checks.specs.declared.fault.CheckCause.TheVariants as cause
use Rattle.script_checks.specs.Scene.{Scene, ◌>>=◌, or_refused, if_holds}
use Rattle.script_checks.specs.Dues.{result_due}
use Rattle.script_checks.specs.Naming.{known_or, last_part}
use Rattle.script_checks.specs.Blocks.{lines, ends}
use Rattle.script_checks.specs.Methods.{MethodView, params_behind, same_names, ends_well, due_of, find_operation, has_method, new_method, method_for, method, methods}
use Rattle.script_checks.specs.Servants.{ServantView, all_there, interface_in, interface_of, interface_named, is_served, new_servant, servant, servants, checked}
use Rattle.dynamic_servants.specs.Arguments.{argument, arguments}
use Rattle.dynamic_servants.specs.BuiltInServant.{returns_at_once, does_nothing, ping_servant, built_in}
use Rattle.dynamic_servants.specs.Replies.{Typed, result_of, outs_from}
use Rattle.dynamic_servants.specs.Ending.{ended}
use Rattle.dynamic_servants.specs.Exceptions.{or_limited}
use Rattle.dynamic_servants.specs.Outcome.{Served, Target, Work, servant_at, both_of, target_at, target_of, work_at, carried_out, carried, body_at, asked, told, told_kin, answered, outcome_of}
use Rattle.dynamic_servants.specs.Zeros.{zero_of}
use Rattle.script_laws.specs.Defined.{◌and_then◌, there}
use Rattle.script_laws.specs.Evaluation.{defined_value, defined_fit}
use Rattle.script_laws.specs.Running.{then_end, then_run, defined_one, defined_run}
use Rattle.script_laws.specs.Outcome.{defined_result, defined_outs, both_lists, defined_ended, defined_work, defined_work_at, defined_carried, defined_asked, defined_answer, defined_outcome}
use Rattle.script_laws.specs.Kinds.{Every}
use Rattle.script_laws.specs.Things.{IsSound, AreOf}
use Rattle.script_laws.specs.Laws.{HaveZeros, ServedAreDefined}
use Rattle.script_laws.proofs.Good.{Good, bind, itself, same}
use Rattle.script_laws.proofs.Checks.{both, if_ok, or_ok, ok_is}
use Rattle.script_laws.proofs.Holes.{shown, somes, fit_good, get_within}
use Rattle.script_laws.proofs.Snoc.{every_snoc}
use Rattle.script_laws.proofs.References.{result_ref, then_some}
use Rattle.script_laws.proofs.Expressions.{Ground}
use Rattle.script_laws.proofs.Blocks.{shown_run}
use Rattle.script_laws.proofs.Methods.{method_good, somes_shown}
use Rattle.script_laws.proofs.Names.{both_every}
use Rattle.script_laws.proofs.Sent.{Any, IsTyped, return_sent}

-- a method of an interface is carried out without defaults
abbrev MethodOk : List Thing → InterfaceView → MethodView → Type 0
MethodOk ts x m = (op : OperationView) × (slice_get x.operations m.operation ≡ Some op)
    × ((job : JobRecord) (args : List Value) → AreOf op.params args → Good itself Any (defined_work ts op (m.lets, m.body) job args) (carried_out ts op (m.lets, m.body) job args))

-- a servant has such a method for each operation of its interface
abbrev ServantOk : List Thing → ServantView → Type 0
ServantOk ts v = (x : InterfaceView) × (slice_get ts v.interface ≡ Some (interface x)) × (all_there 0 x.operations v.methods ≡ true) × Every (MethodOk ts x) v.methods

-- ---- the check of a script

found_operation : (b : Bool) (n : ℕ) (op : OperationView) (o : Option (ℕ × OperationView)) (r : ℕ × OperationView) → cond b (Some (n, op)) o ≡ Some r → ((n, op) ≡ r) ⊎ (o ≡ Some r)
found_operation true n op o r e = inl (same_Some (n, op) r e)
found_operation false n op o r e = inr e

operation_at : (n : ℕ) (os : List OperationView) (name : Name) (r : ℕ × OperationView) → find_operation n os name ≡ Some r → (i : ℕ) × (r.0 ≡ n + i) × (slice_get os i ≡ Some r.1)
operation_at n [] name r e = absurd (none-some r e)
operation_at n (o ∷ os) name r e = ⊎_elim
    (λ h. (0, ap (λ (x : ℕ × OperationView). x.0) (sym h) ∙ (omega arith), ap (λ (x : ℕ × OperationView). Some x.1) h))
    (λ h. let g = operation_at (n + 1) os name r h in (suc g.0, (let p = g.1 in omega (arith, p)), g.2))
    (found_operation (bytes_eq o.name name) n o (find_operation (n + 1) os name) r e)

operation_is : (os : List OperationView) (name : Name) (r : ℕ × OperationView) → find_operation 0 os name ≡ Some r → slice_get os r.0 ≡ Some r.1
operation_is os name r e =
    let h = operation_at 0 os name r e in
    let place : r.0 ≡ h.0 = (let p = h.1 in omega (arith, p)) in
    ap (slice_get os) place ∙ h.2

-- a method is that of its operation
made_for : (s : Scene) (place o : ℕ) (op : OperationView) (m : MethodSaid) (v : MethodView) → method_for s place o op m ≡ Ok v → v.operation ≡ o
made_for s place o op m v e =
    let due = due_of place o op in
    let vars = params_behind place o [] op.params in
    let a = both (same_names op.params m.parameters m.close) (λ (u : Unit {0}). lines s due vars 0 m.body [] >>= λ (y : List Step × ℕ). ends_well due.result (ends m.body) m.end >>= λ (w : Unit {0}). Ok (record { operation = o; lets = y.1; body = steps_of y.0 })) v e in
    let b = both (lines s due vars 0 m.body []) (λ (y : List Step × ℕ). ends_well due.result (ends m.body) m.end >>= λ (w : Unit {0}). Ok (record { operation = o; lets = y.1; body = steps_of y.0 })) v a.2 in
    let c = both (ends_well due.result (ends m.body) m.end) (λ (w : Unit {0}). Ok (record { operation = o; lets = b.0.1; body = steps_of b.0.0 })) v b.2 in
    let made : MethodView = record { operation = o; lets = b.0.1; body = steps_of b.0.0 } in
    ap (λ (w : MethodView). w.operation) (sym (ok_is made v c.2))

module _ (s : Scene) (g : Ground s) (place : ℕ) (x : InterfaceView) (at : slice_get s.things place ≡ Some (interface x)) where
  methods_ok : (ms : List MethodSaid) (done out : List MethodView) → methods s place x done ms ≡ Ok out → Every (MethodOk s.things x) done → Every (MethodOk s.things x) out
  methods_ok [] done out e h = subst (Every (MethodOk s.things x)) (ok_is done out e) h
  methods_ok (m ∷ ms) done out e h =
      let a = both (method s place x done m) (λ (v : MethodView). methods s place x (done ++ v ∷ []) ms) out e in
      let b = both (new_method done x m.name) (λ (o : ℕ × OperationView). method_for s place o.0 o.1 m) a.0 a.1 in
      let c = both (or_refused cause.UnknownOperation m.name.at (find_operation 0 x.operations m.name.name)) (λ (o : ℕ × OperationView). if_holds (cond (has_method done o.0) false true) cause.Twice m.name.at o) b.0 b.1 in
      let d = if_ok (cond (has_method done c.0.0) false true) cause.Twice m.name.at c.0 b.0 c.2 in
      let found : find_operation 0 x.operations m.name.name ≡ Some b.0 = or_ok cause.UnknownOperation m.name.at (find_operation 0 x.operations m.name.name) c.0 c.1 ∙ ap Some d.1 in
      let is : slice_get x.operations b.0.0 ≡ Some b.0.1 = operation_is x.operations m.name.name b.0 found in
      let here : (job : JobRecord) (args : List Value) → AreOf b.0.1.params args → (a.0.operation ≡ b.0.0) × Good itself Any (defined_work s.things b.0.1 (a.0.lets, a.0.body) job args) (carried_out s.things b.0.1 (a.0.lets, a.0.body) job args) =
      λ job args are. method_good s g place b.0.0 x b.0.1 at is m a.0 job args b.2 are in
      let one : MethodOk s.things x a.0 = (b.0.1, ap (slice_get x.operations) (made_for s place b.0.0 b.0.1 m a.0 b.2) ∙ is, λ job args are. (here job args are).1) in
      methods_ok ms (done ++ a.0 ∷ []) out a.2 (every_snoc (MethodOk s.things x) done a.0 h one)

interface_placed : (i : ℕ) (o : Option Thing) (r : ℕ × InterfaceView) → interface_in i o ≡ Some r → (i ≡ r.0) × (o ≡ Some (interface r.1))
interface_placed i (Some (interface x)) r h = let g : (i, x) ≡ r = same_Some (i, x) r h in (ap (λ (y : ℕ × InterfaceView). y.0) g, ap (λ (y : ℕ × InterfaceView). Some (interface y.1)) g)
interface_placed i (Some (constant x)) r h = absurd (none-some r h)
interface_placed i (Some (named x)) r h = absurd (none-some r h)
interface_placed i (Some (exception x)) r h = absurd (none-some r h)
interface_placed i None r h = absurd (none-some r h)

interface_meant : (ts : List Thing) (m : Meaning) (r : ℕ × InterfaceView) → interface_of ts m ≡ Some r → slice_get ts r.0 ≡ Some (interface r.1)
interface_meant ts (means.Thing i) r h = let g = interface_placed i (slice_get ts i) r h in ap (slice_get ts) (sym g.0) ∙ g.1
interface_meant ts (means.Enumerator i n) r h = absurd (none-some r h)
interface_meant ts means.Other r h = absurd (none-some r h)

module _ (ts : List Thing) (sound : IsSound ts) where
  scene : Name → Scene
  scene id = record { things = ts; known = known ts; interface = id }

  servant_ok : (done : List ServantView) (v : ServantSaid) (w : ServantView) → servant ts (known ts) done v ≡ Ok w → ServantOk ts w
  servant_ok done v w e =
      let a = both (interface_named ts (known ts) v.name >>= new_servant done v.name)
      (λ (i : ℕ × InterfaceView). methods (record { things = ts; known = known ts; interface = i.1.id }) i.0 i.1 [] v.methods >>= λ (ms : List MethodView). if_holds (all_there 0 i.1.operations ms) cause.Missing v.at (record { interface = i.0; methods = ms })) w e in
      let b = both (interface_named ts (known ts) v.name) (new_servant done v.name) a.0 a.1 in
      let c = both (known_or cause.UnknownInterface (meant (known ts) [] v.name)) (λ (m : Meaning). or_refused cause.UnknownInterface (last_part v.name) (interface_of ts m)) b.0 b.1 in
      let d = if_ok (cond (bytes_eq b.0.1.id ping_id || is_served done b.0.0) false true) cause.Twice (last_part v.name) b.0 a.0 b.2 in
      let there : slice_get ts b.0.0 ≡ Some (interface b.0.1) = interface_meant ts c.0 b.0 (or_ok cause.UnknownInterface (last_part v.name) (interface_of ts c.0) b.0 c.2) in
      let at : slice_get ts a.0.0 ≡ Some (interface a.0.1) = subst (λ (i : ℕ × InterfaceView). slice_get ts i.0 ≡ Some (interface i.1)) d.1 there in
      let s : Scene = record { things = ts; known = known ts; interface = a.0.1.id } in
      let f = both (methods s a.0.0 a.0.1 [] v.methods) (λ (ms : List MethodView). if_holds (all_there 0 a.0.1.operations ms) cause.Missing v.at (record { interface = a.0.0; methods = ms })) w a.2 in
      let made : ServantView = record { interface = a.0.0; methods = f.0 } in
      let h = if_ok (all_there 0 a.0.1.operations f.0) cause.Missing v.at made w f.2 in
      let ok : ServantOk ts made = (a.0.1, at, h.0, methods_ok s (record { sound = sound; names = refl }) a.0.0 a.0.1 at v.methods [] f.0 f.1 tt) in
      subst (ServantOk ts) h.1 ok

  servants_ok : (vs : List ServantSaid) (done out : List ServantView) → servants ts (known ts) done vs ≡ Ok out → Every (ServantOk ts) done → Every (ServantOk ts) out
  servants_ok [] done out e h = subst (Every (ServantOk ts)) (ok_is done out e) h
  servants_ok (v ∷ vs) done out e h =
      let a = both (servant ts (known ts) done v) (λ (w : ServantView). servants ts (known ts) (done ++ w ∷ []) vs) out e in
      servants_ok vs (done ++ a.0 ∷ []) out a.2 (every_snoc (ServantOk ts) done a.0 h (servant_ok done v a.0 a.1))

  -- ---- the built-in servant

  once : (place o : ℕ) (op : OperationView) (k : Kind) (t : Term) (job : JobRecord) (args : List Value) → kind_at ts (result_due place o) ≡ Some k → op.result ≡ Some k
      → ((os : List (Option Value)) → defined_outs 0 op.params os ≡ Some []) → ((vs : List Value) → outs_from 0 op.params vs ≡ [])
      → Good itself (λ (v : Value). Unit {0}) (defined_value job.priority (somes args ++ []) t) (value_at job.priority (args ++ []) t)
      → Good itself Any (defined_work ts op (0, step (give (kind_at ts (result_due place o)) t) no_steps) job args) (carried_out ts op (0, step (give (kind_at ts (result_due place o)) t) no_steps) job args)
  unfolding defined_one defined_run values.run_one values.run
  once place o op k t job args due is none empty value =
      let d = kind_at ts (result_due place o) in
      let os : List (Option Value) = somes args ++ [] in
      let shows : shown os ≡ args ++ [] = somes_shown args [] in
      let Q : End × List (Option Value) → Type 0 = λ (y : End × List (Option Value)). (v : Value) × (y ≡ (returned v, os)) × (is_of v k ≡ true) in
      let first : Good shown_run Q (defined_one job.priority (give d t) os) (values.run_one job.priority (give d t) (args ++ [])) =
      bind itself (λ (v : Value). is_of v k ≡ true) shown_run Q (defined_value job.priority os t and_then defined_fit d) (fit_in d (value_at job.priority (args ++ []) t)) (then_end returned os) (values.then_end returned (args ++ []))
      (fit_good (λ (v : Value). Unit {0}) d k (defined_value job.priority os t) (value_at job.priority (args ++ []) t) due value)
      (λ v fits. (ap (λ (vs : List Value). Ok (returned v, vs)) (sym shows), (v, refl, fits))) in
      let ran : Good shown_run Q (defined_run job.priority (step (give d t) no_steps) os) (values.run job.priority (step (give d t) no_steps) (args ++ [])) =
      bind shown_run Q shown_run Q (defined_one job.priority (give d t) os) (values.run_one job.priority (give d t) (args ++ [])) (then_run (defined_run job.priority no_steps)) (values.then_run (values.run job.priority no_steps)) first
      (λ y h. subst (λ (z : End × List (Option Value)). Good shown_run Q (then_run (defined_run job.priority no_steps) z) (values.then_run (values.run job.priority no_steps) (shown_run z))) (sym h.1) (refl, (h.0, refl, h.2))) in
      bind shown_run Q itself Any (defined_run job.priority (step (give d t) no_steps) os) (values.run job.priority (step (give d t) no_steps) (args ++ [])) (defined_ended ts op job.order) (ended ts op job.order) ran
      (λ y h. subst (λ (z : End × List (Option Value)). Good itself Any (defined_ended ts op job.order z) (ended ts op job.order (shown_run z))) (sym h.1)
      (let total : result_of op.result (Some h.0) ++ outs_from 0 op.params (shown os) ≡ (k, h.0) ∷ [] = ap (λ (r : Option Kind). result_of r (Some h.0) ++ outs_from 0 op.params (shown os)) is ∙ ap (λ (xs : List Typed). (k, h.0) ∷ xs) (empty (shown os)) in
      let defined : both_lists (defined_result op.result (Some h.0)) (defined_outs 0 op.params os) ≡ Some ((k, h.0) ∷ []) =
      ap (λ (r : Option Kind). both_lists (defined_result r (Some h.0)) (defined_outs 0 op.params os)) is ∙ ap (both_lists (Some ((k, h.0) ∷ []))) (none os) in
      let typed : Every IsTyped ((k, h.0) ∷ []) = (h.2, tt) in
      return_sent job.order (both_lists (defined_result op.result (Some h.0)) (defined_outs 0 op.params os)) (result_of op.result (Some h.0) ++ outs_from 0 op.params (shown os))
      (defined ∙ ap Some (sym total)) (subst (Every IsTyped) (sym total) typed)))

  first_read : (job : JobRecord) (args : List Value) → AreOf (built.text_param ∷ []) args
      → Good itself (λ (v : Value). Unit {0}) (defined_value job.priority (somes args ++ []) (slot 0)) (value_at job.priority (args ++ []) (slot 0))
  unfolding defined_value value_at
  first_read job [] are = absurd are
  first_read job (v ∷ args) are = (refl, tt)

  ping_ok : (place : ℕ) → slice_get ts place ≡ Some built.ping → ServantOk ts (ping_servant ts place)
  unfolding defined_value value_at defined_run values.run
  ping_ok place at =
      let x : InterfaceView = record { id = ping_id; bases = []; operations = built.operations } in
      let near : place < 2 ^ 32 = (let a = get_within ts place built.ping at in let b = sound.places in omega (arith, a, b)) in
      let current : MethodOk ts x (returns_at_once ts place 0 priority) = (
        built.current,
        refl,
        λ job args are.
            once place 0 built.current (scalar (signed size2)) priority job args (result_ref ts place 0 x built.current at refl near (omega arith)) refl (λ os. refl) (λ vs. refl) (refl, tt),
      ) in
      let echo : MethodOk ts x (returns_at_once ts place 1 (slot 0)) = (
        built.echo,
        refl,
        λ job args are.
            once place 1 built.echo (words 0) (slot 0) job args (result_ref ts place 1 x built.echo at refl near (omega arith)) refl (λ os. refl) (λ vs. refl) (first_read job args are),
      ) in
      let note : MethodOk ts x (does_nothing 2) = (built.note, refl, λ job args are. return_sent job.order (Some []) [] refl tt) in
      (x, at, refl, (current, (echo, (note, tt))))

  built_in_ok : (o : Option ℕ) → ((place : ℕ) → o ≡ Some place → slice_get ts place ≡ Some built.ping) → Every (ServantOk ts) (built_in ts o)
  built_in_ok None f = tt
  built_in_ok (Some place) f = (ping_ok place (f place refl), tt)

-- ---- whom a job is for

chosen : (P : ServantView → Type 0) (w : ServantView) (vs : List ServantView) (place : ℕ) (v : ServantView) (b : Bool) → (w.interface == place) ≡ b → cond b (Some w) (servant_at vs place) ≡ Some v → Every P (w ∷ vs)
    → (servant_at vs place ≡ Some v → P v × (v.interface ≡ place)) → P v × (v.interface ≡ place)
chosen P w vs place v true is e h f =
    let same : w ≡ v = same_Some w v e in
    (subst P same h.0, subst (λ (u : ServantView). u.interface ≡ place) same (eqb-true w.interface place is))
chosen P w vs place v false is e h f = f e

both_is : (i : Option (ℕ × InterfaceView)) (v : Option ServantView) (t : Target) → both_of i v ≡ Some t → (r : ℕ × InterfaceView) × (i ≡ Some r) × (r.1 ≡ t.0) × (v ≡ Some t.1)
both_is None v t e = absurd (none-some t e)
both_is (Some r) None t e = absurd (none-some t e)
both_is (Some r) (Some v) t e = let h : (r.1, v) ≡ t = same_Some (r.1, v) t e in (r, refl, ap (λ (y : Target). y.0) h, ap (λ (y : Target). Some y.1) h)

pub interface_is : (x y : InterfaceView) → interface x ≡ interface y → x ≡ y
interface_is x y e = cc

if_true : (a b : Bool) → cond a b false ≡ true → (a ≡ true) × (b ≡ true)
if_true true b e = (refl, e)
if_true false b e = absurd cc

argument_then : (p : ParamView) (ps : List ParamView) (vs : List Value) (c : Cursor) (x : List Value × Cursor) → arguments (p ∷ ps) vs c ≡ Ok x
    → (a : Value × Cursor) × (argument p.way p.kind c ≡ Ok a) × (arguments ps (vs ++ a.0 ∷ []) a.1 ≡ Ok x)
argument_then p ps vs c x e = bind_ok (argument p.way p.kind c) (λ (a : Value × Cursor). arguments ps (vs ++ a.0 ∷ []) a.1) x e

servant_is : (P : ServantView → Type 0) (vs : List ServantView) (place : ℕ) (v : ServantView) → servant_at vs place ≡ Some v → Every P vs → P v × (v.interface ≡ place)
servant_is P [] place v e h = absurd (none-some v e)
servant_is P (w ∷ vs) place v e h = chosen P w vs place v (w.interface == place) refl e h (λ later. servant_is P vs place v later h.1)

target_is : (s : Served) (id : Name) (t : Target) → target_of s id ≡ Some t → (place : ℕ) × (slice_get s.things place ≡ Some (interface t.0)) × (servant_at s.servants place ≡ Some t.1)
target_is s id t e =
    let a = then_some (target_at s) (place_named s.things id) t e in
    let b = both_is (interface_in a.0 (slice_get s.things a.0)) (servant_at s.servants a.0) t a.2 in
    let c = interface_placed a.0 (slice_get s.things a.0) b.0 b.1 in
    (a.0, c.1 ∙ ap (λ (x : InterfaceView). Some (interface x)) b.2, b.3)

-- ---- the methods of operations

method_there : (n : ℕ) (os : List OperationView) (ms : List MethodView) (i : ℕ) (op : OperationView) → all_there n os ms ≡ true → slice_get os i ≡ Some op → has_method ms (n + i) ≡ true
method_there n [] ms i op e at = absurd (none-some op at)
method_there n (o ∷ os) ms zero op e at = ap (has_method ms) (let z : n + 0 ≡ n = omega arith in z) ∙ (if_true (has_method ms n) (all_there (n + 1) os ms) e).0
method_there n (o ∷ os) ms (suc i) op e at =
    ap (has_method ms) (let z : n + suc i ≡ (n + 1) + i = omega arith in z) ∙ method_there (n + 1) os ms i op (if_true (has_method ms n) (all_there (n + 1) os ms) e).1 at

-- the method of an operation, as both definitions find it
abbrev Work_found : (MethodView → Type 0) → List MethodView → ℕ → Type 0
Work_found P ms o = (m : MethodView) × (m.operation ≡ o) × P m × (defined_work_at ms o ≡ Some (m.lets, m.body)) × (work_at ms o ≡ (m.lets, m.body))

work_first : (P : MethodView → Type 0) (m : MethodView) (ms : List MethodView) (o : ℕ) (b : Bool) → (m.operation == o) ≡ b → (b || has_method ms o) ≡ true → P m → (has_method ms o ≡ true → Work_found P ms o)
    → (n : MethodView) × (n.operation ≡ o) × P n × (cond b (Some (m.lets, m.body)) (defined_work_at ms o) ≡ Some (n.lets, n.body)) × (cond b (m.lets, m.body) (work_at ms o) ≡ (n.lets, n.body))
work_first P m ms o true e h p f = (m, eqb-true m.operation o e, p, refl, refl)
work_first P m ms o false e h p f = f h

work_is : (P : MethodView → Type 0) (ms : List MethodView) (o : ℕ) → has_method ms o ≡ true → Every P ms → Work_found P ms o
work_is P [] o h ok = absurd (true≢false (sym h))
work_is P (m ∷ ms) o h ok = work_first P m ms o (m.operation == o) refl h ok.0 (λ later. work_is P ms o later ok.1)

-- ---- the parameters of a job

are_behind : (ps : List ParamView) (vs : List Value) (p : ParamView) (v : Value) → AreOf ps vs → is_of v p.kind ≡ true → AreOf (ps ++ p ∷ []) (vs ++ v ∷ [])
are_behind [] [] p v h e = (e, tt)
are_behind [] (w ∷ vs) p v h e = absurd h
are_behind (q ∷ ps) [] p v h e = absurd h
are_behind (q ∷ ps) (w ∷ vs) p v h e = (h.0, are_behind ps vs p v h.1 e)

read_fits : (k : Kind) (c : Cursor) (x : Value × Cursor) → AreBytes c.rest → read k c ≡ Ok x → (is_of x.0 k ≡ true) × AreBytes x.1.rest
read_fits k c x bytes e =
    let p = read_takes k c x.0 x.1 bytes e in
    (ap is_some p.asks, bytes_behind c x.1 p.fields p.spans bytes)

argument_fits : (w : Way) (k : Kind) (c : Cursor) (x : Value × Cursor) → (w ≡ way.Output → is_of (zero_of k) k ≡ true) → AreBytes c.rest → argument w k c ≡ Ok x → (is_of x.0 k ≡ true) × AreBytes x.1.rest
argument_fits way.Input k c x zeroed bytes e = read_fits k c x bytes e
argument_fits way.Both k c x zeroed bytes e = read_fits k c x bytes e
argument_fits way.Output k c x zeroed bytes e =
    let h : (zero_of k, c) ≡ x = core.ok_is (zero_of k, c) x e in
    subst (λ (y : Value × Cursor). (is_of y.0 k ≡ true) × AreBytes y.1.rest) h (zeroed refl, bytes)

arguments_fit : (ps before : List ParamView) (vs : List Value) (c : Cursor) (x : List Value × Cursor) → ((i : ℕ) (p : ParamView) → slice_get ps i ≡ Some p → p.way ≡ way.Output → is_of (zero_of p.kind) p.kind ≡ true)
    → AreBytes c.rest → AreOf before vs → arguments ps vs c ≡ Ok x → AreOf (before ++ ps) x.0
arguments_fit [] before vs c x zeros bytes are e =
    subst (λ (qs : List ParamView). AreOf qs x.0) (sym (append-nil before)) (subst (λ (y : List Value × Cursor). AreOf before y.0) (core.ok_is (vs, c) x e) are)
arguments_fit (p ∷ ps) before vs c x zeros bytes are e =
    let a = argument_then p ps vs c x e in
    let h = argument_fits p.way p.kind c a.0 (zeros 0 p refl) bytes a.1 in
    subst (λ (qs : List ParamView). AreOf qs x.0) (append_assoc before (p ∷ []) ps)
    (arguments_fit ps (before ++ p ∷ []) (vs ++ a.0.0 ∷ []) a.0.1 x (λ i q at. zeros (suc i) q at) h.1 (are_behind before vs p a.0.0 are h.0) a.2)

-- ---- what is answered

carried_ok : (ts : List Thing) (op : OperationView) (job : JobRecord) (w : Work) (r : Reads (List Value))
    → ((x : List Value × Cursor) → r ≡ Ok x → Good itself Any (defined_work ts op w job x.0) (carried_out ts op w job x.0)) → defined_carried ts op job (Some w) r ≡ Some (carried ts op w job r)
carried_ok ts op job w (Ok x) f = ap (option_map or_limited) (same Any (defined_work ts op w job x.0) (carried_out ts op w job x.0) (f x refl))
carried_ok ts op job w (Err e) f = refl

asked_ok : (ts : List Thing) (v : ServantView) (x : InterfaceView) (job : JobRecord) (o : Option (ℕ × OperationView)) → AreBytes job.body → all_there 0 x.operations v.methods ≡ true → Every (MethodOk ts x) v.methods
    → ((r : ℕ × OperationView) → o ≡ Some r → slice_get x.operations r.0 ≡ Some r.1)
    → ((r : ℕ × OperationView) → o ≡ Some r → (i : ℕ) (p : ParamView) → slice_get r.1.params i ≡ Some p → p.way ≡ way.Output → is_of (zero_of p.kind) p.kind ≡ true)
    → defined_asked ts v job o ≡ Some (asked ts v job o)
asked_ok ts v x job None bytes there ok at zeros = refl
asked_ok ts v x job (Some r) bytes there ok at zeros =
    let is : slice_get x.operations r.0 ≡ Some r.1 = at r refl in
    let has : has_method v.methods r.0 ≡ true = ap (has_method v.methods) (let z : r.0 ≡ 0 + r.0 = omega arith in z) ∙ method_there 0 x.operations v.methods r.0 r.1 there is in
    let w = work_is (MethodOk ts x) v.methods r.0 has ok in
    let op : w.2.0 ≡ r.1 = same_Some w.2.0 r.1 (sym w.2.1 ∙ ap (slice_get x.operations) w.1 ∙ is) in
    let good : (args : List Value) → AreOf r.1.params args → Good itself Any (defined_work ts r.1 (w.0.lets, w.0.body) job args) (carried_out ts r.1 (w.0.lets, w.0.body) job args) = λ args are.
    subst (λ (q : OperationView). Good itself Any (defined_work ts q (w.0.lets, w.0.body) job args) (carried_out ts q (w.0.lets, w.0.body) job args)) op
    (w.2.2 job args (subst (λ (q : OperationView). AreOf q.params args) (sym op) are)) in
    let reading = arguments r.1.params [] (body_at job) in
    let one : defined_carried ts r.1 job (Some (w.0.lets, w.0.body)) reading ≡ Some (carried ts r.1 (w.0.lets, w.0.body) job reading) =
    carried_ok ts r.1 job (w.0.lets, w.0.body) reading (λ y e. good y.0 (arguments_fit r.1.params [] [] (body_at job) y (zeros r refl) bytes tt e)) in
    ap (λ (k : Option Work). defined_carried ts r.1 job k reading) w.3 ∙ one ∙ ap (λ (k : Work). Some (carried ts r.1 k job reading)) (sym w.4)

either_is : (a b : Bool) (x y : Outcome) (s : Option Outcome) (z : Outcome) → s ≡ Some z → cond a (Some x) (cond b (Some y) s) ≡ Some (cond a x (cond b y z))
either_is true b x y s z e = refl
either_is false true x y s z e = refl
either_is false false x y s z e = e

answer_ok : (s : Served) (id : Name) (job : JobRecord) (o : Option Target) → IsSound s.things → HaveZeros s.things → AreBytes job.body → Every (ServantOk s.things) s.servants → target_of s id ≡ o
    → defined_answer s.things id job o ≡ Some (answered s.things id job o)
answer_ok s id job None sound zeros bytes ok e = refl
answer_ok s id job (Some t) sound zeros bytes ok e =
    let at = target_is s id t e in
    let v = servant_is (ServantOk s.things) s.servants at.0 t.1 at.2 ok in
    let x : v.0.0 ≡ t.0 = interface_is v.0.0 t.0 (same_Some (interface v.0.0) (interface t.0) (sym v.0.1 ∙ ap (slice_get s.things) v.1 ∙ at.1)) in
    let there : all_there 0 t.0.operations t.1.methods ≡ true = subst (λ (y : InterfaceView). all_there 0 y.operations t.1.methods ≡ true) x v.0.2 in
    let methods : Every (MethodOk s.things t.0) t.1.methods = subst (λ (y : InterfaceView). Every (MethodOk s.things y) t.1.methods) x v.0.3 in
    let o = find_operation 0 t.0.operations job.operation in
    either_is (bytes_eq job.operation (codes "_is_a")) (bytes_eq job.operation (codes "_non_existent")) (told_kin s.things id job (string_at (body_at job))) (told job false)
    (defined_asked s.things t.1 job o) (asked s.things t.1 job o)
    (asked_ok s.things t.1 t.0 job o bytes there methods (λ r f. operation_is t.0.operations job.operation r f)
    (λ r f i p here out. zeros at.0 t.0 r.0 r.1 i p at.1 (operation_is t.0.operations job.operation r f) here out))

pub served_defined : ServedAreDefined
unfolding outcome_of
served_defined ts script s id job sound zeros own bytes e =
    let a = both (checked ts script) (λ (vs : List ServantView). Ok (record { things = ts; servants = built_in ts (place_named ts ping_id) ++ vs })) s e in
    let made : Served = record { things = ts; servants = built_in ts (place_named ts ping_id) ++ a.0 } in
    let all : Every (ServantOk ts) made.servants = both_every (ServantOk ts) (built_in ts (place_named ts ping_id)) a.0 (built_in_ok ts sound (place_named ts ping_id) own) (servants_ok ts sound script [] a.0 a.1 tt) in
    subst (λ (v : Served). defined_outcome v id job ≡ Some (outcome_of v id job)) (ok_is made s a.2) (answer_ok made id job (target_of made id) sound zeros bytes all refl)
