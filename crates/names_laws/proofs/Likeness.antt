-- A name service and a servant of its interface answer alike.
use Rattle.std.proofs.Common.{◌≡◌, ◌↔◌, ◌⊎◌, inl, inr, ℕ, zero, suc, Bool, true, false, cond, ◌||◌, ◌&&◌, List, [], ◌∷◌, ◌++◌, length, Option, Some, None, Ok, Err, refl, sym, ap, ◌∙◌}
use Rattle.std.specs.Prelude.{codes, is_some}
use Rattle.std.specs.Option.{option_and_then, option_map_or}
use Rattle.std.specs.List.{list_any}
use Rattle.std.specs.Str.{bytes_eq}
use Rattle.std.proofs.lemmas.Bool.{cases_Bool, both_ways}
use Rattle.orb_base.specs.JobRecord.{JobRecord}
use Rattle.orb_base.specs.Outcomes.{bad_operation}
use Rattle.orb_base.specs.declared.order.Order.{Order}
use Rattle.orb_base.specs.declared.order.Order.TheVariants.{Big, Little}
use Rattle.orb_base.specs.declared.outcome.Outcome.{Outcome}
use Rattle.cdr_core.specs.Cursor.{Cursor, Reads}
use Rattle.cdr_core.specs.Field.{number_bytes}
use Rattle.cdr_core.specs.Reading.{string_at}
use Rattle.cdr_core.specs.Sequence.{◌>>=◌}
use Rattle.cdr_values.specs.Trees.{Name, size4, scalar, boolean, unsigned, words, Value, text}
use Rattle.cdr_values.specs.Trees as tree
use Rattle.cdr_values.specs.Reading.{read, as_read, text_at}
use Rattle.idl_types.specs.BuiltIn.{names, names_operation, names_operations, string_in}
use Rattle.idl_types.specs.Finding.{has_id, as_interface, bases_named, is_interface, thing_named, object_id}
use Rattle.idl_types.specs.Sound.{names_id, not_found_id, already_bound_id, no_room_id}
use Rattle.idl_types.specs.Things.{Thing, OperationView, InterfaceView}
use Rattle.idl_types.proofs.Descent.{same_name, own_name}
use Rattle.idl_types.proofs.Places.{found_at}
use Rattle.script_checks.specs.Methods.{find_operation}
use Rattle.dynamic_servants.specs.Arguments.{arguments}
use Rattle.dynamic_servants.specs.Kin.{leads_within, is_one_of}
use Rattle.dynamic_servants.specs.Ending.{returns}
use Rattle.dynamic_servants.specs.Exceptions.{or_limited}
use Rattle.dynamic_servants.specs.Laws as servant
use Rattle.dynamic_servants.specs.Outcome.{Served, Target, target_of, told_kin, body_at, outcome_of}
use Rattle.dynamic_servants.proofs.Fine.{bad_is_read}
use Rattle.dynamic_servants.proofs.Refusing as servants
use Rattle.name_map.specs.declared.call.NamesCall.{NamesCall}
use Rattle.name_map.specs.declared.call.NamesCall.TheVariants as call
use Rattle.name_calls.specs.Bodies.{truth, limited, marshal}
use Rattle.name_calls.specs.Laws as service
use Rattle.name_calls.specs.Meanings.{is_of, kinship, asks_of, binds, meant}
use Rattle.name_calls.specs.Operations.{operation_named}
use Rattle.name_calls.specs.Parameters.{strings_at, keep_limits}
use Rattle.name_calls.specs.declared.meaning.Meaning.{Meaning}
use Rattle.name_calls.specs.declared.meaning.Meaning.TheVariants.{Asks, Tells}
use Rattle.name_calls.specs.declared.operation.Operation.{Operation}
use Rattle.name_calls.specs.declared.operation.Operation.TheVariants.{IsA, NonExistent, Bind, Rebind, Resolve, Unbind, Next, Size}
use Rattle.name_calls.proofs.Refusing as refusing
use Rattle.names_laws.specs.Serving.{ServesNames}
use Rattle.names_laws.specs.Alike.{UnknownAlike, UnreadAlike, KinAlike, ThereAlike, OwnAlike}

-- ---- tests of names

not_false : true ≡ false → ⊥
not_false e = both_ways true e refl

flip : (a b : List ℕ) → bytes_eq a b ≡ bytes_eq b a
flip a b = elim (cases_Bool (bytes_eq a b)) [
  | inl t ↦ t ∙ sym (ap (bytes_eq b) (same_name a b t) ∙ own_name b)
  | inr f ↦ elim (cases_Bool (bytes_eq b a)) [
    | inl t ↦ absurd (both_ways (bytes_eq a b) f (ap (bytes_eq a) (same_name b a t) ∙ own_name a))
    | inr g ↦ f ∙ sym g
  ]
]

either : (a b : Bool) → (a || b) ≡ (b || a)
either true true = refl
either true false = refl
either false true = refl
either false false = refl

or_nothing : (b : Bool) → (b || false) ≡ b
or_nothing true = refl
or_nothing false = refl

-- ---- the operations of both

-- the operation of the service, by the tests of its names
named : Bool → Bool → Bool → Bool → Bool → Bool → Bool → Bool → Option Operation
named a n b r s u x z =
    cond a (Some IsA) (cond n (Some NonExistent) (cond b (Some Bind) (cond r (Some Rebind)
    (cond s (Some Resolve) (cond u (Some Unbind) (cond x (Some Next) (cond z (Some Size) None)))))))

-- that of the interface
found : Bool → Bool → Bool → Bool → Bool → Bool → Option (ℕ × OperationView)
found b r s u x z =
    cond b (Some (0, names_operation (codes "bind") None (codes "key" ∷ codes "target" ∷ []) (already_bound_id ∷ no_room_id ∷ [])))
    (cond r (Some (1, names_operation (codes "rebind") None (codes "key" ∷ codes "target" ∷ []) (no_room_id ∷ [])))
    (cond s (Some (2, names_operation (codes "resolve") (Some (words 0)) (codes "key" ∷ []) (not_found_id ∷ [])))
    (cond u (Some (3, names_operation (codes "unbind") None (codes "key" ∷ []) (not_found_id ∷ [])))
    (cond x (Some (4, names_operation (codes "next") (Some (words 0)) (codes "after" ∷ []) (not_found_id ∷ [])))
    (cond z (Some (5, names_operation (codes "size") (Some (scalar (unsigned size4))) [] [])) None)))))

-- both, of a name
abbrev service_operation : Name → Option Operation
service_operation name =
    named (bytes_eq name (codes "_is_a")) (bytes_eq name (codes "_non_existent")) (bytes_eq name (codes "bind"))
    (bytes_eq name (codes "rebind")) (bytes_eq name (codes "resolve")) (bytes_eq name (codes "unbind")) (bytes_eq name (codes "next"))
    (bytes_eq name (codes "size"))

abbrev interface_operation : Name → Option (ℕ × OperationView)
interface_operation name =
    found (bytes_eq name (codes "bind")) (bytes_eq name (codes "rebind")) (bytes_eq name (codes "resolve"))
    (bytes_eq name (codes "unbind")) (bytes_eq name (codes "next")) (bytes_eq name (codes "size"))

named_by : (name : Name) → operation_named name ≡ service_operation name
unfolding named
named_by name = refl

found_by : (name : Name) → find_operation 0 names_operations name ≡ interface_operation name
unfolding found
found_by name =
    rw (
      flip (codes "bind") name,
      flip (codes "rebind") name,
      flip (codes "resolve") name,
      flip (codes "unbind") name,
      flip (codes "next") name,
      flip (codes "size") name,
    ) refl

-- where the service has none, the interface has none
known_cases : (a n b r s u x z : Bool) → (named a n b r s u x z ≡ None) ↔ ((a || (n || is_some (found b r s u x z))) ≡ false)
unfolding named found
known_cases true n b r s u x z = ((λ e. absurd cc), (λ e. absurd (not_false e)))
known_cases false true b r s u x z = ((λ e. absurd cc), (λ e. absurd (not_false e)))
known_cases false false true r s u x z = ((λ e. absurd cc), (λ e. absurd (not_false e)))
known_cases false false false true s u x z = ((λ e. absurd cc), (λ e. absurd (not_false e)))
known_cases false false false false true u x z = ((λ e. absurd cc), (λ e. absurd (not_false e)))
known_cases false false false false false true x z = ((λ e. absurd cc), (λ e. absurd (not_false e)))
known_cases false false false false false false true z = ((λ e. absurd cc), (λ e. absurd (not_false e)))
known_cases false false false false false false false true = ((λ e. absurd cc), (λ e. absurd (not_false e)))
known_cases false false false false false false false false = ((λ e. refl), (λ e. refl))

is_a_cases : (a n b r s u x z : Bool) → named a n b r s u x z ≡ Some IsA → a ≡ true
unfolding named
is_a_cases true n b r s u x z e = refl
is_a_cases false true b r s u x z e = absurd cc
is_a_cases false false true r s u x z e = absurd cc
is_a_cases false false false true s u x z e = absurd cc
is_a_cases false false false false true u x z e = absurd cc
is_a_cases false false false false false true x z e = absurd cc
is_a_cases false false false false false false true z e = absurd cc
is_a_cases false false false false false false false true e = absurd cc
is_a_cases false false false false false false false false e = absurd cc

non_existent_cases : (a n b r s u x z : Bool) → named a n b r s u x z ≡ Some NonExistent → n ≡ true
unfolding named
non_existent_cases true n b r s u x z e = absurd cc
non_existent_cases false true b r s u x z e = refl
non_existent_cases false false true r s u x z e = absurd cc
non_existent_cases false false false true s u x z e = absurd cc
non_existent_cases false false false false true u x z e = absurd cc
non_existent_cases false false false false false true x z e = absurd cc
non_existent_cases false false false false false false true z e = absurd cc
non_existent_cases false false false false false false false true e = absurd cc
non_existent_cases false false false false false false false false e = absurd cc

is_a_name : (name : Name) → operation_named name ≡ Some IsA → name ≡ codes "_is_a"
is_a_name name e = same_name name (codes "_is_a") (is_a_cases _ _ _ _ _ _ _ _ (sym (named_by name) ∙ e))

non_existent_name : (name : Name) → operation_named name ≡ Some NonExistent → name ≡ codes "_non_existent"
non_existent_name name e = same_name name (codes "_non_existent") (non_existent_cases _ _ _ _ _ _ _ _ (sym (named_by name) ∙ e))

-- ---- the parameters of both

read_same : {A : Type 0} (r : Reads A) → service.is_read r ≡ servant.is_read r
read_same (Ok x) = refl
read_same (Err f) = refl

-- a string without a bound is read as a string
text_read : (c : Cursor) → read (words 0) c ≡ as_read text (string_at c)
unfolding read text_at
text_read c = ap (as_read text) (on (string_at c))
  where
    on : (r : Reads (List ℕ)) → (r >>= λ x. Ok x) ≡ r
    on (Ok x) = refl
    on (Err f) = refl

one_read : (name : Name) (vs : List Value) (c : Cursor) → service.is_read (string_at c) ≡ servant.is_read (arguments (string_in name ∷ []) vs c)
one_read name vs c =
    on (string_at c) ∙ ap (λ (r : Reads Value). servant.is_read (r >>= λ x. arguments [] (vs ++ x.0 ∷ []) x.1)) (sym (text_read c))
  where
    on : (r : Reads (List ℕ)) → service.is_read r ≡ servant.is_read (as_read text r >>= λ x. arguments [] (vs ++ x.0 ∷ []) x.1)
    on (Ok x) = refl
    on (Err f) = refl

two_read : (key target : Name) (c : Cursor) → service.is_read (strings_at c) ≡ servant.is_read (arguments (string_in key ∷ string_in target ∷ []) [] c)
unfolding strings_at
two_read key target c =
    on (string_at c) ∙ ap (λ (r : Reads Value). servant.is_read (r >>= λ x. arguments (string_in target ∷ []) ([] ++ x.0 ∷ []) x.1)) (sym (text_read c))
  where
    last : (first : List ℕ) (r : Reads (List ℕ)) → service.is_read {A = List ℕ × List ℕ} (r >>= λ y. Ok ((first, y.0), y.1)) ≡ service.is_read r
    last first (Ok x) = refl
    last first (Err f) = refl

    on : (r : Reads (List ℕ)) → service.is_read {A = List ℕ × List ℕ} (r >>= λ x. string_at x.1 >>= λ y. Ok ((x.0, y.0), y.1))
        ≡ servant.is_read (as_read text r >>= λ x. arguments (string_in target ∷ []) ([] ++ x.0 ∷ []) x.1)
    on (Ok x) = last x.0 (string_at x.1) ∙ one_read target (text x.0 ∷ []) x.1
    on (Err f) = refl

-- whether the parameters have a reading, where the service has the operation
reads : Option Operation → Cursor → Bool
reads None c = true
reads (Some o) c = service.has_parameters o c

read_cases : (job : JobRecord) (a n b r s u x z : Bool) → reads (named a n b r s u x z) (body_at job)
    ≡ cond a (servant.is_read (string_at (body_at job))) (cond n true (servant.are_read job (found b r s u x z)))
unfolding named found reads
read_cases job true n b r s u x z = read_same (string_at (body_at job))
read_cases job false true b r s u x z = refl
read_cases job false false true r s u x z = two_read (codes "key") (codes "target") (body_at job)
read_cases job false false false true s u x z = two_read (codes "key") (codes "target") (body_at job)
read_cases job false false false false true u x z = one_read (codes "key") [] (body_at job)
read_cases job false false false false false true x z = one_read (codes "key") [] (body_at job)
read_cases job false false false false false false true z = one_read (codes "after") [] (body_at job)
read_cases job false false false false false false false true = refl
read_cases job false false false false false false false false = refl

-- ---- whom the job is for

interface_is : InterfaceView
interface_is = record { id = names_id; bases = []; operations = names_operations }

target_is : (s : Served) (h : ServesNames s) → target_of s names_id ≡ Some (interface_is, h.servant)
unfolding interface_is
target_is s h = rw (h.placed, h.thing, h.serves) refl

known : (s : Served) (h : ServesNames s) (name : Name)
    → (operation_named name ≡ None) ↔ (servant.has_operation (target_of s names_id) name ≡ false)
unfolding interface_is
known s h name =
    let is_a = bytes_eq name (codes "_is_a") in
    let non_existent = bytes_eq name (codes "_non_existent") in
    let same : servant.has_operation (target_of s names_id) name ≡ (is_a || (non_existent || is_some (interface_operation name))) =
    ap (λ (t : Option Target). servant.has_operation t name) (target_is s h)
    ∙ ap (λ (o : Option (ℕ × OperationView)). is_a || (non_existent || is_some o)) (found_by name) in
    let both = known_cases is_a non_existent (bytes_eq name (codes "bind")) (bytes_eq name (codes "rebind"))
    (bytes_eq name (codes "resolve")) (bytes_eq name (codes "unbind")) (bytes_eq name (codes "next")) (bytes_eq name (codes "size")) in
    ((λ e. same ∙ both.0 (sym (named_by name) ∙ e)), (λ e. named_by name ∙ both.1 (sym same ∙ e)))

parameters_same : (s : Served) (h : ServesNames s) (job : JobRecord)
    → reads (operation_named job.operation) (body_at job) ≡ servant.has_parameters (target_of s names_id) job
unfolding interface_is
parameters_same s h job =
    let name = job.operation in
    let is_a = bytes_eq name (codes "_is_a") in
    let non_existent = bytes_eq name (codes "_non_existent") in
    ap (λ (o : Option Operation). reads o (body_at job)) (named_by name)
    ∙ read_cases job is_a non_existent (bytes_eq name (codes "bind")) (bytes_eq name (codes "rebind"))
    (bytes_eq name (codes "resolve")) (bytes_eq name (codes "unbind")) (bytes_eq name (codes "next")) (bytes_eq name (codes "size"))
    ∙ sym (ap (λ (t : Option Target). servant.has_parameters t job) (target_is s h)
    ∙ ap (λ (o : Option (ℕ × OperationView)).
    cond is_a (servant.is_read (string_at (body_at job))) (cond non_existent true (servant.are_read job o))) (found_by name))

-- ---- where both refuse

own_of : Meaning → Outcome
own_of (Asks ask) = bad_operation
own_of (Tells own) = own

same_own : (a b : Outcome) → Tells a ≡ Tells b → a ≡ b
unfolding own_of
same_own a b e = ap own_of e

meant_unread : (order : Order) (o : Option Operation) (c : Cursor) → (meant order o c ≡ Tells marshal) ↔ (reads o c ≡ false)
unfolding reads
meant_unread order None c = ((λ e. absurd (bad_is_read (same_own bad_operation marshal e))), (λ e. absurd (not_false e)))
meant_unread order (Some o) c = refusing.unread_refused order o c

pub unknown_alike : UnknownAlike
unknown_alike s h job =
    let mine = refusing.unknown_refused job.order job.operation job.body in
    let both = known s h job.operation in
    let theirs = servants.unknown_refused s names_id job in
    ((λ e. theirs.1 (both.0 (mine.0 e))), (λ e. mine.1 (both.1 (theirs.0 e))))

pub unread_alike : UnreadAlike
unread_alike s h job =
    let mine = meant_unread job.order (operation_named job.operation) (body_at job) in
    let same = parameters_same s h job in
    let theirs = servants.unread_refused s names_id job in
    ((λ e. theirs.1 (sym same ∙ mine.0 e)), (λ e. mine.1 (same ∙ theirs.0 e)))

-- ---- what both answer without a script

declared_so : (s : Served) (h : ServesNames s) → thing_named s.things names_id ≡ Some names
declared_so s h = found_at (has_id names_id) s.things h.place h.placed ∙ h.thing

leads_alone : (n : ℕ) (ts : List Thing) (other : Name) → bases_named ts names_id ≡ [] → leads_within n ts names_id other ≡ bytes_eq names_id other
leads_alone zero ts other e = refl
leads_alone (suc n) ts other e =
    ap (λ (bs : List Name). bytes_eq names_id other || list_any (λ next. leads_within n ts next other) bs) e ∙ or_nothing (bytes_eq names_id other)

kin_same : (s : Served) (h : ServesNames s) (id : Name) → is_one_of s.things names_id id ≡ is_of id
kin_same s h id =
    let here : is_interface s.things names_id ≡ true = ap (λ (o : Option Thing). is_some (option_and_then as_interface o)) (declared_so s h) in
    let alone : bases_named s.things names_id ≡ [] = ap (λ (o : Option Thing). option_map_or (λ i. i.bases) (option_and_then as_interface o) []) (declared_so s h) in
    ap (λ (b : Bool). b && (bytes_eq id object_id || leads_within (length s.things) s.things names_id id)) here
    ∙ ap (λ (b : Bool). bytes_eq id object_id || b) (leads_alone (length s.things) s.things id alone ∙ flip names_id id)
    ∙ either (bytes_eq id object_id) (bytes_eq id names_id)

truth_same : (order : Order) (b : Bool) → or_limited (returns order ((scalar boolean, tree.truth b) ∷ [])) ≡ truth order b
unfolding number_bytes
truth_same Big true = refl
truth_same Big false = refl
truth_same Little true = refl
truth_same Little false = refl

kin_answered : (s : Served) (h : ServesNames s) (job : JobRecord) (r : Reads Name) → kinship job.order r ≡ Tells (told_kin s.things names_id job r)
kin_answered s h job (Ok x) = ap Tells (sym (truth_same job.order (is_one_of s.things names_id x.0) ∙ ap (truth job.order) (kin_same s h x.0)))
kin_answered s h job (Err f) = refl

pub kin_alike : KinAlike
unfolding outcome_of
kin_alike s h job is = rw (target_is s h, is) (kin_answered s h job (string_at (body_at job)))

pub there_alike : ThereAlike
unfolding outcome_of
there_alike s h job is = rw (target_is s h, is) (ap Tells (sym (truth_same job.order false)))

-- ---- all answers without the map

data Kinds (o : Option Operation) (own : Outcome) : Type 0 where
  long : own ≡ limited → Kinds o own
  unknown : own ≡ bad_operation → Kinds o own
  unread : own ≡ marshal → Kinds o own
  is_a : o ≡ Some IsA → Kinds o own
  non_existent : o ≡ Some NonExistent → Kinds o own

asks_kind : (o : Option Operation) (ask : List ℕ → NamesCall) (r : Reads (List ℕ)) (own : Outcome) → asks_of ask r ≡ Tells own → Kinds o own
asks_kind o ask (Ok x) own e = absurd cc
asks_kind o ask (Err f) own e = unread (sym (same_own marshal own e))

binds_kind : (o : Option Operation) (bind : List ℕ → List ℕ → NamesCall) (r : Reads (List ℕ × List ℕ)) (own : Outcome) → binds bind r ≡ Tells own → Kinds o own
binds_kind o bind (Ok x) own e = on (keep_limits x.0.0 x.0.1) e
  where
    on : (b : Bool) → cond b (Asks (bind x.0.0 x.0.1)) (Tells limited) ≡ Tells own → Kinds o own
    on true e = absurd cc
    on false e = long (sym (same_own limited own e))
binds_kind o bind (Err f) own e = unread (sym (same_own marshal own e))

kind_of : (order : Order) (o : Option Operation) (c : Cursor) (own : Outcome) → meant order o c ≡ Tells own → Kinds o own
kind_of order None c own e = unknown (sym (same_own bad_operation own e))
kind_of order (Some IsA) c own e = is_a refl
kind_of order (Some NonExistent) c own e = non_existent refl
kind_of order (Some Bind) c own e = binds_kind (Some Bind) (λ key target. call.Bind key target) (strings_at c) own e
kind_of order (Some Rebind) c own e = binds_kind (Some Rebind) (λ key target. call.Rebind key target) (strings_at c) own e
kind_of order (Some Resolve) c own e = asks_kind (Some Resolve) (λ key. call.Resolve key) (string_at c) own e
kind_of order (Some Unbind) c own e = asks_kind (Some Unbind) (λ key. call.Unbind key) (string_at c) own e
kind_of order (Some Next) c own e = asks_kind (Some Next) (λ after. call.Next after) (string_at c) own e
kind_of order (Some Size) c own e = absurd cc

pub own_alike : OwnAlike
own_alike s h job own e = on (kind_of job.order (operation_named job.operation) (body_at job) own e)
  where
    on : Kinds (operation_named job.operation) own → (own ≡ limited) ⊎ (own ≡ outcome_of s names_id job)
    on (long l) = inl l
    on (unknown u) = inr (u ∙ sym ((unknown_alike s h job).0 (e ∙ ap Tells u)))
    on (unread u) = inr (u ∙ sym ((unread_alike s h job).0 (e ∙ ap Tells u)))
    on (is_a i) = inr (same_own own (outcome_of s names_id job) (sym e ∙ kin_alike s h job (is_a_name job.operation i)))
    on (non_existent i) = inr (same_own own (outcome_of s names_id job) (sym e ∙ there_alike s h job (non_existent_name job.operation i)))
