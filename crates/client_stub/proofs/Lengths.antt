-- How long the requests of a call are.
use Rattle.std.proofs.Common.{◌≡◌, ℕ, ◌+◌, ◌^◌, ◌≤◌, Bool, true, false, List, [], ◌∷◌, ◌++◌, map, length, take, Option, Some, None, option_map, refl, sym, ap, subst, ◌∙◌, inl, inr, arith}
use Rattle.std.specs.Prelude.{is_some}
use Rattle.std.proofs.lemmas.Bool.{and_parts, cases_lt}
use Rattle.std.proofs.lemmas.List.{length-take}
use Rattle.orb_base.specs.Span.{Span}
use Rattle.orb_base.specs.Tagged.{Context}
use Rattle.orb_base.specs.declared.order.Order.{Order}
use Rattle.orb_base.specs.declared.order.Order.TheVariants.{Big}
use Rattle.cdr_core.specs.Encapsulation.{encapsulation}
use Rattle.cdr_core.specs.Field.{Field, fields_end}
use Rattle.cdr_core.specs.Spelling.{fields_bytes}
use Rattle.cdr_core.proofs.CallerLemmas.{fields_end-append, fields_end-is}
use Rattle.cdr_values.specs.Fitting.{is_of}
use Rattle.cdr_values.specs.Kinds.{kind_of}
use Rattle.cdr_values.specs.Lengths.{Ends, EndsAt}
use Rattle.cdr_values.specs.Spelling.{fields_of, both}
use Rattle.cdr_values.specs.Trees as trees
use Rattle.cdr_values.specs.Values.{value_of, values_view}
use Rattle.cdr_values.specs.declared.value.IdlValue.{IdlValue}
use Rattle.cdr_values.proofs.Ending.{Left, both_ends}
use Rattle.idl_types.specs.Views.{param_of}
use Rattle.idl_types.specs.declared.param.Param.{Param}
use Rattle.service_contexts.specs.Layout.{priority_fields, band_fields}
use Rattle.service_contexts.specs.declared.contexts.TheConstants.{RANGE_CONTEXT}
use Rattle.giop_messages.specs.Layout.{named_fields, body_fields}
use Rattle.giop_messages.specs.Lengths.{held, data_len}
use Rattle.giop_messages.specs.Message.{key, request_of}
use Rattle.giop_messages.specs.Spelling.{spelled}
use Rattle.giop_messages.proofs.LengthLaws.{length-spelled_message}
use Rattle.value_json.specs.Operations.{are_of, goes_in, kinds_in}
use Rattle.client_stub.specs.Asking.{Asked, arguments_fit, fields_of_all, argument_fields}
use Rattle.client_stub.specs.Requests.{flags_of, sent, contexts_with, call_at, call_of, bind_operation, bind_of, may_bind, longer, IsRequestLen}

-- ---- the arguments, one parameter after another

-- whether the values that are left are of the types of the parameters that are left
abbrev pub left_fit : List Param → List IdlValue → Bool
left_fit ps vs = are_of (kinds_in (map param_of ps)) (values_view vs)

-- the fields that are left
abbrev pub left_fields : List Param → List IdlValue → Option (List Field)
left_fields ps vs = fields_of_all (kinds_in (map param_of ps)) (values_view vs)

-- before a parameter: the values that are left fit, and whatever ends their fields ends all of them
pub record Passed (ps : List Param) (vs : List IdlValue) (here : ℕ) (all : Option (List Field)) : Type 0 where
  pub fit : left_fit ps vs ≡ true
  pub left : Left here (left_fields ps vs) 0 all

pub nothing_passed : (ps : List Param) (vs : List IdlValue) → left_fit ps vs ≡ true → Passed ps vs 0 (left_fields ps vs)
nothing_passed ps vs fit = record { fit = fit; left = λ to end. end }

pub passed_by : (ps more : List Param) (p : Param) (vs : List IdlValue) (here : ℕ) (all : Option (List Field)) → ps ≡ p ∷ more → goes_in p.way ≡ false
    → Passed ps vs here all → Passed more vs here all
passed_by ps more p vs here all is out h =
    let fit : left_fit ps vs ≡ left_fit more vs = rw (is, out) refl in
    let same : left_fields ps vs ≡ left_fields more vs = rw (is, out) refl in
    record { fit = sym fit ∙ h.fit; left = subst (λ (o : Option (List Field)). Left here o 0 all) same h.left }

pub first_fits : (ps more : List Param) (p : Param) (vs later : List IdlValue) (v : IdlValue) → ps ≡ p ∷ more → goes_in p.way ≡ true → vs ≡ v ∷ later → left_fit ps vs ≡ true
    → (is_of (value_of v) (kind_of p.kind) ≡ true) × (left_fit more later ≡ true)
first_fits ps more p vs later v is goes it fit =
    let parts : left_fit ps vs ≡ are_of (kind_of p.kind ∷ kinds_in (map param_of more)) (value_of v ∷ values_view later) = rw (is, goes, it) refl in
    and_parts (is_of (value_of v) (kind_of p.kind)) (left_fit more later) (sym parts ∙ fit)

pub value_fits : (ps more : List Param) (p : Param) (vs later : List IdlValue) (v : IdlValue) (here : ℕ) (all : Option (List Field)) → ps ≡ p ∷ more → goes_in p.way ≡ true
    → vs ≡ v ∷ later → Passed ps vs here all → is_of (value_of v) (kind_of p.kind) ≡ true
value_fits ps more p vs later v here all is goes it h = (first_fits ps more p vs later v is goes it h.fit).0

pub passed_on : (ps more : List Param) (p : Param) (vs later : List IdlValue) (v : IdlValue) (here next : ℕ) (all : Option (List Field)) → ps ≡ p ∷ more → goes_in p.way ≡ true
    → vs ≡ v ∷ later → EndsAt here (fields_of (value_of v) (kind_of p.kind)) next → Passed ps vs here all → Passed more later next all
passed_on ps more p vs later v here next all is goes it ends h =
    let one = fields_of (value_of v) (kind_of p.kind) in
    let same : left_fields ps vs ≡ both one (left_fields more later) = rw (is, goes, it) refl in
    record {
      fit = (first_fits ps more p vs later v is goes it h.fit).1;
      left = λ to end. h.left to (subst (λ (o : Option (List Field)). EndsAt here o to) (sym same) (both_ends here next to one (left_fields more later) ends end));
    }

no_fields : (here to : ℕ) (left all : Option (List Field)) → left ≡ None → Left here left 0 all → EndsAt 0 all to
no_fields here to left all none h = h to (subst (λ (o : Option (List Field)). EndsAt here o to) (sym none) tt)

pub passed_few : (ps more : List Param) (p : Param) (vs : List IdlValue) (here : ℕ) (all : Option (List Field)) → ps ≡ p ∷ more → goes_in p.way ≡ true → vs ≡ []
    → Passed ps vs here all → EndsAt 0 all here
passed_few ps more p vs here all is goes none h =
    let same : left_fields ps vs ≡ None = rw (is, goes, none) refl in
    no_fields here here (left_fields ps vs) all same h.left

pub passed_all : (ps : List Param) (vs : List IdlValue) (here : ℕ) (all : Option (List Field)) → ps ≡ [] → Passed ps vs here all → EndsAt 0 all here
passed_all ps [] here all none h =
    let same : left_fields ps [] ≡ Some [] = rw none refl in
    let nothing : Ends here [] here = record { at = λ place from. from } in
    h.left here (subst (λ (o : Option (List Field)). EndsAt here o here) (sym same) nothing)
passed_all ps (v ∷ vs) here all none h =
    let same : left_fields ps (v ∷ vs) ≡ None = rw none refl in
    no_fields here here (left_fields ps (v ∷ vs)) all same h.left

-- values of the types have fields
some_both : (one more : Option (List Field)) → is_some one ≡ true → is_some more ≡ true → is_some (both one more) ≡ true
some_both (Some fs) (Some gs) p q = refl
some_both (Some fs) None p q = q
some_both None more p q = p

pub have_fields : (ks : List trees.Kind) (vs : List trees.Value) → are_of ks vs ≡ true → is_some (fields_of_all ks vs) ≡ true
have_fields [] [] fit = refl
have_fields [] (v ∷ vs) fit = fit
have_fields (k ∷ ks) [] fit = fit
have_fields (k ∷ ks) (v ∷ vs) fit =
    let parts = and_parts (is_of v k) (are_of ks vs) fit in
    some_both (fields_of v k) (fields_of_all ks vs) parts.0 (have_fields ks vs parts.1)

-- ---- a request, by the length of its body

body_within : (place : ℕ) (body : List ℕ) → length body ≤ fields_end place (body_fields body)
body_within place [] = omega arith
body_within place (byte ∷ bytes) = omega arith

-- the request of a call that has these parts
abbrev pub asking : ℕ → ℕ → List ℕ → List ℕ → List Context → List ℕ → List ℕ
asking id flags object operation told body = spelled Big (request_of id flags (key object) operation told body)

is_longer : (id flags : ℕ) (object operation : List ℕ) (told : List Context) (body : List ℕ) → length body ≤ length (asking id flags object operation told body)
is_longer id flags object operation told body =
    let message = request_of id flags (key object) operation told body in
    let named = named_fields (0 ∷ 0 ∷ 0 ∷ []) message in
    let whole : length (asking id flags object operation told body) ≡ fields_end 12 (named ++ body_fields body) = length-spelled_message Big message in
    let parts : fields_end 12 (named ++ body_fields body) ≡ fields_end (fields_end 12 named) (body_fields body) = fields_end-append 12 named (body_fields body) in
    let inside : length body ≤ fields_end (fields_end 12 named) (body_fields body) = body_within (fields_end 12 named) body in
    omega (arith, whole, parts, inside)

-- a body whose length is held, like every body of that length
pub held_body : (id flags : ℕ) (object operation : List ℕ) (told : List Context) (body : List ℕ) (len n : ℕ) → len ≡ held (length body)
    → ((bytes : List ℕ) → length bytes ≡ len → n ≡ held (length (asking id flags object operation told bytes)))
    → n ≡ held (length (asking id flags object operation told body))
held_body id flags object operation told body len n is all =
    elim (cases_lt (length body) (2 ^ 64)) [
      | inl low ↦ all body (omega (arith, low, is))
      | inr high ↦
          let cut = take len body in
          let inside : len ≤ length body = omega (arith, high, is) in
          let size : length cut ≡ len = omega (arith, length-take len body, inside) in
          let whole : n ≡ held (length (asking id flags object operation told cut)) = all cut size in
          let one : length cut ≤ length (asking id flags object operation told cut) = is_longer id flags object operation told cut in
          let other : length body ≤ length (asking id flags object operation told body) = is_longer id flags object operation told body in
          omega (arith, whole, one, other, size, is, high)
    ]

pub priority_data : (level : ℕ) → length (encapsulation Big (priority_fields level)) ≡ 4
priority_data level =
    let all : 4 ≡ 1 + length (fields_bytes Big 1 (priority_fields level)) = fields_end-is Big 1 (priority_fields level) in
    omega (arith, all)

pub band_data : (band : Span) → length (encapsulation Big (band_fields band)) ≡ 6
band_data band =
    let all : 6 ≡ 1 + length (fields_bytes Big 1 (band_fields band)) = fields_end-is Big 1 (band_fields band) in
    omega (arith, all)

-- what is known of a number that is told of a request's parts
abbrev pub IsLen : List ℕ → List ℕ → List ℕ → ℕ → ℕ → Type 0
IsLen object operation sizes body n =
    (order : Order) (id flags : ℕ) (told : List Context) (bytes : List ℕ) → map data_len told ≡ sizes → length bytes ≡ body
    → n ≡ held (length (spelled order (request_of id flags (key object) operation told bytes)))

pub with_priority : (object operation : List ℕ) (level body n : ℕ) → IsLen object operation (4 ∷ []) body n
    → (id flags : ℕ) (bytes : List ℕ) → body ≡ held (length bytes) → n ≡ held (length (spelled Big (call_at id flags object operation (Some level) bytes)))
with_priority object operation level body n lens id flags bytes is =
    let sizes : map data_len (contexts_with (Some level)) ≡ 4 ∷ [] = ap (λ (x : ℕ). x ∷ []) (priority_data level) in
    held_body id flags object operation (contexts_with (Some level)) bytes body n is (λ bs size. lens Big id flags (contexts_with (Some level)) bs sizes size)

pub without_priority : (object operation : List ℕ) (body n : ℕ) → IsLen object operation [] body n
    → (id flags : ℕ) (bytes : List ℕ) → body ≡ held (length bytes) → n ≡ held (length (spelled Big (call_at id flags object operation None bytes)))
without_priority object operation body n lens id flags bytes is =
    held_body id flags object operation [] bytes body n is (λ bs size. lens Big id flags [] bs refl size)

pub binding : (object : List ℕ) (n : ℕ) → IsLen object bind_operation (6 ∷ []) 0 n
    → (id : ℕ) (band : Span) → n ≡ held (length (spelled Big (bind_of id object band)))
binding object n lens id band =
    lens Big id 3 (record { id = RANGE_CONTEXT; bytes = encapsulation Big (band_fields band) } ∷ []) [] (ap (λ (x : ℕ). x ∷ []) (band_data band)) refl

-- ---- a call and its bind

longer_held : (bind : Bool) (a b : ℕ) → longer bind (held a) (held b) ≡ held (longer bind a b)
longer_held true a b = omega arith
longer_held false a b = refl

body_of : (o : Option (List Field)) (to : ℕ) → is_some o ≡ true → EndsAt 0 o to
    → (body : List ℕ) × (option_map (fields_bytes Big 0) o ≡ Some body) × (to ≡ held (length body))
body_of (Some fs) to some ends =
    let all : fields_end 0 fs ≡ 0 + length (fields_bytes Big 0 fs) = fields_end-is Big 0 fs in
    let same : fields_end 0 fs ≡ length (fields_bytes Big 0 fs) = omega (arith, all) in
    (fields_bytes Big 0 fs, refl, ends.at 0 refl ∙ ap held same)
body_of None to some ends = absurd (cc)

pub whole : (asked : Asked) (body call bind n : ℕ) → are_of (kinds_in asked.operation.params) asked.arguments ≡ true → EndsAt 0 (argument_fields asked) body
    → ((id flags : ℕ) (bytes : List ℕ) → body ≡ held (length bytes)
    → call ≡ held (length (spelled Big (call_at id flags asked.remote.key asked.operation.name (sent asked.remote.model asked.priority) bytes))))
    → ((id : ℕ) (band : Span) → bind ≡ held (length (spelled Big (bind_of id asked.remote.key band))))
    → n ≡ longer (may_bind asked) call bind → IsRequestLen asked n
whole asked body call bind n fit ends calls binds is =
    let some = have_fields (kinds_in asked.operation.params) asked.arguments fit in
    let found = body_of (argument_fields asked) body some ends in
    record {
      body = found.0;
      has_body = found.1;
      len = λ id bind_id band.
          let one = calls id (flags_of asked.operation.oneway) found.0 found.2 in
          let other = binds bind_id band in
          is ∙ ap (λ (x : ℕ). longer (may_bind asked) x bind) one ∙ ap (longer (may_bind asked) (held (length (spelled Big (call_of id asked found.0))))) other
          ∙ longer_held (may_bind asked) (length (spelled Big (call_of id asked found.0))) (length (spelled Big (bind_of bind_id asked.remote.key band)));
    }

-- what is known of the length of a call, and of that of a bind
abbrev pub IsCall : List ℕ → List ℕ → Option ℕ → ℕ → ℕ → Type 0
IsCall object operation priority body n =
    (id flags : ℕ) (bytes : List ℕ) → body ≡ held (length bytes) → n ≡ held (length (spelled Big (call_at id flags object operation priority bytes)))

abbrev pub IsBind : List ℕ → ℕ → Type 0
IsBind object n = (id : ℕ) (band : Span) → n ≡ held (length (spelled Big (bind_of id object band)))

pub requests : (a : Asked) (object operation : List ℕ) (priority : Option ℕ) (ps : List Param) (vs : List IdlValue) (body call bind n : ℕ) (may : Bool) → arguments_fit a ≡ true
    → kinds_in (map param_of ps) ≡ kinds_in a.operation.params → values_view vs ≡ a.arguments → object ≡ a.remote.key → operation ≡ a.operation.name
    → priority ≡ sent a.remote.model a.priority → may ≡ may_bind a → EndsAt 0 (left_fields ps vs) body → IsCall object operation priority body call → IsBind object bind
    → n ≡ longer may call bind → IsRequestLen a n
requests a object operation priority ps vs body call bind n may fit kinds values keyed named given bound ends calls binds is =
    let fields : left_fields ps vs ≡ argument_fields a =
    ap (λ (ks : List trees.Kind). fields_of_all ks (values_view vs)) kinds ∙ ap (fields_of_all (kinds_in a.operation.params)) values in
    let one : IsCall a.remote.key a.operation.name (sent a.remote.model a.priority) body call =
    subst (λ (p : Option ℕ). IsCall a.remote.key a.operation.name p body call) given
    (subst (λ (o : List ℕ). IsCall a.remote.key o priority body call) named (subst (λ (k : List ℕ). IsCall k operation priority body call) keyed calls)) in
    whole a body call bind n fit (subst (λ (o : Option (List Field)). EndsAt 0 o body) fields ends) one
    (subst (λ (k : List ℕ). IsBind k bind) keyed binds) (is ∙ ap (λ (b : Bool). longer b call bind) bound)
