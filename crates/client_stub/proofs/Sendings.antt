-- The arguments, spelled one after another, and how long the requests are.
use Rattle.std.proofs.Common.{◌≡◌, ℕ, ◌≤◌, ◌^◌, Bool, true, false, List, [], ◌∷◌, ◌++◌, map, length, Option, Some, None, option_map, refl, sym, ap, subst, ◌∙◌, append_assoc, append-nil, arith}
use Rattle.std.specs.Prelude.{is_some, IfSome, IfOk, Result, Ok, Err, ◌||◌}
use Rattle.orb_base.specs.Span.{Span}
use Rattle.orb_base.specs.Tagged.{Context}
use Rattle.orb_base.specs.declared.limits.TheConstants.{MAX_MESSAGE}
use Rattle.orb_base.specs.declared.order.Order.TheVariants.{Big}
use Rattle.cdr_core.specs.Encapsulation.{encapsulation}
use Rattle.cdr_core.specs.Field.{Field}
use Rattle.cdr_core.specs.Spelling.{fields_bytes}
use Rattle.cdr_core.specs.Writing.{Page, page, written}
use Rattle.cdr_core.proofs.CallerLemmas.{written_none, written_both}
use Rattle.cdr_values.specs.Fitting.{is_of}
use Rattle.cdr_values.specs.Kinds.{kind_of}
use Rattle.cdr_values.specs.Spelling.{fields_of, both, behind}
use Rattle.cdr_values.specs.Trees as trees
use Rattle.cdr_values.specs.Values.{value_of, values_view}
use Rattle.cdr_values.specs.Writing.{Wrote}
use Rattle.cdr_values.specs.declared.value.IdlValue.{IdlValue}
use Rattle.idl_types.specs.Views.{param_of}
use Rattle.idl_types.specs.declared.param.Param.{Param}
use Rattle.service_contexts.specs.Layout.{band_fields}
use Rattle.service_contexts.specs.declared.contexts.TheConstants.{RANGE_CONTEXT}
use Rattle.giop_messages.specs.Lengths.{held}
use Rattle.giop_messages.specs.Message.{Message, Request, request, key, request_of}
use Rattle.giop_messages.specs.Spelling.{spelled}
use Rattle.value_json.specs.Operations.{goes_in, kinds_in}
use Rattle.client_stub.specs.Asking.{Asked, call_body, argument_fields, fields_of_all}
use Rattle.client_stub.specs.Requests.{call_of, bind_of, bind_operation, flags_of, contexts_with, sent, may_bind, longer, IsRequestLen}
use Rattle.client_stub.specs.Sending.{IsCall, IsSendable, Spelled, call_bytes}
use Rattle.client_stub.proofs.Lengths.{left_fit, left_fields, first_fits}

behind_nothing : (a : Option (List Field)) → behind [] a ≡ a
behind_nothing None = refl
behind_nothing (Some fs) = refl

behind_behind : (fs gs : List Field) (a : Option (List Field)) → behind fs (behind gs a) ≡ behind (fs ++ gs) a
behind_behind fs gs None = refl
behind_behind fs gs (Some hs) = ap Some (sym (append_assoc fs gs hs))

-- before a parameter: the arguments that are left fit; fields were spelled, and those that are left, put after them, are all
pub record Putting (ps : List Param) (vs : List IdlValue) (start now : Page) (all : Option (List Field)) : Type 0 where
  pub fit : left_fit ps vs ≡ true
  pub fields : List Field
  pub page : now ≡ written start fields
  pub rest : behind fields (left_fields ps vs) ≡ all

pub puts_all : (ps : List Param) (vs : List IdlValue) (start : Page) → left_fit ps vs ≡ true → Putting ps vs start start (left_fields ps vs)
puts_all ps vs start fit = record { fit = fit; fields = []; page = written_none start; rest = behind_nothing (left_fields ps vs) }

pub puts_by : (ps more : List Param) (p : Param) (vs : List IdlValue) (start now : Page) (all : Option (List Field)) → ps ≡ p ∷ more → goes_in p.way ≡ false
    → Putting ps vs start now all → Putting more vs start now all
puts_by ps more p vs start now all is out h =
    let fit : left_fit ps vs ≡ left_fit more vs = rw (is, out) refl in
    let same : left_fields ps vs ≡ left_fields more vs = rw (is, out) refl in
    record { fit = sym fit ∙ h.fit; fields = h.fields; page = h.page; rest = ap (behind h.fields) (sym same) ∙ h.rest }

pub arg_fits : (ps more : List Param) (p : Param) (vs later : List IdlValue) (v : IdlValue) (start now : Page) (all : Option (List Field)) → ps ≡ p ∷ more → goes_in p.way ≡ true
    → vs ≡ v ∷ later → Putting ps vs start now all → is_of (value_of v) (kind_of p.kind) ≡ true
arg_fits ps more p vs later v start now all is goes it h = (first_fits ps more p vs later v is goes it h.fit).0

one_put : (one more all : Option (List Field)) (fields : List Field) (start now new : Page) → is_some one ≡ true → IfSome one (λ fs. new ≡ written now fs) → now ≡ written start fields
    → behind fields (both one more) ≡ all → (fs : List Field) × (new ≡ written start fs) × (behind fs more ≡ all)
one_put (Some fs) more all fields start now new some put page rest =
    (fields ++ fs, written_both start now new fields fs page put, sym (behind_behind fields fs more) ∙ rest)
one_put None more all fields start now new some put page rest = absurd (cc)

pub puts_on : (ps more : List Param) (p : Param) (vs later : List IdlValue) (v : IdlValue) (start now new : Page) (all : Option (List Field)) → ps ≡ p ∷ more → goes_in p.way ≡ true
    → vs ≡ v ∷ later → Wrote (Ok tt) now new (fields_of (value_of v) (kind_of p.kind)) → Putting ps vs start now all → Putting more later start new all
puts_on ps more p vs later v start now new all is goes it put h =
    let one = fields_of (value_of v) (kind_of p.kind) in
    let fits = first_fits ps more p vs later v is goes it h.fit in
    let same : left_fields ps vs ≡ both one (left_fields more later) = rw (is, goes, it) refl in
    let next = one_put one (left_fields more later) all h.fields start now new fits.0 put h.page (ap (behind h.fields) (sym same) ∙ h.rest) in
    record { fit = fits.1; fields = next.0; page = next.1; rest = next.2 }

-- an argument is there for each parameter that goes in
pub puts_few : (ps more : List Param) (p : Param) (vs : List IdlValue) (start now : Page) (all : Option (List Field)) → ps ≡ p ∷ more → goes_in p.way ≡ true → vs ≡ []
    → Putting ps vs start now all → ⊥
puts_few ps more p vs start now all is goes none h =
    let few : left_fit ps vs ≡ false = rw (is, goes, none) refl in
    let wrong : true ≡ false = sym h.fit ∙ few in absurd (cc)

pub puts_done : (ps : List Param) (vs : List IdlValue) (start now : Page) (all : Option (List Field)) → ps ≡ [] → Putting ps vs start now all → Spelled start now all
puts_done ps [] start now all none h =
    let same : left_fields ps [] ≡ Some [] = rw none refl in
    let whole : behind h.fields (Some []) ≡ all = ap (behind h.fields) (sym same) ∙ h.rest in
    record { fields = h.fields; are = sym whole ∙ ap Some (append-nil h.fields); page = h.page }
puts_done ps (v ∷ vs) start now all none h =
    let many : left_fit ps (v ∷ vs) ≡ false = rw none refl in
    let wrong : true ≡ false = sym h.fit ∙ many in absurd (cc)

-- ---- bodies

pub body_is : (start new : Page) (asked : Option (List Field)) → start ≡ page Big 0 [] → Spelled start new asked → option_map (fields_bytes Big 0) asked ≡ Some new.bytes
unfolding written
body_is start new asked empty h =
    ap (option_map (fields_bytes Big 0)) h.are
    ∙ ap (λ (p : Page). Some (written p h.fields).bytes) (sym empty)
    ∙ ap (λ (p : Page). Some p.bytes) (sym h.page)

-- ---- lengths

some_is : (a b : List ℕ) (o : Option (List ℕ)) → o ≡ Some a → o ≡ Some b → a ≡ b
some_is a b o p q = let same : Some a ≡ Some b = sym p ∙ q in cc

longer_call : (bind : Bool) (a b : ℕ) → a ≤ longer bind a b
longer_call true a b = omega arith
longer_call false a b = omega arith

longer_bind : (bind : Bool) (a b : ℕ) → bind ≡ true → b ≤ longer bind a b
longer_bind true a b is = omega arith
longer_bind false a b is = absurd (cc)

-- any band does where none is bound
any_band : Span
any_band = record { low = 0; high = 0 }

pub call_is_short : (asked : Asked) (id : ℕ) (body : List ℕ) → IsSendable asked → call_body asked ≡ Some body → length (spelled Big (call_of id asked body)) ≤ MAX_MESSAGE
call_is_short asked id body h is =
    let its = h.is_len.len id 1 any_band in
    let call = length (spelled Big (call_of id asked h.is_len.body)) in
    let bind = length (spelled Big (bind_of 1 asked.remote.key any_band)) in
    let more : call ≤ longer (may_bind asked) call bind = longer_call (may_bind asked) call bind in
    let few : longer (may_bind asked) call bind ≤ MAX_MESSAGE = omega (arith, its, h.short) in
    let few_here : call ≤ MAX_MESSAGE = omega (arith, more, few) in
    subst (λ (b : List ℕ). length (spelled Big (call_of id asked b)) ≤ MAX_MESSAGE) (some_is h.is_len.body body (call_body asked) h.is_len.has_body is) few_here

pub bind_is_short : (asked : Asked) (id : ℕ) (band : Span) → IsSendable asked → may_bind asked ≡ true → length (spelled Big (bind_of id asked.remote.key band)) ≤ MAX_MESSAGE
bind_is_short asked id band h may =
    let its = h.is_len.len 1 id band in
    let call = length (spelled Big (call_of 1 asked h.is_len.body)) in
    let bind = length (spelled Big (bind_of id asked.remote.key band)) in
    let more : bind ≤ longer (may_bind asked) call bind = longer_bind (may_bind asked) call bind may in
    let few : longer (may_bind asked) call bind ≤ MAX_MESSAGE = omega (arith, its, h.short) in
    omega (arith, more, few)

-- ---- requests of parts that were made one by one

pub body_made : (asked : Asked) (ps : List Param) (vs : List IdlValue) (start new : Page) (bytes : List ℕ) → kinds_in (map param_of ps) ≡ kinds_in asked.operation.params
    → values_view vs ≡ asked.arguments → start ≡ page Big 0 [] → Spelled start new (left_fields ps vs) → bytes ≡ new.bytes → call_body asked ≡ Some bytes
body_made asked ps vs start new bytes kinds values empty h is =
    let same : left_fields ps vs ≡ argument_fields asked =
    ap (λ (ks : List trees.Kind). fields_of_all ks (values_view vs)) kinds ∙ ap (fields_of_all (kinds_in asked.operation.params)) values in
    ap (option_map (fields_bytes Big 0)) (sym same) ∙ body_is start new (left_fields ps vs) empty h ∙ ap (λ (b : List ℕ). Some b) (sym is)

pub call_same : (asked : Asked) (id flags : ℕ) (object operation : List ℕ) (contexts : List Context) (body : List ℕ) → flags ≡ flags_of asked.operation.oneway → object ≡ asked.remote.key
    → operation ≡ asked.operation.name → contexts ≡ contexts_with (sent asked.remote.model asked.priority) → request_of id flags (key object) operation contexts body ≡ call_of id asked body
call_same asked id flags object operation contexts body flagged keyed named told = λ i. request_of id (flagged i) (key (keyed i)) (named i) (told i) body

pub bind_same : (asked : Asked) (id : ℕ) (band : Span) (object operation : List ℕ) (contexts : List Context) (body : List ℕ) → object ≡ asked.remote.key → operation ≡ bind_operation
    → contexts ≡ record { id = RANGE_CONTEXT; bytes = encapsulation Big (band_fields band) } ∷ [] → body ≡ [] → request_of id 3 (key object) operation contexts body ≡ bind_of id asked.remote.key band
bind_same asked id band object operation contexts body keyed named told empty = λ i. request_of id 3 (key (keyed i)) (named i) (told i) (empty i)

is_short : (m n : Message) → m ≡ n → length (spelled Big n) ≤ MAX_MESSAGE → length (spelled Big m) ≤ MAX_MESSAGE
is_short m n same h = subst (λ (x : Message). length (spelled Big x) ≤ MAX_MESSAGE) (sym same) h

pub call_fits : (asked : Asked) (id : ℕ) (body : List ℕ) (m : Message) → IsSendable asked → call_body asked ≡ Some body → m ≡ call_of id asked body → length (spelled Big m) ≤ MAX_MESSAGE
call_fits asked id body m h is same = is_short m (call_of id asked body) same (call_is_short asked id body h is)

may_by : (a b : Bool) → b ≡ true → (a || b) ≡ true
may_by true b is = refl
may_by false b is = is

pub bind_fits : (asked : Asked) (id : ℕ) (band : Span) (m : Message) → IsSendable asked → asked.band ≡ Some band → m ≡ bind_of id asked.remote.key band → length (spelled Big m) ≤ MAX_MESSAGE
bind_fits asked id band m h has same =
    is_short m (bind_of id asked.remote.key band) same
    (bind_is_short asked id band h (may_by (is_some asked.remote.bands) (is_some asked.band) (ap (λ (o : Option Span). is_some o) has)))

-- ---- requests

pub call_made : {E : Type 0} (asked : Asked) (id : ℕ) (body : List ℕ) (m : Message) (made : Result Request E) → call_body asked ≡ Some body → m ≡ call_of id asked body
    → IfOk made (λ r. request r ≡ m) → IfOk made (IsCall id asked)
call_made asked id body m (Ok r) has same is = record { body = body; has_body = has; is = is ∙ same }
call_made asked id body m (Err e) has same is = tt

pub call_short : (asked : Asked) (id : ℕ) (r : Request) → IsSendable asked → IsCall id asked r → length (spelled Big (request r)) ≤ MAX_MESSAGE
call_short asked id r h c = call_fits asked id c.body (request r) h c.has_body c.is

pub call_spelled : (asked : Asked) (id : ℕ) (r : Request) (bytes : List ℕ) → IsCall id asked r → bytes ≡ spelled Big (request r) → call_bytes id asked ≡ Some bytes
call_spelled asked id r bytes c is = ap (option_map (λ body. spelled Big (call_of id asked body))) c.has_body ∙ ap (λ (m : Message). Some (spelled Big m)) (sym c.is) ∙ ap Some (sym is)
