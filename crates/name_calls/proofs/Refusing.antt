-- Each exception of the system has its one cause.
use Rattle.std.proofs.Common.{◌≡◌, ◌↔◌, ℕ, not, Bool, true, false, List, Ok, Err, Option, Some, None, if◌then◌else◌, ap, sym, refl, ◌∙◌, arith}
use Rattle.std.proofs.lemmas.Bool.{true≢false}
use Rattle.orb_base.specs.declared.order.Order.{Order}
use Rattle.orb_base.specs.declared.outcome.Outcome.TheVariants.{Returned, User, System}
use Rattle.orb_base.specs.declared.system.SysName.{SysName}
use Rattle.orb_base.specs.declared.system.SysName.TheVariants.{Marshal, BadOperation, ObjectNotExist, InvPolicy, Transient, DataConversion, ImpLimit, NoMemory}
use Rattle.orb_base.specs.Outcomes.{bad_operation}
use Rattle.cdr_core.specs.Cursor.{Cursor, cursor, Reads}
use Rattle.cdr_core.specs.Reading.{string_at}
use Rattle.name_map.specs.declared.call.NamesCall.{NamesCall}
use Rattle.name_map.specs.declared.call.NamesCall.TheVariants as call
use Rattle.name_map.proofs.Changing.{by_test}
use Rattle.name_map.proofs.Placing.{if_true, if_false}
use Rattle.name_calls.specs.declared.limits.TheConstants.{BODY_PLACE}
use Rattle.name_calls.specs.declared.meaning.Meaning.{Meaning}
use Rattle.name_calls.specs.declared.meaning.Meaning.TheVariants.{Asks, Tells}
use Rattle.name_calls.specs.declared.operation.Operation.{Operation}
use Rattle.name_calls.specs.declared.operation.Operation.TheVariants.{IsA, NonExistent, Bind, Rebind, Resolve, Unbind, Next, Size}
use Rattle.name_calls.specs.Bodies.{limited, marshal}
use Rattle.name_calls.specs.Meanings.{meant, means, kinship, asks_of, binds}
use Rattle.name_calls.specs.Operations.{operation_named}
use Rattle.name_calls.specs.Parameters.{strings_at, keep_limits}
use Rattle.name_calls.specs.Laws as law

-- a number for each exception that the service answers
number_of : SysName → ℕ
number_of Marshal = 2
number_of BadOperation = 1
number_of ObjectNotExist = 4
number_of InvPolicy = 4
number_of Transient = 4
number_of DataConversion = 4
number_of ImpLimit = 3
number_of NoMemory = 4

abbrev told : Meaning → ℕ
told (Asks ask) = 0
told (Tells (Returned body)) = 0
told (Tells (User body)) = 0
told (Tells (System s)) = number_of s.name

abbrev unread_number : Bool → ℕ
unread_number b = if b then 0 else 2

abbrev long_number : Bool → Bool → ℕ
long_number a b = if a then 3 else unread_number b

-- ---- each kind of meaning

kin_told : (order : Order) (r : Reads (List ℕ)) → told (kinship order r) ≡ unread_number (law.is_read r)
unfolding number_of
kin_told order (Ok x) = refl
kin_told order (Err f) = refl

kin_refused : (order : Order) (r : Reads (List ℕ)) → law.is_read r ≡ false → kinship order r ≡ Tells marshal
kin_refused order (Ok x) e = absurd (true≢false e)
kin_refused order (Err f) e = refl

ask_told : (ask : List ℕ → NamesCall) (r : Reads (List ℕ)) → told (asks_of ask r) ≡ unread_number (law.is_read r)
unfolding number_of
ask_told ask (Ok x) = refl
ask_told ask (Err f) = refl

ask_refused : (ask : List ℕ → NamesCall) (r : Reads (List ℕ)) → law.is_read r ≡ false → asks_of ask r ≡ Tells marshal
ask_refused ask (Ok x) e = absurd (true≢false e)
ask_refused ask (Err f) e = refl

bind_told : (bind : List ℕ → List ℕ → NamesCall) (r : Reads (List ℕ × List ℕ)) → told (binds bind r) ≡ long_number (law.are_long r) (law.is_read r)
unfolding number_of
bind_told bind (Ok x) = by_test (keep_limits x.0.0 x.0.1)
    (λ e. ap told (if_true (keep_limits x.0.0 x.0.1) (Asks (bind x.0.0 x.0.1)) (Tells limited) e) ∙ sym (if_false (not (keep_limits x.0.0 x.0.1)) 3 0 (ap not e)))
    (λ e. ap told (if_false (keep_limits x.0.0 x.0.1) (Asks (bind x.0.0 x.0.1)) (Tells limited) e) ∙ sym (if_true (not (keep_limits x.0.0 x.0.1)) 3 0 (ap not e)))
bind_told bind (Err f) = refl

bind_refused : (bind : List ℕ → List ℕ → NamesCall) (r : Reads (List ℕ × List ℕ)) → law.is_read r ≡ false → binds bind r ≡ Tells marshal
bind_refused bind (Ok x) e = absurd (true≢false e)
bind_refused bind (Err f) e = refl

not_back : (b : Bool) → not b ≡ true → b ≡ false
not_back true e = absurd (true≢false (sym e))
not_back false e = refl

bind_long : (bind : List ℕ → List ℕ → NamesCall) (r : Reads (List ℕ × List ℕ)) → law.are_long r ≡ true → binds bind r ≡ Tells limited
bind_long bind (Ok x) e = if_false (keep_limits x.0.0 x.0.1) (Asks (bind x.0.0 x.0.1)) (Tells limited) (not_back (keep_limits x.0.0 x.0.1) e)
bind_long bind (Err f) e = absurd (true≢false (sym e))

-- ---- by what is said

two_when : (b : Bool) → unread_number b ≡ 2 → b ≡ false
two_when true e = absurd (omega arith)
two_when false e = refl

two_when_long : (a b : Bool) → long_number a b ≡ 2 → b ≡ false
two_when_long true b e = absurd (omega arith)
two_when_long false b e = two_when b e

three_never : (b : Bool) → unread_number b ≡ 3 → ⊥
three_never true e = absurd (omega arith)
three_never false e = absurd (omega arith)

three_when : (a b : Bool) → long_number a b ≡ 3 → a ≡ true
three_when true b e = refl
three_when false b e = absurd (three_never b e)

one_never : (b : Bool) → unread_number b ≡ 1 → ⊥
one_never true e = absurd (omega arith)
one_never false e = absurd (omega arith)

one_never_long : (a b : Bool) → long_number a b ≡ 1 → ⊥
one_never_long true b e = absurd (omega arith)
one_never_long false b e = one_never b e

marshal_told : told (Tells marshal) ≡ 2
unfolding number_of
marshal_told = refl

limited_told : told (Tells limited) ≡ 3
unfolding number_of
limited_told = refl

bad_told : told (Tells bad_operation) ≡ 1
unfolding number_of
bad_told = refl

-- ---- the laws

kin_unread : (order : Order) (r : Reads (List ℕ)) → (kinship order r ≡ Tells marshal) ↔ (law.is_read r ≡ false)
kin_unread order r = (λ e. two_when (law.is_read r) (sym (kin_told order r) ∙ ap told e ∙ marshal_told), kin_refused order r)

ask_unread : (ask : List ℕ → NamesCall) (r : Reads (List ℕ)) → (asks_of ask r ≡ Tells marshal) ↔ (law.is_read r ≡ false)
ask_unread ask r = (λ e. two_when (law.is_read r) (sym (ask_told ask r) ∙ ap told e ∙ marshal_told), ask_refused ask r)

bind_unread : (bind : List ℕ → List ℕ → NamesCall) (r : Reads (List ℕ × List ℕ)) → (binds bind r ≡ Tells marshal) ↔ (law.is_read r ≡ false)
bind_unread bind r = (λ e. two_when_long (law.are_long r) (law.is_read r) (sym (bind_told bind r) ∙ ap told e ∙ marshal_told), bind_refused bind r)

pub unread_refused : law.RefusesUnread
unread_refused order IsA c = kin_unread order (string_at c)
unread_refused order NonExistent c = (λ e. absurd (let a : 0 ≡ 2 = ap told e ∙ marshal_told in omega arith), λ e. absurd (true≢false e))
unread_refused order Bind c = bind_unread (λ key target. call.Bind key target) (strings_at c)
unread_refused order Rebind c = bind_unread (λ key target. call.Rebind key target) (strings_at c)
unread_refused order Resolve c = ask_unread (λ key. call.Resolve key) (string_at c)
unread_refused order Unbind c = ask_unread (λ key. call.Unbind key) (string_at c)
unread_refused order Next c = ask_unread (λ after. call.Next after) (string_at c)
unread_refused order Size c = (λ e. absurd (let a : 0 ≡ 2 = ap told e ∙ marshal_told in omega arith), λ e. absurd (true≢false e))

bind_limited : (bind : List ℕ → List ℕ → NamesCall) (r : Reads (List ℕ × List ℕ)) → (binds bind r ≡ Tells limited) ↔ (law.are_long r ≡ true)
bind_limited bind r = (λ e. three_when (law.are_long r) (law.is_read r) (sym (bind_told bind r) ∙ ap told e ∙ limited_told), bind_long bind r)

ask_limited : (ask : List ℕ → NamesCall) (r : Reads (List ℕ)) → (asks_of ask r ≡ Tells limited) ↔ (false ≡ true)
ask_limited ask r = (λ e. absurd (three_never (law.is_read r) (sym (ask_told ask r) ∙ ap told e ∙ limited_told)), λ e. absurd (true≢false (sym e)))

pub long_refused : law.RefusesLong
long_refused order IsA c = (λ e. absurd (three_never (law.is_read (string_at c)) (sym (kin_told order (string_at c)) ∙ ap told e ∙ limited_told)), λ e. absurd (true≢false (sym e)))
long_refused order NonExistent c = (λ e. absurd (let a : 0 ≡ 3 = ap told e ∙ limited_told in omega arith), λ e. absurd (true≢false (sym e)))
long_refused order Bind c = bind_limited (λ key target. call.Bind key target) (strings_at c)
long_refused order Rebind c = bind_limited (λ key target. call.Rebind key target) (strings_at c)
long_refused order Resolve c = ask_limited (λ key. call.Resolve key) (string_at c)
long_refused order Unbind c = ask_limited (λ key. call.Unbind key) (string_at c)
long_refused order Next c = ask_limited (λ after. call.Next after) (string_at c)
long_refused order Size c = (λ e. absurd (let a : 0 ≡ 3 = ap told e ∙ limited_told in omega arith), λ e. absurd (true≢false (sym e)))

-- no operation that is known is answered BAD_OPERATION
known : (order : Order) (o : Operation) (c : Cursor) → told (means order o c) ≡ 1 → ⊥
known order IsA c e = one_never (law.is_read (string_at c)) (sym (kin_told order (string_at c)) ∙ e)
known order NonExistent c e = absurd (let a : 0 ≡ 1 = e in omega arith)
known order Bind c e = one_never_long (law.are_long (strings_at c)) (law.is_read (strings_at c)) (sym (bind_told (λ key target. call.Bind key target) (strings_at c)) ∙ e)
known order Rebind c e = one_never_long (law.are_long (strings_at c)) (law.is_read (strings_at c)) (sym (bind_told (λ key target. call.Rebind key target) (strings_at c)) ∙ e)
known order Resolve c e = one_never (law.is_read (string_at c)) (sym (ask_told (λ key. call.Resolve key) (string_at c)) ∙ e)
known order Unbind c e = one_never (law.is_read (string_at c)) (sym (ask_told (λ key. call.Unbind key) (string_at c)) ∙ e)
known order Next c e = one_never (law.is_read (string_at c)) (sym (ask_told (λ after. call.Next after) (string_at c)) ∙ e)
known order Size c e = absurd (let a : 0 ≡ 1 = e in omega arith)

unknown : (order : Order) (o : Option Operation) (c : Cursor) → (meant order o c ≡ Tells bad_operation) ↔ (o ≡ None)
unknown order None c = (λ e. refl, λ e. refl)
unknown order (Some o) c = (λ e. absurd (known order o c (ap told e ∙ bad_told)), λ e. absurd (cc))

pub unknown_refused : law.RefusesUnknown
unknown_refused order name body = unknown order (operation_named name) (cursor order BODY_PLACE body)
