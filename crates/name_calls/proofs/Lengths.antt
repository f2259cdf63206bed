-- Texts that keep the limits stay short in the map, and are answered whole.
use Rattle.std.proofs.Common.{◌≡◌, ℕ, ◌≤◌, nat_le, nat_lt, ◌&&◌, Bool, true, List, [], ◌∷◌, length, bytes_eq, Ok, Err, Option, Some, None, if◌then◌else◌, sym, subst, arith, leb-true, le-leb}
use Rattle.std.proofs.lemmas.Bool.{and_parts}
use Rattle.orb_base.specs.declared.order.Order.{Order}
use Rattle.orb_base.specs.declared.outcome.Outcome.TheVariants.{Returned}
use Rattle.cdr_core.specs.Cursor.{Cursor, cursor, Reads}
use Rattle.cdr_core.specs.Field.{string_fields}
use Rattle.cdr_core.specs.Reading.{string_at}
use Rattle.turn_cell.specs.History.{Legal}
use Rattle.turn_cell.specs.Numbers.{Each}
use Rattle.name_map.specs.declared.binding.Binding.{Binding}
use Rattle.name_map.specs.declared.call.NamesCall.{NamesCall}
use Rattle.name_map.specs.declared.call.NamesCall.TheVariants as call
use Rattle.name_map.specs.declared.call.NamesReply.{NamesReply}
use Rattle.name_map.specs.declared.call.NamesReply.TheVariants.{Stored, AlreadyBound, NoRoom, NotFound}
use Rattle.name_map.specs.declared.limits.TheConstants.{MAX_KEYS}
use Rattle.name_map.specs.Bindings.{find, has, put, out, above}
use Rattle.name_map.specs.Callers.{History}
use Rattle.name_map.specs.Keys.{is_below}
use Rattle.name_map.specs.Machine.{added, step, target_reply, key_reply}
use Rattle.name_map.proofs.Changing.{by_test}
use Rattle.name_map.proofs.Keeping.{each_put, each_out}
use Rattle.name_map.proofs.Placing.{if_true, if_false}
use Rattle.name_calls.specs.declared.limits.TheConstants.{BODY_PLACE, MAX_KEY, MAX_TARGET, MAX_ANSWERED}
use Rattle.name_calls.specs.declared.meaning.Meaning.{Meaning}
use Rattle.name_calls.specs.declared.meaning.Meaning.TheVariants.{Asks, Tells}
use Rattle.name_calls.specs.declared.operation.Operation.{Operation}
use Rattle.name_calls.specs.declared.operation.Operation.TheVariants.{IsA, NonExistent, Bind, Rebind, Resolve, Unbind, Next, Size}
use Rattle.name_calls.specs.Bodies.{body, limited}
use Rattle.name_calls.specs.Meanings.{meant, means, kinship, asks_of, binds}
use Rattle.name_calls.specs.Operations.{operation_named}
use Rattle.name_calls.specs.Parameters.{strings_at, keep_limits}
use Rattle.name_calls.specs.Laws as law

-- ---- what reaches the map

abbrev Within : Meaning → Type 0
Within (Asks ask) = law.KeepsLimits ask
Within (Tells outcome) = Unit {0}

kin_within : (order : Order) (r : Reads (List ℕ)) → Within (kinship order r)
kin_within order (Ok x) = tt
kin_within order (Err f) = tt

ask_within : (ask : List ℕ → NamesCall) → ((t : List ℕ) → law.KeepsLimits (ask t)) → (r : Reads (List ℕ)) → Within (asks_of ask r)
ask_within ask k (Ok x) = k x.0
ask_within ask k (Err f) = tt

bind_within : (bind : List ℕ → List ℕ → NamesCall) → ((key target : List ℕ) → keep_limits key target ≡ true → law.KeepsLimits (bind key target)) → (r : Reads (List ℕ × List ℕ)) → Within (binds bind r)
bind_within bind k (Ok x) = by_test (keep_limits x.0.0 x.0.1)
    (λ e. subst Within (sym (if_true (keep_limits x.0.0 x.0.1) (Asks (bind x.0.0 x.0.1)) (Tells limited) e)) (k x.0.0 x.0.1 e))
    (λ e. subst Within (sym (if_false (keep_limits x.0.0 x.0.1) (Asks (bind x.0.0 x.0.1)) (Tells limited) e)) tt)
bind_within bind k (Err f) = tt

means_within : (order : Order) (o : Operation) (c : Cursor) → Within (means order o c)
means_within order IsA c = kin_within order (string_at c)
means_within order NonExistent c = tt
means_within order Bind c = bind_within (λ key target. call.Bind key target) (λ key target e. e) (strings_at c)
means_within order Rebind c = bind_within (λ key target. call.Rebind key target) (λ key target e. e) (strings_at c)
means_within order Resolve c = ask_within (λ key. call.Resolve key) (λ t. tt) (string_at c)
means_within order Unbind c = ask_within (λ key. call.Unbind key) (λ t. tt) (string_at c)
means_within order Next c = ask_within (λ after. call.Next after) (λ t. tt) (string_at c)
means_within order Size c = tt

meant_within : (order : Order) (o : Option Operation) (c : Cursor) → Within (meant order o c)
meant_within order None c = tt
meant_within order (Some o) c = means_within order o c

pub asks_within : law.AsksWithinLimits
asks_within order name body ask e = subst Within e (meant_within order (operation_named name) (cursor order BODY_PLACE body))

-- ---- what the map replies

abbrev IsShort : Binding → Type 0
IsShort b = (length b.key ≤ MAX_KEY) × (length b.target ≤ MAX_TARGET)

new_short : (key target : List ℕ) → keep_limits key target ≡ true → (length key ≤ MAX_KEY) × (length target ≤ MAX_TARGET)
new_short key target e = let p = and_parts (nat_le 1 (length key)) (nat_le (length key) MAX_KEY && nat_le (length target) MAX_TARGET) e in
    let q = and_parts (nat_le (length key) MAX_KEY) (nat_le (length target) MAX_TARGET) p.1 in
    (leb-true (length key) MAX_KEY q.0, leb-true (length target) MAX_TARGET q.1)

added_short : (key target : List ℕ) (bs : List Binding) → keep_limits key target ≡ true → Each IsShort bs → Each IsShort (added key target bs).0
added_short key target bs k h = by_test (nat_lt (length bs) MAX_KEYS)
    (λ l. subst (λ (b : Bool). let x : List Binding × NamesReply = if b then (put key target bs, Stored) else (bs, NoRoom) in Each IsShort x.0) (sym l) (each_put IsShort key target bs (new_short key target k) h))
    (λ l. subst (λ (b : Bool). let x : List Binding × NamesReply = if b then (put key target bs, Stored) else (bs, NoRoom) in Each IsShort x.0) (sym l) h)

step_short : (bs : List Binding) (ask : NamesCall) → law.KeepsLimits ask → Each IsShort bs → Each IsShort (step bs ask).0
step_short bs (call.Bind key target) k h = by_test (has key bs)
    (λ t. subst (λ (b : Bool). let x : List Binding × NamesReply = if b then (bs, AlreadyBound) else added key target bs in Each IsShort x.0) (sym t) h)
    (λ t. subst (λ (b : Bool). let x : List Binding × NamesReply = if b then (bs, AlreadyBound) else added key target bs in Each IsShort x.0) (sym t) (added_short key target bs k h))
step_short bs (call.Rebind key target) k h = by_test (has key bs)
    (λ t. subst (λ (b : Bool). let x : List Binding × NamesReply = if b then (put key target bs, Stored) else added key target bs in Each IsShort x.0) (sym t) (each_put IsShort key target bs (new_short key target k) h))
    (λ t. subst (λ (b : Bool). let x : List Binding × NamesReply = if b then (put key target bs, Stored) else added key target bs in Each IsShort x.0) (sym t) (added_short key target bs k h))
step_short bs (call.Resolve key) k h = h
step_short bs (call.Unbind key) k h = by_test (has key bs)
    (λ t. subst (λ (b : Bool). let x : List Binding × NamesReply = if b then (out key bs, Stored) else (bs, NotFound) in Each IsShort x.0) (sym t) (each_out IsShort key bs h))
    (λ t. subst (λ (b : Bool). let x : List Binding × NamesReply = if b then (out key bs, Stored) else (bs, NotFound) in Each IsShort x.0) (sym t) h)
step_short bs (call.Next after) k h = h
step_short bs call.Size k h = h

found_short : (key : List ℕ) (bs : List Binding) → Each IsShort bs → law.IsShortReply (target_reply (find key bs))
found_short key [] h = tt
found_short key (b ∷ bs) h = by_test (bytes_eq b.key key)
    (λ e. subst (λ (o : Option (List ℕ)). law.IsShortReply (target_reply o)) (sym (if_true (bytes_eq b.key key) (Some b.target) (find key bs) e)) h.0.1)
    (λ e. subst (λ (o : Option (List ℕ)). law.IsShortReply (target_reply o)) (sym (if_false (bytes_eq b.key key) (Some b.target) (find key bs) e)) (found_short key bs h.1))

above_short : (text : List ℕ) (bs : List Binding) → Each IsShort bs → law.IsShortReply (key_reply (above text bs))
above_short text [] h = tt
above_short text (b ∷ bs) h = by_test (is_below text b.key)
    (λ e. subst (λ (o : Option (List ℕ)). law.IsShortReply (key_reply o)) (sym (if_true (is_below text b.key) (Some b.key) (above text bs) e)) h.0.0)
    (λ e. subst (λ (o : Option (List ℕ)). law.IsShortReply (key_reply o)) (sym (if_false (is_below text b.key) (Some b.key) (above text bs) e)) (above_short text bs h.1))

added_reply : (key target : List ℕ) (bs : List Binding) → law.IsShortReply (added key target bs).1
added_reply key target bs = by_test (nat_lt (length bs) MAX_KEYS)
    (λ l. subst (λ (b : Bool). let x : List Binding × NamesReply = if b then (put key target bs, Stored) else (bs, NoRoom) in law.IsShortReply x.1) (sym l) tt)
    (λ l. subst (λ (b : Bool). let x : List Binding × NamesReply = if b then (put key target bs, Stored) else (bs, NoRoom) in law.IsShortReply x.1) (sym l) tt)

reply_short : (bs : List Binding) (ask : NamesCall) → Each IsShort bs → law.IsShortReply (step bs ask).1
reply_short bs (call.Bind key target) h = by_test (has key bs)
    (λ t. subst (λ (b : Bool). let x : List Binding × NamesReply = if b then (bs, AlreadyBound) else added key target bs in law.IsShortReply x.1) (sym t) tt)
    (λ t. subst (λ (b : Bool). let x : List Binding × NamesReply = if b then (bs, AlreadyBound) else added key target bs in law.IsShortReply x.1) (sym t) (added_reply key target bs))
reply_short bs (call.Rebind key target) h = by_test (has key bs)
    (λ t. subst (λ (b : Bool). let x : List Binding × NamesReply = if b then (put key target bs, Stored) else added key target bs in law.IsShortReply x.1) (sym t) tt)
    (λ t. subst (λ (b : Bool). let x : List Binding × NamesReply = if b then (put key target bs, Stored) else added key target bs in law.IsShortReply x.1) (sym t) (added_reply key target bs))
reply_short bs (call.Resolve key) h = found_short key bs h
reply_short bs (call.Unbind key) h = by_test (has key bs)
    (λ t. subst (λ (b : Bool). let x : List Binding × NamesReply = if b then (out key bs, Stored) else (bs, NotFound) in law.IsShortReply x.1) (sym t) tt)
    (λ t. subst (λ (b : Bool). let x : List Binding × NamesReply = if b then (out key bs, Stored) else (bs, NotFound) in law.IsShortReply x.1) (sym t) tt)
reply_short bs (call.Next after) h = above_short after bs h
reply_short bs call.Size h = tt

all_short : (bs : List Binding) (h : History) → Each IsShort bs → Each (λ e. law.KeepsLimits e.call) h → Legal (λ _ _. true) (λ _ _. Unit {0}) step bs h → Each (λ e. law.IsShortReply e.reply) h
all_short bs [] s k l = tt
all_short bs (e ∷ es) s k l = (subst law.IsShortReply (sym l.2) (reply_short bs e.call s), all_short (step bs e.call).0 es (step_short bs e.call k.0 s) k.1 l.3)

pub replies_short : law.RepliesAreShort
replies_short h k l = all_short [] h tt k l

pub short_answered : law.ShortTextsAreAnswered
short_answered order t le = if_true (nat_le (length t) MAX_ANSWERED) (Returned (body order (string_fields t))) limited (le-leb (length t) MAX_ANSWERED (omega arith))
