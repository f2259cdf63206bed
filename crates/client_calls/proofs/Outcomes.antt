-- What calls come to, case by case.
use Rattle.std.proofs.Common.{◌≡◌, ◌⊎◌, Bool, true, false, Ok, Err, refl, ◌∙◌, inl, inr, arith}
use Rattle.std.specs.Prelude.{◌==◌, if◌then◌else◌}
use Rattle.orb_base.specs.Outside.{SourceState, SinkState}
use Rattle.banded_links.specs.declared.bind_client.TheConstants.{NO_EXCEPTION}
use Rattle.cdr_core.specs.Cursor.{Cursor, cursor, Reads}
use Rattle.cdr_core.specs.Reading.{string_at}
use Rattle.heard_messages.specs.declared.read_end.ReadEnd.{ReadEnd}
use Rattle.heard_messages.specs.declared.read_end.ReadEnd.TheVariants as ends
use Rattle.idl_types.specs.Things.{OperationView}
use Rattle.value_json.specs.Operations.{kinds_out}
use Rattle.client_lines.specs.Answer.{Answer}
use Rattle.client_lines.specs.Lines.{CountsFault}
use Rattle.client_calls.specs.Calls.{IfWhole, IfBrokenOff, CountsReads, CountsWrites}
use Rattle.client_calls.specs.Exchanges.{came_by}
use Rattle.client_calls.specs.Replies.{Outcome, values_at, system_at, giving, telling_user, telling_system, or_bad, meaning_of, Means}
use Rattle.client_calls.specs.declared.call_fault.CallFault.TheVariants.{Forward, ReadFault, WriteFault, NoMemory}
use Rattle.client_calls.specs.declared.meaning.TheConstants.{USER_EXCEPTION, SYSTEM_EXCEPTION}

-- no device failed, and memory was there
abbrev pub IsPlain : Outcome → Type 0
IsPlain (Err ReadFault) = ⊥
IsPlain (Err WriteFault) = ⊥
IsPlain (Err NoMemory) = ⊥
IsPlain _ = Unit {0}

plain_cond : (b : Bool) (x y : Outcome) → IsPlain x → IsPlain y → IsPlain (if b then x else y)
plain_cond true x y p q = p
plain_cond false x y p q = q

plain_read : {A : Type 0} (made : A → Outcome) (r : Reads A) → ((x : A) → IsPlain (made x)) → IsPlain (or_bad made r)
plain_read made (Ok x) h = h x.0
plain_read made (Err f) h = tt

pub plain : (operation : OperationView) (a : Answer) → IsPlain (meaning_of operation a)
plain operation a =
    let body : Cursor = cursor a.order 0 a.body in
    let elsewhere : Outcome = Err (Forward a.status) in
    let system : Outcome = or_bad telling_system (system_at body) in
    let user : Outcome = or_bad telling_user (string_at body) in
    let values : Outcome = or_bad giving (values_at (kinds_out operation) body) in
    plain_cond (a.status == NO_EXCEPTION) values (if a.status == USER_EXCEPTION then user else if a.status == SYSTEM_EXCEPTION then system else elsewhere)
    (plain_read giving (values_at (kinds_out operation) body) (λ x. tt))
    (plain_cond (a.status == USER_EXCEPTION) user (if a.status == SYSTEM_EXCEPTION then system else elsewhere) (plain_read telling_user (string_at body) (λ x. tt))
    (plain_cond (a.status == SYSTEM_EXCEPTION) system elsewhere (plain_read telling_system (system_at body) (λ x. tt)) tt))

-- ---- out of memory, or what is meant

pub memory_or : (outcome meaning : Outcome) → Means outcome meaning → (outcome ≡ Err NoMemory) ⊎ (outcome ≡ meaning)
unfolding Means
memory_or (Err NoMemory) meaning h = inl refl
memory_or _ meaning h = inr h

-- ---- a fact of a call that was broken off, or of another one

pub whole_of : (outcome : Outcome) (P : Type 0) → P → IfWhole outcome P
whole_of (Err WriteFault) P p = tt
whole_of (Err NoMemory) P p = tt
whole_of _ P p = p

pub whole_map : (outcome : Outcome) (P Q : Type 0) → (P → Q) → IfWhole outcome P → IfWhole outcome Q
whole_map (Err WriteFault) P Q f h = tt
whole_map (Err NoMemory) P Q f h = tt
whole_map _ P Q f h = f h

pub broken_map : (outcome : Outcome) (P Q : Type 0) → (P → Q) → IfBrokenOff outcome P → IfBrokenOff outcome Q
broken_map (Err WriteFault) P Q f h = f h
broken_map (Err NoMemory) P Q f h = f h
broken_map _ P Q f h = tt

pub plain_unbroken : (outcome : Outcome) (P : Type 0) → IsPlain outcome → IfBrokenOff outcome P
plain_unbroken (Err WriteFault) P h = absurd h
plain_unbroken (Err NoMemory) P h = absurd h
plain_unbroken _ P h = tt

pub plain_reads : (outcome : Outcome) (s s' : SourceState) → IsPlain outcome → s'.faults ≡ s.faults → CountsReads outcome s s'
plain_reads (Err ReadFault) s s' h e = absurd h
plain_reads _ s s' h e = e

pub plain_writes : (outcome : Outcome) (o o' : SinkState) → IsPlain outcome → o'.faults ≡ o.faults → CountsWrites outcome o o'
plain_writes (Err WriteFault) o o' h e = absurd h
plain_writes _ o o' h e = e

-- ---- without the reply

pub came_unbroken : (end : ReadEnd) (P : Type 0) → IfBrokenOff (Err (came_by end)) P
came_unbroken ends.Ended P = tt
came_unbroken (ends.Cut offset) P = tt
came_unbroken (ends.Broken offset fault) P = tt
came_unbroken ends.Spent P = tt
came_unbroken ends.ReadFault P = tt

pub came_reads : (end : ReadEnd) (s s' : SourceState) → CountsFault end s s' → CountsReads (Err (came_by end)) s s'
came_reads ends.Ended s s' h = h
came_reads (ends.Cut offset) s s' h = h
came_reads (ends.Broken offset fault) s s' h = h
came_reads ends.Spent s s' h = h
came_reads ends.ReadFault s s' h = h

pub came_writes : (end : ReadEnd) (o o' : SinkState) → o'.faults ≡ o.faults → CountsWrites (Err (came_by end)) o o'
came_writes ends.Ended o o' h = h
came_writes (ends.Cut offset) o o' h = h
came_writes (ends.Broken offset fault) o o' h = h
came_writes ends.Spent o o' h = h
came_writes ends.ReadFault o o' h = h

-- ---- counts of an earlier moment

pub reads_after : (outcome : Outcome) (s s' s'' : SourceState) → s'.faults ≡ s.faults → CountsReads outcome s' s'' → CountsReads outcome s s''
reads_after (Err ReadFault) s s' s'' same h = omega (arith, same, h)
reads_after _ s s' s'' same h = h ∙ same

pub writes_after : (outcome : Outcome) (o o' o'' : SinkState) → o'.faults ≡ o.faults → CountsWrites outcome o' o'' → CountsWrites outcome o o''
writes_after (Err WriteFault) o o' o'' same h = omega (arith, same, h)
writes_after _ o o' o'' same h = h ∙ same
