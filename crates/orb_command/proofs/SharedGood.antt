-- Why a call of several callers fails by a read or a write of its link.
use Rattle.std.proofs.Common.{◌≡◌, ◌⊎◌, ℕ, Bool, true, false, List, [], ◌∷◌, Some, inl, inr, refl, sym, ap, subst, ◌∙◌, if◌then◌else◌}
use Rattle.std.specs.Prelude.{◌==◌, ◌+◌, Ok, Err}
use Rattle.orb_base.specs.Outside.{SourceState, SinkState, Rose}
use Rattle.banded_links.specs.declared.bind_client.TheConstants.{NO_EXCEPTION}
use Rattle.cdr_core.specs.Cursor.{cursor, Reads}
use Rattle.cdr_core.specs.Reading.{string_at}
use Rattle.idl_types.specs.Things.{OperationView}
use Rattle.value_json.specs.Operations.{kinds_out}
use Rattle.client_lines.specs.Answer.{Answer}
use Rattle.client_lines.specs.Awaiting.{answer_of}
use Rattle.client_calls.specs.Replies.{Outcome, or_bad, giving, telling_user, telling_system, values_at, system_at, meaning_of}
use Rattle.client_calls.specs.declared.call_fault.CallFault.{CallFault}
use Rattle.client_calls.specs.declared.call_fault.CallFault.TheVariants as fault
use Rattle.client_calls.specs.declared.meaning.TheConstants.{USER_EXCEPTION, SYSTEM_EXCEPTION}
use Rattle.client_mux.specs.declared.why.Why.{Why}
use Rattle.client_mux.specs.declared.why.Why.TheVariants as why
use Rattle.client_mux.specs.Machine.{History}
use Rattle.client_mux.specs.Exchange.{first_loss}
use Rattle.mux_sides.specs.Replying.{FaultsBy, CarryBy}
use Rattle.mux_sides.specs.Sending.{WritesBy, texts_of}
use Rattle.mux_sides.specs.declared.calling.CallEnd.{CallEnd}
use Rattle.mux_sides.specs.declared.calling.CallEnd.TheVariants as came
use Rattle.mux_sides.specs.declared.writing.WriterEnd.{WriterEnd}
use Rattle.mux_sides.specs.declared.writing.WriterEnd.TheVariants as write
use Rattle.mux_runs.specs.Runs.{AreOwn, IsLawful, SentIn, HeardIn, LosesFor}
use Rattle.mux_runs.proofs.LossCauses.{loss_caused}
use Rattle.shared_calls.specs.Lines.{first_fault}
use Rattle.shared_calls.specs.Results.{fault_of, results_of}

-- ---- what a reply means is no fault of the link

either_not : (f : CallFault) (b : Bool) (x y : Outcome) → ¬ (x ≡ Err f) → ¬ (y ≡ Err f) → ¬ ((if b then x else y) ≡ Err f)
either_not f true x y at_true at_false = at_true
either_not f false x y at_true at_false = at_false

bad_not : {A : Type 0} (f : CallFault) (made : A → Outcome) (r : Reads A) → ((x : A) → ¬ (made x ≡ Err f)) → ¬ (◌≡◌ {A = Outcome} (Err fault.BadBody) (Err f))
    → ¬ (or_bad made r ≡ Err f)
bad_not f made (Ok x) each bad = each x.0
bad_not f made (Err e) each bad = bad

reply_reads : (operation : OperationView) (a : Answer) → ¬ (meaning_of operation a ≡ Err fault.ReadFault)
reply_reads operation a =
    let f : CallFault = fault.ReadFault in
    either_not f (a.status == NO_EXCEPTION) _ _ (bad_not f giving (values_at (kinds_out operation) (cursor a.order 0 a.body)) (λ x. λ h. cc) (λ h. cc))
    (either_not f (a.status == USER_EXCEPTION) _ _ (bad_not f telling_user (string_at (cursor a.order 0 a.body)) (λ x. λ h. cc) (λ h. cc))
    (either_not f (a.status == SYSTEM_EXCEPTION) _ _ (bad_not f telling_system (system_at (cursor a.order 0 a.body)) (λ x. λ h. cc) (λ h. cc)) (λ h. cc)))

reply_writes : (operation : OperationView) (a : Answer) → ¬ (meaning_of operation a ≡ Err fault.WriteFault)
reply_writes operation a =
    let f : CallFault = fault.WriteFault in
    either_not f (a.status == NO_EXCEPTION) _ _ (bad_not f giving (values_at (kinds_out operation) (cursor a.order 0 a.body)) (λ x. λ h. cc) (λ h. cc))
    (either_not f (a.status == USER_EXCEPTION) _ _ (bad_not f telling_user (string_at (cursor a.order 0 a.body)) (λ x. λ h. cc) (λ h. cc))
    (either_not f (a.status == SYSTEM_EXCEPTION) _ _ (bad_not f telling_system (system_at (cursor a.order 0 a.body)) (λ x. λ h. cc) (λ h. cc)) (λ h. cc)))

-- ---- the first fault of the callers

first_of : (o : Outcome) (more : List Outcome) (f : CallFault) → first_fault (o ∷ more) ≡ Some f → (o ≡ Err f) ⊎ (first_fault more ≡ Some f)
first_of (Ok values) more f e = inr e
first_of (Err g) more f e = let same : g ≡ f = cc in inl (ap Err same)

-- it is what a reply means, or why the link was lost first
fault_known : (h : History) (n : ℕ) (operation : OperationView) (ends : List CallEnd) (f : CallFault) → AreOwn h n ends → first_fault (results_of operation ends) ≡ Some f
    → ((a : Answer) × (meaning_of operation a ≡ Err f)) ⊎ ((w : Why) × (first_loss h ≡ Some w) × (f ≡ fault_of w))
fault_known h n operation [] f own e = absurd (cc)
fault_known h n operation (came.Reply r ∷ ends) f own e =
    elim (first_of (meaning_of operation (answer_of r.order r.reply)) (results_of operation ends) f e) [
      | inl is ↦ inl (answer_of r.order r.reply, is)
      | inr later ↦ fault_known h (n + 1) operation ends f own.1 later
    ]
fault_known h n operation (came.Gone w ∷ ends) f own e = let same : f ≡ fault_of w = cc in inr (w, own.0, same)
fault_known h n operation (came.NoneDue ∷ ends) f own e = fault_known h (n + 1) operation ends f own.1 e

read_lost : (w : Why) → fault.ReadFault ≡ fault_of w → w ≡ why.ReadFault
read_lost why.Closed e = absurd (cc)
read_lost (why.Refused offset cause) e = absurd (cc)
read_lost why.Limit e = absurd (cc)
read_lost why.ReadFault e = refl
read_lost why.WriteFault e = absurd (cc)
read_lost why.NoMemory e = absurd (cc)

write_lost : (w : Why) → fault.WriteFault ≡ fault_of w → w ≡ why.WriteFault
write_lost why.Closed e = absurd (cc)
write_lost (why.Refused offset cause) e = absurd (cc)
write_lost why.Limit e = absurd (cc)
write_lost why.ReadFault e = absurd (cc)
write_lost why.WriteFault e = refl
write_lost why.NoMemory e = absurd (cc)

-- ---- by the writer and the reader

never_read : (end : WriterEnd) (w : Why) → LosesFor end w → w ≡ why.ReadFault → ⊥
never_read write.Finished w h e = h
never_read write.WriteFault w h e = let no : why.WriteFault ≡ why.ReadFault = sym h ∙ e in absurd (cc)
never_read write.NoMemory w h e = let no : why.NoMemory ≡ why.ReadFault = sym h ∙ e in absurd (cc)

rose_write : (end : WriterEnd) (w : Why) (bytes : List ℕ) (out out' : SinkState) → LosesFor end w → w ≡ why.WriteFault → WritesBy end bytes out out' → Rose out.faults out'.faults
rose_write write.Finished w bytes out out' h e writes = absurd h
rose_write write.WriteFault w bytes out out' h e writes = writes.1
rose_write write.NoMemory w bytes out out' h e writes = let no : why.NoMemory ≡ why.WriteFault = sym h ∙ e in absurd (cc)

-- where the first that failed did by a failed read, the source's count of faults rose
pub read_rose : (callers : ℕ) (h : History) (end : WriterEnd) (read : Why) (from to : SourceState) (out out' : SinkState) (operation : OperationView) (ends : List CallEnd)
    → IsLawful callers h → SentIn h (callers + 1) end out out' → HeardIn h (callers + 2) read from to → AreOwn h 1 ends
    → first_fault (results_of operation ends) ≡ Some fault.ReadFault → Rose from.faults to.faults
read_rose callers h end read from to out out' operation ends lawful sent heard own e =
    elim (fault_known h 1 operation ends fault.ReadFault own e) [
      | inl reply ↦ absurd (reply_reads operation reply.0 reply.1)
      | inr lost ↦
          let is : lost.0 ≡ why.ReadFault = read_lost lost.0 lost.2 in
          elim (loss_caused callers h end read lost.0 from to out out' lawful sent heard lost.1) [
            | inl same ↦ subst (λ (w : Why). FaultsBy w from to) (sym same ∙ is) heard.hears.faults
            | inr other ↦ absurd (never_read end lost.0 other is)
          ]
    ]

-- where it did by a failed write, the sink's count rose
pub write_rose : (callers : ℕ) (h : History) (end : WriterEnd) (read : Why) (from to : SourceState) (out out' : SinkState) (operation : OperationView) (ends : List CallEnd)
    → IsLawful callers h → SentIn h (callers + 1) end out out' → HeardIn h (callers + 2) read from to → AreOwn h 1 ends
    → first_fault (results_of operation ends) ≡ Some fault.WriteFault → Rose out.faults out'.faults
write_rose callers h end read from to out out' operation ends lawful sent heard own e =
    elim (fault_known h 1 operation ends fault.WriteFault own e) [
      | inl reply ↦ absurd (reply_writes operation reply.0 reply.1)
      | inr lost ↦
          let is : lost.0 ≡ why.WriteFault = write_lost lost.0 lost.2 in
          elim (loss_caused callers h end read lost.0 from to out out' lawful sent heard lost.1) [
            | inl same ↦
                let x = heard.hears in
                absurd (subst (λ (w : Why). CarryBy w x.earlier x.bytes x.ended heard.replies) (sym same ∙ is) x.carry)
            | inr other ↦ rose_write end lost.0 (texts_of sent.taken) out out' other is sent.writes
          ]
    ]
