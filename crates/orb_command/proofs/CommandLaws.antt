-- The answers of the top call, by what its words mean.
use Rattle.std.proofs.Common.{◌≡◌, ℕ, arith, List, refl, ap, ◌∙◌, subst, sym, inl, inr}
use Rattle.std.specs.Prelude.{false, [], None, Result, Ok, Err}
use Rattle.orb_base.specs.Outside.{SinkState}
use Rattle.orb_base.specs.Room.{Room}
use Rattle.orb_base.specs.declared.no_memory.NoMemory.{NoMemory}
use Rattle.giop_dump.specs.declared.dump_end.DumpEnd.{DumpEnd}
use Rattle.giop_dump.specs.declared.dump_end.DumpEnd.TheVariants as dump
use Rattle.giop_dump.specs.Dump.{Dumps, FaultsOf}
use Rattle.trace_audit.specs.Audit.{AuditsRun, Audits, Comes, Reports as Writes}
use Rattle.trace_audit.specs.declared.audit_end.AuditEnd.{AuditEnd}
use Rattle.trace_audit.specs.declared.audit_end.AuditEnd.TheVariants as audit
use Rattle.trace_audit.specs.declared.audit_end.AuditFault.{AuditFault}
use Rattle.trace_audit.specs.declared.audit_end.AuditFault.TheVariants as fault
use Rattle.trace_audit.specs.declared.verdict.Verdict.{Verdict}
use Rattle.reference_lines.specs.declared.refs_end.RefsEnd.{RefsEnd}
use Rattle.reference_lines.specs.declared.refs_end.RefsEnd.TheVariants as refs
use Rattle.reference_lines.specs.Refs.{Refs, RefsBytes}
use Rattle.giop_dump.proofs.Runs.{dump_wants_first}
use Rattle.reference_lines.proofs.RefsLaws.{wanting as refs_wants}
use Rattle.text_streams.proofs.CallerLemmas.{gave_none, gave_start}
use Rattle.orb_command.specs.declared.answered.Reported.{Reported}
use Rattle.command_words.specs.declared.meaning.Meaning.TheVariants.{Dump, Audit, Refs as RefsMeaning, Unread}
use Rattle.orb_command.specs.declared.note.Note.TheVariants.{Usage, Memory}
use Rattle.orb_command.specs.Moment.{Moment}
use Rattle.orb_command.specs.AuditAnswer.{audit_note}
use Rattle.orb_command.specs.DumpAnswer.{dump_note}
use Rattle.orb_command.specs.RefsAnswer.{refs_note}
use Rattle.orb_command.specs.Command.{status_of, Reports}
use Rattle.orb_command.specs.Faults.{StreamFaults}

-- ---- a dump

dump_faults : (ran : Result DumpEnd NoMemory) (before after : Moment) → FaultsOf ran before.input after.input before.out after.out → StreamFaults (dump_note ran) before after
dump_faults (Ok dump.Done) before after h = h
dump_faults (Ok (dump.Refused r)) before after h = h.1
dump_faults (Ok dump.Spent) before after h = h
dump_faults (Ok dump.ReadFault) before after h = h
dump_faults (Ok dump.WriteFault) before after h = h
dump_faults (Err e) before after h = tt

pub dump_answers : (ran : Result DumpEnd NoMemory) (answered : Reported) (before after : Moment) → after.files ≡ before.files → Dumps ran before.input after.input before.out after.out
    → answered.note ≡ dump_note ran → answered.status ≡ status_of (dump_note ran) → answered.piped ≡ None → Reports Dump answered before after
dump_answers ran answered before after same h note status none = record {
  status = status ∙ ap status_of (sym note);
  means = record { answer = ran; told = note; dumps = h };
  piped = none;
  faults = (same, subst (λ n. StreamFaults n before after) (sym note) (dump_faults ran before after h.faults));
  few = record { bytes = h.bytes; few = h.few; gave = h.gave };
}

-- ---- an audit

-- which counts rose, by what was said of the input
abbrev CountsSo : Result AuditEnd NoMemory → Moment → Moment → Type 0
CountsSo ran before after = StreamFaults (audit_note ran) before after

verdicts_faults : (vs : List Verdict) (ran : Result AuditEnd NoMemory) (before after : Moment) → after.input.faults ≡ before.input.faults
    → Writes ran vs before.out after.out → CountsSo ran before after
verdicts_faults vs (Ok audit.Legal) before after same h = (same, h.2)
verdicts_faults vs (Ok (audit.Wrong w)) before after same h = (same, h.2)
verdicts_faults vs (Ok (audit.NotTrace at)) before after same h = absurd h
verdicts_faults vs (Ok audit.ReadFault) before after same h = absurd h
verdicts_faults vs (Ok audit.Spent) before after same h = absurd h
verdicts_faults vs (Ok audit.WriteFault) before after same h = (same, h.1)
verdicts_faults vs (Err m) before after same h = tt

audit_faults : (said : Result (Room Verdict) AuditFault) (ran : Result AuditEnd NoMemory) (before after : Moment) → Audits said before.input after.input
    → Comes said ran before.out after.out → CountsSo ran before after
audit_faults (Ok vs) ran before after h comes = verdicts_faults vs.items ran before after h.reads comes
audit_faults (Err (fault.NotTrace at)) ran before after h comes =
    subst (λ r. CountsSo r before after) (sym comes.0) (ap (λ (o : SinkState). o.faults) comes.1)
audit_faults (Err fault.ReadFault) ran before after h comes =
    subst (λ r. CountsSo r before after) (sym comes.0) (h.reads, ap (λ (o : SinkState). o.faults) comes.1)
audit_faults (Err fault.Spent) ran before after h comes =
    subst (λ r. CountsSo r before after) (sym comes.0) (h.reads, ap (λ (o : SinkState). o.faults) comes.1)
audit_faults (Err fault.NoMemory) (Err m) before after h comes = tt
audit_faults (Err fault.NoMemory) (Ok e) before after h comes = absurd comes.0

pub audit_answers : (ran : Result AuditEnd NoMemory) (answered : Reported) (before after : Moment) → after.files ≡ before.files → AuditsRun ran before.input after.input before.out after.out
    → answered.note ≡ audit_note ran → answered.status ≡ status_of (audit_note ran) → answered.piped ≡ None → Reports Audit answered before after
audit_answers ran answered before after same h note status none = record {
  status = status ∙ ap status_of (sym note);
  means = record { answer = ran; told = note; audits = h };
  piped = none;
  faults = (same, subst (λ n. StreamFaults n before after) (sym note) (audit_faults h.said ran before after h.audits h.comes));
  few = record { bytes = h.audits.bytes; few = h.audits.few; gave = h.audits.gave };
}

-- ---- a reference

refs_faults : (ran : Result RefsEnd NoMemory) (bytes : List ℕ) (before after : Moment) → RefsBytes ran bytes before.input after.input before.out after.out → StreamFaults (refs_note ran) before after
refs_faults (Ok refs.Done) bytes before after h = (h.1, h.3.1)
refs_faults (Ok (refs.Refused f)) bytes before after h = (h.1, ap (λ (o : SinkState). o.faults) h.3.2)
refs_faults (Ok refs.TooLong) bytes before after h = ap (λ (o : SinkState). o.faults) h.1
refs_faults (Ok refs.ReadFault) bytes before after h = (h.2, ap (λ (o : SinkState). o.faults) h.3)
refs_faults (Ok refs.WriteFault) bytes before after h = (h.1, h.3.1)
refs_faults (Err e) bytes before after h = tt

pub refs_answers : (ran : Result RefsEnd NoMemory) (answered : Reported) (before after : Moment) → after.files ≡ before.files → Refs ran before.input after.input before.out after.out
    → answered.note ≡ refs_note ran → answered.status ≡ status_of (refs_note ran) → answered.piped ≡ None → Reports RefsMeaning answered before after
refs_answers ran answered before after same h note status none = record {
  status = status ∙ ap status_of (sym note);
  means = record { answer = ran; told = note; refs = h };
  piped = none;
  faults = (same, subst (λ n. StreamFaults n before after) (sym note) (refs_faults ran h.bytes before after h.came));
  few = record { bytes = h.bytes; few = h.few; gave = h.gave };
}

-- ---- no command

pub unread_answers : (answered : Reported) (before : Moment) → answered.note ≡ Usage → answered.status ≡ 1 → answered.piped ≡ None → Reports Unread answered before before
unread_answers answered before note status none = record {
  status = status ∙ ap status_of (sym note);
  means = (inl note, refl);
  piped = none;
  faults = (refl, subst (λ n. StreamFaults n before before) (sym note) (refl, refl));
  few = gave_none 0 before.input;
}

-- ---- where memory runs out over the words, nothing was done

abbrev no_dump : Result DumpEnd NoMemory
no_dump = Err (record {})

abbrev no_refs : Result RefsEnd NoMemory
no_refs = Err (record {})

pub dump_wanting : (answered : Reported) (before : Moment) → answered.note ≡ Memory → answered.status ≡ 12 → answered.piped ≡ None → Reports Dump answered before before
dump_wanting answered before note status none =
    dump_answers no_dump answered before before refl (dump_wants_first no_dump before.input before.out refl) note status none

pub audit_wanting : (answered : Reported) (before : Moment) → answered.note ≡ Memory → answered.status ≡ 12 → answered.piped ≡ None → Reports Audit answered before before
audit_wanting answered before note status none =
    audit_answers (Err (record {})) answered before before refl
    (record {
      said = Err fault.NoMemory;
      audits = record { bytes = []; ended = false; gave = gave_start before.input; few = omega arith; met = refl; reads = λ e. refl; says = tt };
      comes = (tt, refl);
    })
    note status none

pub refs_wanting : (answered : Reported) (before : Moment) → answered.note ≡ Memory → answered.status ≡ 12 → answered.piped ≡ None → Reports RefsMeaning answered before before
refs_wanting answered before note status none =
    refs_answers no_refs answered before before refl (refs_wants (record {}) before.input before.input before.out (gave_none 65538 before.input) refl) note status none

pub unread_wanting : (answered : Reported) (before : Moment) → answered.note ≡ Memory → answered.status ≡ 12 → answered.piped ≡ None → Reports Unread answered before before
unread_wanting answered before note status none = record {
  status = status ∙ ap status_of (sym note);
  means = (inr note, refl);
  piped = none;
  faults = (refl, subst (λ n. StreamFaults n before before) (sym note) tt);
  few = gave_none 0 before.input;
}
