-- When the status is that of usage.
use Rattle.std.proofs.Common.{◌≡◌, ◌∙◌, ◌==◌, ℕ, false, true≢false, List, Option, Some, None, refl, sym, ap, subst, eq-eqb}
use Rattle.std.specs.Prelude.{Result, Ok, Err}
use Rattle.orb_base.specs.declared.no_memory.NoMemory.{NoMemory}
use Rattle.giop_dump.specs.declared.dump_end.DumpEnd.{DumpEnd}
use Rattle.giop_dump.specs.declared.dump_end.DumpEnd.TheVariants as dump
use Rattle.trace_audit.specs.declared.audit_end.AuditEnd.{AuditEnd}
use Rattle.trace_audit.specs.declared.audit_end.AuditEnd.TheVariants as audit
use Rattle.reference_lines.specs.declared.refs_end.RefsEnd.{RefsEnd}
use Rattle.reference_lines.specs.declared.refs_end.RefsEnd.TheVariants as refs
use Rattle.command_words.specs.declared.meaning.Meaning.{Meaning}
use Rattle.command_words.specs.declared.meaning.Meaning.TheVariants.{Pipe, Serve, Names, Dump, Audit, Refs as RefsMeaning, RefsAt, Idl, Call, SharedCall, Load, Unread}
use Rattle.orb_command.specs.declared.answered.Reported.{Reported}
use Rattle.orb_command.specs.declared.note.Note.{Note}
use Rattle.orb_command.specs.declared.note.Note.TheVariants.{Nothing, Usage, Config, Idl as IdlNote, Script, Check, TooLong, ReadFault}
use Rattle.orb_command.specs.declared.note.Note.TheVariants.{WriteFault, NetFault, Input, Absent, Reference, Local, System, User, Forward, Peer, PeerBody, Closed, Memory, Limit, Trace, Audit as AuditNote}
use Rattle.orb_command.specs.Command.{status_of, Reports}
use Rattle.orb_command.specs.AuditAnswer.{audit_note}
use Rattle.orb_command.specs.DumpAnswer.{dump_note}
use Rattle.orb_command.specs.Faults.{FaultsAt, PipeFaults}
use Rattle.orb_command.specs.Moment.{Moment}
use Rattle.orb_command.specs.RefsAnswer.{refs_note}

-- a number that isn't 1
pub is_no_one : (n : ℕ) → (n == 1) ≡ false → n ≡ 1 → ⊥
is_no_one n other e = true≢false (sym (eq-eqb n 1 e) ∙ other)

-- no other note has the status 1
usage_note : (note : Note) → status_of note ≡ 1 → note ≡ Usage
usage_note Usage e = refl
usage_note Nothing e = absurd (is_no_one 0 refl e)
usage_note (Config f) e = absurd (is_no_one 2 refl e)
usage_note (IdlNote f) e = absurd (is_no_one 2 refl e)
usage_note (Script f) e = absurd (is_no_one 2 refl e)
usage_note (Check f) e = absurd (is_no_one 2 refl e)
usage_note (TooLong role) e = absurd (is_no_one 2 refl e)
usage_note ReadFault e = absurd (is_no_one 3 refl e)
usage_note WriteFault e = absurd (is_no_one 4 refl e)
usage_note NetFault e = absurd (is_no_one 5 refl e)
usage_note (Input offset f) e = absurd (is_no_one 8 refl e)
usage_note (Reference f) e = absurd (is_no_one 8 refl e)
usage_note (Absent role) e = absurd (is_no_one 10 refl e)
usage_note Memory e = absurd (is_no_one 12 refl e)
usage_note Limit e = absurd (is_no_one 13 refl e)
usage_note (Trace n) e = absurd (is_no_one 8 refl e)
usage_note (AuditNote n m) e = absurd (is_no_one 15 refl e)
usage_note (Local f) e = absurd (is_no_one 11 refl e)
usage_note (System x) e = absurd (is_no_one 6 refl e)
usage_note (User id) e = absurd (is_no_one 6 refl e)
usage_note (Forward n) e = absurd (is_no_one 6 refl e)
usage_note (Peer n f) e = absurd (is_no_one 7 refl e)
usage_note PeerBody e = absurd (is_no_one 7 refl e)
usage_note Closed e = absurd (is_no_one 9 refl e)

-- a dump, an audit and a reference have other notes
dump_other : (ran : Result DumpEnd NoMemory) → status_of (dump_note ran) ≡ 1 → ⊥
dump_other (Ok dump.Done) e = absurd (is_no_one 0 refl e)
dump_other (Ok (dump.Refused r)) e = absurd (is_no_one 8 refl e)
dump_other (Ok dump.Spent) e = absurd (is_no_one 13 refl e)
dump_other (Ok dump.ReadFault) e = absurd (is_no_one 3 refl e)
dump_other (Ok dump.WriteFault) e = absurd (is_no_one 4 refl e)
dump_other (Err m) e = absurd (is_no_one 12 refl e)

audit_other : (ran : Result AuditEnd NoMemory) → status_of (audit_note ran) ≡ 1 → ⊥
audit_other (Ok audit.Legal) e = absurd (is_no_one 0 refl e)
audit_other (Ok (audit.Wrong w)) e = absurd (is_no_one 15 refl e)
audit_other (Ok (audit.NotTrace at)) e = absurd (is_no_one 8 refl e)
audit_other (Ok audit.ReadFault) e = absurd (is_no_one 3 refl e)
audit_other (Ok audit.Spent) e = absurd (is_no_one 13 refl e)
audit_other (Ok audit.WriteFault) e = absurd (is_no_one 4 refl e)
audit_other (Err m) e = absurd (is_no_one 12 refl e)

refs_other : (ran : Result RefsEnd NoMemory) → status_of (refs_note ran) ≡ 1 → ⊥
refs_other (Ok refs.Done) e = absurd (is_no_one 0 refl e)
refs_other (Ok (refs.Refused f)) e = absurd (is_no_one 8 refl e)
refs_other (Ok refs.TooLong) e = absurd (is_no_one 8 refl e)
refs_other (Ok refs.ReadFault) e = absurd (is_no_one 3 refl e)
refs_other (Ok refs.WriteFault) e = absurd (is_no_one 4 refl e)
refs_other (Err m) e = absurd (is_no_one 12 refl e)

-- the pipe has another note, since it fails by no usage
pipe_other : (config : Option (List ℕ)) (before after : Moment) → PipeFaults config Usage before after → ⊥
pipe_other (Some name) before after h = h
pipe_other None before after h = h.1

-- only words without a reading end so
pub usage_only : (command : Meaning) (reported : Reported) (before after : Moment) → Reports command reported before after → reported.status ≡ 1 → command ≡ Unread
usage_only Unread reported before after h e = refl
usage_only (Pipe words) reported before after h e =
    absurd (pipe_other words.config before after (subst (λ n. FaultsAt (Pipe words) n before after) (usage_note reported.note (sym h.status ∙ e)) h.faults))
usage_only (Serve words) reported before after h e =
    absurd ((subst (λ n. FaultsAt (Serve words) n before after) (usage_note reported.note (sym h.status ∙ e)) h.faults).1)
usage_only (Names at) reported before after h e =
    absurd ((subst (λ n. FaultsAt (Names at) n before after) (usage_note reported.note (sym h.status ∙ e)) h.faults).2)
usage_only (RefsAt place config) reported before after h e =
    absurd ((subst (λ n. FaultsAt (RefsAt place config) n before after) (usage_note reported.note (sym h.status ∙ e)) h.faults).1)
usage_only (Idl name) reported before after h e =
    absurd ((subst (λ n. FaultsAt (Idl name) n before after) (usage_note reported.note (sym h.status ∙ e)) h.faults).1)
usage_only Dump reported before after h e = absurd (dump_other h.means.answer (ap status_of (sym h.means.told) ∙ sym h.status ∙ e))
usage_only Audit reported before after h e = absurd (audit_other h.means.answer (ap status_of (sym h.means.told) ∙ sym h.status ∙ e))
usage_only RefsMeaning reported before after h e = absurd (refs_other h.means.answer (ap status_of (sym h.means.told) ∙ sym h.status ∙ e))
usage_only (Call words) reported before after h e =
    absurd ((subst (λ n. FaultsAt (Call words) n before after) (usage_note reported.note (sym h.status ∙ e)) h.faults).1)
usage_only (SharedCall words callers) reported before after h e =
    absurd ((subst (λ n. FaultsAt (SharedCall words callers) n before after) (usage_note reported.note (sym h.status ∙ e)) h.faults).1)
usage_only (Load words) reported before after h e =
    absurd ((subst (λ n. FaultsAt (Load words) n before after) (usage_note reported.note (sym h.status ∙ e)) h.faults).1)
