-- What the note of an audit means.
use Rattle.std.specs.Prelude.{◌≡◌, Result, Ok, Err}
use Rattle.orb_base.specs.declared.no_memory.NoMemory.{NoMemory}
use Rattle.trace_audit.specs.Audit.{AuditsRun}
use Rattle.trace_audit.specs.declared.audit_end.AuditEnd.{AuditEnd}
use Rattle.trace_audit.specs.declared.audit_end.AuditEnd.TheVariants as end
use Rattle.orb_command.specs.Moment.{Moment}
use Rattle.orb_command.specs.declared.note.Note.{Note}
use Rattle.orb_command.specs.declared.note.Note.TheVariants.{Nothing, Trace, Audit, ReadFault, WriteFault, Memory, Limit}

-- the note of an audit
abbrev pub audit_note : Result AuditEnd NoMemory → Note
audit_note (Ok end.Legal) = Nothing
audit_note (Ok (end.Wrong w)) = Audit w.run w.entry
audit_note (Ok (end.NotTrace at)) = Trace at
audit_note (Ok end.ReadFault) = ReadFault
audit_note (Ok end.Spent) = Limit
audit_note (Ok end.WriteFault) = WriteFault
audit_note (Err _) = Memory

-- an audit came out so, and took and wrote accordingly
pub record AuditAnswers (note : Note) (before after : Moment) : Type 0 where
  pub answer : Result AuditEnd NoMemory
  pub told : note ≡ audit_note answer
  pub audits : AuditsRun answer before.input after.input before.out after.out
