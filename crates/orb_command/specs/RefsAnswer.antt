-- What the note of `orb refs` means.
use Rattle.std.specs.Prelude.{◌≡◌, Result, Ok, Err}
use Rattle.orb_base.specs.declared.no_memory.NoMemory.{NoMemory}
use Rattle.giop_messages.specs.declared.refused.Fault.TheVariants.{Cut}
use Rattle.reference_lines.specs.declared.refs_end.RefsEnd.{RefsEnd}
use Rattle.reference_lines.specs.declared.refs_end.RefsEnd.TheVariants as end
use Rattle.reference_lines.specs.declared.refs_end.TheConstants.{MAX_REFERENCE}
use Rattle.orb_command.specs.Moment.{Moment}
use Rattle.orb_command.specs.declared.note.Note.{Note}
use Rattle.orb_command.specs.declared.note.Note.TheVariants.{Nothing, ReadFault, WriteFault, Input, Reference, Memory}
use Rattle.reference_lines.specs.Refs.{Refs}

-- the note of a run: a text that is too long is cut after the bytes that it may have
abbrev pub refs_note : Result RefsEnd NoMemory → Note
refs_note (Ok end.Done) = Nothing
refs_note (Ok (end.Refused fault)) = Reference fault
refs_note (Ok end.TooLong) = Input MAX_REFERENCE Cut
refs_note (Ok end.ReadFault) = ReadFault
refs_note (Ok end.WriteFault) = WriteFault
refs_note (Err _) = Memory

-- a run came out so, and took and wrote accordingly
pub record RefsAnswers (note : Note) (before after : Moment) : Type 0 where
  pub answer : Result RefsEnd NoMemory
  pub told : note ≡ refs_note answer
  pub refs : Refs answer before.input after.input before.out after.out
