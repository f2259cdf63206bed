-- What the note of a dump means.
use Rattle.std.specs.Prelude.{◌≡◌, Result, Ok, Err}
use Rattle.orb_base.specs.declared.no_memory.NoMemory.{NoMemory}
use Rattle.giop_dump.specs.declared.dump_end.DumpEnd.{DumpEnd}
use Rattle.giop_dump.specs.declared.dump_end.DumpEnd.TheVariants as end
use Rattle.orb_command.specs.Moment.{Moment}
use Rattle.orb_command.specs.declared.note.Note.{Note}
use Rattle.orb_command.specs.declared.note.Note.TheVariants.{Nothing, ReadFault, WriteFault, Input, Memory, Limit}
use Rattle.giop_dump.specs.Dump.{Dumps}

-- the note of a dump
abbrev pub dump_note : Result DumpEnd NoMemory → Note
dump_note (Ok end.Done) = Nothing
dump_note (Ok (end.Refused r)) = Input r.offset r.fault
dump_note (Ok end.Spent) = Limit
dump_note (Ok end.ReadFault) = ReadFault
dump_note (Ok end.WriteFault) = WriteFault
dump_note (Err _) = Memory

-- a dump came out so, and took and wrote accordingly
pub record DumpAnswers (note : Note) (before after : Moment) : Type 0 where
  pub answer : Result DumpEnd NoMemory
  pub told : note ≡ dump_note answer
  pub dumps : Dumps answer before.input after.input before.out after.out
