-- What the note of `orb idl` means.
use Rattle.std.specs.Prelude.{◌≡◌, ℕ, List}
use Rattle.idl_types.specs.Things.{Thing}
use Rattle.idl_reader.specs.Whole.{text_things}
use Rattle.idl_lines.specs.Texts.{FileTells, IsTold}
use Rattle.idl_lines.specs.Ending.{Lists, ListsExactly, OnlyLists}
use Rattle.idl_lines.specs.declared.idl_end.IdlEnd.{IdlEnd}
use Rattle.idl_lines.specs.declared.idl_end.IdlEnd.TheVariants as end
use Rattle.orb_command.specs.Moment.{Moment}
use Rattle.orb_command.specs.declared.note.Note.{Note}
use Rattle.orb_command.specs.declared.note.Note.TheVariants.{Nothing, Idl, TooLong, ReadFault, WriteFault, Absent, Memory}
use Rattle.orb_command.specs.declared.note.Role.TheVariants as role

-- the note of a run
abbrev pub idl_note : IdlEnd → Note
idl_note end.Done = Nothing
idl_note (end.Refused fault) = Idl fault
idl_note end.Absent = Absent role.Idl
idl_note end.TooLong = TooLong role.Idl
idl_note end.ReadFault = ReadFault
idl_note end.WriteFault = WriteFault
idl_note end.NoMemory = Memory

-- A run came out so, and read and wrote accordingly: each end only where its cause is there, and the listing where the file of this
-- name declares things, unless the store, the output or memory failed. A file that is given is listed, or refused with the very fault,
-- as reading it by the grammar gives. The input isn't touched
pub record IdlAnswers (name : List ℕ) (note : Note) (before after : Moment) : Type 0 where
  pub answer : IdlEnd
  pub told : note ≡ idl_note answer
  pub lists : Lists answer name before.files after.files before.out after.out
  pub only : (things : List Thing) → FileTells before.files name things → OnlyLists answer things before.out after.out
  pub exact : (bytes : List ℕ) → IsTold before.files name bytes → ListsExactly answer (text_things bytes) before.out after.out
  pub input : after.input ≡ before.input
