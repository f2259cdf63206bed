-- What the note of `orb refs --at` means.
use Rattle.std.specs.Prelude.{◌≡◌, ℕ, List, Option}
use Rattle.object_lines.specs.Addresses.{Place}
use Rattle.object_lines.specs.Lines.{At}
use Rattle.object_lines.specs.declared.at_end.AtEnd.{AtEnd}
use Rattle.object_lines.specs.declared.at_end.AtEnd.TheVariants as end
use Rattle.orb_command.specs.Moment.{Moment}
use Rattle.orb_command.specs.SetupNotes.{setup_note}
use Rattle.orb_command.specs.declared.note.Note.{Note}
use Rattle.orb_command.specs.declared.note.Note.TheVariants.{Nothing, WriteFault, Memory}

-- the note of a run
abbrev pub at_note : AtEnd → Note
at_note end.Done = Nothing
at_note (end.NoBroker why) = setup_note why
at_note end.WriteFault = WriteFault
at_note end.NoMemory = Memory

-- a run came out so, and read and wrote accordingly; the input isn't touched
pub record AtAnswers (place : Place) (config : Option (List ℕ)) (note : Note) (before after : Moment) : Type 0 where
  pub answer : AtEnd
  pub told : note ≡ at_note answer
  pub at : At answer config place before.files after.files before.out after.out
  pub input : after.input ≡ before.input
