-- The notes of what has no setup with servants.
use Rattle.setup_servants.specs.declared.fault.TextRole.{TextRole}
use Rattle.setup_servants.specs.declared.fault.TextRole.TheVariants as text
use Rattle.setup_servants.specs.declared.fault.ServingFault.{ServingFault}
use Rattle.setup_servants.specs.declared.fault.ServingFault.TheVariants as fault
use Rattle.setup_files.specs.declared.setup_end.SetupEnd.{SetupEnd}
use Rattle.setup_files.specs.declared.setup_end.SetupEnd.TheVariants as end
use Rattle.orb_command.specs.declared.note.Note.{Note}
use Rattle.orb_command.specs.declared.note.Note.TheVariants.{Config, Idl, Script, Check, TooLong, ReadFault, Absent, Memory}
use Rattle.orb_command.specs.declared.note.Role.{Role}
use Rattle.orb_command.specs.declared.note.Role.TheVariants as role

-- what a text of a setup is for
abbrev pub role_of : TextRole → Role
role_of text.Idl = role.Idl
role_of text.Scripts = role.Scripts

-- the note of a setup that has no servants for this reason
abbrev pub serving_note : ServingFault → Note
serving_note (fault.Idl f) = Idl f
serving_note (fault.Script f) = Script f
serving_note (fault.Check f) = Check f
serving_note (fault.Object f) = Config f
serving_note (fault.Absent text) = Absent (role_of text)
serving_note (fault.TooLong text) = TooLong (role_of text)
serving_note fault.ReadFault = ReadFault
serving_note fault.NoMemory = Memory

-- the note of a configuration that gives no setup with servants for this reason
abbrev pub setup_note : SetupEnd → Note
setup_note (end.Refused f) = Config f
setup_note end.Absent = Absent role.Config
setup_note end.TooLong = TooLong role.Config
setup_note (end.Unserved f) = serving_note f
setup_note end.ReadFault = ReadFault
setup_note end.NoMemory = Memory
