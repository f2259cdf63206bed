-- What the note of `orb call` means.
use Rattle.std.specs.Prelude.{◌≡◌}
use Rattle.orb_base.specs.Filing.{FilesState}
use Rattle.orb_base.specs.Outside.{SourceState, SinkState}
use Rattle.orb_nets.specs.Nets.{NetState}
use Rattle.client_calls.specs.declared.call_fault.CallFault.{CallFault}
use Rattle.client_calls.specs.declared.call_fault.CallFault.TheVariants as fault
use Rattle.client_runs.specs.Runs.{CallsWith}
use Rattle.client_runs.specs.declared.call_end.CallEnd.{CallEnd}
use Rattle.client_runs.specs.declared.call_end.CallEnd.TheVariants as end
use Rattle.client_runs.specs.declared.call_end.FileFault.{FileFault}
use Rattle.client_runs.specs.declared.call_end.FileFault.TheVariants as file
use Rattle.client_runs.specs.declared.call_words.CallWords.{CallWords}
use Rattle.client_runs.specs.declared.called.Called.{Called}
use Rattle.orb_command.specs.declared.call.CallTold.{CallTold}
use Rattle.orb_command.specs.declared.note.Note.{Note}
use Rattle.orb_command.specs.declared.note.Note.TheVariants.{Nothing, Idl, TooLong, ReadFault, WriteFault, NetFault, Absent, Local}
use Rattle.orb_command.specs.declared.note.Note.TheVariants.{System, User, Forward, Peer, PeerBody, Closed, Memory, Limit}
use Rattle.orb_command.specs.declared.note.Role.TheVariants as role

-- the note of a file of IDL that gives no interfaces
abbrev pub note_of_file : FileFault → Note
note_of_file (file.Refused f) = Idl f
note_of_file file.Absent = Absent role.Idl
note_of_file file.TooLong = TooLong role.Idl
note_of_file file.ReadFault = ReadFault

-- the note of a call that gave no results
abbrev pub note_of_fault : CallFault → Note
note_of_fault (fault.System exception) = System exception
note_of_fault (fault.User id) = User id
note_of_fault (fault.Forward status) = Forward status
note_of_fault (fault.Refused offset cause) = Peer offset cause
note_of_fault fault.BadBody = PeerBody
note_of_fault fault.Closed = Closed
note_of_fault fault.ReadFault = ReadFault
note_of_fault fault.WriteFault = WriteFault
note_of_fault fault.Limit = Limit
note_of_fault fault.NoMemory = Memory

-- the note of how a call came out
abbrev pub note_of_end : CallEnd → Note
note_of_end (end.File f) = note_of_file f
note_of_end (end.Local f) = Local f
note_of_end end.NetFault = NetFault
note_of_end (end.Called f) = note_of_fault f
note_of_end end.WriteFault = WriteFault
note_of_end end.NoMemory = Memory
note_of_end end.Done = Nothing

module _ {I O : Type 0} (source : I → SourceState) (sink : O → SinkState) where
  -- a call came out so, by its words: the store knows the same files as before, and nothing was listened for
  pub record CallsSo (words : CallWords) (told : CallTold I O) (files files' : FilesState) (net net' : NetState I O) (out out' : SinkState)
      : Type 0 where
    pub answer : Called I O
    pub note : told.note ≡ note_of_end answer.end
    pub link : told.link ≡ answer.link
    pub calls : CallsWith source sink words answer files files' net net' out out'
    pub kept : files'.files ≡ files.files
    pub slots : net'.slots ≡ net.slots
