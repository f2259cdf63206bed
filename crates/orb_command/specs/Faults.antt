-- Which counts of faults rose, by the command and its note.
use Rattle.std.specs.Prelude.{◌≡◌, ◌⊎◌, ℕ, List, Option, Some, None}
use Rattle.orb_base.specs.Outside.{Rose}
use Rattle.pipe_runs.specs.Pipe.{MayFail}
use Rattle.text_streams.specs.Faults.{NoneFailed, ReadFailed, WriteFailed}
use Rattle.orb_command.specs.Moment.{Moment}
use Rattle.command_words.specs.declared.meaning.Meaning.{Meaning}
use Rattle.command_words.specs.declared.meaning.Meaning.TheVariants.{Pipe, Serve, Names, Dump, Audit, Refs, RefsAt, Idl, Call, SharedCall, Load, Unread}
use Rattle.orb_command.specs.declared.note.Note.{Note}
use Rattle.orb_command.specs.declared.note.Note.TheVariants.{Nothing, Usage, Config, Idl as IdlNote, Script, Check, TooLong, ReadFault}
use Rattle.orb_command.specs.declared.note.Note.TheVariants.{WriteFault, NetFault, Input, Absent, Reference, Local, System, User, Forward}
use Rattle.orb_command.specs.declared.note.Note.TheVariants.{Peer, PeerBody, Closed, Memory, Limit, Trace, Audit as AuditNote}

-- of a command over the input, but for the pipe: none but at a fault, the input's alone at a read fault, and the output's alone at a
-- write fault. A reference that is too long, and a whole line at fault, are given also where the next read fails. Such a command
-- refuses no file
abbrev pub StreamFaults : Note → Moment → Moment → Type 0
StreamFaults Nothing before after = NoneFailed before.input after.input before.out after.out
StreamFaults Usage before after = NoneFailed before.input after.input before.out after.out
StreamFaults ReadFault before after = ReadFailed before.input after.input before.out after.out
StreamFaults WriteFault before after = WriteFailed before.input after.input before.out after.out
StreamFaults (Input _ _) before after = after.out.faults ≡ before.out.faults
StreamFaults (Reference _) before after = NoneFailed before.input after.input before.out after.out
StreamFaults Memory before after = Unit {0}
StreamFaults Limit before after = NoneFailed before.input after.input before.out after.out
StreamFaults (Trace _) before after = after.out.faults ≡ before.out.faults
StreamFaults (AuditNote _ _) before after = NoneFailed before.input after.input before.out after.out
StreamFaults _ before after = ⊥

-- no read of a file and no write failed
abbrev pub NoFileFailed : Moment → Moment → Type 0
NoFileFailed before after = (after.files.faults ≡ before.files.faults) × (after.out.faults ≡ before.out.faults)

-- of a command over files: none but at a fault, the store's alone at a read fault, and the output's alone at a write fault. Such a
-- command refuses no input
abbrev pub FiledFaults : Note → Moment → Moment → Type 0
FiledFaults Nothing before after = NoFileFailed before after
FiledFaults (Config _) before after = NoFileFailed before after
FiledFaults (IdlNote _) before after = NoFileFailed before after
FiledFaults (Script _) before after = NoFileFailed before after
FiledFaults (Check _) before after = NoFileFailed before after
FiledFaults (TooLong _) before after = NoFileFailed before after
FiledFaults (Absent _) before after = NoFileFailed before after
FiledFaults ReadFault before after = Rose before.files.faults after.files.faults × (after.out.faults ≡ before.out.faults)
FiledFaults WriteFault before after = (after.files.faults ≡ before.files.faults) × Rose before.out.faults after.out.faults
FiledFaults Memory before after = NoFileFailed before after
FiledFaults _ before after = ⊥

-- of the server: as of a command over files; a fault of the net is no fault of theirs
abbrev pub ServeFaults : Note → Moment → Moment → Type 0
ServeFaults NetFault before after = NoFileFailed before after
ServeFaults note before after = FiledFaults note before after

-- of the name service: none but at a fault, and the output's alone at a write fault. It has no file
abbrev pub NamesFaults : Note → Moment → Moment → Type 0
NamesFaults Nothing before after = after.out.faults ≡ before.out.faults
NamesFaults NetFault before after = after.out.faults ≡ before.out.faults
NamesFaults Memory before after = after.out.faults ≡ before.out.faults
NamesFaults WriteFault before after = Rose before.out.faults after.out.faults
NamesFaults _ before after = ⊥

-- of a load: as of a command over files; a limit of the run is no fault
abbrev pub LoadFaults : Note → Moment → Moment → Type 0
LoadFaults Limit before after = NoFileFailed before after
LoadFaults note before after = FiledFaults note before after

-- of a run of the pipe: none but at a fault, the input's alone at a read fault, and the output's at a write fault, where that of a
-- read that failed before may be beside it. A run refuses no file
abbrev pub RunFaults : Note → Moment → Moment → Type 0
RunFaults Nothing before after = NoneFailed before.input after.input before.out after.out
RunFaults (Input _ _) before after = NoneFailed before.input after.input before.out after.out
RunFaults Limit before after = NoneFailed before.input after.input before.out after.out
RunFaults ReadFault before after = ReadFailed before.input after.input before.out after.out
RunFaults WriteFault before after = MayFail before.input after.input × Rose before.out.faults after.out.faults
RunFaults Memory before after = after.out.faults ≡ before.out.faults
RunFaults _ before after = ⊥

-- no read of a file, no read of the input and no write failed
abbrev pub NothingFailed : Moment → Moment → Type 0
NothingFailed before after = (after.files.faults ≡ before.files.faults) × NoneFailed before.input after.input before.out after.out

-- of the pipe with a configuration: none but at a fault; at a read fault the store's alone, before anything was taken or written, or
-- the input's alone
abbrev pub ConfiguredFaults : Note → Moment → Moment → Type 0
ConfiguredFaults Nothing before after = NothingFailed before after
ConfiguredFaults (Config _) before after = NothingFailed before after
ConfiguredFaults (IdlNote _) before after = NothingFailed before after
ConfiguredFaults (Script _) before after = NothingFailed before after
ConfiguredFaults (Check _) before after = NothingFailed before after
ConfiguredFaults (TooLong _) before after = NothingFailed before after
ConfiguredFaults (Absent _) before after = NothingFailed before after
ConfiguredFaults (Input _ _) before after = NothingFailed before after
ConfiguredFaults Limit before after = NothingFailed before after
ConfiguredFaults ReadFault before after =
    (Rose before.files.faults after.files.faults × (after.input ≡ before.input) × (after.out ≡ before.out))
    ⊎ ((after.files.faults ≡ before.files.faults) × ReadFailed before.input after.input before.out after.out)
ConfiguredFaults WriteFault before after =
    (after.files.faults ≡ before.files.faults) × MayFail before.input after.input × Rose before.out.faults after.out.faults
ConfiguredFaults Memory before after = (after.files.faults ≡ before.files.faults) × (after.out.faults ≡ before.out.faults)
ConfiguredFaults _ before after = ⊥

-- of the pipe: without a configuration it leaves the store of files as it was
abbrev pub PipeFaults : Option (List ℕ) → Note → Moment → Moment → Type 0
PipeFaults None note before after = (after.files ≡ before.files) × RunFaults note before after
PipeFaults (Some name) note before after = ConfiguredFaults note before after

-- of a call: no read of a file failed but at a read fault, and no write of its line but at a write fault; either may have come over its
-- connection instead. A call refuses no configuration, no scripts and no input
abbrev pub CallFaults : Note → Moment → Moment → Type 0
CallFaults Nothing before after = NoFileFailed before after
CallFaults (IdlNote _) before after = NoFileFailed before after
CallFaults (TooLong _) before after = NoFileFailed before after
CallFaults (Absent _) before after = NoFileFailed before after
CallFaults ReadFault before after = after.out.faults ≡ before.out.faults
CallFaults WriteFault before after = after.files.faults ≡ before.files.faults
CallFaults NetFault before after = NoFileFailed before after
CallFaults (Local _) before after = NoFileFailed before after
CallFaults (System _) before after = NoFileFailed before after
CallFaults (User _) before after = NoFileFailed before after
CallFaults (Forward _) before after = NoFileFailed before after
CallFaults (Peer _ _) before after = NoFileFailed before after
CallFaults PeerBody before after = NoFileFailed before after
CallFaults Closed before after = NoFileFailed before after
CallFaults Memory before after = NoFileFailed before after
CallFaults Limit before after = NoFileFailed before after
CallFaults _ before after = ⊥

-- by the command: one over files leaves the input as it was, and one over the input the store of files
abbrev pub FaultsAt : Meaning → Note → Moment → Moment → Type 0
FaultsAt (Pipe words) note before after = PipeFaults words.config note before after
FaultsAt (Serve words) note before after = (after.input ≡ before.input) × ServeFaults note before after
FaultsAt (Names at) note before after = (after.input ≡ before.input) × (after.files ≡ before.files) × NamesFaults note before after
FaultsAt Dump note before after = (after.files ≡ before.files) × StreamFaults note before after
FaultsAt Audit note before after = (after.files ≡ before.files) × StreamFaults note before after
FaultsAt Refs note before after = (after.files ≡ before.files) × StreamFaults note before after
FaultsAt (RefsAt place config) note before after = (after.input ≡ before.input) × FiledFaults note before after
FaultsAt (Idl name) note before after = (after.input ≡ before.input) × FiledFaults note before after
FaultsAt (Call words) note before after = (after.input ≡ before.input) × CallFaults note before after
FaultsAt (SharedCall words callers) note before after = (after.input ≡ before.input) × CallFaults note before after
FaultsAt (Load words) note before after = (after.input ≡ before.input) × LoadFaults note before after
FaultsAt Unread note before after = (after.files ≡ before.files) × StreamFaults note before after
