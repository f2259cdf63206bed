-- The answers of the top call: for each note its cause, and what was written.
use Rattle.std.specs.Prelude.{◌≡◌, ◌+◌, ◌⊎◌, ℕ, true, List, [], Option, Some, None}
use Rattle.orb_base.specs.Links.{AcceptorState}
use Rattle.orb_base.specs.Outside.{SourceState, SinkState}
use Rattle.orb_nets.specs.Nets.{NetState}
use Rattle.command_options.specs.Items.{Text}
use Rattle.command_words.specs.Words.{asks_memory, command_of}
use Rattle.command_words.specs.declared.meaning.Meaning.{Meaning}
use Rattle.command_words.specs.declared.meaning.Meaning.TheVariants.{Pipe, Serve, Names, Dump, Audit, Refs, RefsAt, Idl, Call, SharedCall, Load, Unread}
use Rattle.orb_command.specs.declared.answered.Answered.{Answered}
use Rattle.orb_command.specs.declared.answered.Reported.{Reported}
use Rattle.orb_command.specs.declared.note.Note.{Note}
use Rattle.orb_command.specs.declared.call.CallTold.{CallTold}
use Rattle.orb_command.specs.declared.shared.SharedTold.{SharedTold}
use Rattle.mux_runs.specs.declared.run.MuxRun.{MuxRun}
use Rattle.orb_command.specs.declared.serve.ServeTold.{ServeTold}
use Rattle.orb_command.specs.declared.names.NamesTold.{NamesTold}
use Rattle.orb_command.specs.declared.note.Note.TheVariants.{Nothing, Usage, Config, Idl as IdlNote, Script, Check, TooLong, ReadFault}
use Rattle.orb_command.specs.declared.note.Note.TheVariants.{WriteFault, NetFault, Input, Absent, Reference, Local, System, User, Forward}
use Rattle.orb_command.specs.declared.note.Note.TheVariants.{Peer, PeerBody, Closed, Memory, Limit, Trace, Audit as AuditNote}
use Rattle.conn_engine.specs.declared.read_end.TheConstants.{MAX_TAKEN}
use Rattle.pipe_runs.specs.declared.piped.Piped.{Piped}
use Rattle.giop_dump.specs.declared.dump_end.TheConstants.{MAX_DUMPED}
use Rattle.trace_audit.specs.declared.input.TheConstants.{MAX_AUDITED}
use Rattle.reference_lines.specs.declared.refs_end.TheConstants.{MAX_REFERENCE}
use Rattle.text_streams.specs.Streams.{GaveFew}
use Rattle.orb_command.specs.Moment.{Moment}
use Rattle.orb_command.specs.Faults.{FaultsAt}
use Rattle.orb_command.specs.PipeAnswer.{PipeAnswers}
use Rattle.orb_command.specs.DumpAnswer.{DumpAnswers}
use Rattle.orb_command.specs.AuditAnswer.{AuditAnswers}
use Rattle.orb_command.specs.RefsAnswer.{RefsAnswers}
use Rattle.orb_command.specs.AtAnswer.{AtAnswers}
use Rattle.orb_command.specs.IdlAnswer.{IdlAnswers}
use Rattle.orb_command.specs.ServeAnswer.{ServesBy}
use Rattle.orb_command.specs.NamesAnswer.{NamesBy}
use Rattle.orb_command.specs.CallAnswer.{CallsSo}
use Rattle.orb_command.specs.SharedAnswer.{SharesSo}
use Rattle.orb_command.specs.LoadAnswer.{LoadAnswers}

-- the exit status of a note
abbrev pub status_of : Note → ℕ
status_of Nothing = 0
status_of Usage = 1
status_of (Config _) = 2
status_of (IdlNote _) = 2
status_of (Script _) = 2
status_of (Check _) = 2
status_of (TooLong _) = 2
status_of ReadFault = 3
status_of WriteFault = 4
status_of NetFault = 5
status_of (System _) = 6
status_of (User _) = 6
status_of (Forward _) = 6
status_of (Peer _ _) = 7
status_of PeerBody = 7
status_of (Input _ _) = 8
status_of (Reference _) = 8
status_of Closed = 9
status_of (Absent _) = 10
status_of (Local _) = 11
status_of Memory = 12
status_of Limit = 13
status_of (Trace _) = 8
status_of (AuditNote _ _) = 15

-- how many bytes are taken at most: of an input of `refs` one more than it may have, so that a longer one is seen
abbrev pub most_taken : Meaning → ℕ
most_taken (Pipe words) = MAX_TAKEN
most_taken Dump = MAX_DUMPED
most_taken Audit = MAX_AUDITED
most_taken Refs = MAX_REFERENCE + 2
most_taken _ = 0

-- what each note means, and what a run of the pipe says, by what the words mean; words without a reading do nothing, whether they are
-- refused or memory runs out over them; the server, the name service and a call take no input, and what their notes mean is by what they
-- do to the net
abbrev pub NoteMeans : Meaning → Note → Option Piped → Moment → Moment → Type 0
NoteMeans (Pipe words) note piped before after = PipeAnswers words note piped before after
NoteMeans (Serve words) note piped before after = after.input ≡ before.input
NoteMeans (Names at) note piped before after = after.input ≡ before.input
NoteMeans Dump note piped before after = DumpAnswers note before after
NoteMeans Audit note piped before after = AuditAnswers note before after
NoteMeans Refs note piped before after = RefsAnswers note before after
NoteMeans (RefsAt place config) note piped before after = AtAnswers place config note before after
NoteMeans (Idl name) note piped before after = IdlAnswers name note before after
NoteMeans (Call words) note piped before after = after.input ≡ before.input
NoteMeans (SharedCall words callers) note piped before after = after.input ≡ before.input
NoteMeans (Load words) note piped before after = LoadAnswers words note before after
NoteMeans Unread note piped before after = ((note ≡ Usage) ⊎ (note ≡ Memory)) × (after ≡ before)

-- no other command than the pipe has a run of it
abbrev pub PipedBy : Meaning → Option Piped → Type 0
PipedBy (Pipe words) piped = Unit {0}
PipedBy _ piped = piped ≡ None

-- what a command comes to between two moments: the status is that of the note, which means what was read and written, and an input is taken
-- no further than its command takes it
pub record Reports (command : Meaning) (reported : Reported) (before after : Moment) : Type 0 where
  pub status : reported.status ≡ status_of reported.note
  pub means : NoteMeans command reported.note reported.piped before after
  pub piped : PipedBy command reported.piped
  pub faults : FaultsAt command reported.note before after
  pub few : GaveFew (most_taken command) before.input after.input

-- the source and the sink of the run of several callers, or else these
abbrev pub link_by : {I O : Type 0} → Option (MuxRun I O) → Option (I × O) → Option (I × O)
link_by (Some run) link = Some (run.source, run.sink)
link_by None link = link

module _ {A I O : Type 0} where
  -- what is answered, without the server's part
  abbrev pub report_of : Answered A I O → Reported
  report_of answered = record { status = answered.status; note = answered.note; piped = answered.piped }

  -- the server's part
  abbrev pub serve_told : Answered A I O → ServeTold A I O
  serve_told answered = record { note = answered.note; runs = answered.runs; acceptors = answered.acceptors }

  -- the name service's part
  abbrev pub names_told : Answered A I O → NamesTold A I O
  names_told answered = record { note = answered.note; run = answered.names; acceptors = answered.acceptors }

  -- a call's part
  abbrev pub call_told : Answered A I O → CallTold I O
  call_told answered = record { note = answered.note; link = answered.link }

  -- the part of a call of several callers
  abbrev pub shared_told : Answered A I O → SharedTold I O
  shared_told answered = record { note = answered.note; run = answered.mux; link = answered.link }

  -- no call has a connection
  abbrev pub Unlinked : Answered A I O → Type 0
  Unlinked answered = (answered.link ≡ None) × (answered.mux ≡ None)

  -- the connection of a call, as it is at the end, if the net gave one
  abbrev pub link_of : Answered A I O → Option (I × O)
  link_of answered = link_by answered.mux answered.link

  -- the net was not asked
  pub record LeavesNet (answered : Answered A I O) (net net' : NetState I O) : Type 0 where
    pub runs : answered.runs.items ≡ []
    pub names : answered.names ≡ None
    pub acceptors : answered.acceptors.items ≡ []
    pub link : Unlinked answered
    pub unasked : net' ≡ net

  module _ (state : A → AcceptorState I O) (source : I → SourceState) (sink : O → SinkState) where
    -- what was done over the net, by what the words mean: nothing but by the server, by the name service and by a call
    abbrev pub UsesNet : Meaning → Answered A I O → Moment → Moment → NetState I O → NetState I O → Type 0
    UsesNet (Serve words) answered before after net net' =
        (answered.names ≡ None) × Unlinked answered
        × ServesBy state source sink words (serve_told answered) before.files after.files net net' before.out after.out
    UsesNet (Names at) answered before after net net' =
        (answered.runs.items ≡ []) × Unlinked answered
        × NamesBy state source sink at (names_told answered) net net' before.out after.out
    UsesNet (Call words) answered before after net net' =
        (answered.runs.items ≡ []) × (answered.names ≡ None) × (answered.acceptors.items ≡ [])
        × (answered.mux ≡ None)
        × CallsSo source sink words (call_told answered) before.files after.files net net' before.out after.out
    UsesNet (SharedCall words callers) answered before after net net' =
        (answered.runs.items ≡ []) × (answered.names ≡ None) × (answered.acceptors.items ≡ [])
        × SharesSo source sink (record { words = words; callers = callers }) (shared_told answered) before.files after.files net net'
        before.out after.out
    UsesNet _ answered before after net net' = LeavesNet answered net net'

    -- what the program answers, between two moments, and what it did over the net
    pub record Answers (command : Meaning) (answered : Answered A I O) (before after : Moment) (net net' : NetState I O) : Type 0 where
      pub reports : Reports command (report_of answered) before after
      pub uses : UsesNet command answered before after net net'

-- words without a reading end with the status 1 of usage, or with the 12 of out of memory where memory is asked for to read them
abbrev pub UsageStatus : List Text → ℕ → Type 0
UsageStatus words status = command_of words ≡ Unread → (status ≡ 1) ⊎ ((status ≡ 12) × (asks_memory words ≡ true))
