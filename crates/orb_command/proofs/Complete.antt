-- A command that goes well ends as it may.
use Rattle.std.proofs.Common.{◌≡◌, ◌∙◌, ℕ, Bool, true, false, List, [], ◌∷◌, Option, Some, None, inl, inr, refl, sym, ap, subst}
use Rattle.std.specs.Prelude.{Result, Ok, Err}
use Rattle.orb_base.specs.Filing.{FilesState}
use Rattle.orb_base.specs.JobRecord.{JobRecord}
use Rattle.orb_base.specs.Links.{AcceptorState}
use Rattle.orb_base.specs.Outside.{SourceState, SinkState, Rose}
use Rattle.orb_base.specs.Room.{Room}
use Rattle.orb_base.specs.declared.no_memory.NoMemory.{NoMemory as OutOfMemory}
use Rattle.orb_base.specs.declared.outcome.Outcome.{Outcome}
use Rattle.orb_nets.specs.Nets.{NetState, CountsNetFault}
use Rattle.orb_nets.specs.declared.net_fault.NetFault.{NetFault}
use Rattle.orb_nets.specs.declared.net_fault.NetFault.TheVariants as net
use Rattle.adapter_policies.specs.SetupData.{SetupData}
use Rattle.dynamic_servants.specs.Outcome.{outcome_of}
use Rattle.dynamic_servants.specs.Served.{served_of}
use Rattle.setup_servants.specs.declared.fault.ServingFault.{ServingFault}
use Rattle.setup_servants.specs.declared.fault.ServingFault.TheVariants as serving
use Rattle.setup_files.specs.Brokers.{GivesBroker}
use Rattle.setup_files.specs.declared.setup_end.SetupEnd.{SetupEnd}
use Rattle.setup_files.specs.declared.setup_end.SetupEnd.TheVariants as setup
use Rattle.heard_calls.specs.declared.ending.Ending.{Ending}
use Rattle.heard_calls.specs.declared.ending.Ending.TheVariants.{Ended, Cut, Broken}
use Rattle.conn_engine.specs.declared.read_end.ReadEnd.{ReadEnd}
use Rattle.conn_engine.specs.declared.read_end.ReadEnd.TheVariants as read
use Rattle.conn_engine.specs.declared.stream_end.StreamEnd.{StreamEnd}
use Rattle.conn_engine.specs.declared.stream_end.StreamEnd.TheVariants as stream
use Rattle.pipe_runs.specs.declared.piped.Piped.{Piped}
use Rattle.giop_dump.specs.declared.dump_end.DumpEnd.{DumpEnd}
use Rattle.giop_dump.specs.declared.dump_end.DumpEnd.TheVariants as dump
use Rattle.trace_audit.specs.declared.audit_end.AuditEnd.{AuditEnd}
use Rattle.trace_audit.specs.declared.audit_end.AuditEnd.TheVariants as audit
use Rattle.reference_lines.specs.declared.refs_end.RefsEnd.{RefsEnd}
use Rattle.reference_lines.specs.declared.refs_end.RefsEnd.TheVariants as refs
use Rattle.object_lines.specs.Addresses.{Place}
use Rattle.object_lines.specs.Lines.{At}
use Rattle.object_lines.specs.declared.at_end.AtEnd.{AtEnd}
use Rattle.object_lines.specs.declared.at_end.AtEnd.TheVariants as at
use Rattle.idl_lines.specs.Ending.{Lists}
use Rattle.idl_lines.specs.declared.idl_end.IdlEnd.{IdlEnd}
use Rattle.idl_lines.specs.declared.idl_end.IdlEnd.TheVariants as listed
use Rattle.load_runs.specs.declared.load_end.LoadEnd.{LoadEnd}
use Rattle.load_runs.specs.declared.load_end.LoadEnd.TheVariants as load
use Rattle.names_server.specs.declared.names_end.NamesEnd.{NamesEnd}
use Rattle.names_server.specs.declared.names_end.NamesEnd.TheVariants as names
use Rattle.server_runs.specs.Plans.{after_one, goes_on}
use Rattle.server_runs.specs.RunLines.{lines_of, WritesLines}
use Rattle.server_runs.specs.Serving as servers
use Rattle.server_runs.specs.declared.run_plan.RunPlan.{RunPlan}
use Rattle.server_runs.specs.declared.serve_end.ServeEnd.{ServeEnd}
use Rattle.server_runs.specs.declared.serve_end.ServeEnd.TheVariants as served
use Rattle.server_runs.specs.declared.run_at.Served.{Served}
use Rattle.orb_server.specs.declared.run.Run.{Run}
use Rattle.client_stub.specs.Asking.{Asked}
use Rattle.client_calls.specs.Calls.{Calls, CountsReads, CountsWrites}
use Rattle.client_calls.specs.Replies.{Outcome as CallOutcome}
use Rattle.client_calls.specs.declared.call_fault.CallFault.{CallFault}
use Rattle.client_calls.specs.declared.call_fault.CallFault.TheVariants as fault
use Rattle.client_runs.specs.Exchanges.{TellsOf}
use Rattle.client_runs.specs.Interfaces.{Knows}
use Rattle.client_runs.specs.Runs as calls
use Rattle.client_runs.specs.declared.call_end.CallEnd.{CallEnd}
use Rattle.client_runs.specs.declared.call_end.CallEnd.TheVariants as call
use Rattle.client_runs.specs.declared.call_end.FileFault.{FileFault}
use Rattle.client_runs.specs.declared.call_end.FileFault.TheVariants as file
use Rattle.client_runs.specs.declared.call_words.CallWords.{CallWords}
use Rattle.client_runs.specs.declared.called.Called.{Called}
use Rattle.mux_runs.specs.declared.run.MuxRun.{MuxRun}
use Rattle.shared_calls.specs.Lines as shared_lines
use Rattle.shared_calls.specs.Results.{results_of}
use Rattle.shared_calls.specs.Runs as shared
use Rattle.shared_calls.specs.Runs.{Team, RanOver}
use Rattle.shared_calls.specs.declared.shared_call.SharedCall.{SharedCall as SharedRun}
use Rattle.command_words.specs.declared.meaning.Meaning.{Meaning}
use Rattle.command_words.specs.declared.meaning.Meaning.TheVariants.{Pipe, Serve, Names, Dump, Audit, Refs, RefsAt, Idl, Call, SharedCall, Load, Unread}
use Rattle.command_words.specs.declared.meaning.PipeWords.{PipeWords}
use Rattle.command_words.specs.declared.meaning.ServeWords.{ServeWords}
use Rattle.command_words.specs.declared.meaning.LoadWords.{LoadWords}
use Rattle.orb_command.proofs.NamesNotes.{names_asked}
use Rattle.orb_command.proofs.SharedGood.{read_rose, write_rose}
use Rattle.orb_command.specs.Moment.{Moment}
use Rattle.orb_command.specs.Command.{status_of, Answers, link_by, link_of}
use Rattle.orb_command.specs.Completeness.{is_good, LinkFails, RefusesSetup, RefusesListed, RefusesKnown, GoesWell}
use Rattle.orb_command.specs.Faults.{FaultsAt, PipeFaults}
use Rattle.orb_command.specs.SetupNotes.{setup_note, serving_note}
use Rattle.orb_command.specs.PipeAnswer.{note_of, note_of_run, note_of_reading, note_of_ending}
use Rattle.orb_command.specs.DumpAnswer.{dump_note}
use Rattle.orb_command.specs.AuditAnswer.{audit_note}
use Rattle.orb_command.specs.RefsAnswer.{refs_note}
use Rattle.orb_command.specs.AtAnswer.{at_note}
use Rattle.orb_command.specs.IdlAnswer.{idl_note}
use Rattle.orb_command.specs.LoadAnswer as loads
use Rattle.orb_command.specs.ServeAnswer as serves
use Rattle.orb_command.specs.NamesAnswer as named
use Rattle.orb_command.specs.CallAnswer as called
use Rattle.orb_command.specs.declared.answered.Answered.{Answered}
use Rattle.orb_command.specs.declared.note.Note.{Note}
use Rattle.orb_command.specs.declared.note.Note.TheVariants.{Usage, ReadFault, WriteFault, Memory}

-- the status of this note is one of those with which the command may end
abbrev Good : Meaning → Note → Type 0
Good command note = is_good command (status_of note) ≡ true

-- ---- by what a command came to

ending_good : (words : PipeWords) (end : Ending) → Good (Pipe words) (note_of_ending end)
ending_good words Ended = refl
ending_good words (Cut n) = refl
ending_good words (Broken n cause) = refl

reading_good : (words : PipeWords) (end : ReadEnd) → (note_of_reading end ≡ ReadFault → ⊥) → Good (Pipe words) (note_of_reading end)
reading_good words (read.Ended end) unread = ending_good words end
reading_good words read.Spent unread = refl
reading_good words read.ReadFault unread = absurd (unread refl)

run_good : (words : PipeWords) (end : StreamEnd) → (note_of_run end ≡ ReadFault → ⊥) → (note_of_run end ≡ WriteFault → ⊥) → Good (Pipe words) (note_of_run end)
run_good words (stream.Ended end) unread unwritten = reading_good words end unread
run_good words stream.Closed unread unwritten = refl
run_good words stream.WriteFault unread unwritten = absurd (unwritten refl)

pipe_good : (words : PipeWords) (ran : Result Piped OutOfMemory) → (note_of ran ≡ ReadFault → ⊥) → (note_of ran ≡ WriteFault → ⊥) → Good (Pipe words) (note_of ran)
pipe_good words (Ok ran) unread unwritten = run_good words ran.end unread unwritten
pipe_good words (Err m) unread unwritten = refl

dump_good : (ran : Result DumpEnd OutOfMemory) → (dump_note ran ≡ ReadFault → ⊥) → (dump_note ran ≡ WriteFault → ⊥) → Good Dump (dump_note ran)
dump_good (Ok dump.Done) unread unwritten = refl
dump_good (Ok (dump.Refused r)) unread unwritten = refl
dump_good (Ok dump.Spent) unread unwritten = refl
dump_good (Ok dump.ReadFault) unread unwritten = absurd (unread refl)
dump_good (Ok dump.WriteFault) unread unwritten = absurd (unwritten refl)
dump_good (Err m) unread unwritten = refl

audit_good : (ran : Result AuditEnd OutOfMemory) → (audit_note ran ≡ ReadFault → ⊥) → (audit_note ran ≡ WriteFault → ⊥) → Good Audit (audit_note ran)
audit_good (Ok audit.Legal) unread unwritten = refl
audit_good (Ok (audit.Wrong w)) unread unwritten = refl
audit_good (Ok (audit.NotTrace n)) unread unwritten = refl
audit_good (Ok audit.Spent) unread unwritten = refl
audit_good (Ok audit.ReadFault) unread unwritten = absurd (unread refl)
audit_good (Ok audit.WriteFault) unread unwritten = absurd (unwritten refl)
audit_good (Err m) unread unwritten = refl

refs_good : (ran : Result RefsEnd OutOfMemory) → (refs_note ran ≡ ReadFault → ⊥) → (refs_note ran ≡ WriteFault → ⊥) → Good Refs (refs_note ran)
refs_good (Ok refs.Done) unread unwritten = refl
refs_good (Ok (refs.Refused f)) unread unwritten = refl
refs_good (Ok refs.TooLong) unread unwritten = refl
refs_good (Ok refs.ReadFault) unread unwritten = absurd (unread refl)
refs_good (Ok refs.WriteFault) unread unwritten = absurd (unwritten refl)
refs_good (Err m) unread unwritten = refl

load_good : (words : LoadWords) (end : LoadEnd) → (loads.note_of_end end ≡ WriteFault → ⊥) → Good (Load words) (loads.note_of_end end)
load_good words load.Done unwritten = refl
load_good words load.Closed unwritten = refl
load_good words load.WriteFault unwritten = absurd (unwritten refl)
load_good words load.NoMemory unwritten = refl

serve_good : (words : ServeWords) (end : ServeEnd) → (end ≡ served.NetFault → ⊥) → (serves.note_of_end end ≡ WriteFault → ⊥) → Good (Serve words) (serves.note_of_end end)
serve_good words served.Done asked unwritten = refl
serve_good words served.NetFault asked unwritten = absurd (asked refl)
serve_good words served.WriteFault asked unwritten = absurd (unwritten refl)
serve_good words served.NoMemory asked unwritten = refl

-- a setup that has no servants, though no file is refused, and no read failed
serving_good : (command : Meaning) (config : Option (List ℕ)) (why : ServingFault) (files files' : FilesState) → ¬ RefusesSetup config files files'
    → GivesBroker (Err (setup.Unserved why)) config files files' → (serving_note why ≡ ReadFault → ⊥) → Good command Memory → Good command (serving_note why)
serving_good command config (serving.Idl f) files files' none gives unread memory = absurd (none (record { why = setup.Unserved (serving.Idl f); blames = tt; gives = gives }))
serving_good command config (serving.Script f) files files' none gives unread memory = absurd (none (record { why = setup.Unserved (serving.Script f); blames = tt; gives = gives }))
serving_good command config (serving.Check f) files files' none gives unread memory = absurd (none (record { why = setup.Unserved (serving.Check f); blames = tt; gives = gives }))
serving_good command config (serving.Object f) files files' none gives unread memory = absurd (none (record { why = setup.Unserved (serving.Object f); blames = tt; gives = gives }))
serving_good command config (serving.Absent r) files files' none gives unread memory = absurd (none (record { why = setup.Unserved (serving.Absent r); blames = tt; gives = gives }))
serving_good command config (serving.TooLong r) files files' none gives unread memory = absurd (none (record { why = setup.Unserved (serving.TooLong r); blames = tt; gives = gives }))
serving_good command config serving.ReadFault files files' none gives unread memory = absurd (unread refl)
serving_good command config serving.NoMemory files files' none gives unread memory = memory

setup_good : (command : Meaning) (config : Option (List ℕ)) (why : SetupEnd) (files files' : FilesState) → ¬ RefusesSetup config files files'
    → GivesBroker (Err why) config files files' → (setup_note why ≡ ReadFault → ⊥) → Good command Memory → Good command (setup_note why)
setup_good command config (setup.Refused f) files files' none gives unread memory = absurd (none (record { why = setup.Refused f; blames = tt; gives = gives }))
setup_good command config setup.Absent files files' none gives unread memory = absurd (none (record { why = setup.Absent; blames = tt; gives = gives }))
setup_good command config setup.TooLong files files' none gives unread memory = absurd (none (record { why = setup.TooLong; blames = tt; gives = gives }))
setup_good command config (setup.Unserved f) files files' none gives unread memory = serving_good command config f files files' none gives unread memory
setup_good command config setup.ReadFault files files' none gives unread memory = absurd (unread refl)
setup_good command config setup.NoMemory files files' none gives unread memory = memory

at_good : (place : Place) (config : Option (List ℕ)) (end : AtEnd) (files files' : FilesState) (out out' : SinkState) → ¬ RefusesSetup config files files'
    → At end config place files files' out out' → (at_note end ≡ ReadFault → ⊥) → (at_note end ≡ WriteFault → ⊥) → Good (RefsAt place config) (at_note end)
at_good place config at.Done files files' out out' none h unread unwritten = refl
at_good place config (at.NoBroker why) files files' out out' none h unread unwritten = setup_good (RefsAt place config) config why files files' none h.0 unread refl
at_good place config at.WriteFault files files' out out' none h unread unwritten = absurd (unwritten refl)
at_good place config at.NoMemory files files' out out' none h unread unwritten = refl

names_good : (at : Place) (end : NamesEnd) → (end ≡ names.NetFault → ⊥) → (named.note_of_end end ≡ WriteFault → ⊥) → Good (Names at) (named.note_of_end end)
names_good at names.Done asked unwritten = refl
names_good at names.NetFault asked unwritten = absurd (asked refl)
names_good at names.WriteFault asked unwritten = absurd (unwritten refl)
names_good at names.NoMemory asked unwritten = refl

-- ---- the net of a server

module _ {A I O : Type 0} (state : A → AcceptorState I O) (source : I → SourceState) (sink : O → SinkState)
    (given : SetupData) (outcome : List ℕ → JobRecord → Outcome) where
  -- what was written of the lines of a run doesn't end by a fault of the net
  last_by : (b : Bool) (plan : RunPlan) (end wrote : ServeEnd) (lines : List ℕ) (out mid : SinkState) (Rest : Type 0)
      → WritesLines wrote plan.trace lines out mid → (b ≡ true → Rest) → (b ≡ false → end ≡ wrote) → (Rest → ⊥) → end ≡ served.NetFault → ⊥
  last_by true plan end wrote lines out mid Rest writes goes stops more e = more (goes refl)
  last_by false plan end wrote lines out mid Rest writes goes stops more e =
      let last : wrote ≡ served.NetFault = sym (stops refl) ∙ e in
      subst (λ w. WritesLines w plan.trace lines out mid) last writes

  -- runs end by no fault of the net
  runs_end : (plan : RunPlan) (end : ServeEnd) (runs : List (Run I O)) (before behind : List A) (out out' : SinkState)
      → servers.RanRuns state source sink given outcome plan end runs before behind out out' → end ≡ served.NetFault → ⊥
  runs_end plan end [] before behind out out' h e = let no : served.NoMemory ≡ served.NetFault = sym h.0 ∙ e in cc
  runs_end plan end (run ∷ runs) before behind out out' (between, mid, wrote, ran, writes, goes, stops) e =
      last_by (goes_on wrote plan.runs run.slots.items) plan end wrote (lines_of plan.trace given run.history.items) out mid
      (servers.RanRuns state source sink given outcome (after_one plan) end runs between behind mid out')
      writes goes (λ same. (stops same).0)
      (λ h. runs_end (after_one plan) end runs between behind mid out' h e) e

  -- listening failed only where the count of the net rose
  comes_asked : (plan : RunPlan) (ran : Served A I O) (answer : Result (Room A) NetFault) (net net' : NetState I O) (out out' : SinkState)
      → ¬ Rose net.faults net'.faults → CountsNetFault answer net net' → servers.Comes state source sink given outcome plan ran answer out out'
      → ran.end ≡ served.NetFault → ⊥
  comes_asked plan ran (Ok all) net net' out out' well counts comes e =
      runs_end plan ran.end ran.runs.items all.items ran.acceptors.items out out' comes e
  comes_asked plan ran (Err net.Failed) net net' out out' well counts comes e = well counts.1
  comes_asked plan ran (Err net.NoMemory) net net' out out' well counts comes e =
      let no : served.NoMemory ≡ served.NetFault = sym comes.0 ∙ e in cc

  net_asked : (place : Place) (plan : RunPlan) (ran : Served A I O) (net net' : NetState I O) (out out' : SinkState) → ¬ Rose net.faults net'.faults
      → servers.ServesAt state source sink given outcome place plan ran net net' out out' → ran.end ≡ served.NetFault → ⊥
  net_asked place plan ran net net' out out' well (inl h) e = comes_asked plan ran h.answer net net' out out' well h.faults h.comes e
  net_asked place plan ran net net' out out' well (inr h) e = let no : served.NoMemory ≡ served.NetFault = sym h.end ∙ e in cc

-- ---- a call

call_fault_good : (words : CallWords) (why : CallFault) → (why ≡ fault.ReadFault → ⊥) → (why ≡ fault.WriteFault → ⊥) → Good (Call words) (called.note_of_fault why)
call_fault_good words (fault.System x) unread unwritten = refl
call_fault_good words (fault.User id) unread unwritten = refl
call_fault_good words (fault.Forward n) unread unwritten = refl
call_fault_good words (fault.Refused n f) unread unwritten = refl
call_fault_good words fault.BadBody unread unwritten = refl
call_fault_good words fault.Closed unread unwritten = refl
call_fault_good words fault.ReadFault unread unwritten = absurd (unread refl)
call_fault_good words fault.WriteFault unread unwritten = absurd (unwritten refl)
call_fault_good words fault.Limit unread unwritten = refl
call_fault_good words fault.NoMemory unread unwritten = refl

file_good : (words : CallWords) (name : Option (List ℕ)) (why : FileFault) (files files' : FilesState) → ¬ RefusesKnown name files files' → ¬ Rose files.faults files'.faults
    → Knows (Err (call.File why)) name files files' → Good (Call words) (called.note_of_file why)
file_good words name (file.Refused f) files files' none store knows = absurd (none (record { why = file.Refused f; blames = tt; knows = knows }))
file_good words name file.Absent files files' none store knows = absurd (none (record { why = file.Absent; blames = tt; knows = knows }))
file_good words name file.TooLong files files' none store knows = absurd (none (record { why = file.TooLong; blames = tt; knows = knows }))
file_good words (Some name) file.ReadFault files files' none store knows = absurd (store knows)
file_good words None file.ReadFault files files' none store knows = absurd knows

known_good : (words : CallWords) (name : Option (List ℕ)) (end : CallEnd) (files files' : FilesState) → ¬ RefusesKnown name files files' → ¬ Rose files.faults files'.faults
    → Knows (Err end) name files files' → Good (Call words) (called.note_of_end end)
known_good words name (call.File why) files files' none store knows = file_good words name why files files' none store knows
known_good words name (call.Local f) files files' none store knows = refl
known_good words (Some name) call.NetFault files files' none store knows = absurd knows
known_good words None call.NetFault files files' none store knows = absurd knows
known_good words (Some name) (call.Called f) files files' none store knows = absurd knows
known_good words None (call.Called f) files files' none store knows = absurd knows
known_good words (Some name) call.WriteFault files files' none store knows = absurd knows
known_good words None call.WriteFault files files' none store knows = absurd knows
known_good words name call.NoMemory files files' none store knows = refl
known_good words name call.Done files files' none store knows = refl

-- what a call came to over a source and a sink, and what was told of it
abbrev ToldSo : CallEnd → CallOutcome → Asked → SourceState → SourceState → SinkState → SinkState → SinkState → SinkState → Type 0
ToldSo end outcome asked s s' o o' out out' = Calls outcome asked s s' o o' × TellsOf end outcome asked.operation out out'

told_good : (words : CallWords) (end : CallEnd) (outcome : CallOutcome) (asked : Asked) (s s' : SourceState) (o o' out out' : SinkState)
    → ¬ Rose s.faults s'.faults → ¬ Rose o.faults o'.faults → ¬ Rose out.faults out'.faults → ToldSo end outcome asked s s' o o' out out'
    → Good (Call words) (called.note_of_end end)
told_good words call.Done (Ok values) asked s s' o o' out out' unread unwritten unsaid h = refl
told_good words call.WriteFault (Ok values) asked s s' o o' out out' unread unwritten unsaid h = absurd (unsaid h.1.1)
told_good words call.NoMemory (Ok values) asked s s' o o' out out' unread unwritten unsaid h = refl
told_good words (call.File f) (Ok values) asked s s' o o' out out' unread unwritten unsaid h = absurd h.1
told_good words (call.Local f) (Ok values) asked s s' o o' out out' unread unwritten unsaid h = refl
told_good words call.NetFault (Ok values) asked s s' o o' out out' unread unwritten unsaid h = absurd h.1
told_good words (call.Called f) (Ok values) asked s s' o o' out out' unread unwritten unsaid h = absurd h.1
told_good words end (Err why) asked s s' o o' out out' unread unwritten unsaid h =
    subst (λ e. Good (Call words) (called.note_of_end e)) (sym h.1.0)
    (call_fault_good words why
    (λ e. unread (subst (λ w. CountsReads (Err w) s s') e h.0.read_fault))
    (λ e. unwritten (subst (λ w. CountsWrites (Err w) o o') e h.0.write_fault)))

module _ {I O : Type 0} (source : I → SourceState) (sink : O → SinkState) where
  -- what came of connecting
  connects_good : (words : CallWords) (asked : Asked) (ran : Called I O) (answer : Result (I × O) NetFault) (net net' : NetState I O) (out out' : SinkState)
      → ¬ Rose net.faults net'.faults → ¬ Rose out.faults out'.faults → ¬ LinkFails source sink ran.link → CountsNetFault answer net net'
      → calls.Comes source sink asked ran answer out out' → Good (Call words) (called.note_of_end ran.end)
  connects_good words asked ran (Ok link) net net' out out' nets unsaid links counts comes =
      let over = comes.2 in
      let left = over.left in
      let held : ¬ LinkFails source sink (Some left) = λ fails. links (subst (LinkFails source sink) (sym over.held) fails) in
      let once = over.once in
      told_good words ran.end once.outcome asked (source link.0) (source left.0) (sink link.1) (sink left.1) out out'
      (λ rose. held (inl (subst (λ n. Rose n (source left.0).faults) comes.0.0 rose)))
      (λ rose. held (inr (subst (λ n. Rose n (sink left.1).faults) comes.1.0 rose)))
      unsaid (once.calls, once.tells)
  connects_good words asked ran (Err net.Failed) net net' out out' nets unsaid links counts comes = absurd (nets counts.1)
  connects_good words asked ran (Err net.NoMemory) net net' out out' nets unsaid links counts comes =
      subst (λ e. Good (Call words) (called.note_of_end e)) (sym comes.0) refl

  call_good : (words : CallWords) (ran : Called I O) (files files' : FilesState) (net net' : NetState I O) (out out' : SinkState)
      → ¬ RefusesKnown words.idl files files' → ¬ Rose files.faults files'.faults → ¬ Rose net.faults net'.faults → ¬ Rose out.faults out'.faults
      → ¬ LinkFails source sink ran.link → calls.CallsWith source sink words ran files files' net net' out out' → Good (Call words) (called.note_of_end ran.end)
  call_good words ran files files' net net' out out' none store nets unsaid links (inl (r, knows, inl (asked, asks, connects))) =
      connects_good words asked ran connects.answer net net' out out' nets unsaid links connects.faults connects.comes
  call_good words ran files files' net net' out out' none store nets unsaid links (inl (r, knows, inr (inl (why, refuses, un)))) =
      subst (λ e. Good (Call words) (called.note_of_end e)) (sym un.why) refl
  call_good words ran files files' net net' out out' none store nets unsaid links (inl (r, knows, inr (inr un))) =
      subst (λ e. Good (Call words) (called.note_of_end e)) (sym un.why) refl
  call_good words ran files files' net net' out out' none store nets unsaid links (inr (end, knows, un)) =
      subst (λ e. Good (Call words) (called.note_of_end e)) (sym un.why) (known_good words words.idl end files files' none store knows)

  -- the lines of the callers
  lines_good : (words : CallWords) (asked : Asked) (callers : ℕ) (ran : SharedRun I O) (link : I × O) (run : MuxRun I O) (end : CallEnd) (out out' : SinkState)
      → ¬ Rose (source link.0).faults (source run.source).faults → ¬ Rose (sink link.1).faults (sink run.sink).faults → ¬ Rose out.faults out'.faults
      → RanOver source sink asked callers run link → shared_lines.WritesLines end asked.operation (results_of asked.operation run.ends.items) out out'
      → Good (Call words) (called.note_of_end end)
  lines_good words asked callers ran link run call.Done out out' unread unwritten unsaid over lines = refl
  lines_good words asked callers ran link run (call.Called f) out out' unread unwritten unsaid over lines =
      call_fault_good words f
      (λ e. unread (read_rose callers run.history.items run.write run.why (source link.0) (source run.source) (sink link.1) (sink run.sink) asked.operation run.ends.items
      over.lawful over.sent over.heard over.own (lines.0 ∙ ap Some e)))
      (λ e. unwritten (write_rose callers run.history.items run.write run.why (source link.0) (source run.source) (sink link.1) (sink run.sink) asked.operation run.ends.items
      over.lawful over.sent over.heard over.own (lines.0 ∙ ap Some e)))
  lines_good words asked callers ran link run call.WriteFault out out' unread unwritten unsaid over lines = absurd (unsaid lines.1)
  lines_good words asked callers ran link run call.NoMemory out out' unread unwritten unsaid over lines = refl
  lines_good words asked callers ran link run (call.File f) out out' unread unwritten unsaid over lines = absurd lines
  lines_good words asked callers ran link run (call.Local f) out out' unread unwritten unsaid over lines = refl
  lines_good words asked callers ran link run call.NetFault out out' unread unwritten unsaid over lines = absurd lines

  -- what came of connecting for several callers
  links_good : (words : CallWords) (asked : Asked) (callers : ℕ) (ran : SharedRun I O) (answer : Result (I × O) NetFault) (net net' : NetState I O) (out out' : SinkState)
      → ¬ Rose net.faults net'.faults → ¬ Rose out.faults out'.faults → ¬ LinkFails source sink (link_by ran.run ran.link) → CountsNetFault answer net net'
      → shared.Comes source sink asked callers ran answer out out' → Good (Call words) (called.note_of_end ran.end)
  links_good words asked callers ran (Ok link) net net' out out' nets unsaid links counts (new_source, new_sink, inl over) =
      let run = over.run in
      let held : ¬ LinkFails source sink (Some (run.source, run.sink)) = λ fails. links (subst (λ (r : Option (MuxRun I O)). LinkFails source sink (link_by r ran.link)) (sym over.is) fails) in
      lines_good words asked callers ran link run ran.end out out'
      (λ rose. held (inl (subst (λ n. Rose n (source run.source).faults) new_source.0 rose)))
      (λ rose. held (inr (subst (λ n. Rose n (sink run.sink).faults) new_sink.0 rose)))
      unsaid over.over over.lines
  links_good words asked callers ran (Ok link) net net' out out' nets unsaid links counts (new_source, new_sink, inr not) =
      subst (λ e. Good (Call words) (called.note_of_end e)) (sym not.why) refl
  links_good words asked callers ran (Err net.Failed) net net' out out' nets unsaid links counts comes = absurd (nets counts.1)
  links_good words asked callers ran (Err net.NoMemory) net net' out out' nets unsaid links counts comes =
      subst (λ e. Good (Call words) (called.note_of_end e)) (sym comes.0) refl

  shared_good : (team : Team) (ran : SharedRun I O) (files files' : FilesState) (net net' : NetState I O) (out out' : SinkState)
      → ¬ RefusesKnown team.words.idl files files' → ¬ Rose files.faults files'.faults → ¬ Rose net.faults net'.faults → ¬ Rose out.faults out'.faults
      → ¬ LinkFails source sink (link_by ran.run ran.link) → shared.SharesWith source sink team ran files files' net net' out out'
      → Good (Call team.words) (called.note_of_end ran.end)
  shared_good team ran files files' net net' out out' none store nets unsaid links (inl (r, knows, inl made)) =
      links_good team.words made.asked team.callers ran made.once.answer net net' out out' nets unsaid links made.once.faults made.once.comes
  shared_good team ran files files' net net' out out' none store nets unsaid links (inl (r, knows, inr (inl (why, refuses, un)))) =
      subst (λ e. Good (Call team.words) (called.note_of_end e)) (sym un.why) refl
  shared_good team ran files files' net net' out out' none store nets unsaid links (inl (r, knows, inr (inr un))) =
      subst (λ e. Good (Call team.words) (called.note_of_end e)) (sym un.why) refl
  shared_good team ran files files' net net' out out' none store nets unsaid links (inr (end, knows, un)) =
      subst (λ e. Good (Call team.words) (called.note_of_end e)) (sym un.why) (known_good team.words team.words.idl end files files' none store knows)

idl_good : (name : List ℕ) (end : IdlEnd) (files files' : FilesState) (out out' : SinkState) → ¬ RefusesListed name files files' → Lists end name files files' out out'
    → (idl_note end ≡ ReadFault → ⊥) → (idl_note end ≡ WriteFault → ⊥) → Good (Idl name) (idl_note end)
idl_good name listed.Done files files' out out' none h unread unwritten = refl
idl_good name (listed.Refused f) files files' out out' none h unread unwritten =
    absurd (none (record { why = listed.Refused f; blames = tt; out = out; lists = (h.0, h.1, refl) }))
idl_good name listed.Absent files files' out out' none h unread unwritten =
    absurd (none (record { why = listed.Absent; blames = tt; out = out; lists = (h.0, h.1, refl) }))
idl_good name listed.TooLong files files' out out' none h unread unwritten =
    absurd (none (record { why = listed.TooLong; blames = tt; out = out; lists = (h.0, h.1, refl) }))
idl_good name listed.ReadFault files files' out out' none h unread unwritten = absurd (unread refl)
idl_good name listed.WriteFault files files' out out' none h unread unwritten = absurd (unwritten refl)
idl_good name listed.NoMemory files files' out out' none h unread unwritten = refl

-- ---- all commands

pipe_read : (config : Option (List ℕ)) (before after : Moment) → ¬ Rose before.files.faults after.files.faults → ¬ Rose before.input.faults after.input.faults
    → PipeFaults config ReadFault before after → ⊥
pipe_read None before after store input f = input f.1.0
pipe_read (Some name) before after store input (inl f) = store f.0
pipe_read (Some name) before after store input (inr f) = input f.1.0

pipe_write : (config : Option (List ℕ)) (before after : Moment) → ¬ Rose before.out.faults after.out.faults → PipeFaults config WriteFault before after → ⊥
pipe_write None before after output f = output f.1.1
pipe_write (Some name) before after output f = output f.2

module _ {A I O : Type 0} (state : A → AcceptorState I O) (source : I → SourceState) (sink : O → SinkState) where
  -- what a command answered that went well
  abbrev Fine : Meaning → Answered A I O → Moment → Moment → NetState I O → NetState I O → Type 0
  Fine command answered before after net net' =
      Answers state source sink command answered before after net net' × GoesWell source sink command (link_of answered) before after net net'

  -- the status is that of its note
  by_note : (command : Meaning) (answered : Answered A I O) (before after : Moment) (net net' : NetState I O) (note : Note)
      → Fine command answered before after net net' → answered.note ≡ note → Good command note → is_good command answered.status ≡ true
  by_note command answered before after net net' note h e good = ap (is_good command) (h.0.reports.status ∙ ap status_of e) ∙ good

  -- the command has no such note, where its counts say so
  never : (command : Meaning) (answered : Answered A I O) (before after : Moment) (net net' : NetState I O) (note n : Note)
      → Fine command answered before after net net' → answered.note ≡ note → (FaultsAt command n before after → ⊥) → note ≡ n → ⊥
  never command answered before after net net' note n h e none same = none (subst (λ x. FaultsAt command x before after) (e ∙ same) h.0.reports.faults)

  pub complete : (command : Meaning) (answered : Answered A I O) (before after : Moment) (net net' : NetState I O)
      → Answers state source sink command answered before after net net' → GoesWell source sink command (link_of answered) before after net net'
      → is_good command answered.status ≡ true
  complete (Pipe words) answered before after net net' h well =
      let c = Pipe words in
      let unread = pipe_read words.config before after well.store well.input in
      let unwritten = pipe_write words.config before after well.output in
      elim h.reports.means.1 [
        | inl k ↦
            let ran = k.2 in
            by_note c answered before after net net' (note_of ran.answer) (h, well) ran.told (pipe_good words ran.answer
            (never c answered before after net net' (note_of ran.answer) ReadFault (h, well) ran.told unread)
            (never c answered before after net net' (note_of ran.answer) WriteFault (h, well) ran.told unwritten))
        | inr k ↦
            by_note c answered before after net net' (setup_note k.0) (h, well) k.2.told (setup_good c words.config k.0 before.files after.files well.files k.1
            (never c answered before after net net' (setup_note k.0) ReadFault (h, well) k.2.told unread) refl)
      ]
  complete (Serve words) answered before after net net' h well =
      let c = Serve words in
      elim h.uses.2.1 [
        | inl k ↦
            let ran = k.2 in
            let end = ran.answer.end in
            by_note c answered before after net net' (serves.note_of_end end) (h, well) ran.note (serve_good words end
            (net_asked state source sink k.0.setup (outcome_of (served_of k.0.servants)) words.at words.plan ran.answer net net' before.out after.out well.nets ran.serves)
            (never c answered before after net net' (serves.note_of_end end) WriteFault (h, well) ran.note (λ f. well.output f.1.1)))
        | inr k ↦
            by_note c answered before after net net' (setup_note k.0) (h, well) k.2.note (setup_good c (Some words.config) k.0 before.files after.files well.files k.1
            (never c answered before after net net' (setup_note k.0) ReadFault (h, well) k.2.note (λ f. well.store f.1.0)) refl)
      ]
  complete (Names at) answered before after net net' h well =
      let c = Names at in
      let ran = h.uses.2 in
      let end = ran.answer.end in
      by_note c answered before after net net' (named.note_of_end end) (h, well) ran.note (names_good at end
      (names_asked state source sink at ran.answer net net' before.out after.out well.nets ran.serves)
      (never c answered before after net net' (named.note_of_end end) WriteFault (h, well) ran.note (λ f. well.output f.2)))
  complete Dump answered before after net net' h well =
      let m = h.reports.means in
      by_note Dump answered before after net net' (dump_note m.answer) (h, well) m.told (dump_good m.answer
      (never Dump answered before after net net' (dump_note m.answer) ReadFault (h, well) m.told (λ f. well.input f.1.0))
      (never Dump answered before after net net' (dump_note m.answer) WriteFault (h, well) m.told (λ f. well.output f.1.1)))
  complete Audit answered before after net net' h well =
      let m = h.reports.means in
      by_note Audit answered before after net net' (audit_note m.answer) (h, well) m.told (audit_good m.answer
      (never Audit answered before after net net' (audit_note m.answer) ReadFault (h, well) m.told (λ f. well.input f.1.0))
      (never Audit answered before after net net' (audit_note m.answer) WriteFault (h, well) m.told (λ f. well.output f.1.1)))
  complete Refs answered before after net net' h well =
      let m = h.reports.means in
      by_note Refs answered before after net net' (refs_note m.answer) (h, well) m.told (refs_good m.answer
      (never Refs answered before after net net' (refs_note m.answer) ReadFault (h, well) m.told (λ f. well.input f.1.0))
      (never Refs answered before after net net' (refs_note m.answer) WriteFault (h, well) m.told (λ f. well.output f.1.1)))
  complete (RefsAt place config) answered before after net net' h well =
      let c = RefsAt place config in
      let m = h.reports.means in
      by_note c answered before after net net' (at_note m.answer) (h, well) m.told
      (at_good place config m.answer before.files after.files before.out after.out well.files m.at
      (never c answered before after net net' (at_note m.answer) ReadFault (h, well) m.told (λ f. well.store f.1.0))
      (never c answered before after net net' (at_note m.answer) WriteFault (h, well) m.told (λ f. well.output f.1.1)))
  complete (Idl name) answered before after net net' h well =
      let c = Idl name in
      let m = h.reports.means in
      by_note c answered before after net net' (idl_note m.answer) (h, well) m.told
      (idl_good name m.answer before.files after.files before.out after.out well.files m.lists
      (never c answered before after net net' (idl_note m.answer) ReadFault (h, well) m.told (λ f. well.store f.1.0))
      (never c answered before after net net' (idl_note m.answer) WriteFault (h, well) m.told (λ f. well.output f.1.1)))
  complete (Call words) answered before after net net' h well =
      let c = h.uses.4 in
      by_note (Call words) answered before after net net' (called.note_of_end c.answer.end) (h, well) c.note
      (call_good source sink words c.answer before.files after.files net net' before.out after.out well.files well.store well.nets well.output
      (λ fails. well.links (subst (λ (r : Option (MuxRun I O)). LinkFails source sink (link_by r answered.link)) (sym h.uses.3) (subst (LinkFails source sink) (sym c.link) fails))) c.calls)
  complete (SharedCall words callers) answered before after net net' h well =
      let c = h.uses.3 in
      let left : link_by answered.mux answered.link ≡ link_by c.answer.run c.answer.link =
      ap (λ (r : Option (MuxRun I O)). link_by r answered.link) c.run ∙ ap (λ (l : Option (I × O)). link_by c.answer.run l) c.link in
      by_note (SharedCall words callers) answered before after net net' (called.note_of_end c.answer.end) (h, well) c.note
      (shared_good source sink (record { words = words; callers = callers }) c.answer before.files after.files net net' before.out after.out well.files well.store well.nets well.output
      (λ fails. well.links (subst (LinkFails source sink) (sym left) fails)) c.shares)
  complete (Load words) answered before after net net' h well =
      let c = Load words in
      elim h.reports.means.loads.1 [
        | inl k ↦
            let ran = k.2 in
            by_note c answered before after net net' (loads.note_of_end ran.answer) (h, well) ran.told (load_good words ran.answer
            (never c answered before after net net' (loads.note_of_end ran.answer) WriteFault (h, well) ran.told (λ f. well.output f.1.1)))
        | inr k ↦
            by_note c answered before after net net' (setup_note k.0) (h, well) k.2.told (setup_good c words.config k.0 before.files after.files well.files k.1
            (never c answered before after net net' (setup_note k.0) ReadFault (h, well) k.2.told (λ f. well.store f.1.0)) refl)
      ]
  complete Unread answered before after net net' h well =
      elim h.reports.means.0 [
        | inl e ↦ by_note Unread answered before after net net' Usage (h, well) e refl
        | inr e ↦ by_note Unread answered before after net net' Memory (h, well) e refl
      ]
