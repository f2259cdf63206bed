-- What comes of a configuration for the pipe, and which counts of faults rose.
use Rattle.std.proofs.Common.{◌≡◌, ℕ, Bool, List, Option, Some, None, refl, sym, ap, subst, ◌∙◌, inl, inr}
use Rattle.std.specs.Prelude.{Result, Ok, Err}
use Rattle.orb_base.specs.Filing.{FilesState}
use Rattle.orb_base.specs.Outside.{SourceState, SinkState}
use Rattle.orb_base.specs.JobRecord.{JobRecord}
use Rattle.orb_base.specs.declared.no_memory.NoMemory.{NoMemory}
use Rattle.orb_base.specs.declared.outcome.Outcome.{Outcome}
use Rattle.adapter_policies.specs.BuiltIn.{built_in}
use Rattle.adapter_policies.specs.SetupData.{SetupData}
use Rattle.dynamic_servants.specs.Outcome.{outcome_of}
use Rattle.dynamic_servants.specs.Served.{served_of}
use Rattle.setup_servants.specs.Servants.{GivesServants}
use Rattle.setup_servants.specs.declared.fault.ServingFault.{ServingFault}
use Rattle.setup_servants.specs.declared.fault.ServingFault.TheVariants as fault
use Rattle.setup_files.specs.Brokers.{GivesBroker}
use Rattle.setup_files.specs.declared.broker.Broker.{Broker}
use Rattle.setup_files.specs.declared.setup_end.SetupEnd.{SetupEnd}
use Rattle.setup_files.specs.declared.setup_end.SetupEnd.TheVariants as why
use Rattle.setup_files.proofs.Counts.{SetupCount, broker_count, end_count}
use Rattle.setup_servants.proofs.BuiltInServed.{built_in_has_servants}
use Rattle.setup_servants.proofs.Ends.{same_state}
use Rattle.lane_machine.specs.Histories.{History}
use Rattle.heard_calls.specs.declared.ending.Ending.TheVariants.{Ended, Cut, Broken}
use Rattle.conn_engine.specs.declared.read_end.ReadEnd.TheVariants as read
use Rattle.conn_engine.specs.declared.read_end.TheConstants.{MAX_TAKEN}
use Rattle.conn_engine.specs.declared.stream_end.StreamEnd.{StreamEnd}
use Rattle.conn_engine.specs.declared.stream_end.StreamEnd.TheVariants as stream
use Rattle.pipe_runs.specs.Pipe.{BeganShowing, Pipes, PipesBytes, ShowsRun}
use Rattle.pipe_runs.specs.declared.piped.Piped.{Piped}
use Rattle.pipe_runs.specs.declared.shown.Shown.{Shown}
use Rattle.pipe_runs.specs.declared.shown.Shown.TheVariants.{Bytes, Text, Trace}
use Rattle.command_words.specs.declared.meaning.PipeWords.{PipeWords}
use Rattle.text_streams.proofs.CallerLemmas.{gave_none}
use Rattle.text_streams.specs.Streams.{GaveFew}
use Rattle.orb_command.specs.declared.answered.Reported.{Reported}
use Rattle.command_words.specs.declared.meaning.Meaning.{Meaning}
use Rattle.command_words.specs.declared.meaning.Meaning.TheVariants.{Pipe, Serve, Names, Dump, Audit, Refs, RefsAt, Idl, Call, SharedCall, Load, Unread}
use Rattle.orb_command.specs.declared.note.Note.{Note}
use Rattle.orb_command.specs.declared.note.Note.TheVariants.{Memory}
use Rattle.orb_command.specs.Command.{status_of, Reports}
use Rattle.orb_command.specs.Faults.{RunFaults, ConfiguredFaults, PipeFaults, ServeFaults, NamesFaults, CallFaults}
use Rattle.orb_command.specs.Moment.{Moment, moment}
use Rattle.orb_command.specs.PipeAnswer.{note_of, note_of_run, piped_of, Ran, Declined, PipeAnswers}
use Rattle.orb_command.specs.SetupNotes.{serving_note, setup_note}
use Rattle.orb_command.proofs.CommandLaws.{dump_wanting, audit_wanting, refs_wanting, unread_wanting}
use Rattle.orb_command.proofs.IdlLaws.{idl_wanting}
use Rattle.orb_command.proofs.LoadNotes.{load_wanting}
use Rattle.orb_command.proofs.AtLaws.{broker_wanting, at_wanting}

-- ---- a setup and its servants

pub ran_so : (words : PipeWords) (broker : Broker) (note : Note) (piped : Option Piped) (answer : Result Piped NoMemory)
    (old new : SourceState) (out out' : SinkState) → note ≡ note_of answer → piped ≡ piped_of answer
    → Pipes answer words.shown broker.setup (outcome_of (served_of broker.servants)) words.batch old new out out'
    → Ran words broker note piped old new out out'
ran_so words broker note piped answer old new out out' told kept pipes = record { answer = answer; told = told; kept = kept; pipes = pipes }

pub by_broker : (words : PipeWords) (broker : Broker) (note : Note) (piped : Option Piped) (files files' : FilesState) (old new : SourceState) (out out' : SinkState)
    → files'.files ≡ files.files → GivesBroker (Ok broker) words.config files files' → Ran words broker note piped old new out out'
    → PipeAnswers words note piped (moment files old out) (moment files' new out')
by_broker words broker note piped files files' old new out out' kept gives ran = (kept, inl (broker, gives, ran))

pub by_none : (words : PipeWords) (reason : SetupEnd) (note : Note) (piped : Option Piped) (files files' : FilesState) (old : SourceState) (out : SinkState)
    → files'.files ≡ files.files → GivesBroker (Err reason) words.config files files' → note ≡ setup_note reason → piped ≡ None
    → PipeAnswers words note piped (moment files old out) (moment files' old out)
by_none words reason note piped files files' old out kept none told declined =
    (kept, inr (reason, none, record { told = told; kept = declined; input = refl; output = refl }))

-- ---- the counts of a run

shown_so : (end : StreamEnd) (history : History) (shown : Shown) (setup : SetupData) (outcome : List ℕ → JobRecord → Outcome) (batch : ℕ) (earlier bytes : List ℕ) (ended : Bool)
    (before after : Moment) → ShowsRun end history shown setup outcome batch earlier bytes ended before.input after.input before.out after.out
    → RunFaults (note_of_run end) before after
shown_so (stream.Ended (read.Ended Ended)) history shown setup outcome batch earlier bytes ended before after h = h.1
shown_so (stream.Ended (read.Ended (Cut offset))) history shown setup outcome batch earlier bytes ended before after h = h.1
shown_so (stream.Ended (read.Ended (Broken offset cause))) history shown setup outcome batch earlier bytes ended before after h = h.1
shown_so (stream.Ended read.Spent) history shown setup outcome batch earlier bytes ended before after h = h.1
shown_so (stream.Ended read.ReadFault) history shown setup outcome batch earlier bytes ended before after h = h.1
shown_so stream.Closed history shown setup outcome batch earlier bytes ended before after h = h.1
shown_so stream.WriteFault history shown setup outcome batch earlier bytes ended before after h = (h.1, h.2)

-- no write failed where memory ran out
began_still : (shown : Shown) (setup : SetupData) (outcome : List ℕ → JobRecord → Outcome) (batch : ℕ) (earlier bytes : List ℕ) (ended : Bool)
    (out out' : SinkState) → BeganShowing shown setup outcome batch earlier bytes ended out out' → out'.faults ≡ out.faults
began_still Bytes setup outcome batch earlier bytes ended out out' (inl same) = ap (λ (o : SinkState). o.faults) same
began_still Bytes setup outcome batch earlier bytes ended out out' (inr ran) = ran.faults
began_still Text setup outcome batch earlier bytes ended out out' same = ap (λ (o : SinkState). o.faults) same
began_still Trace setup outcome batch earlier bytes ended out out' (inl same) = ap (λ (o : SinkState). o.faults) same
began_still Trace setup outcome batch earlier bytes ended out out' (inr began) = began.wrote.1

run_faults : (ran : Result Piped NoMemory) (shown : Shown) (setup : SetupData) (outcome : List ℕ → JobRecord → Outcome) (batch : ℕ) (earlier bytes : List ℕ) (ended : Bool)
    (before after : Moment) → PipesBytes ran shown setup outcome batch earlier bytes ended before.input after.input before.out after.out
    → RunFaults (note_of ran) before after
run_faults (Ok ran) shown setup outcome batch earlier bytes ended before after h =
    shown_so ran.end ran.history.items shown setup outcome batch earlier bytes ended before after h
run_faults (Err e) shown setup outcome batch earlier bytes ended before after h = began_still shown setup outcome batch earlier bytes ended before.out after.out h.0

ran_faults : (words : PipeWords) (broker : Broker) (note : Note) (piped : Option Piped) (before after : Moment)
    → (ran : Ran words broker note piped before.input after.input before.out after.out) → RunFaults (note_of ran.answer) before after
ran_faults words broker note piped before after ran =
    run_faults ran.answer words.shown broker.setup (outcome_of (served_of broker.servants)) words.batch ran.pipes.earlier ran.pipes.bytes ran.pipes.ended before after ran.pipes.came

-- the same beside a store none of whose reads failed
with_store_run : (end : StreamEnd) (before after : Moment) → after.files.faults ≡ before.files.faults → RunFaults (note_of_run end) before after
    → ConfiguredFaults (note_of_run end) before after
with_store_run (stream.Ended (read.Ended Ended)) before after same h = (same, h)
with_store_run (stream.Ended (read.Ended (Cut offset))) before after same h = (same, h)
with_store_run (stream.Ended (read.Ended (Broken offset cause))) before after same h = (same, h)
with_store_run (stream.Ended read.Spent) before after same h = (same, h)
with_store_run (stream.Ended read.ReadFault) before after same h = inr (same, h)
with_store_run stream.Closed before after same h = (same, h)
with_store_run stream.WriteFault before after same h = (same, h.0, h.1)

with_store : (ran : Result Piped NoMemory) (before after : Moment) → after.files.faults ≡ before.files.faults → RunFaults (note_of ran) before after
    → ConfiguredFaults (note_of ran) before after
with_store (Ok ran) before after same h = with_store_run ran.end before after same h
with_store (Err e) before after same h = (same, h)

-- ---- the counts where nothing was taken and nothing written

-- no count rose
still : (why note : Note) (piped : Option Piped) (before after : Moment) → Declined note why piped before.input after.input before.out after.out
    → (after.input.faults ≡ before.input.faults) × (after.out.faults ≡ before.out.faults)
still why note piped before after h = (ap (λ (s : SourceState). s.faults) h.input, ap (λ (o : SinkState). o.faults) h.output)

-- there is no setup with servants
declined_faults : (reason : SetupEnd) (note : Note) (piped : Option Piped) (before after : Moment) → SetupCount reason before.files.faults after.files.faults
    → Declined note (setup_note reason) piped before.input after.input before.out after.out → ConfiguredFaults (setup_note reason) before after
declined_faults (why.Refused f) note piped before after h d = (h, still (setup_note (why.Refused f)) note piped before after d)
declined_faults why.Absent note piped before after h d = (h, still (setup_note why.Absent) note piped before after d)
declined_faults why.TooLong note piped before after h d = (h, still (setup_note why.TooLong) note piped before after d)
declined_faults (why.Unserved (fault.Idl f)) note piped before after h d = (h, still (setup_note (why.Unserved (fault.Idl f))) note piped before after d)
declined_faults (why.Unserved (fault.Script f)) note piped before after h d = (h, still (setup_note (why.Unserved (fault.Script f))) note piped before after d)
declined_faults (why.Unserved (fault.Check f)) note piped before after h d = (h, still (setup_note (why.Unserved (fault.Check f))) note piped before after d)
declined_faults (why.Unserved (fault.Object f)) note piped before after h d = (h, still (setup_note (why.Unserved (fault.Object f))) note piped before after d)
declined_faults (why.Unserved (fault.Absent role)) note piped before after h d = (h, still (setup_note (why.Unserved (fault.Absent role))) note piped before after d)
declined_faults (why.Unserved (fault.TooLong role)) note piped before after h d = (h, still (setup_note (why.Unserved (fault.TooLong role))) note piped before after d)
declined_faults (why.Unserved fault.ReadFault) note piped before after h d = inl (h, d.input, d.output)
declined_faults (why.Unserved fault.NoMemory) note piped before after h d = (h, ap (λ (o : SinkState). o.faults) d.output)
declined_faults why.ReadFault note piped before after h d = inl (h, d.input, d.output)
declined_faults why.NoMemory note piped before after h d = (h, ap (λ (o : SinkState). o.faults) d.output)

-- the built-in setup has servants unless memory runs out
plain_wants : (reason : SetupEnd) (old new : FilesState) → GivesBroker (Err reason) None old new → (setup_note reason ≡ Memory) × (new.faults ≡ old.faults)
plain_wants (why.Unserved f) old new h =
    let gives : GivesServants (Err f) built_in h.between new = subst (λ (s : SetupData). GivesServants (Err f) s h.between new) h.given.0 h.serves in
    let wanting : f ≡ fault.NoMemory = built_in_has_servants f h.between new gives in
    let same : new.faults ≡ h.between.faults = subst (λ (x : ServingFault). GivesServants (Err x) built_in h.between new) wanting gives in
    (ap serving_note wanting, same ∙ ap (λ (s : FilesState). s.faults) h.given.1)
plain_wants (why.Refused f) old new h = absurd h
plain_wants why.Absent old new h = absurd h
plain_wants why.TooLong old new h = absurd h
plain_wants why.ReadFault old new h = absurd h
plain_wants why.NoMemory old new h = (refl, ap (λ (s : FilesState). s.faults) h)

-- ---- the pipe

faults_by : (config : Option (List ℕ)) (words : PipeWords) (note : Note) (piped : Option Piped) (before after : Moment) → words.config ≡ config
    → PipeAnswers words note piped before after → PipeFaults config note before after
faults_by (Some name) words note piped before after e (kept, inl (broker, gives, ran)) =
    subst (λ n. ConfiguredFaults n before after) (sym ran.told)
    (with_store ran.answer before after (broker_count broker words.config before.files after.files gives) (ran_faults words broker note piped before after ran))
faults_by (Some name) words note piped before after e (kept, inr (reason, gives, d)) =
    subst (λ n. ConfiguredFaults n before after) (sym d.told)
    (declined_faults reason note piped before after (end_count reason words.config before.files after.files gives) d)
faults_by None words note piped before after e (kept, inl (broker, gives, ran)) = (
  same_state after.files before.files kept (broker_count broker words.config before.files after.files gives),
  subst (λ n. RunFaults n before after) (sym ran.told) (ran_faults words broker note piped before after ran),
)
faults_by None words note piped before after e (kept, inr (reason, gives, d)) =
    let wants = plain_wants reason before.files after.files (subst (λ (c : Option (List ℕ)). GivesBroker (Err reason) c before.files after.files) e gives) in (
      same_state after.files before.files kept wants.1,
      subst (λ n. RunFaults n before after) (sym (d.told ∙ wants.0)) (ap (λ (o : SinkState). o.faults) d.output),
    )

-- few bytes were taken
few_taken : (words : PipeWords) (note : Note) (piped : Option Piped) (before after : Moment) → PipeAnswers words note piped before after
    → GaveFew MAX_TAKEN before.input after.input
few_taken words note piped before after (kept, inl (broker, gives, ran)) =
    record { bytes = ran.pipes.bytes; few = ran.pipes.takes.few; gave = ran.pipes.takes.gave }
few_taken words note piped before after (kept, inr (reason, gives, d)) =
    subst (λ (s : SourceState). GaveFew MAX_TAKEN before.input s) (sym d.input) (gave_none MAX_TAKEN before.input)

pub pipe_answers : (words : PipeWords) (answered : Reported) (before after : Moment) → PipeAnswers words answered.note answered.piped before after
    → answered.status ≡ status_of answered.note → Reports (Pipe words) answered before after
pipe_answers words answered before after h status = record {
  status = status;
  means = h;
  piped = tt;
  faults = faults_by words.config words answered.note answered.piped before after refl h;
  few = few_taken words answered.note answered.piped before after h;
}

-- ---- where memory runs out over the words, nothing was done

pub wanting_answers : (command : Meaning) (answered : Reported) (before : Moment) → answered.note ≡ Memory → answered.status ≡ 12 → answered.piped ≡ None
    → Reports command answered before before
wanting_answers (RefsAt place config) answered before note status none = at_wanting place config answered before note status none
wanting_answers (Pipe words) answered before note status none =
    pipe_answers words answered before before
    (refl, inr (why.NoMemory, broker_wanting words.config before.files, record { told = note; kept = none; input = refl; output = refl }))
    (status ∙ ap status_of (sym note))
wanting_answers (Idl name) answered before note status none = idl_wanting name answered before note status none
wanting_answers (Serve words) answered before note status none = record {
  status = status ∙ ap status_of (sym note);
  means = refl;
  piped = none;
  faults = (refl, subst (λ n. ServeFaults n before before) (sym note) (refl, refl));
  few = gave_none 0 before.input;
}
wanting_answers (Names at) answered before note status none = record {
  status = status ∙ ap status_of (sym note);
  means = refl;
  piped = none;
  faults = (refl, refl, subst (λ n. NamesFaults n before before) (sym note) refl);
  few = gave_none 0 before.input;
}
wanting_answers Dump answered before note status none = dump_wanting answered before note status none
wanting_answers Audit answered before note status none = audit_wanting answered before note status none
wanting_answers Refs answered before note status none = refs_wanting answered before note status none
wanting_answers Unread answered before note status none = unread_wanting answered before note status none
wanting_answers (Load words) answered before note status none = load_wanting words answered before note status none
wanting_answers (Call words) answered before note status none = record {
  status = status ∙ ap status_of (sym note);
  means = refl;
  piped = none;
  faults = (refl, subst (λ n. CallFaults n before before) (sym note) (refl, refl));
  few = gave_none 0 before.input;
}
wanting_answers (SharedCall words callers) answered before note status none = record {
  status = status ∙ ap status_of (sym note);
  means = refl;
  piped = none;
  faults = (refl, subst (λ n. CallFaults n before before) (sym note) (refl, refl));
  few = gave_none 0 before.input;
}
