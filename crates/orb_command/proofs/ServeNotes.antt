-- What comes of a configuration for the server, and which counts of faults rose.
use Rattle.std.proofs.Common.{◌≡◌, ℕ, Bool, true, false, List, [], ◌∷◌, Some, None, refl, sym, ap, subst, ◌∙◌, inl, inr}
use Rattle.std.specs.Prelude.{Result, Ok, Err}
use Rattle.orb_base.specs.Filing.{FilesState}
use Rattle.orb_base.specs.JobRecord.{JobRecord}
use Rattle.orb_base.specs.Links.{AcceptorState}
use Rattle.orb_base.specs.Outside.{SourceState, SinkState, Rose}
use Rattle.orb_base.specs.Room.{Room}
use Rattle.orb_base.specs.declared.outcome.Outcome.{Outcome}
use Rattle.orb_nets.specs.Nets.{NetState}
use Rattle.orb_nets.specs.declared.net_fault.NetFault.{NetFault}
use Rattle.orb_nets.specs.declared.net_fault.NetFault.TheVariants as fault
use Rattle.adapter_policies.specs.SetupData.{SetupData}
use Rattle.dynamic_servants.specs.Outcome.{outcome_of}
use Rattle.dynamic_servants.specs.Served.{served_of}
use Rattle.setup_files.specs.Brokers.{GivesBroker}
use Rattle.setup_files.specs.declared.broker.Broker.{Broker}
use Rattle.setup_files.specs.declared.setup_end.SetupEnd.{SetupEnd}
use Rattle.setup_files.specs.declared.setup_end.SetupEnd.TheVariants as why
use Rattle.setup_files.proofs.Counts.{broker_count}
use Rattle.orb_server.specs.declared.run.Run.{Run}
use Rattle.server_runs.specs.Plans.{after_one, goes_on}
use Rattle.server_runs.proofs.Going.{goes_done}
use Rattle.server_runs.specs.RunLines.{WritesLines, lines_of}
use Rattle.server_runs.specs.Serving.{ServesAt, RanRuns, Comes, end_of}
use Rattle.server_runs.specs.declared.run_plan.RunPlan.{RunPlan}
use Rattle.server_runs.specs.declared.serve_end.ServeEnd.{ServeEnd}
use Rattle.server_runs.specs.declared.serve_end.ServeEnd.TheVariants as end
use Rattle.server_runs.specs.declared.run_at.Served.{Served}
use Rattle.text_streams.proofs.CallerLemmas.{gave_none}
use Rattle.text_streams.specs.Streams.{GaveFew}
use Rattle.command_words.specs.declared.meaning.Meaning.{Meaning}
use Rattle.command_words.specs.declared.meaning.Meaning.TheVariants.{Pipe, Serve, Names, Dump, Audit, Refs, RefsAt, Idl, Call, SharedCall, Load, Unread}
use Rattle.command_words.specs.declared.meaning.ServeWords.{ServeWords}
use Rattle.orb_command.specs.Command.{status_of, Answers, Unlinked, call_told, names_told, report_of, serve_told, shared_told}
use Rattle.orb_command.specs.Faults.{FiledFaults, ServeFaults}
use Rattle.orb_command.specs.Moment.{Moment}
use Rattle.orb_command.specs.ServeAnswer.{note_of_end, RanAt, ServesBy}
use Rattle.orb_command.specs.SetupNotes.{setup_note}
use Rattle.orb_command.specs.declared.serve.ServeTold.{ServeTold}
use Rattle.orb_command.specs.declared.answered.Answered.{Answered}
use Rattle.orb_command.specs.declared.answered.Reported.{Reported}
use Rattle.orb_command.specs.declared.note.Note.{Note}
use Rattle.orb_command.specs.declared.note.Note.TheVariants.{Nothing, Usage, Config, Idl as IdlNote, Script, Check, TooLong, ReadFault, WriteFault, NetFault as NetNote, Input, Absent, Reference, Local, System, User, Forward, Peer, PeerBody, Closed, Memory, Limit, Trace, Audit as AuditNote}
use Rattle.orb_command.proofs.AtLaws.{broker_faults}
use Rattle.orb_command.proofs.PipeNotes.{wanting_answers}
use Rattle.orb_command.proofs.CallNotes.{call_answers, call_wanting}
use Rattle.orb_command.proofs.SharedNotes.{shared_answers, shared_wanting}
use Rattle.orb_command.proofs.NamesNotes.{names_answers, names_wanting}
use Rattle.orb_command.proofs.Plain.{plain_answers}

-- ---- a setup and its servants

module _ {A I O : Type 0} (state : A → AcceptorState I O) (source : I → SourceState) (sink : O → SinkState) where
  pub ran_so : (words : ServeWords) (broker : Broker) (answer : Served A I O) (told : ServeTold A I O)
      (net net' : NetState I O) (out out' : SinkState) → told.note ≡ note_of_end answer.end → told.runs ≡ answer.runs → told.acceptors ≡ answer.acceptors
      → ServesAt state source sink broker.setup (outcome_of (served_of broker.servants)) words.at words.plan answer net net' out out'
      → RanAt state source sink words broker told net net' out out'
  ran_so words broker answer told net net' out out' note ran given serves = record {
    answer = answer;
    note = note;
    ran = ap (λ (r : Room (Run I O)). r.items) ran;
    given = ap (λ (r : Room A). r.items) given;
    serves = serves;
  }

  pub by_none : (words : ServeWords) (reason : SetupEnd) (told : ServeTold A I O) (files files' : FilesState)
      (net : NetState I O) (out : SinkState) → files'.files ≡ files.files → GivesBroker (Err reason) (Some words.config) files files'
      → told.note ≡ setup_note reason → told.runs.items ≡ [] → told.acceptors.items ≡ []
      → ServesBy state source sink words told files files' net net out out
  by_none words reason told files files' net out kept none note norun empty =
      (kept, inr (reason, none, record { note = note; none = norun; empty = empty; unasked = refl; output = refl }))

-- ---- the counts

-- a fault of a command over files is one of the server's
filed : (note : Note) (before after : Moment) → FiledFaults note before after → ServeFaults note before after
filed Nothing before after h = h
filed Usage before after h = h
filed (Config f) before after h = h
filed (IdlNote f) before after h = h
filed (Script f) before after h = h
filed (Check f) before after h = h
filed (TooLong r) before after h = h
filed ReadFault before after h = h
filed WriteFault before after h = h
filed NetNote before after h = absurd h
filed (Input n f) before after h = h
filed (Absent r) before after h = h
filed (Reference f) before after h = h
filed Memory before after h = h
filed Limit before after h = h
filed (Trace n) before after h = h
filed (AuditNote n m) before after h = h
filed (Local f) before after h = h
filed (System x) before after h = h
filed (User id) before after h = h
filed (Forward n) before after h = h
filed (Peer n f) before after h = h
filed PeerBody before after h = h
filed Closed before after h = h

-- what a server that came out so did to the output's count of faults
abbrev CountsRuns : ServeEnd → ℕ → ℕ → Type 0
CountsRuns end.Done old new = new ≡ old
CountsRuns end.NetFault old new = ⊥
CountsRuns end.WriteFault old new = Rose old new
CountsRuns end.NoMemory old new = new ≡ old

lines_count : (e : ServeEnd) (traced : Bool) (lines : List ℕ) (o o' : SinkState) → WritesLines e traced lines o o' → CountsRuns e o.faults o'.faults
lines_count end.Done traced lines o o' h = h.1
lines_count end.NetFault traced lines o o' h = absurd h
lines_count end.WriteFault traced lines o o' h = h.1
lines_count end.NoMemory true lines o o' h = h.1
lines_count end.NoMemory false lines o o' h = ap (λ (s : SinkState). s.faults) h

by_bool : {P : Type 0} (b : Bool) → (b ≡ true → P) → (b ≡ false → P) → P
by_bool true at_true at_false = at_true refl
by_bool false at_true at_false = at_false refl

-- by what became of its last run
ended_faults : (e : ServeEnd) (before after : Moment) → after.files.faults ≡ before.files.faults → CountsRuns e before.out.faults after.out.faults
    → ServeFaults (note_of_end e) before after
ended_faults end.Done before after same h = (same, h)
ended_faults end.NetFault before after same h = absurd h
ended_faults end.WriteFault before after same h = (same, h)
ended_faults end.NoMemory before after same h = (same, h)

module _ {A I O : Type 0} (state : A → AcceptorState I O) (source : I → SourceState) (sink : O → SinkState) where
  -- of runs over acceptors
  runs_count : (setup : SetupData) (outcome : List ℕ → JobRecord → Outcome) (plan : RunPlan) (e : ServeEnd) (runs : List (Run I O)) (before behind : List A)
      (o o' : SinkState) → RanRuns state source sink setup outcome plan e runs before behind o o' → CountsRuns e o.faults o'.faults
  runs_count setup outcome plan e [] before behind o o' h =
      subst (λ (x : ServeEnd). CountsRuns x o.faults o'.faults) (sym h.0) (ap (λ (s : SinkState). s.faults) h.2)
  runs_count setup outcome plan e (run ∷ runs) before behind o o' (between, mid, wrote, ran, lines, goes, ends) =
      let here = lines_count wrote plan.trace (lines_of plan.trace setup run.history.items) o mid lines in
      by_bool (goes_on wrote plan.runs run.slots.items)
      (λ going.
      let same = subst (λ (w : ServeEnd). CountsRuns w o.faults mid.faults) (goes_done wrote plan.runs run.slots.items going) here in
      subst (λ (n : ℕ). CountsRuns e n o'.faults) same (runs_count setup outcome (after_one plan) e runs between behind mid o' (goes going)))
      (λ rested.
      let last = ends rested in
      subst (λ (x : ServeEnd). CountsRuns x o.faults o'.faults) (sym last.0) (subst (λ (s : SinkState). CountsRuns wrote o.faults s.faults) (sym last.3) here))

  -- without acceptors
  closed_faults : (why : NetFault) (before after : Moment) → after.files.faults ≡ before.files.faults → after.out.faults ≡ before.out.faults
      → ServeFaults (note_of_end (end_of why)) before after
  closed_faults fault.Failed before after same out = (same, out)
  closed_faults fault.NoMemory before after same out = (same, out)

  listen_faults : (setup : SetupData) (outcome : List ℕ → JobRecord → Outcome) (plan : RunPlan) (served : Served A I O) (answer : Result (Room A) NetFault)
      (before after : Moment) → after.files.faults ≡ before.files.faults
      → Comes state source sink setup outcome plan served answer before.out after.out → ServeFaults (note_of_end served.end) before after
  listen_faults setup outcome plan served (Ok acceptors) before after same h =
      ended_faults served.end before after same
      (runs_count setup outcome plan served.end served.runs.items acceptors.items served.acceptors.items before.out after.out h)
  listen_faults setup outcome plan served (Err why) before after same h =
      subst (λ x. ServeFaults (note_of_end x) before after) (sym h.0) (closed_faults why before after same (ap (λ (o : SinkState). o.faults) h.3))

  served_faults : (words : ServeWords) (broker : Broker) (answer : Served A I O) (net net' : NetState I O) (before after : Moment)
      → after.files.faults ≡ before.files.faults
      → ServesAt state source sink broker.setup (outcome_of (served_of broker.servants)) words.at words.plan answer net net' before.out after.out
      → ServeFaults (note_of_end answer.end) before after
  served_faults words broker answer net net' before after same (inl once) =
      listen_faults broker.setup (outcome_of (served_of broker.servants)) words.plan answer once.answer before after same once.comes
  served_faults words broker answer net net' before after same (inr none) =
      subst (λ x. ServeFaults (note_of_end x) before after) (sym none.end) (same, ap (λ (o : SinkState). o.faults) none.output)

  ran_faults : (words : ServeWords) (broker : Broker) (told : ServeTold A I O) (net net' : NetState I O) (before after : Moment)
      → after.files.faults ≡ before.files.faults → RanAt state source sink words broker told net net' before.out after.out → ServeFaults told.note before after
  ran_faults words broker told net net' before after same h =
      subst (λ n. ServeFaults n before after) (sym h.note) (served_faults words broker h.answer net net' before after same h.serves)

  serve_faults : (words : ServeWords) (told : ServeTold A I O) (net net' : NetState I O) (before after : Moment)
      → ServesBy state source sink words told before.files after.files net net' before.out after.out → ServeFaults told.note before after
  serve_faults words told net net' before after (kept, inl (broker, gives, ran)) =
      ran_faults words broker told net net' before after (broker_count broker (Some words.config) before.files after.files gives) ran
  serve_faults words told net net' before after (kept, inr (reason, gives, un)) =
      subst (λ n. ServeFaults n before after) (sym un.note)
      (filed (setup_note reason) before after (broker_faults reason (Some words.config) before after gives un.output))

  -- ---- the answers

  pub serve_answers : (words : ServeWords) (answered : Answered A I O) (before after : Moment) (net net' : NetState I O) → after.input ≡ before.input
      → ServesBy state source sink words (serve_told answered) before.files after.files net net' before.out after.out
      → answered.status ≡ status_of answered.note → answered.piped ≡ None → answered.names ≡ None → Unlinked answered → Answers state source sink (Serve words) answered before after net net'
  serve_answers words answered before after net net' same h status none unnamed link = record {
    reports = record {
      status = status;
      means = same;
      piped = none;
      faults = (same, serve_faults words (serve_told answered) net net' before after h);
      few = subst (λ (s : SourceState). GaveFew 0 before.input s) (sym same) (gave_none 0 before.input);
    };
    uses = (unnamed, link, h);
  }

  -- where memory runs out over the words, nothing was done
  pub wanting : (command : Meaning) (reported : Reported) (answered : Answered A I O) (before : Moment) (net : NetState I O)
      → reported.note ≡ Memory → reported.status ≡ 12 → reported.piped ≡ None → report_of answered ≡ reported → answered.runs.items ≡ [] → answered.names ≡ None → answered.acceptors.items ≡ []
      → Unlinked answered → Answers state source sink command answered before before net net
  wanting (Serve words) reported answered before net note status none same run unnamed empty link =
      let told : answered.note ≡ Memory = ap (λ (r : Reported). r.note) same ∙ note in
      serve_answers words answered before before net net refl
      (by_none state source sink words why.NoMemory (serve_told answered) before.files before.files net before.out refl refl told run empty)
      (ap (λ (r : Reported). r.status) same ∙ (status ∙ ap status_of (sym told))) (ap (λ (r : Reported). r.piped) same ∙ none) unnamed link
  wanting (Names at) reported answered before net note status none same run unnamed empty link =
      let told : answered.note ≡ Memory = ap (λ (r : Reported). r.note) same ∙ note in
      names_answers state source sink at answered before before net net refl refl
      (names_wanting state source sink at (names_told answered) net before.out told unnamed empty)
      (ap (λ (r : Reported). r.status) same ∙ (status ∙ ap status_of (sym told))) (ap (λ (r : Reported). r.piped) same ∙ none) run link
  wanting (Call words) reported answered before net note status none same run unnamed empty link =
      let told : answered.note ≡ Memory = ap (λ (r : Reported). r.note) same ∙ note in
      call_answers state source sink words answered before before net net refl
      (call_wanting source sink words (call_told answered) before.files net before.out told link.0)
      (ap (λ (r : Reported). r.status) same ∙ (status ∙ ap status_of (sym told))) (ap (λ (r : Reported). r.piped) same ∙ none) run unnamed empty link.1
  wanting (SharedCall words callers) reported answered before net note status none same run unnamed empty link =
      let told : answered.note ≡ Memory = ap (λ (r : Reported). r.note) same ∙ note in
      shared_answers state source sink words callers answered before before net net refl
      (shared_wanting source sink (record { words = words; callers = callers }) (shared_told answered) before.files net before.out told link.1 link.0)
      (ap (λ (r : Reported). r.status) same ∙ (status ∙ ap status_of (sym told))) (ap (λ (r : Reported). r.piped) same ∙ none) run unnamed empty
  wanting (Pipe words) reported answered before net note status none same run unnamed empty link =
      plain_answers state source sink (Pipe words) reported answered before before net tt (wanting_answers (Pipe words) reported before note status none) same run unnamed empty link
  wanting (RefsAt place config) reported answered before net note status none same run unnamed empty link =
      plain_answers state source sink (RefsAt place config) reported answered before before net tt (wanting_answers (RefsAt place config) reported before note status none) same run unnamed empty link
  wanting (Idl name) reported answered before net note status none same run unnamed empty link =
      plain_answers state source sink (Idl name) reported answered before before net tt (wanting_answers (Idl name) reported before note status none) same run unnamed empty link
  wanting (Load words) reported answered before net note status none same run unnamed empty link =
      plain_answers state source sink (Load words) reported answered before before net tt (wanting_answers (Load words) reported before note status none) same run unnamed empty link
  wanting Dump reported answered before net note status none same run unnamed empty link =
      plain_answers state source sink Dump reported answered before before net tt (wanting_answers Dump reported before note status none) same run unnamed empty link
  wanting Audit reported answered before net note status none same run unnamed empty link =
      plain_answers state source sink Audit reported answered before before net tt (wanting_answers Audit reported before note status none) same run unnamed empty link
  wanting Refs reported answered before net note status none same run unnamed empty link =
      plain_answers state source sink Refs reported answered before before net tt (wanting_answers Refs reported before note status none) same run unnamed empty link
  wanting Unread reported answered before net note status none same run unnamed empty link =
      plain_answers state source sink Unread reported answered before before net tt (wanting_answers Unread reported before note status none) same run unnamed empty link
