-- What a load answers, and which counts of faults rose.
use Rattle.std.proofs.Common.{◌≡◌, ◌∙◌, ℕ, List, None, refl, sym, ap, subst, inl, inr}
use Rattle.std.specs.Prelude.{Ok, Err}
use Rattle.orb_base.specs.Filing.{FilesState}
use Rattle.orb_base.specs.JobRecord.{JobRecord}
use Rattle.orb_base.specs.Outside.{SourceState, SinkState}
use Rattle.orb_base.specs.declared.outcome.Outcome.{Outcome}
use Rattle.adapter_policies.specs.SetupData.{SetupData}
use Rattle.dynamic_servants.specs.Outcome.{outcome_of}
use Rattle.dynamic_servants.specs.Served.{served_of}
use Rattle.setup_files.specs.Brokers.{GivesBroker}
use Rattle.setup_files.specs.declared.broker.Broker.{Broker}
use Rattle.setup_files.specs.declared.setup_end.SetupEnd.{SetupEnd}
use Rattle.setup_files.specs.declared.setup_end.SetupEnd.TheVariants as why
use Rattle.setup_files.proofs.Counts.{broker_count}
use Rattle.load_runs.specs.Loading.{Loads}
use Rattle.load_runs.specs.declared.load_end.LoadEnd.{LoadEnd}
use Rattle.load_runs.specs.declared.load_end.LoadEnd.TheVariants as end
use Rattle.load_runs.specs.declared.load_plan.LoadPlan.{LoadPlan}
use Rattle.text_streams.proofs.CallerLemmas.{gave_none}
use Rattle.text_streams.specs.Streams.{GaveFew}
use Rattle.command_words.specs.declared.meaning.LoadWords.{LoadWords}
use Rattle.command_words.specs.declared.meaning.Meaning.TheVariants.{Load}
use Rattle.orb_command.specs.declared.answered.Reported.{Reported}
use Rattle.orb_command.specs.declared.note.Note.{Note}
use Rattle.orb_command.specs.declared.note.Note.TheVariants.{Nothing, Usage, Config, Idl, Script, Check, TooLong, ReadFault, WriteFault, NetFault, Input, Absent, Reference, Local, System, User, Forward, Peer, PeerBody, Closed, Memory, Limit, Trace, Audit}
use Rattle.orb_command.specs.Command.{status_of, Reports}
use Rattle.orb_command.specs.Faults.{FiledFaults, LoadFaults}
use Rattle.orb_command.specs.LoadAnswer.{note_of_end, RanLoad, LoadsBy}
use Rattle.orb_command.specs.Moment.{Moment}
use Rattle.orb_command.specs.SetupNotes.{setup_note}
use Rattle.orb_command.proofs.AtLaws.{broker_faults, broker_wanting}

-- ---- a setup and its servants

pub ran_so : (words : LoadWords) (broker : Broker) (note : Note) (answer : LoadEnd) (out out' : SinkState) → note ≡ note_of_end answer
    → Loads answer broker.setup (outcome_of (served_of broker.servants)) words.plan out out' → RanLoad words broker note out out'
ran_so words broker note answer out out' told loads = record { answer = answer; told = told; loads = loads }

pub by_broker : (words : LoadWords) (broker : Broker) (note : Note) (files files' : FilesState) (out out' : SinkState)
    → files'.files ≡ files.files → GivesBroker (Ok broker) words.config files files' → RanLoad words broker note out out'
    → LoadsBy words note files files' out out'
by_broker words broker note files files' out out' kept gives ran = (kept, inl (broker, gives, ran))

pub by_none : (words : LoadWords) (reason : SetupEnd) (note : Note) (files files' : FilesState) (out : SinkState)
    → files'.files ≡ files.files → GivesBroker (Err reason) words.config files files' → note ≡ setup_note reason → LoadsBy words note files files' out out
by_none words reason note files files' out kept none told = (kept, inr (reason, none, record { told = told; output = refl }))

-- ---- the counts

-- a fault of a command over files is one of the load's
filed : (note : Note) (before after : Moment) → FiledFaults note before after → LoadFaults note before after
filed Limit before after h = absurd h
filed (Trace n) before after h = h
filed (Audit n m) before after h = h
filed Nothing before after h = h
filed Usage before after h = h
filed (Config f) before after h = h
filed (Idl f) before after h = h
filed (Script f) before after h = h
filed (Check f) before after h = h
filed (TooLong r) before after h = h
filed ReadFault before after h = h
filed WriteFault before after h = h
filed NetFault before after h = h
filed (Input n f) before after h = h
filed (Absent r) before after h = h
filed (Reference f) before after h = h
filed (Local f) before after h = h
filed (System x) before after h = h
filed (User id) before after h = h
filed (Forward n) before after h = h
filed (Peer n f) before after h = h
filed PeerBody before after h = h
filed Closed before after h = h
filed Memory before after h = h

-- of a run
load_faults : (answer : LoadEnd) (setup : SetupData) (outcome : List ℕ → JobRecord → Outcome) (plan : LoadPlan) (before after : Moment)
    → after.files.faults ≡ before.files.faults → Loads answer setup outcome plan before.out after.out → LoadFaults (note_of_end answer) before after
load_faults end.Done setup outcome plan before after same h = (same, h.wrote.2)
load_faults end.Closed setup outcome plan before after same h = (same, h.wrote.2)
load_faults end.WriteFault setup outcome plan before after same h = (same, h.wrote.1)
load_faults end.NoMemory setup outcome plan before after same h = (same, ap (λ (o : SinkState). o.faults) h)

faults_by : (words : LoadWords) (note : Note) (before after : Moment) → LoadsBy words note before.files after.files before.out after.out
    → LoadFaults note before after
faults_by words note before after (kept, inl (broker, gives, ran)) =
    subst (λ n. LoadFaults n before after) (sym ran.told)
    (load_faults ran.answer broker.setup (outcome_of (served_of broker.servants)) words.plan before after
    (broker_count broker words.config before.files after.files gives) ran.loads)
faults_by words note before after (kept, inr (reason, gives, un)) =
    subst (λ n. LoadFaults n before after) (sym un.told)
    (filed (setup_note reason) before after (broker_faults reason words.config before after gives un.output))

-- ---- the answers

pub load_answers : (words : LoadWords) (answered : Reported) (before after : Moment) → after.input ≡ before.input
    → LoadsBy words answered.note before.files after.files before.out after.out
    → answered.status ≡ status_of answered.note → answered.piped ≡ None → Reports (Load words) answered before after
load_answers words answered before after same h status none = record {
  status = status;
  means = record { loads = h; input = same };
  piped = none;
  faults = (same, faults_by words answered.note before after h);
  few = subst (λ (s : SourceState). GaveFew 0 before.input s) (sym same) (gave_none 0 before.input);
}

-- where memory runs out over the words, nothing was done
pub load_wanting : (words : LoadWords) (answered : Reported) (before : Moment) → answered.note ≡ Memory → answered.status ≡ 12 → answered.piped ≡ None
    → Reports (Load words) answered before before
load_wanting words answered before note status none =
    load_answers words answered before before refl
    (by_none words why.NoMemory answered.note before.files before.files before.out refl (broker_wanting words.config before.files) note)
    (status ∙ ap status_of (sym note)) none
