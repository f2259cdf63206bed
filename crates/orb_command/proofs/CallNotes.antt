-- What a call of the command line answers.
use Rattle.std.proofs.Common.{◌≡◌, ℕ, List, [], Option, None, Some, refl, sym, ap, subst, inl, inr}
use Rattle.std.specs.Prelude.{Result, Ok, Err}
use Rattle.orb_base.specs.Filing.{FilesState}
use Rattle.orb_base.specs.Links.{AcceptorState}
use Rattle.orb_base.specs.Outside.{SourceState, SinkState}
use Rattle.orb_nets.specs.Nets.{NetState}
use Rattle.orb_nets.specs.declared.net_fault.NetFault.{NetFault}
use Rattle.orb_nets.specs.declared.net_fault.NetFault.TheVariants as net
use Rattle.idl_types.specs.Things.{OperationView}
use Rattle.idl_types.specs.declared.repository.Repository.{Repository}
use Rattle.client_stub.specs.Asking.{Asked}
use Rattle.client_calls.specs.Replies.{Outcome}
use Rattle.client_calls.specs.declared.call_fault.CallFault.{CallFault}
use Rattle.client_calls.specs.declared.call_fault.CallFault.TheVariants as fault
use Rattle.client_runs.specs.Exchanges.{TellsOf}
use Rattle.client_runs.specs.Interfaces.{Knows}
use Rattle.client_runs.specs.Runs.{CallsWith, Comes, Unconnected, end_of}
use Rattle.client_runs.specs.declared.call_end.CallEnd.{CallEnd}
use Rattle.client_runs.specs.declared.call_end.CallEnd.TheVariants as end
use Rattle.client_runs.specs.declared.call_end.FileFault.TheVariants as file
use Rattle.client_runs.specs.declared.call_words.CallWords.{CallWords}
use Rattle.client_runs.specs.declared.called.Called.{Called}
use Rattle.text_streams.proofs.CallerLemmas.{gave_none}
use Rattle.text_streams.specs.Streams.{GaveFew}
use Rattle.command_words.specs.declared.meaning.Meaning.TheVariants.{Call}
use Rattle.orb_command.specs.declared.answered.Answered.{Answered}
use Rattle.orb_command.specs.declared.call.CallTold.{CallTold}
use Rattle.orb_command.specs.declared.note.Note.TheVariants.{Memory}
use Rattle.orb_command.specs.CallAnswer.{note_of_end, note_of_fault, CallsSo}
use Rattle.orb_command.specs.Command.{status_of, Answers, call_told}
use Rattle.orb_command.specs.Faults.{CallFaults}
use Rattle.orb_command.specs.Moment.{Moment}

-- nothing is known out of memory
pub known_wanting : (idl : Option (List ℕ)) (files : FilesState) → Knows (Err end.NoMemory) idl files files
known_wanting (Some name) files = refl
known_wanting None files = refl

module _ {I O : Type 0} (source : I → SourceState) (sink : O → SinkState) where
  pub called_so : (words : CallWords) (answer : Called I O) (told : CallTold I O) (files files' : FilesState) (net net' : NetState I O) (out out' : SinkState)
      → told.note ≡ note_of_end answer.end → told.link ≡ answer.link → CallsWith source sink words answer files files' net net' out out'
      → files'.files ≡ files.files → net'.slots ≡ net.slots → CallsSo source sink words told files files' net net' out out'
  called_so words answer told files files' net net' out out' note link calls kept slots =
      record { answer = answer; note = note; link = link; calls = calls; kept = kept; slots = slots }

  -- where memory ran out over the words, nothing was done
  pub call_wanting : (words : CallWords) (told : CallTold I O) (files : FilesState) (net : NetState I O) (out : SinkState) → told.note ≡ Memory → told.link ≡ None
      → CallsSo source sink words told files files net net out out
  call_wanting words told files net out note link = record {
    answer = record { end = end.NoMemory; link = None };
    note = note;
    link = link;
    calls = inr (end.NoMemory, known_wanting words.idl files, record { why = refl; none = refl; unasked = refl; output = refl });
    kept = refl;
    slots = refl;
  }

-- ---- the counts

pub known_same : (r : Repository) (idl : Option (List ℕ)) (files files' : FilesState) → Knows (Ok r) idl files files' → files'.faults ≡ files.faults
known_same r (Some name) files files' h = h.1
known_same r None files files' h = ap (λ (s : FilesState). s.faults) h.1

-- a call that gave no results
pub fault_faults : (f : CallFault) (before after : Moment) → after.files.faults ≡ before.files.faults → after.out.faults ≡ before.out.faults
    → CallFaults (note_of_fault f) before after
fault_faults (fault.System x) before after same out = (same, out)
fault_faults (fault.User id) before after same out = (same, out)
fault_faults (fault.Forward n) before after same out = (same, out)
fault_faults (fault.Refused n f) before after same out = (same, out)
fault_faults fault.BadBody before after same out = (same, out)
fault_faults fault.Closed before after same out = (same, out)
fault_faults fault.ReadFault before after same out = out
fault_faults fault.WriteFault before after same out = same
fault_faults fault.Limit before after same out = (same, out)
fault_faults fault.NoMemory before after same out = (same, out)

-- a call over a connection, after the files were read
told_faults : (answer : CallEnd) (outcome : Outcome) (operation : OperationView) (before after : Moment) → after.files.faults ≡ before.files.faults
    → TellsOf answer outcome operation before.out after.out → CallFaults (note_of_end answer) before after
told_faults end.Done (Ok values) operation before after same h = (same, h.1)
told_faults end.WriteFault (Ok values) operation before after same h = same
told_faults end.NoMemory (Ok values) operation before after same h = (same, ap (λ (o : SinkState). o.faults) h)
told_faults (end.File f) (Ok values) operation before after same h = absurd h
told_faults (end.Local f) (Ok values) operation before after same h = absurd h
told_faults end.NetFault (Ok values) operation before after same h = absurd h
told_faults (end.Called f) (Ok values) operation before after same h = absurd h
told_faults answer (Err f) operation before after same h =
    subst (λ x. CallFaults (note_of_end x) before after) (sym h.0) (fault_faults f before after same (ap (λ (o : SinkState). o.faults) h.1))

-- without a connection
pub refused_faults : (why : NetFault) (before after : Moment) → after.files.faults ≡ before.files.faults → after.out.faults ≡ before.out.faults
    → CallFaults (note_of_end (end_of why)) before after
refused_faults net.Failed before after same out = (same, out)
refused_faults net.NoMemory before after same out = (same, out)

-- nothing is known
pub unknown_faults : (e : CallEnd) (idl : Option (List ℕ)) (before after : Moment) → Knows (Err e) idl before.files after.files → after.out.faults ≡ before.out.faults
    → CallFaults (note_of_end e) before after
unknown_faults (end.File (file.Refused f)) (Some name) before after h out = (h.1, out)
unknown_faults (end.File file.Absent) (Some name) before after h out = (h.1, out)
unknown_faults (end.File file.TooLong) (Some name) before after h out = (h.1, out)
unknown_faults (end.File file.ReadFault) (Some name) before after h out = out
unknown_faults end.NoMemory (Some name) before after h out = (h, out)
unknown_faults (end.Local f) (Some name) before after h out = absurd h
unknown_faults end.NetFault (Some name) before after h out = absurd h
unknown_faults (end.Called f) (Some name) before after h out = absurd h
unknown_faults end.WriteFault (Some name) before after h out = absurd h
unknown_faults end.Done (Some name) before after h out = absurd h
unknown_faults (end.File f) None before after h out = absurd h
unknown_faults end.NoMemory None before after h out = (ap (λ (s : FilesState). s.faults) h, out)
unknown_faults (end.Local f) None before after h out = absurd h
unknown_faults end.NetFault None before after h out = absurd h
unknown_faults (end.Called f) None before after h out = absurd h
unknown_faults end.WriteFault None before after h out = absurd h
unknown_faults end.Done None before after h out = absurd h

module _ {I O : Type 0} (source : I → SourceState) (sink : O → SinkState) where
  comes_faults : (asked : Asked) (called : Called I O) (answer : Result (I × O) NetFault) (before after : Moment) → after.files.faults ≡ before.files.faults
      → Comes source sink asked called answer before.out after.out → CallFaults (note_of_end called.end) before after
  comes_faults asked called (Ok link) before after same (new_source, new_sink, over) =
      told_faults called.end over.once.outcome asked.operation before after same over.once.tells
  comes_faults asked called (Err why) before after same (ended, none, out) =
      subst (λ x. CallFaults (note_of_end x) before after) (sym ended) (refused_faults why before after same (ap (λ (o : SinkState). o.faults) out))

  unconnected_faults : (called : Called I O) (e : CallEnd) (net net' : NetState I O) (before after : Moment) → CallFaults (note_of_end e) before after
      → Unconnected source sink called e net net' before.out after.out → CallFaults (note_of_end called.end) before after
  unconnected_faults called e net net' before after h un = subst (λ x. CallFaults (note_of_end x) before after) (sym un.why) h

  calls_faults : (words : CallWords) (called : Called I O) (net net' : NetState I O) (before after : Moment)
      → CallsWith source sink words called before.files after.files net net' before.out after.out → CallFaults (note_of_end called.end) before after
  calls_faults words called net net' before after (inl (r, knows, inl (asked, asks, once))) =
      comes_faults asked called once.answer before after (known_same r words.idl before.files after.files knows) once.comes
  calls_faults words called net net' before after (inl (r, knows, inr (inl (why, refuses, un)))) =
      unconnected_faults called (end.Local why) net net' before after
      (known_same r words.idl before.files after.files knows, ap (λ (o : SinkState). o.faults) un.output) un
  calls_faults words called net net' before after (inl (r, knows, inr (inr un))) =
      unconnected_faults called end.NoMemory net net' before after
      (known_same r words.idl before.files after.files knows, ap (λ (o : SinkState). o.faults) un.output) un
  calls_faults words called net net' before after (inr (e, knows, un)) =
      unconnected_faults called e net net' before after
      (unknown_faults e words.idl before after knows (ap (λ (o : SinkState). o.faults) un.output)) un

-- ---- the answers

module _ {A I O : Type 0} (state : A → AcceptorState I O) (source : I → SourceState) (sink : O → SinkState) where
  pub call_answers : (words : CallWords) (answered : Answered A I O) (before after : Moment) (net net' : NetState I O) → after.input ≡ before.input
      → CallsSo source sink words (call_told answered) before.files after.files net net' before.out after.out
      → answered.status ≡ status_of answered.note → answered.piped ≡ None → answered.runs.items ≡ [] → answered.names ≡ None → answered.acceptors.items ≡ []
      → answered.mux ≡ None → Answers state source sink (Call words) answered before after net net'
  call_answers words answered before after net net' same h status none run unnamed empty alone = record {
    reports = record {
      status = status;
      means = same;
      piped = none;
      faults = (same, subst (λ n. CallFaults n before after) (sym h.note) (calls_faults source sink words h.answer net net' before after h.calls));
      few = subst (λ (s : SourceState). GaveFew 0 before.input s) (sym same) (gave_none 0 before.input);
    };
    uses = (run, unnamed, empty, alone, h);
  }
