-- What a call of several callers answers.
use Rattle.std.proofs.Common.{◌≡◌, ℕ, List, [], None, refl, sym, ap, subst, inl, inr}
use Rattle.std.specs.Prelude.{Result, Ok, Err}
use Rattle.orb_base.specs.Filing.{FilesState}
use Rattle.orb_base.specs.Links.{AcceptorState}
use Rattle.orb_base.specs.Outside.{SourceState, SinkState}
use Rattle.orb_nets.specs.Nets.{NetState}
use Rattle.orb_nets.specs.declared.net_fault.NetFault.{NetFault}
use Rattle.idl_types.specs.Things.{OperationView}
use Rattle.client_stub.specs.Asking.{Asked}
use Rattle.client_calls.specs.Replies.{Outcome}
use Rattle.client_runs.specs.declared.call_end.CallEnd.{CallEnd}
use Rattle.client_runs.specs.declared.call_end.CallEnd.TheVariants as end
use Rattle.client_runs.specs.declared.call_words.CallWords.{CallWords}
use Rattle.shared_calls.specs.Lines.{WritesLines}
use Rattle.shared_calls.specs.Results.{results_of}
use Rattle.shared_calls.specs.Runs.{Team, Comes, Unconnected, SharesWith}
use Rattle.shared_calls.specs.declared.shared_call.SharedCall.{SharedCall}
use Rattle.text_streams.proofs.CallerLemmas.{gave_none}
use Rattle.text_streams.specs.Streams.{GaveFew}
use Rattle.command_words.specs.declared.meaning.Meaning.TheVariants as meaning
use Rattle.orb_command.specs.declared.answered.Answered.{Answered}
use Rattle.orb_command.specs.declared.shared.SharedTold.{SharedTold}
use Rattle.orb_command.specs.declared.note.Note.TheVariants.{Memory}
use Rattle.orb_command.specs.CallAnswer.{note_of_end}
use Rattle.orb_command.specs.SharedAnswer.{SharesSo}
use Rattle.orb_command.specs.Command.{status_of, Answers, shared_told}
use Rattle.orb_command.specs.Faults.{CallFaults}
use Rattle.orb_command.specs.Moment.{Moment}
use Rattle.orb_command.proofs.CallNotes.{known_wanting, known_same, fault_faults, refused_faults, unknown_faults}

-- the lines of the callers, after the files were read
lines_faults : (e : CallEnd) (operation : OperationView) (results : List Outcome) (before after : Moment) → after.files.faults ≡ before.files.faults
    → WritesLines e operation results before.out after.out → CallFaults (note_of_end e) before after
lines_faults end.Done operation results before after same h = (same, h.2)
lines_faults (end.Called f) operation results before after same h = fault_faults f before after same h.2
lines_faults end.WriteFault operation results before after same h = same
lines_faults end.NoMemory operation results before after same h = (same, h.1)
lines_faults (end.File f) operation results before after same h = absurd h
lines_faults (end.Local f) operation results before after same h = absurd h
lines_faults end.NetFault operation results before after same h = absurd h

module _ {I O : Type 0} (source : I → SourceState) (sink : O → SinkState) where
  pub shared_so : (team : Team) (answer : SharedCall I O) (told : SharedTold I O) (files files' : FilesState) (net net' : NetState I O) (out out' : SinkState)
      → told.note ≡ note_of_end answer.end → told.run ≡ answer.run → told.link ≡ answer.link → SharesWith source sink team answer files files' net net' out out'
      → files'.files ≡ files.files → net'.slots ≡ net.slots → SharesSo source sink team told files files' net net' out out'
  shared_so team answer told files files' net net' out out' note run link shares kept slots =
      record { answer = answer; note = note; run = run; link = link; shares = shares; kept = kept; slots = slots }

  -- where memory ran out over the words, nothing was done
  pub shared_wanting : (team : Team) (told : SharedTold I O) (files : FilesState) (net : NetState I O) (out : SinkState) → told.note ≡ Memory → told.run ≡ None
      → told.link ≡ None → SharesSo source sink team told files files net net out out
  shared_wanting team told files net out note run link = record {
    answer = record { end = end.NoMemory; run = None; link = None };
    note = note;
    run = run;
    link = link;
    shares = inr (end.NoMemory, known_wanting team.words.idl files, record { why = refl; none = refl; unlinked = refl; unasked = refl; output = refl });
    kept = refl;
    slots = refl;
  }

  comes_faults : (asked : Asked) (callers : ℕ) (shared : SharedCall I O) (answer : Result (I × O) NetFault) (before after : Moment)
      → after.files.faults ≡ before.files.faults → Comes source sink asked callers shared answer before.out after.out → CallFaults (note_of_end shared.end) before after
  comes_faults asked callers shared (Ok link) before after same (new_source, new_sink, inl ran) =
      lines_faults shared.end asked.operation (results_of asked.operation ran.run.ends.items) before after same ran.lines
  comes_faults asked callers shared (Ok link) before after same (new_source, new_sink, inr not) =
      subst (λ x. CallFaults (note_of_end x) before after) (sym not.why) (same, ap (λ (o : SinkState). o.faults) not.output)
  comes_faults asked callers shared (Err why) before after same (ended, none, unlinked, out) =
      subst (λ x. CallFaults (note_of_end x) before after) (sym ended) (refused_faults why before after same (ap (λ (o : SinkState). o.faults) out))

  unconnected_faults : (shared : SharedCall I O) (e : CallEnd) (net net' : NetState I O) (before after : Moment) → CallFaults (note_of_end e) before after
      → Unconnected source sink shared e net net' before.out after.out → CallFaults (note_of_end shared.end) before after
  unconnected_faults shared e net net' before after h un = subst (λ x. CallFaults (note_of_end x) before after) (sym un.why) h

  shares_faults : (team : Team) (shared : SharedCall I O) (net net' : NetState I O) (before after : Moment)
      → SharesWith source sink team shared before.files after.files net net' before.out after.out → CallFaults (note_of_end shared.end) before after
  shares_faults team shared net net' before after (inl (r, knows, inl made)) =
      comes_faults made.asked team.callers shared made.once.answer before after (known_same r team.words.idl before.files after.files knows) made.once.comes
  shares_faults team shared net net' before after (inl (r, knows, inr (inl (why, refuses, un)))) =
      unconnected_faults shared (end.Local why) net net' before after
      (known_same r team.words.idl before.files after.files knows, ap (λ (o : SinkState). o.faults) un.output) un
  shares_faults team shared net net' before after (inl (r, knows, inr (inr un))) =
      unconnected_faults shared end.NoMemory net net' before after
      (known_same r team.words.idl before.files after.files knows, ap (λ (o : SinkState). o.faults) un.output) un
  shares_faults team shared net net' before after (inr (e, knows, un)) =
      unconnected_faults shared e net net' before after
      (unknown_faults e team.words.idl before after knows (ap (λ (o : SinkState). o.faults) un.output)) un

-- ---- the answers

module _ {A I O : Type 0} (state : A → AcceptorState I O) (source : I → SourceState) (sink : O → SinkState) where
  pub shared_answers : (words : CallWords) (callers : ℕ) (answered : Answered A I O) (before after : Moment) (net net' : NetState I O) → after.input ≡ before.input
      → SharesSo source sink (record { words = words; callers = callers }) (shared_told answered) before.files after.files net net' before.out after.out
      → answered.status ≡ status_of answered.note → answered.piped ≡ None → answered.runs.items ≡ [] → answered.names ≡ None → answered.acceptors.items ≡ []
      → Answers state source sink (meaning.SharedCall words callers) answered before after net net'
  shared_answers words callers answered before after net net' same h status none run unnamed empty = record {
    reports = record {
      status = status;
      means = same;
      piped = none;
      faults =
          (same, subst (λ n. CallFaults n before after) (sym h.note) (shares_faults source sink (record { words = words; callers = callers }) h.answer net net' before after h.shares));
      few = subst (λ (s : SourceState). GaveFew 0 before.input s) (sym same) (gave_none 0 before.input);
    };
    uses = (run, unnamed, empty, h);
  }
