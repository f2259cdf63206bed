-- What comes of the words of a name service, and which counts of faults rose.
use Rattle.std.proofs.Common.{◌≡◌, ℕ, List, [], Some, None, refl, sym, ap, subst, ◌∙◌, inl, inr}
use Rattle.std.specs.Prelude.{Option, Result, Ok, Err}
use Rattle.orb_base.specs.Links.{AcceptorState}
use Rattle.orb_base.specs.Outside.{SourceState, SinkState, Rose}
use Rattle.orb_base.specs.Room.{Room}
use Rattle.orb_nets.specs.Nets.{NetState, CountsNetFault}
use Rattle.orb_nets.specs.declared.net_fault.NetFault.{NetFault}
use Rattle.orb_nets.specs.declared.net_fault.NetFault.TheVariants as fault
use Rattle.object_lines.specs.Addresses.{Place}
use Rattle.names_runs.specs.Lines.{line_of, WritesLine}
use Rattle.names_runs.specs.declared.line.WroteLine.{WroteLine}
use Rattle.names_runs.specs.declared.line.WroteLine.TheVariants as line
use Rattle.names_runs.specs.declared.run.NamesRun.{NamesRun}
use Rattle.names_server.specs.Serving.{NamesAt, MakesRun, Comes, end_of, end_of_line}
use Rattle.names_server.specs.declared.run_at.NamesServed.{NamesServed}
use Rattle.names_server.specs.declared.names_end.NamesEnd.{NamesEnd}
use Rattle.names_server.specs.declared.names_end.NamesEnd.TheVariants as end
use Rattle.text_streams.proofs.CallerLemmas.{gave_none}
use Rattle.text_streams.specs.Streams.{GaveFew}
use Rattle.command_words.specs.declared.meaning.Meaning.TheVariants.{Names}
use Rattle.orb_command.specs.Command.{status_of, Answers, Unlinked, names_told}
use Rattle.orb_command.specs.Faults.{NamesFaults}
use Rattle.orb_command.specs.Moment.{Moment}
use Rattle.orb_command.specs.NamesAnswer.{note_of_end, NamesBy}
use Rattle.orb_command.specs.declared.answered.Answered.{Answered}
use Rattle.orb_command.specs.declared.names.NamesTold.{NamesTold}
use Rattle.orb_command.specs.declared.note.Note.TheVariants.{Memory}

-- what a name service that came out so did to the output's count of faults
abbrev CountsLine : NamesEnd → ℕ → ℕ → Type 0
CountsLine end.Done old new = new ≡ old
CountsLine end.NetFault old new = new ≡ old
CountsLine end.WriteFault old new = Rose old new
CountsLine end.NoMemory old new = new ≡ old

line_count : (wrote : WroteLine) (text : List ℕ) (o o' : SinkState) → WritesLine wrote text o o' → CountsLine (end_of_line wrote) o.faults o'.faults
line_count line.Whole text o o' h = h.1
line_count line.Failed text o o' h = h.1
line_count line.NoMemory text o o' h = ap (λ (s : SinkState). s.faults) h

ended : (e : NamesEnd) (before after : Moment) → CountsLine e before.out.faults after.out.faults → NamesFaults (note_of_end e) before after
ended end.Done before after h = h
ended end.NetFault before after h = h
ended end.WriteFault before after h = h
ended end.NoMemory before after h = h

closed : (why : NetFault) (old new : ℕ) → new ≡ old → CountsLine (end_of why) old new
closed fault.Failed old new h = h
closed fault.NoMemory old new h = h

-- a name service whose line was written has no fault of the net
line_end : (wrote : WroteLine) → end_of_line wrote ≡ end.NetFault → ⊥
line_end line.Whole e = let no : end.Done ≡ end.NetFault = e in cc
line_end line.Failed e = let no : end.WriteFault ≡ end.NetFault = e in cc
line_end line.NoMemory e = let no : end.NoMemory ≡ end.NetFault = e in cc

module _ {A I O : Type 0} (state : A → AcceptorState I O) (source : I → SourceState) (sink : O → SinkState) where
  pub told_so : (at : Place) (answer : NamesServed A I O) (told : NamesTold A I O) (net net' : NetState I O) (out out' : SinkState)
      → told.note ≡ note_of_end answer.end → told.run ≡ answer.run → told.acceptors ≡ answer.acceptors → NamesAt state source sink at answer net net' out out'
      → NamesBy state source sink at told net net' out out'
  told_so at answer told net net' out out' note ran given serves =
      record { answer = answer; note = note; ran = ran; given = given; serves = serves }

  -- ---- the counts

  made_count : (e : NamesEnd) (run : Option (NamesRun I O)) (before behind : List A) (o o' : SinkState)
      → MakesRun state source sink e run before behind o o' → CountsLine e o.faults o'.faults
  made_count e (Some run) before behind o o' h =
      let w = h.1 in
      subst (λ (x : NamesEnd). CountsLine x o.faults o'.faults) (sym w.1) (line_count w.0 (line_of run) o o' w.2)
  made_count e None before behind o o' h =
      subst (λ (x : NamesEnd). CountsLine x o.faults o'.faults) (sym h.0) (ap (λ (s : SinkState). s.faults) h.2)

  come_count : (served : NamesServed A I O) (answer : Result (Room A) NetFault) (o o' : SinkState) → Comes state source sink served answer o o'
      → CountsLine served.end o.faults o'.faults
  come_count served (Ok all) o o' h = made_count served.end served.run all.items served.acceptors.items o o' h
  come_count served (Err why) o o' h =
      subst (λ (x : NamesEnd). CountsLine x o.faults o'.faults) (sym h.0) (closed why o.faults o'.faults (ap (λ (s : SinkState). s.faults) h.3))

  at_count : (at : Place) (served : NamesServed A I O) (net net' : NetState I O) (o o' : SinkState) → NamesAt state source sink at served net net' o o'
      → CountsLine served.end o.faults o'.faults
  at_count at served net net' o o' (inl h) = come_count served h.answer o o' h.comes
  at_count at served net net' o o' (inr h) =
      subst (λ (x : NamesEnd). CountsLine x o.faults o'.faults) (sym h.end) (ap (λ (s : SinkState). s.faults) h.output)

  names_faults : (at : Place) (told : NamesTold A I O) (net net' : NetState I O) (before after : Moment)
      → NamesBy state source sink at told net net' before.out after.out → NamesFaults told.note before after
  names_faults at told net net' before after h =
      subst (λ n. NamesFaults n before after) (sym h.note)
      (ended h.answer.end before after (at_count at h.answer net net' before.out after.out h.serves))

  -- ---- the net

  -- a made run has no fault of the net
  made_asked : (e : NamesEnd) (run : Option (NamesRun I O)) (before behind : List A) (o o' : SinkState)
      → MakesRun state source sink e run before behind o o' → e ≡ end.NetFault → ⊥
  made_asked e (Some run) before behind o o' h same = let w = h.1 in line_end w.0 (sym w.1 ∙ same)
  made_asked e None before behind o o' h same = let no : end.NoMemory ≡ end.NetFault = sym h.0 ∙ same in cc

  come_asked : (served : NamesServed A I O) (answer : Result (Room A) NetFault) (net net' : NetState I O) (o o' : SinkState)
      → ¬ Rose net.faults net'.faults → CountsNetFault answer net net' → Comes state source sink served answer o o' → served.end ≡ end.NetFault → ⊥
  come_asked served (Ok all) net net' o o' well counts h same = made_asked served.end served.run all.items served.acceptors.items o o' h same
  come_asked served (Err fault.Failed) net net' o o' well counts h same = well counts.1
  come_asked served (Err fault.NoMemory) net net' o o' well counts h same = let no : end.NoMemory ≡ end.NetFault = sym h.0 ∙ same in cc

  -- listening failed only where the count of the net rose
  pub names_asked : (at : Place) (served : NamesServed A I O) (net net' : NetState I O) (o o' : SinkState) → ¬ Rose net.faults net'.faults
      → NamesAt state source sink at served net net' o o' → served.end ≡ end.NetFault → ⊥
  names_asked at served net net' o o' well (inl h) same = come_asked served h.answer net net' o o' well h.faults h.comes same
  names_asked at served net net' o o' well (inr h) same = let no : end.NoMemory ≡ end.NetFault = sym h.end ∙ same in cc

  -- ---- the answers

  pub names_answers : (at : Place) (answered : Answered A I O) (before after : Moment) (net net' : NetState I O) → after.input ≡ before.input
      → after.files ≡ before.files → NamesBy state source sink at (names_told answered) net net' before.out after.out
      → answered.status ≡ status_of answered.note → answered.piped ≡ None → answered.runs.items ≡ [] → Unlinked answered
      → Answers state source sink (Names at) answered before after net net'
  names_answers at answered before after net net' same kept h status none run link = record {
    reports = record {
      status = status;
      means = same;
      piped = none;
      faults = (same, kept, names_faults at (names_told answered) net net' before after h);
      few = subst (λ (s : SourceState). GaveFew 0 before.input s) (sym same) (gave_none 0 before.input);
    };
    uses = (run, link, h);
  }

  -- where memory runs out over the words, nothing was done
  pub names_wanting : (at : Place) (told : NamesTold A I O) (net : NetState I O) (out : SinkState) → told.note ≡ Memory → told.run ≡ None
      → told.acceptors.items ≡ [] → NamesBy state source sink at told net net out out
  names_wanting at told net out note none empty = record {
    answer = record { end = end.NoMemory; run = told.run; acceptors = told.acceptors };
    note = note;
    ran = refl;
    given = refl;
    serves = inr (record { end = refl; none = none; empty = empty; unasked = refl; output = refl });
  }
