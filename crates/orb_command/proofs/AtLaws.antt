-- The answers of the top call where its words mean the references of objects at an address, and the counts of faults where there is no
-- setup with servants.
use Rattle.std.proofs.Common.{◌≡◌, ℕ, List, refl, ap, ◌∙◌, subst, sym}
use Rattle.std.specs.Prelude.{Option, Some, None, Err}
use Rattle.orb_base.specs.Filing.{FilesState}
use Rattle.orb_base.specs.Outside.{SinkState, SourceState}
use Rattle.setup_servants.specs.declared.fault.ServingFault.TheVariants as fault
use Rattle.setup_files.specs.Brokers.{GivesBroker}
use Rattle.setup_files.specs.declared.setup_end.SetupEnd.{SetupEnd}
use Rattle.setup_files.specs.declared.setup_end.SetupEnd.TheVariants as why
use Rattle.setup_files.proofs.Counts.{SetupCount, broker_count, end_count}
use Rattle.object_lines.specs.Addresses.{Place}
use Rattle.object_lines.specs.Lines.{At}
use Rattle.object_lines.specs.declared.at_end.AtEnd.{AtEnd}
use Rattle.object_lines.specs.declared.at_end.AtEnd.TheVariants as end
use Rattle.text_streams.proofs.CallerLemmas.{gave_none}
use Rattle.text_streams.specs.Streams.{GaveFew}
use Rattle.orb_command.specs.declared.answered.Reported.{Reported}
use Rattle.command_words.specs.declared.meaning.Meaning.TheVariants.{RefsAt}
use Rattle.orb_command.specs.declared.note.Note.TheVariants.{Memory}
use Rattle.orb_command.specs.Moment.{Moment}
use Rattle.orb_command.specs.AtAnswer.{at_note}
use Rattle.orb_command.specs.SetupNotes.{setup_note}
use Rattle.orb_command.specs.Command.{status_of, Reports}
use Rattle.orb_command.specs.Faults.{FiledFaults}

filed_of : (reason : SetupEnd) (before after : Moment) → SetupCount reason before.files.faults after.files.faults → after.out.faults ≡ before.out.faults
    → FiledFaults (setup_note reason) before after
filed_of (why.Refused f) before after h out = (h, out)
filed_of why.Absent before after h out = (h, out)
filed_of why.TooLong before after h out = (h, out)
filed_of (why.Unserved (fault.Idl f)) before after h out = (h, out)
filed_of (why.Unserved (fault.Script f)) before after h out = (h, out)
filed_of (why.Unserved (fault.Check f)) before after h out = (h, out)
filed_of (why.Unserved (fault.Object f)) before after h out = (h, out)
filed_of (why.Unserved (fault.Absent role)) before after h out = (h, out)
filed_of (why.Unserved (fault.TooLong role)) before after h out = (h, out)
filed_of (why.Unserved fault.ReadFault) before after h out = (h, out)
filed_of (why.Unserved fault.NoMemory) before after h out = (h, out)
filed_of why.ReadFault before after h out = (h, out)
filed_of why.NoMemory before after h out = (h, out)

-- the counts where there is no setup with servants
pub broker_faults : (reason : SetupEnd) (config : Option (List ℕ)) (before after : Moment) → GivesBroker (Err reason) config before.files after.files
    → after.out ≡ before.out → FiledFaults (setup_note reason) before after
broker_faults reason config before after h out =
    filed_of reason before after (end_count reason config before.files after.files h) (ap (λ (o : SinkState). o.faults) out)

-- the counts of a run
at_faults : (answer : AtEnd) (place : Place) (config : Option (List ℕ)) (before after : Moment)
    → At answer config place before.files after.files before.out after.out → FiledFaults (at_note answer) before after
at_faults end.Done place config before after h = (broker_count h.0 config before.files after.files h.1, h.2.1)
at_faults end.WriteFault place config before after h = (broker_count h.0 config before.files after.files h.1, h.2.1)
at_faults end.NoMemory place config before after h = (broker_count h.0 config before.files after.files h.1, ap (λ (o : SinkState). o.faults) h.2)
at_faults (end.NoBroker reason) place config before after h = broker_faults reason config before after h.0 h.1

pub at_answers : (answer : AtEnd) (place : Place) (config : Option (List ℕ)) (answered : Reported) (before after : Moment)
    → after.input ≡ before.input → At answer config place before.files after.files before.out after.out
    → answered.note ≡ at_note answer → answered.status ≡ status_of (at_note answer) → answered.piped ≡ None → Reports (RefsAt place config) answered before after
at_answers answer place config answered before after same h note status none = record {
  status = status ∙ ap status_of (sym note);
  means = record { answer = answer; told = note; at = h; input = same };
  piped = none;
  faults = (same, subst (λ n. FiledFaults n before after) (sym note) (at_faults answer place config before after h));
  few = subst (λ (s : SourceState). GaveFew 0 before.input s) (sym same) (gave_none 0 before.input);
}

-- where memory runs out over the words, nothing was done
pub broker_wanting : (config : Option (List ℕ)) (files : FilesState) → GivesBroker (Err why.NoMemory) config files files
broker_wanting (Some name) files = refl
broker_wanting None files = refl

pub at_wanting : (place : Place) (config : Option (List ℕ)) (answered : Reported) (before : Moment) → answered.note ≡ Memory → answered.status ≡ 12 → answered.piped ≡ None
    → Reports (RefsAt place config) answered before before
at_wanting place config answered before note status none =
    at_answers (end.NoBroker why.NoMemory) place config answered before before refl (broker_wanting config before.files, refl) note status none
