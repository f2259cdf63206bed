-- The answers of the top call where its words mean the listing of a file.
use Rattle.std.proofs.Common.{◌≡◌, ℕ, List, None, refl, ap, ◌∙◌, subst, sym}
use Rattle.orb_base.specs.Outside.{SinkState, SourceState}
use Rattle.idl_types.specs.Things.{Thing}
use Rattle.idl_reader.specs.Whole.{text_things}
use Rattle.idl_lines.specs.Texts.{FileTells, IsTold}
use Rattle.idl_lines.specs.Ending.{Lists, ListsExactly, OnlyLists}
use Rattle.idl_lines.specs.declared.idl_end.IdlEnd.{IdlEnd}
use Rattle.idl_lines.specs.declared.idl_end.IdlEnd.TheVariants as end
use Rattle.text_streams.proofs.CallerLemmas.{gave_none}
use Rattle.text_streams.specs.Streams.{GaveFew}
use Rattle.orb_command.specs.declared.answered.Reported.{Reported}
use Rattle.command_words.specs.declared.meaning.Meaning.TheVariants.{Idl}
use Rattle.orb_command.specs.declared.note.Note.TheVariants.{Memory}
use Rattle.orb_command.specs.Moment.{Moment}
use Rattle.orb_command.specs.IdlAnswer.{idl_note}
use Rattle.orb_command.specs.Command.{status_of, Reports}
use Rattle.orb_command.specs.Faults.{FiledFaults}

-- the counts of a run
idl_faults : (answer : IdlEnd) (name : List ℕ) (before after : Moment) → Lists answer name before.files after.files before.out after.out
    → FiledFaults (idl_note answer) before after
idl_faults end.Done name before after h = (h.1, h.0.ends.1)
idl_faults (end.Refused f) name before after h = (h.1, ap (λ (o : SinkState). o.faults) h.2)
idl_faults end.Absent name before after h = (h.1, ap (λ (o : SinkState). o.faults) h.2)
idl_faults end.TooLong name before after h = (h.1, ap (λ (o : SinkState). o.faults) h.2)
idl_faults end.ReadFault name before after h = (h.0, ap (λ (o : SinkState). o.faults) h.1)
idl_faults end.WriteFault name before after h = (h.1, h.0.ends.1)
idl_faults end.NoMemory name before after h = (h.0, ap (λ (o : SinkState). o.faults) h.1)

pub idl_answers : (answer : IdlEnd) (name : List ℕ) (answered : Reported) (before after : Moment)
    → after.input ≡ before.input → Lists answer name before.files after.files before.out after.out
    → ((things : List Thing) → FileTells before.files name things → OnlyLists answer things before.out after.out)
    → ((bytes : List ℕ) → IsTold before.files name bytes → ListsExactly answer (text_things bytes) before.out after.out)
    → answered.note ≡ idl_note answer → answered.status ≡ status_of (idl_note answer) → answered.piped ≡ None → Reports (Idl name) answered before after
idl_answers answer name answered before after same h only exact note status none = record {
  status = status ∙ ap status_of (sym note);
  means = record { answer = answer; told = note; lists = h; only = only; exact = exact; input = same };
  piped = none;
  faults = (same, subst (λ n. FiledFaults n before after) (sym note) (idl_faults answer name before after h));
  few = subst (λ (s : SourceState). GaveFew 0 before.input s) (sym same) (gave_none 0 before.input);
}

-- where memory runs out over the words, nothing was done
pub idl_wanting : (name : List ℕ) (answered : Reported) (before : Moment) → answered.note ≡ Memory → answered.status ≡ 12 → answered.piped ≡ None
    → Reports (Idl name) answered before before
idl_wanting name answered before note status none = idl_answers end.NoMemory name answered before before refl (refl, refl) (λ things tells. tt) (λ bytes told. tt) note status none
