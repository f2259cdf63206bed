-- What the note of `orb load` means.
use Rattle.std.specs.Prelude.{◌≡◌, ◌⊎◌, Ok, Err}
use Rattle.orb_base.specs.Filing.{FilesState}
use Rattle.orb_base.specs.Outside.{SinkState}
use Rattle.dynamic_servants.specs.Outcome.{outcome_of}
use Rattle.dynamic_servants.specs.Served.{served_of}
use Rattle.setup_files.specs.Brokers.{GivesBroker}
use Rattle.setup_files.specs.declared.broker.Broker.{Broker}
use Rattle.setup_files.specs.declared.setup_end.SetupEnd.{SetupEnd}
use Rattle.load_runs.specs.Loading.{Loads}
use Rattle.load_runs.specs.declared.load_end.LoadEnd.{LoadEnd}
use Rattle.load_runs.specs.declared.load_end.LoadEnd.TheVariants as end
use Rattle.command_words.specs.declared.meaning.LoadWords.{LoadWords}
use Rattle.orb_command.specs.Moment.{Moment}
use Rattle.orb_command.specs.SetupNotes.{setup_note}
use Rattle.orb_command.specs.declared.note.Note.{Note}
use Rattle.orb_command.specs.declared.note.Note.TheVariants.{Nothing, WriteFault, Memory, Limit}

-- the note of how a load came out
abbrev pub note_of_end : LoadEnd → Note
note_of_end end.Done = Nothing
note_of_end end.Closed = Limit
note_of_end end.WriteFault = WriteFault
note_of_end end.NoMemory = Memory

-- the load of a setup over its servants came out so, and wrote accordingly
pub record RanLoad (words : LoadWords) (broker : Broker) (note : Note) (out out' : SinkState) : Type 0 where
  pub answer : LoadEnd
  pub told : note ≡ note_of_end answer
  pub loads : Loads answer broker.setup (outcome_of (served_of broker.servants)) words.plan out out'

-- nothing was run and nothing written, for this reason
pub record Unloaded (note why : Note) (out out' : SinkState) : Type 0 where
  pub told : note ≡ why
  pub output : out' ≡ out

-- what comes of the configuration that the words name, or of the built-in setup: the run of the load over its servants, or why there are
-- none. The store knows the same files as before
abbrev pub LoadsBy : LoadWords → Note → FilesState → FilesState → SinkState → SinkState → Type 0
LoadsBy words note files files' out out' =
    (files'.files ≡ files.files)
    × (((broker : Broker) × GivesBroker (Ok broker) words.config files files' × RanLoad words broker note out out')
    ⊎ ((why : SetupEnd) × GivesBroker (Err why) words.config files files' × Unloaded note (setup_note why) out out'))

-- the same between two moments; the input isn't touched
pub record LoadAnswers (words : LoadWords) (note : Note) (before after : Moment) : Type 0 where
  pub loads : LoadsBy words note before.files after.files before.out after.out
  pub input : after.input ≡ before.input
