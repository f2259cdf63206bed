-- What the note of the pipe means.
use Rattle.std.specs.Prelude.{◌≡◌, ◌⊎◌, Option, Some, None, Result, Ok, Err}
use Rattle.orb_base.specs.Outside.{SourceState, SinkState}
use Rattle.orb_base.specs.declared.no_memory.NoMemory.{NoMemory}
use Rattle.giop_messages.specs.declared.refused.Fault.TheVariants as fault
use Rattle.dynamic_servants.specs.Outcome.{outcome_of}
use Rattle.dynamic_servants.specs.Served.{served_of}
use Rattle.setup_files.specs.Brokers.{GivesBroker}
use Rattle.setup_files.specs.declared.broker.Broker.{Broker}
use Rattle.setup_files.specs.declared.setup_end.SetupEnd.{SetupEnd}
use Rattle.heard_calls.specs.declared.ending.Ending.{Ending}
use Rattle.heard_calls.specs.declared.ending.Ending.TheVariants.{Ended, Cut, Broken}
use Rattle.conn_engine.specs.declared.read_end.ReadEnd.{ReadEnd}
use Rattle.conn_engine.specs.declared.read_end.ReadEnd.TheVariants as read
use Rattle.conn_engine.specs.declared.stream_end.StreamEnd.{StreamEnd}
use Rattle.conn_engine.specs.declared.stream_end.StreamEnd.TheVariants as stream
use Rattle.pipe_runs.specs.Pipe.{Pipes}
use Rattle.pipe_runs.specs.declared.piped.Piped.{Piped}
use Rattle.command_words.specs.declared.meaning.PipeWords.{PipeWords}
use Rattle.orb_command.specs.Moment.{Moment}
use Rattle.orb_command.specs.SetupNotes.{setup_note}
use Rattle.orb_command.specs.declared.note.Note.{Note}
use Rattle.orb_command.specs.declared.note.Note.TheVariants.{Nothing, ReadFault, WriteFault, Input, Memory, Limit}

-- the note of how bytes ended the reading
abbrev pub note_of_ending : Ending → Note
note_of_ending Ended = Nothing
note_of_ending (Cut offset) = Input offset fault.Cut
note_of_ending (Broken offset cause) = Input offset cause

-- the note of how the reading came out
abbrev pub note_of_reading : ReadEnd → Note
note_of_reading (read.Ended ending) = note_of_ending ending
note_of_reading read.Spent = Limit
note_of_reading read.ReadFault = ReadFault

-- the note of a run
abbrev pub note_of_run : StreamEnd → Note
note_of_run (stream.Ended end) = note_of_reading end
note_of_run stream.Closed = Limit
note_of_run stream.WriteFault = WriteFault

-- the note of the pipe
abbrev pub note_of : Result Piped NoMemory → Note
note_of (Ok ran) = note_of_run ran.end
note_of (Err _) = Memory

-- the run of the pipe, if there was one
abbrev pub piped_of : Result Piped NoMemory → Option Piped
piped_of (Ok ran) = Some ran
piped_of (Err _) = None

-- the pipe over a setup and its servants came out so, and took and wrote accordingly
pub record Ran (words : PipeWords) (broker : Broker) (note : Note) (piped : Option Piped) (old new : SourceState)
    (out out' : SinkState) : Type 0 where
  pub answer : Result Piped NoMemory
  pub told : note ≡ note_of answer
  pub kept : piped ≡ piped_of answer
  pub pipes : Pipes answer words.shown broker.setup (outcome_of (served_of broker.servants)) words.batch old new out out'

-- nothing was run, nothing was taken and nothing written, for this reason
pub record Declined (note why : Note) (piped : Option Piped) (old new : SourceState) (out out' : SinkState) : Type 0 where
  pub told : note ≡ why
  pub kept : piped ≡ None
  pub input : new ≡ old
  pub output : out' ≡ out

-- what comes of the configuration that the words name, or of the built-in setup: a run over its servants, or why there are none. The
-- store knows the same files as before
abbrev pub PipeAnswers : PipeWords → Note → Option Piped → Moment → Moment → Type 0
PipeAnswers words note piped before after =
    (after.files.files ≡ before.files.files)
    × (((broker : Broker) × GivesBroker (Ok broker) words.config before.files after.files
    × Ran words broker note piped before.input after.input before.out after.out)
    ⊎ ((why : SetupEnd) × GivesBroker (Err why) words.config before.files after.files
    × Declined note (setup_note why) piped before.input after.input before.out after.out))
