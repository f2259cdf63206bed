-- What the note of `orb serve` means.
use Rattle.std.specs.Prelude.{◌≡◌, ◌⊎◌, [], Some, Ok, Err}
use Rattle.orb_base.specs.Filing.{FilesState}
use Rattle.orb_base.specs.Links.{AcceptorState}
use Rattle.orb_base.specs.Outside.{SourceState, SinkState}
use Rattle.orb_nets.specs.Nets.{NetState}
use Rattle.dynamic_servants.specs.Outcome.{outcome_of}
use Rattle.dynamic_servants.specs.Served.{served_of}
use Rattle.setup_files.specs.Brokers.{GivesBroker}
use Rattle.setup_files.specs.declared.broker.Broker.{Broker}
use Rattle.setup_files.specs.declared.setup_end.SetupEnd.{SetupEnd}
use Rattle.server_runs.specs.Serving.{ServesAt}
use Rattle.server_runs.specs.declared.serve_end.ServeEnd.{ServeEnd}
use Rattle.server_runs.specs.declared.serve_end.ServeEnd.TheVariants as end
use Rattle.server_runs.specs.declared.run_at.Served.{Served}
use Rattle.command_words.specs.declared.meaning.ServeWords.{ServeWords}
use Rattle.orb_command.specs.SetupNotes.{setup_note}
use Rattle.orb_command.specs.declared.serve.ServeTold.{ServeTold}
use Rattle.orb_command.specs.declared.note.Note.{Note}
use Rattle.orb_command.specs.declared.note.Note.TheVariants.{Nothing, WriteFault, NetFault, Memory}

-- the note of how the server came out
abbrev pub note_of_end : ServeEnd → Note
note_of_end end.Done = Nothing
note_of_end end.NetFault = NetFault
note_of_end end.WriteFault = WriteFault
note_of_end end.NoMemory = Memory

module _ {A I O : Type 0} (state : A → AcceptorState I O) (source : I → SourceState) (sink : O → SinkState) (words : ServeWords) where
  -- the server of a setup over its servants came out so, at the words' address and by their plan
  pub record RanAt (broker : Broker) (told : ServeTold A I O) (net net' : NetState I O) (out out' : SinkState) : Type 0 where
    pub answer : Served A I O
    pub note : told.note ≡ note_of_end answer.end
    pub ran : told.runs.items ≡ answer.runs.items
    pub given : told.acceptors.items ≡ answer.acceptors.items
    pub serves : ServesAt state source sink broker.setup (outcome_of (served_of broker.servants)) words.at words.plan answer net net'
        out out'

  -- nothing was listened for and nothing written, for this reason
  pub record Unserved (told : ServeTold A I O) (why : Note) (net net' : NetState I O) (out out' : SinkState) : Type 0 where
    pub note : told.note ≡ why
    pub none : told.runs.items ≡ []
    pub empty : told.acceptors.items ≡ []
    pub unasked : net' ≡ net
    pub output : out' ≡ out

  -- what comes of the configuration that the words name: runs over its servants, or why there are none. The store knows the same files
  -- as before
  abbrev pub ServesBy : ServeTold A I O → FilesState → FilesState → NetState I O → NetState I O → SinkState → SinkState → Type 0
  ServesBy told files files' net net' out out' =
      (files'.files ≡ files.files)
      × (((broker : Broker) × GivesBroker (Ok broker) (Some words.config) files files' × RanAt broker told net net' out out')
      ⊎ ((why : SetupEnd) × GivesBroker (Err why) (Some words.config) files files' × Unserved told (setup_note why) net net' out out'))
