-- What the note of `orb names` means.
use Rattle.std.specs.Prelude.{◌≡◌}
use Rattle.orb_base.specs.Links.{AcceptorState}
use Rattle.orb_base.specs.Outside.{SourceState, SinkState}
use Rattle.orb_nets.specs.Nets.{NetState}
use Rattle.names_server.specs.Serving.{NamesAt}
use Rattle.names_server.specs.declared.run_at.NamesServed.{NamesServed}
use Rattle.names_server.specs.declared.names_end.NamesEnd.{NamesEnd}
use Rattle.names_server.specs.declared.names_end.NamesEnd.TheVariants as end
use Rattle.object_lines.specs.Addresses.{Place}
use Rattle.orb_command.specs.declared.names.NamesTold.{NamesTold}
use Rattle.orb_command.specs.declared.note.Note.{Note}
use Rattle.orb_command.specs.declared.note.Note.TheVariants.{Nothing, WriteFault, NetFault, Memory}

-- the note of how the name service came out
abbrev pub note_of_end : NamesEnd → Note
note_of_end end.Done = Nothing
note_of_end end.NetFault = NetFault
note_of_end end.WriteFault = WriteFault
note_of_end end.NoMemory = Memory

module _ {A I O : Type 0} (state : A → AcceptorState I O) (source : I → SourceState) (sink : O → SinkState) where
  -- the name service came out so, at the words' address
  pub record NamesBy (at : Place) (told : NamesTold A I O) (net net' : NetState I O) (out out' : SinkState) : Type 0 where
    pub answer : NamesServed A I O
    pub note : told.note ≡ note_of_end answer.end
    pub ran : told.run ≡ answer.run
    pub given : told.acceptors ≡ answer.acceptors
    pub serves : NamesAt state source sink at answer net net' out out'
