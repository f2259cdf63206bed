-- Laws of halls.
use Rattle.std.specs.Prelude.{◌≡◌, ◌≢◌, ℕ, Bool, List, length}
use Rattle.std.specs.List.{flat_map}
use Rattle.orb_base.specs.Outside.{SourceState, SinkState, Rose}
use Rattle.orb_base.specs.declared.answer.Answer.{Answer}
use Rattle.orb_base.specs.declared.conn_id.ConnId.{ConnId}
use Rattle.heard_messages.specs.Hearing.{IsOneWay}
use Rattle.heard_messages.specs.Inputs.{HearsStream}
use Rattle.heard_messages.specs.declared.read_end.ReadEnd.{ReadEnd}
use Rattle.heard_messages.specs.declared.read_end.ReadEnd.TheVariants.{ReadFault}
use Rattle.text_streams.specs.Streams.{Gave}
use Rattle.adapter_policies.specs.SetupData.{SetupData}
use Rattle.link_slots.specs.Slots.{AreLinksServed}
use Rattle.halls.specs.Hands.{HandState, DidAll}
use Rattle.halls.specs.Meaning.{means}
use Rattle.halls.specs.Served.{ServesLink}
use Rattle.halls.specs.Sides.{Sides}
use Rattle.halls.specs.Steps.{Step, calls_of, Making, MakesAll}
use Rattle.halls.specs.declared.call.HallCall.{HallCall}
use Rattle.halls.specs.declared.ends.HallRead.{HallRead}
use Rattle.halls.specs.declared.ends.HallRead.TheVariants as read
use Rattle.halls.specs.declared.ends.HallWrite.{HallWrite}
use Rattle.halls.specs.declared.ends.HallWrite.TheVariants as write
use Rattle.halls.specs.declared.host.LinkLog.{LinkLog}

-- a message means one thing in a hall
abbrev pub MeansOneWay : Type 0
MeansOneWay = (setup : SetupData) (conn : ConnId) → IsOneWay (means setup conn)

module _ {I O H : Type 0} (source : I → SourceState) (sink : O → SinkState) (held : H → HandState) where
  -- the hand's list after some connections is what it was before them, and then their parts, one after another
  abbrev pub SlotKeepsParts : Type 0
  SlotKeepsParts = (setup : SetupData) (before after : H) (links : List (I × O)) (logs : List (LinkLog I O)) (closed : Bool)
      → AreLinksServed (ServesLink source sink setup held) before links logs closed after
      → (parts : List (List Answer)) × (length parts ≡ length logs) × DidAll (flat_map (λ part. part) parts) (held before) (held after)

-- bytes were taken up to what ends them, all that they mean was made, and all of it was written
pub record IsWhole (ends : HallRead × HallWrite) (setup : SetupData) (conn : ConnId) (from to : SourceState) (old new : Making)
    : Type 0 where
  pub end : ReadEnd
  pub comes : ends.0 ≡ read.Read end
  pub no_read_fault : end ≢ ReadFault
  pub no_write_fault : ends.1 ≢ write.WriteFault
  pub bytes : List ℕ
  pub gave : Gave bytes from to
  pub ended : Bool
  pub calls : List HallCall
  pub hears : HearsStream (means setup conn) tt bytes ended calls end
  pub steps : List Step
  pub calls_are : calls ≡ calls_of steps
  pub mid : SinkState
  pub made : MakesAll steps old (record { hand = new.hand; sink = mid })

-- where no read and no write failed, the hand had an invocation for each request, and memory didn't run out, nothing was left out
abbrev pub NothingIsLeftOut : Type 0
NothingIsLeftOut = (ends : HallRead × HallWrite) (setup : SetupData) (conn : ConnId) (from to : SourceState) (old new : Making)
    → Sides ends setup conn from to old new → (¬ Rose from.faults to.faults) → (¬ Rose old.sink.faults new.sink.faults)
    → ends.0 ≢ read.RunClosed → ends.0 ≢ read.NoMemory → IsWhole ends setup conn from to old new
