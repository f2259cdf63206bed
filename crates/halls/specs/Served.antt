-- The links of a hall's slots, as they were served: own profile.
use Rattle.std.specs.Prelude.{◌≡◌, ℕ, Bool, true, false}
use Rattle.orb_base.specs.Links.{AcceptorState}
use Rattle.orb_base.specs.Outside.{SourceState, SinkState}
use Rattle.orb_base.specs.declared.conn_id.ConnId.{ConnId}
use Rattle.heard_messages.specs.declared.read_end.ReadEnd.TheVariants as end
use Rattle.adapter_policies.specs.SetupData.{SetupData}
use Rattle.link_slots.specs.Slots.{HasRoom, SlotRan}
use Rattle.link_slots.specs.declared.host.LinkJob.{LinkJob}
use Rattle.link_slots.specs.declared.host.LinkDone.{LinkDone}
use Rattle.link_slots.specs.declared.slot.SlotJob.{SlotJob}
use Rattle.link_slots.specs.declared.slot.SlotDone.{SlotDone}
use Rattle.halls.specs.Hands.{HandState}
use Rattle.halls.specs.Sides.{Sides}
use Rattle.halls.specs.declared.ends.HallRead.{HallRead}
use Rattle.halls.specs.declared.ends.HallRead.TheVariants as read
use Rattle.halls.specs.declared.host.LinkLog.{LinkLog}

-- a slot serves no link after a connection that came out so: the hand had no invocation left, or too many bytes came
abbrev pub closes : HallRead → Bool
closes (read.Read end.Ended) = false
closes (read.Read (end.Cut offset)) = false
closes (read.Read (end.Broken offset fault)) = false
closes (read.Read end.Spent) = true
closes (read.Read end.ReadFault) = false
closes read.RunClosed = true
closes read.NoMemory = false
closes read.Stopped = false

-- the connection of this number that a slot served
abbrev pub conn_of : HandState → ℕ → ConnId
conn_of hand nth = record { slot = hand.slot; nth = nth }

module _ {I O H : Type 0} (source : I → SourceState) (sink : O → SinkState) (setup : SetupData) (held : H → HandState) where
  -- a link was served by the slot's hand, as the connection of its number, and left this
  pub record ServesLink (link : LinkJob H I O) (done : LinkDone H (LinkLog I O)) : Type 0 where
    pub id_is : done.log.id ≡ conn_of (held link.place) link.nth
    pub sides : Sides (done.log.read, done.log.write) setup (conn_of (held link.place) link.nth) (source link.source) (source done.log.source)
        (record { hand = held link.place; sink = sink link.sink }) (record { hand = held done.place; sink = sink done.log.sink })
    pub closes_is : done.closes ≡ closes done.log.read

  -- a slot that began so left this: links of its acceptor were served in order by its hand, which is still one of the hall, and its end
  -- has its cause
  pub record LeavesSlot {A : Type 0} (is_of : H → Type 0) (state : A → AcceptorState I O) (most : ℕ)
      (job : SlotJob A H (LinkLog I O)) (done : SlotDone A H (LinkLog I O)) : Type 0 where
    pub ran : SlotRan state ServesLink most job done
    pub of : is_of done.place

-- what a slot begins with: a hand of the hall, and room for what its connections leave
pub record IsJob {A H L : Type 0} (is_of : H → Type 0) (most : ℕ) (job : SlotJob A H L) : Type 0 where
  pub of : is_of job.place
  pub room : HasRoom most job
