-- The links of a slot, one after another.
use Rattle.std.proofs.Common.{ℕ, Bool, false, List}
use Rattle.orb_base.specs.Links.{AcceptorState}
use Rattle.orb_base.specs.Outside.{SourceState, SinkState}
use Rattle.adapter_policies.specs.SetupData.{SetupData}
use Rattle.link_slots.specs.Slots.{AreLinksServed, none, one, SlotRan}
use Rattle.link_slots.specs.declared.host.LinkJob.{LinkJob}
use Rattle.link_slots.specs.declared.host.LinkDone.{LinkDone}
use Rattle.link_slots.specs.declared.slot.SlotJob.{SlotJob}
use Rattle.link_slots.specs.declared.slot.SlotDone.{SlotDone}
use Rattle.halls.specs.Hands.{HandState}
use Rattle.halls.specs.Served.{ServesLink, LeavesSlot}
use Rattle.halls.specs.declared.host.LinkLog.{LinkLog}

module _ {I O H : Type 0} (source : I → SourceState) (sink : O → SinkState) (setup : SetupData) (held : H → HandState) (is_of : H → Type 0)
    (gives : LinkJob H I O → LinkDone H (LinkLog I O) → Type 0)
    (serves : (link : LinkJob H I O) (done : LinkDone H (LinkLog I O)) → gives link done → is_of done.place × ServesLink source sink setup held link done) where
  -- what each link was served by, said of the hall
  all_served : (before after : H) (links : List (I × O)) (logs : List (LinkLog I O)) (closed : Bool) → AreLinksServed gives before links logs closed after
      → AreLinksServed (ServesLink source sink setup held) before links logs closed after
  all_served before after links logs closed (none p) = none p
  all_served before after links logs closed (one p xs ls job done a e s) = one p xs ls job done (all_served p job.place xs ls false a) e (serves job done s).1

  -- the hand is still one of the hall
  still_of : (before after : H) (links : List (I × O)) (logs : List (LinkLog I O)) (closed : Bool) → AreLinksServed gives before links logs closed after
      → is_of before → is_of after
  still_of before after links logs closed (none p) of = of
  still_of before after links logs closed (one p xs ls job done a e s) of = (serves job done s).0

  pub left_so : {A : Type 0} (state : A → AcceptorState I O) (most : ℕ) (job : SlotJob A H (LinkLog I O)) (done : SlotDone A H (LinkLog I O))
      → is_of job.place → SlotRan state gives most job done → LeavesSlot source sink setup held is_of state most job done
  left_so state most job done of ran = record {
    ran = record {
      closed = ran.closed;
      serves = record {
        links = ran.serves.links;
        served = all_served job.place done.place ran.serves.links done.logs.items ran.closed ran.serves.served;
        handed = ran.serves.handed;
      };
      cause = ran.cause;
    };
    of = still_of job.place done.place ran.serves.links done.logs.items ran.closed ran.serves.served of;
  }
