-- What one slot did: own profile.
use Rattle.std.specs.Prelude.{◌≡◌, ◌≤◌, ◌<◌, ℕ, ◌+◌, Bool, false, List, [], ◌∷◌, ◌++◌, length, option_map}
use Rattle.std.specs.Vec.{vec_capacity}
use Rattle.orb_base.specs.Links.{AcceptorState}
use Rattle.orb_base.specs.Outside.{SourceState, SinkState, IsNewSource, IsNewSink}
use Rattle.link_slots.specs.SlotEnds.{HasCause}
use Rattle.link_slots.specs.declared.host.LinkJob.{LinkJob}
use Rattle.link_slots.specs.declared.host.LinkDone.{LinkDone}
use Rattle.link_slots.specs.declared.slot.SlotJob.{SlotJob}
use Rattle.link_slots.specs.declared.slot.SlotDone.{SlotDone}

module _ {P I O : Type 0} (source : I → SourceState) (sink : O → SinkState) (asks : LinkJob P I O → Type 0) (most : ℕ) where
  -- where not all links were served that may be, any new one may be served by this place as the link of this number
  abbrev pub MayServe : ℕ → P → Type 0
  MayServe nth place = nth < most → (i : I) (o : O) → IsNewSource (source i) → IsNewSink (sink o)
      → asks (record { nth = nth; place = place; source = i; sink = o })

  -- after each link the next may be served
  abbrev pub MayGoOn : {L : Type 0} → (LinkJob P I O → LinkDone P L → Type 0) → Type 0
  MayGoOn {L} gives = (job : LinkJob P I O) (done : LinkDone P L) → gives job done → MayServe (job.nth + 1) done.place

module _ {P I O L : Type 0} (gives : LinkJob P I O → LinkDone P L → Type 0) where
  -- these links were served one after another, from the first place to the last, and left these logs; each was served after links
  -- that didn't close the slot, and the Bool is whether the last one closed it
  pub data AreLinksServed : P → List (I × O) → List L → Bool → P → Type 0 where
    none : (p : P) → AreLinksServed p [] [] false p
    one : (p : P) (links : List (I × O)) (logs : List L) (job : LinkJob P I O) (done : LinkDone P L)
        → AreLinksServed p links logs false job.place
        → job.nth ≡ length logs → gives job done
        → AreLinksServed p (links ++ (job.source, job.sink) ∷ []) (logs ++ done.log ∷ []) done.closes done.place

module _ {I O : Type 0} where
  -- the acceptor handed out these links, which were before those still to come
  abbrev pub HandsOut : List (I × O) → AcceptorState I O → AcceptorState I O → Type 0
  HandsOut links old new = old.links ≡ option_map (λ rest. links ++ rest) new.links

-- room for what as many links leave as may be served
pub record HasRoom {A P L : Type 0} (most : ℕ) (job : SlotJob A P L) : Type 0 where
  pub empty : job.logs.items ≡ []
  pub room : most ≤ vec_capacity job.logs

module _ {A I O P L : Type 0} (state : A → AcceptorState I O) (gives : LinkJob P I O → LinkDone P L → Type 0) where
  -- links of the acceptor were served in order, from this place to that one, and left these logs; the Bool is whether the last one
  -- closed the slot
  pub record ServesInOrder (before : P) (old new : AcceptorState I O) (logs : List L) (closed : Bool) (after : P) : Type 0 where
    pub links : List (I × O)
    pub served : AreLinksServed gives before links logs closed after
    pub handed : HandsOut links old new

  -- a slot that began so left this, and its end has its cause
  pub record SlotRan (most : ℕ) (job : SlotJob A P L) (done : SlotDone A P L) : Type 0 where
    pub closed : Bool
    pub serves : ServesInOrder job.place (state job.acceptor) (state done.acceptor) done.logs.items closed done.place
    pub cause : HasCause done.end most (length done.logs.items) closed (state job.acceptor) (state done.acceptor)
