-- The calls of the reading side that a history made, and the serial numbers of its requests. Own profile.
use Rattle.std.specs.Prelude.{◌≡◌, ◌≤◌, ◌+◌, ◌&&◌, ℕ, true, false, List, [], ◌∷◌, ◌++◌}
use Rattle.orb_base.specs.JobRecord.{JobRecord}
use Rattle.orb_base.specs.Pool.{Pool}
use Rattle.orb_base.specs.declared.conn_id.ConnId.{ConnId}
use Rattle.orb_base.specs.declared.outcome.Outcome.{Outcome}
use Rattle.lane_machine.specs.declared.call.How.{How}
use Rattle.lane_machine.specs.declared.call.LaneCall.{LaneCall}
use Rattle.lane_machine.specs.declared.call.LaneCall.TheVariants.{Offer, Post, Cancel, Take, Finish, Collect, End, Leave}
use Rattle.lane_machine.specs.State.{State, CanOpen, Opens, opening}
use Rattle.lane_machine.specs.Histories.{History, IsLegal}
use Rattle.lane_machine.specs.Callers.{is_heard, is_closing, was_closed}
use Rattle.lane_machine.specs.Fates.{admitted, taken, finished, removed}
use Rattle.adapter_policies.specs.SetupData.{SetupData}
use Rattle.pipe_laws.specs.Setup.{pipe_conn}
use Rattle.pipe_laws.specs.Piped.{piped}
use Rattle.pipe_laws.specs.Legality.{AreHeardCalls, HasShortBodies}
use Rattle.pipe_laws.specs.Lacking.{FinishesOnce}

-- the call offers no request of this serial
abbrev pub OffersOther : ℕ → LaneCall → Type 0
OffersOther n (Offer job) = ¬ (job.serial ≡ n)
OffersOther n _ = Unit {0}

-- no call of these entries does
abbrev pub NeverOffers : ℕ → History → Type 0
NeverOffers n [] = Unit {0}
NeverOffers n (e ∷ es) = OffersOther n e.call × NeverOffers n es

-- a request that the call offers is the connection's, and its serial is not offered again
abbrev pub OffersNew : ConnId → LaneCall → History → Type 0
OffersNew conn (Offer job) es = (job.conn ≡ conn) × NeverOffers job.serial es
OffersNew conn _ es = Unit {0}

-- each offered request is the connection's, and no serial is offered twice
abbrev pub OffersOnce : ConnId → History → Type 0
OffersOnce conn [] = Unit {0}
OffersOnce conn (e ∷ es) = OffersNew conn e.call es × OffersOnce conn es

-- then no serial is finished twice, in any legal history from an opening
abbrev pub OfferedFinishesOnce : Type 0
OfferedFinishesOnce = (conn : ConnId) (s : State) (h : History) → Opens s → IsLegal s h → OffersOnce conn h → FinishesOnce h

-- a call of a reading side before its end is before the others
abbrev pub in_front : LaneCall → List LaneCall → List LaneCall
in_front (Offer job) calls = Offer job ∷ calls
in_front (Post notice) calls = Post notice ∷ calls
in_front (Cancel conn id) calls = Cancel conn id ∷ calls
in_front (Take _) calls = calls
in_front (Finish _ _) calls = calls
in_front (Collect _) calls = calls
in_front (End _ _) calls = calls
in_front (Leave _) calls = calls

-- the calls of the reading sides that a history made, in order
abbrev pub heard_of : History → List LaneCall
heard_of [] = []
heard_of (e ∷ es) = in_front e.call (heard_of es)

-- after a call of the connection that was answered Closing no call of a reading side is made
abbrev pub StopsAtClosing : ConnId → History → Type 0
StopsAtClosing conn [] = Unit {0}
StopsAtClosing conn (e ∷ es) = ((is_heard conn e.call && is_closing e.reply) ≡ true → heard_of es ≡ []) × StopsAtClosing conn es

-- a history made the calls in order: all of them, or those up to one that was answered Closing
pub record MakesInOrder (conn : ConnId) (calls : List LaneCall) (h : History) : Type 0 where
  pub rest : List LaneCall
  pub front : heard_of h ++ rest ≡ calls
  pub all : was_closed conn h ≡ false → rest ≡ []
  pub stops : StopsAtClosing conn h

-- a run of the pipe makes its calls
abbrev pub PipedMakesCalls : Type 0
PipedMakesCalls = (setup : SetupData) (outcome : List ℕ → JobRecord → Outcome) (batch : ℕ) (calls : List LaneCall) (how : How)
    (lacks : List ℕ) → AreHeardCalls setup.pool pipe_conn calls
    → MakesInOrder pipe_conn calls (piped setup outcome batch calls how lacks).history

-- a request that the call offers has this serial or a higher one
abbrev pub IsFrom : ℕ → LaneCall → Type 0
IsFrom n (Offer job) = n ≤ job.serial
IsFrom n _ = Unit {0}

-- the least serial that may be after the call
abbrev pub serial_behind : ℕ → LaneCall → ℕ
serial_behind n (Offer job) = job.serial + 1
serial_behind n _ = n

-- the serials of the requests rise, from this one on
abbrev pub RisesFrom : ℕ → List LaneCall → Type 0
RisesFrom n [] = Unit {0}
RisesFrom n (call ∷ calls) = IsFrom n call × RisesFrom (serial_behind n call) calls

-- a request that the call offers has this serial
abbrev pub IsNumbered : ℕ → LaneCall → Type 0
IsNumbered n (Offer job) = job.serial ≡ n
IsNumbered n _ = Unit {0}

-- the serial of each request is the number of the calls before it, counted on from this number
abbrev pub CountsFrom : ℕ → List LaneCall → Type 0
CountsFrom n [] = Unit {0}
CountsFrom n (call ∷ calls) = IsNumbered n call × CountsFrom (n + 1) calls

-- such serials rise
abbrev pub CountingRises : Type 0
CountingRises = (n : ℕ) (calls : List LaneCall) → CountsFrom n calls → RisesFrom n calls

-- a history that made a prefix of a connection's calls, in order, offers no serial twice, where their serials rise
abbrev pub RisingOffersOnce : Type 0
RisingOffersOnce = (pool : Pool) (conn : ConnId) (n : ℕ) (calls rest : List LaneCall) (h : History)
    → AreHeardCalls pool conn calls → RisesFrom n calls → heard_of h ++ rest ≡ calls → OffersOnce conn h

-- with rising serials, each request that a run of the pipe admitted and did not remove was taken once and finished once
abbrev pub PipedTakesOnce : Type 0
PipedTakesOnce = (setup : SetupData) (outcome : List ℕ → JobRecord → Outcome) (batch : ℕ) (calls : List LaneCall) (how : How)
    (lacks : List ℕ) → CanOpen setup.pool setup.slots setup.per_slot → HasShortBodies outcome
    → AreHeardCalls setup.pool pipe_conn calls → RisesFrom 0 calls → (serial : ℕ) →
    let s = opening setup.pool setup.slots setup.per_slot in
    let h = (piped setup outcome batch calls how lacks).history in
    1 ≤ admitted pipe_conn serial h → removed pipe_conn serial s h ≡ 0
    → (taken pipe_conn serial h ≡ 1) × (finished pipe_conn serial h ≡ 1)
