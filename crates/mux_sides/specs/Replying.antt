-- What messages are to a client whose callers share a link, and what its reader makes of them: CORBA 3.0.3, section 15.4; which messages
-- are passed over is own profile.
use Rattle.std.specs.Prelude.{◌≡◌, ◌⊎◌, ◌≤◌, ◌<◌, ◌+◌, ℕ, Bool, false, List, [], ◌∷◌, ◌++◌, length, Option, Some, None}
use Rattle.orb_base.specs.Outside.{SourceState, Rose}
use Rattle.orb_base.specs.declared.order.Order.{Order}
use Rattle.giop_messages.specs.Message.{Message, request, reply, cancel, locate, located, close, error}
use Rattle.client_mux.specs.declared.heard_reply.HeardReply.{HeardReply}
use Rattle.giop_messages.specs.declared.refused.Fault.TheVariants.{WrongWay}
use Rattle.heard_messages.specs.Hearers as Hearers
use Rattle.heard_messages.specs.Hearers.{FeedsOn}
use Rattle.heard_messages.specs.Hearing.{HeardBy}
use Rattle.heard_messages.specs.Inputs.{HearsStream}
use Rattle.heard_messages.specs.declared.means.Means.{Means}
use Rattle.heard_messages.specs.declared.means.Means.TheVariants.{Goes, Ends, Breaks}
use Rattle.heard_messages.specs.declared.read_end.ReadEnd.{ReadEnd}
use Rattle.heard_messages.specs.declared.read_end.ReadEnd.TheVariants as end
use Rattle.heard_messages.specs.declared.read_end.TheConstants.{MAX_TAKEN, READ_LEN}
use Rattle.text_streams.specs.Streams.{Gave, MeetsEnd}
use Rattle.turn_cell.specs.Good.{entry}
use Rattle.turn_cell.specs.Seats.{CellView}
use Rattle.client_mux.specs.declared.limits.TheConstants.{MAX_ARRIVALS}
use Rattle.client_mux.specs.declared.why.Why.{Why}
use Rattle.client_mux.specs.declared.why.Why.TheVariants as why
use Rattle.client_mux.specs.declared.call.MuxCall.TheVariants.{Arrived, Lost}
use Rattle.client_mux.specs.declared.call.MuxReply.TheVariants as answer
use Rattle.client_mux.specs.Machine.{Mux, History}
use Rattle.shared_link.specs.Link.{Sitting}
use Rattle.shared_link.specs.Replies.{placed_reply}
use Rattle.shared_link.specs.Roles.{CanRead, CanLose}
use Rattle.shared_link.specs.declared.answers.Placed.{Placed}
use Rattle.mux_sides.specs.Entering.{Enters}
use Rattle.mux_sides.specs.declared.judge.LinkJudge.{LinkJudge}

-- what is settled before the first message: nothing
abbrev pub first : LinkJudge → Unit {0}
first judge = tt

-- a message of this byte order: each reply goes to the link with the order, answers to LocateRequests are passed over, and requests come the wrong way
abbrev pub meaning : Order → Message → Means (Unit {0}) HeardReply
meaning order (reply r) = Goes tt (Some (record { order = order; reply = r }))
meaning order (located l) = Goes tt None
meaning order (request r) = Breaks WrongWay
meaning order (cancel id) = Breaks WrongWay
meaning order (locate l) = Breaks WrongWay
meaning order close = Ends
meaning order error = Ends

-- the same as a judge says it
abbrev pub says : Unit {0} → ℕ → Order → ℕ → Message → Means (Unit {0}) HeardReply → Type 0
says settled serial order size message x = x ≡ meaning order message

-- the same of the judge of a link, which keeps nothing
abbrev pub means : LinkJudge → Unit {0} → ℕ → Order → ℕ → Message → Means (Unit {0}) HeardReply → Type 0
means judge = says

-- the reading side of a link
abbrev pub Hearer : Type 0
Hearer = Hearers.Hearer LinkJudge (Unit {0}) HeardReply

-- the bytes carry these replies, and end the reading so, if they do
abbrev pub Carry : List ℕ → List HeardReply → Option ReadEnd → Type 0
Carry bytes replies ending = HeardBy says tt bytes replies ending

-- why the link is lost where the reading came out so
abbrev pub why_of : ReadEnd → Why
why_of end.Ended = why.Closed
why_of (end.Cut offset) = why.Closed
why_of (end.Broken offset fault) = why.Refused offset fault
why_of end.Spent = why.Limit
why_of end.ReadFault = why.ReadFault

-- the entries are the Arrived of these replies, in order, each with its own id, however they were answered
abbrev pub AreArrived : ℕ → List HeardReply → History → Type 0
AreArrived number [] [] = Unit {0}
AreArrived number [] (e ∷ es) = ⊥
AreArrived number (r ∷ rs) [] = ⊥
AreArrived number (r ∷ rs) (e ∷ es) = ((p : Placed) × (e ≡ entry number (Arrived r.reply.id r) (placed_reply p))) × AreArrived number rs es

-- by the reader's seat these replies were said to have arrived, after so many others, and now they are so many
pub record Arrives (cell : CellView Mux) (replies : List HeardReply) (before after : ℕ) (old new : Sitting) : Type 0 where
  pub entries : History
  pub arrived : AreArrived old.number replies entries
  pub entered : Enters entries old new
  pub counted : after ≡ before + length replies
  pub few : after ≤ MAX_ARRIVALS
  pub reads : CanRead cell after new
  pub loses : CanLose cell new

-- of these replies so many as there was room for were said to have arrived
pub record Puts (cell : CellView Mux) (all : List HeardReply) (before after : ℕ) (old new : Sitting) : Type 0 where
  pub put : List HeardReply
  pub rest : List HeardReply
  pub parts : all ≡ put ++ rest
  pub arrives : Arrives cell put before after old new
  pub whole : after < MAX_ARRIVALS → rest ≡ []

-- one piece more was heard, with this ending, and of its replies so many as there was room for were said to have arrived
pub record FeedsAndPuts (cell : CellView Mux) (h h' : Hearer) (piece : List ℕ) (ending : Option ReadEnd) (old new : Sitting × ℕ) : Type 0 where
  pub replies : List HeardReply
  pub feeds : FeedsOn first means h h' piece replies ending
  pub puts : Puts cell replies old.1 new.1 old.0 new.0

-- the reading goes on after so many replies with this ending
abbrev pub IsOpen : ℕ → Option ReadEnd → Type 0
IsOpen after ending = (after < MAX_ARRIVALS) × (ending ≡ None)

-- or it came out so: as many replies came as may come, or the bytes ended it
abbrev pub ComesOut : Why → ℕ → Option ReadEnd → Type 0
ComesOut came after ending =
    ((came ≡ why.Limit) × (MAX_ARRIVALS ≤ after)) ⊎ ((after < MAX_ARRIVALS) × ((e : ReadEnd) × (ending ≡ Some e) × (came ≡ why_of e)))

-- how the reading came out with so many replies and this ending, if it did
abbrev pub Comes : Option Why → ℕ → Option ReadEnd → Type 0
Comes None after ending = IsOpen after ending
Comes (Some came) after ending = ComesOut came after ending

-- what became of a piece: the reading goes on; or memory was out; or it came out so
abbrev pub TakesPiece : CellView Mux → Option Why → Hearer → Hearer → List ℕ → Sitting × ℕ → Sitting × ℕ → Type 0
TakesPiece cell None h h' piece old new = FeedsAndPuts cell h h' piece None old new × (new.1 < MAX_ARRIVALS)
TakesPiece cell (Some came) h h' piece old new =
    ((came ≡ why.NoMemory) × (new ≡ old))
    ⊎ ((ending : Option ReadEnd) × FeedsAndPuts cell h h' piece ending old new × ComesOut came new.1 ending)

-- these bytes were taken, those of the last read after the earlier ones
pub record TakesBytes (old new : SourceState) (earlier bytes : List ℕ) (ended : Bool) : Type 0 where
  pub last : List ℕ
  pub parts : bytes ≡ earlier ++ last
  pub one_read : length last ≤ READ_LEN
  pub few : length bytes ≤ MAX_TAKEN
  pub gave : Gave bytes old new
  pub met : MeetsEnd ended old new

-- these are all replies of the bytes up to what ended the reading, fewer than may come, and the link is lost for that
abbrev pub CarryAll : Why → List ℕ → Bool → List HeardReply → Type 0
CarryAll came bytes ended replies =
    (e : ReadEnd) × (came ≡ why_of e) × HearsStream says tt bytes ended replies e × (length replies < MAX_ARRIVALS)

-- as many replies came as may come, and whatever is after them isn't looked at
abbrev pub CarryMost : List ℕ → Bool → List HeardReply → Type 0
CarryMost bytes ended replies =
    (ended ≡ false) × (length replies ≡ MAX_ARRIVALS) × ((later : List HeardReply) × (ending : Option ReadEnd) × Carry bytes (replies ++ later) ending)

-- the replies, by why the link is lost; out of memory they are those of the earlier bytes
abbrev pub CarryBy : Why → List ℕ → List ℕ → Bool → List HeardReply → Type 0
CarryBy why.Closed earlier bytes ended replies = CarryAll why.Closed bytes ended replies
CarryBy (why.Refused offset fault) earlier bytes ended replies = CarryAll (why.Refused offset fault) bytes ended replies
CarryBy why.Limit earlier bytes ended replies = CarryAll why.Limit bytes ended replies ⊎ CarryMost bytes ended replies
CarryBy why.ReadFault earlier bytes ended replies = CarryAll why.ReadFault bytes ended replies
CarryBy why.WriteFault earlier bytes ended replies = ⊥
CarryBy why.NoMemory earlier bytes ended replies = (ended ≡ false) × Carry earlier replies None

-- the count of faults rose where a read failed, and else it stays
abbrev pub FaultsBy : Why → SourceState → SourceState → Type 0
FaultsBy why.Closed old new = new.faults ≡ old.faults
FaultsBy (why.Refused offset fault) old new = new.faults ≡ old.faults
FaultsBy why.Limit old new = new.faults ≡ old.faults
FaultsBy why.ReadFault old new = Rose old.faults new.faults
FaultsBy why.WriteFault old new = new.faults ≡ old.faults
FaultsBy why.NoMemory old new = new.faults ≡ old.faults

-- some bytes were taken, which carry these replies up to what the link is lost for; it was right to read on after the earlier bytes, since
-- nothing in them ended the reading
pub record HearsReplies (came : Why) (replies : List HeardReply) (old new : SourceState) : Type 0 where
  pub earlier : List ℕ
  pub bytes : List ℕ
  pub ended : Bool
  pub takes : TakesBytes old new earlier bytes ended
  pub carry : CarryBy came earlier bytes ended replies
  pub faults : FaultsBy came old new
  pub before : List HeardReply
  pub went_on : Carry earlier before None × (length before < MAX_ARRIVALS)

-- the same, and these replies were said to have arrived, in order
pub record Reads (cell : CellView Mux) (came : Why) (old new : Sitting) (from to : SourceState) : Type 0 where
  pub replies : List HeardReply
  pub count : ℕ
  pub hears : HearsReplies came replies from to
  pub arrives : Arrives cell replies 0 count old new

-- the reader of a link: by its seat the replies of the bytes that it read were said to have arrived, in order, and at last why the link is
-- lost
pub record ReadsSide (came : Why) (old new : Sitting) (from to : SourceState) : Type 0 where
  pub replies : List HeardReply
  pub hears : HearsReplies came replies from to
  pub entries : History
  pub arrived : AreArrived old.number replies entries
  pub entered : Enters (entries ++ entry old.number (Lost came) answer.Noted ∷ []) old new
