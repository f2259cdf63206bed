-- What the call of one caller enters: own profile.
use Rattle.std.specs.Prelude.{◌≡◌, ◌⊎◌, ℕ, Bool, true, false, [], ◌∷◌, ◌++◌}
use Rattle.giop_messages.specs.Message.{Request}
use Rattle.turn_cell.specs.Good.{entry}
use Rattle.client_mux.specs.declared.call.MuxCall.TheVariants.{Start, Await, Left}
use Rattle.client_mux.specs.declared.call.MuxReply.{MuxReply}
use Rattle.client_mux.specs.declared.call.MuxReply.TheVariants as reply
use Rattle.client_mux.specs.Machine.{One, History}
use Rattle.shared_link.specs.Link.{Sitting}
use Rattle.mux_sides.specs.Entering.{Enters}
use Rattle.mux_sides.specs.declared.calling.CallEnd.{CallEnd}
use Rattle.mux_sides.specs.declared.calling.CallEnd.TheVariants as came

-- calls of the caller with this number, and what they were answered
abbrev pub start_of : ℕ → Request → MuxReply → One
start_of by q r = entry by (Start by q) r

-- an Await of this id by the caller, and what it was answered
abbrev pub await_of : ℕ → ℕ → MuxReply → One
await_of by id r = entry by (Await by id) r

-- the leaving of the caller
abbrev pub left_of : ℕ → One
left_of by = entry by (Left by) reply.Noted

-- a call that came to this, before its caller left: it was started once, and awaited once by the id that it was given, where a reply is
-- due; it got this reply, or the link was lost before it was started or before its reply came
abbrev pub IsCall : ℕ → Request → Bool → CallEnd → History → Type 0
IsCall by q due (came.Reply r) entries =
    (due ≡ true) × ((id : ℕ) × (entries ≡ start_of by q (reply.Id id) ∷ await_of by id (reply.Reply r) ∷ []))
IsCall by q due (came.Gone why) entries =
    (entries ≡ start_of by q (reply.Gone why) ∷ [])
    ⊎ ((due ≡ true) × ((id : ℕ) × (entries ≡ start_of by q (reply.Id id) ∷ await_of by id (reply.Gone why) ∷ [])))
IsCall by q due came.NoneDue entries = (due ≡ false) × ((id : ℕ) × (entries ≡ start_of by q (reply.Id id) ∷ []))

-- an Await of this id came to this
abbrev pub Awaits : ℕ → CallEnd → Sitting → Sitting → Type 0
Awaits id (came.Reply r) old new = Enters (await_of old.number id (reply.Reply r) ∷ []) old new
Awaits id (came.Gone why) old new = Enters (await_of old.number id (reply.Gone why) ∷ []) old new
Awaits id came.NoneDue old new = ⊥

-- what follows a Start came to this: an Await, where a reply is due
abbrev pub Follows : ℕ → Bool → CallEnd → Sitting → Sitting → Type 0
Follows id true end old new = Awaits id end old new
Follows id false end old new = (end ≡ came.NoneDue) × (new ≡ old)

-- a call was made by a seat and came to this
abbrev pub Called : Request → Bool → CallEnd → Sitting → Sitting → Type 0
Called q due end old new = (entries : History) × IsCall old.number q due end entries × Enters entries old new

-- a caller made its call, which came to this, and then left
pub record MakesCall (q : Request) (due : Bool) (end : CallEnd) (old new : Sitting) : Type 0 where
  pub entries : History
  pub is_call : IsCall old.number q due end entries
  pub entered : Enters (entries ++ left_of old.number ∷ []) old new
