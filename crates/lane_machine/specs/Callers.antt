-- Who may make which call, seen from the opening state and the caller's own entries. A run has a seat for each slot, each
-- worker and each connection's writing side. Own profile.
use Rattle.std.specs.Prelude.{◌≡◌, ℕ, zero, suc, ◌+◌, ◌*◌, ◌-◌, ◌<◌, ◌≤◌, ◌==◌, ◌&&◌, ◌||◌, nat_lt, nat_le, Bool, true, false, List, [], ◌∷◌, length, Option, Some, None, slice_get, count_by, if◌then◌else◌}
use Rattle.std.specs.List.{list_any}
use Rattle.turn_cell.specs.declared.entry.Entry.{Entry}
use Rattle.turn_cell.specs.History as history
use Rattle.orb_base.specs.Outcomes.{body_len}
use Rattle.orb_base.specs.declared.conn_id.ConnId.{ConnId}
use Rattle.lane_machine.specs.declared.call.LaneCall.{LaneCall}
use Rattle.lane_machine.specs.declared.call.LaneCall.TheVariants.{Offer, Post, Cancel, Take, Finish, Collect, End, Leave}
use Rattle.lane_machine.specs.declared.call.LaneReply.{LaneReply}
use Rattle.lane_machine.specs.declared.call.LaneReply.TheVariants as reply
use Rattle.orb_base.specs.declared.job.Job.{Job}
use Rattle.lane_machine.specs.State.{State}
use Rattle.orb_base.specs.Conn.{same_conn}
use Rattle.lane_machine.specs.Readiness.{HasLane}
use Rattle.lane_machine.specs.Histories.{History}
use Rattle.orb_base.specs.declared.limits.TheConstants.{MAX_BODY}

-- the seat of a slot
abbrev pub slot_seat : ℕ → ℕ
slot_seat slot = slot + 1

-- the seat of the worker of a thread, after those of the slots
abbrev pub worker_seat : ℕ → ℕ → ℕ
worker_seat slots t = slots + 1 + t

-- the seat of a connection's writing side
abbrev pub writer_seat : ConnId → ℕ
writer_seat conn = 81 + 128 * conn.slot + conn.nth

-- the seat that is split as the k-th from another: slots and workers from the first, writing sides from their slot
abbrev pub heir : ℕ → ℕ → Option ℕ
heir zero k = if nat_lt k 80 then Some (k + 1) else None
heir (suc slot) k = if nat_lt slot 16 && nat_lt k 128 then Some (81 + 128 * slot + k) else None

-- the seat whose call it is
abbrev pub seat_of : State → LaneCall → ℕ
seat_of s (Offer job) = slot_seat job.conn.slot
seat_of s (Post notice) = slot_seat notice.conn.slot
seat_of s (Cancel conn id) = slot_seat conn.slot
seat_of s (Take t) = worker_seat s.slots t
seat_of s (Finish t answer) = worker_seat s.slots t
seat_of s (Collect conn) = writer_seat conn
seat_of s (End conn how) = slot_seat conn.slot
seat_of s (Leave slot) = slot_seat slot

-- the call ends a connection
abbrev pub is_end : LaneCall → Bool
is_end (End conn how) = true
is_end call = false

-- a slot leaves
abbrev pub is_leave : LaneCall → Bool
is_leave (Leave slot) = true
is_leave call = false

-- an Offer, Post or Cancel of the connection
abbrev pub is_heard : ConnId → LaneCall → Bool
is_heard conn (Offer job) = same_conn job.conn conn
is_heard conn (Post notice) = same_conn notice.conn conn
is_heard conn (Cancel c id) = same_conn c conn
is_heard conn call = false

-- a limit of the run was met
abbrev pub is_closing : LaneReply → Bool
is_closing reply.Closing = true
is_closing r = false

-- how many connections have ended
abbrev pub ends : History → ℕ
ends mine = count_by (λ e. is_end e.call) mine

-- how many calls of a connection came
abbrev pub heard_calls : ConnId → History → ℕ
heard_calls conn mine = count_by (λ e. is_heard conn e.call) mine

-- the slot left
abbrev pub has_leave : History → Bool
has_leave mine = list_any (λ e. is_leave e.call) mine

-- a call of the connection was answered Closing
abbrev pub was_closed : ConnId → History → Bool
was_closed conn mine = list_any (λ e. is_heard conn e.call && is_closing e.reply) mine

-- the reply to the last of these, or else this one
abbrev pub latest : Option LaneReply → History → Option LaneReply
latest before [] = before
latest before (e ∷ es) = latest (Some e.reply) es

-- nothing is in the worker's hands, and it was not told that all has ended
abbrev pub may_take : Option LaneReply → Bool
may_take None = true
may_take (Some reply.Finished) = true
may_take (Some r) = false

-- the writing side was not told that nothing comes any more
abbrev pub may_collect : Option LaneReply → Bool
may_collect None = true
may_collect (Some (reply.Handed i)) = true
may_collect (Some r) = false

-- the connection is the one that its slot reads now
pub record IsReading (s : State) (mine : History) (conn : ConnId) : Type 0 where
  pub slot : conn.slot < s.slots
  pub nth : conn.nth < s.per_slot
  pub next : conn.nth ≡ ends mine
  pub stays : has_leave mine ≡ false

-- what a caller may call, each in its turn
abbrev pub MayCall : State → History → LaneCall → Type 0
MayCall s mine (Offer job) = IsReading s mine job.conn × (was_closed job.conn mine ≡ false) × (job.serial ≡ heard_calls job.conn mine) × HasLane s.pool.laned job (slice_get s.pool.lanes job.lane)
MayCall s mine (Post notice) = IsReading s mine notice.conn × (was_closed notice.conn mine ≡ false)
MayCall s mine (Cancel conn id) = IsReading s mine conn × (was_closed conn mine ≡ false)
MayCall s mine (Take t) = (t < length s.threads) × (may_take (latest None mine) ≡ true)
MayCall s mine (Finish t answer) = (t < length s.threads) × (latest None mine ≡ Some (reply.Given answer.job)) × (body_len answer.outcome ≤ MAX_BODY)
MayCall s mine (Collect conn) = (conn.slot < s.slots) × (conn.nth < s.per_slot) × (may_collect (latest None mine) ≡ true)
MayCall s mine (End conn how) = IsReading s mine conn
MayCall s mine (Leave slot) = (slot < s.slots) × (has_leave mine ≡ false) × (heard_calls (record { slot = slot; nth = ends mine }) mine ≡ 0)

-- the call is the seat's, and may be made now
abbrev pub IsFit : State → ℕ → History → LaneCall → Type 0
IsFit s n mine call = (n ≡ seat_of s call) × MayCall s mine call

-- the entries of a caller
abbrev pub of : ℕ → History → History
of n h = history.of n h

-- each entry's call was fit, seen from its caller's entries before it
abbrev pub AreFit : State → History → Type 0
AreFit s h = history.FitFrom IsFit s [] h
