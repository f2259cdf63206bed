-- What is kept of the seats of a run along its lines, and the next call that it allows. Own profile.
use Rattle.std.specs.Prelude.{◌≡◌, ℕ, ◌+◌, ◌*◌, ◌==◌, ◌&&◌, nat_lt, Bool, true, false, List, replicate, Option, Some, None, slice_get, slice_set}
use Rattle.orb_base.specs.declared.conn_id.ConnId.{ConnId}
use Rattle.lane_machine.specs.Callers as seat
use Rattle.trace_lines.specs.declared.trace_line.Action.{Action}
use Rattle.trace_lines.specs.declared.trace_line.Action.TheVariants as action
use Rattle.trace_lines.specs.declared.trace_line.TraceLine.{TraceLine}
use Rattle.fit_audit.specs.LastReplies.{last_reply, may_take, may_collect}
use Rattle.fit_audit.specs.Readers.{reader_may, reader_after, new_reader}
use Rattle.fit_audit.specs.declared.last_reply.LastReply.{LastReply}
use Rattle.fit_audit.specs.declared.last_reply.LastReply.TheVariants.{Unheard}
use Rattle.fit_audit.specs.declared.reader.Reader.{Reader}
use Rattle.fit_audit.specs.declared.seats.Seats.{Seats}

-- the number of the seat of a thread's worker, by the slots of the run
abbrev pub worker_seat : ℕ → ℕ → ℕ
worker_seat slots t = seat.worker_seat slots t

-- the number of the seat of a connection's writing side
abbrev pub writer_seat : ConnId → ℕ
writer_seat conn = seat.writer_seat conn

-- that of the seat whose call this is, by the slots of the run
abbrev pub seat_by : ℕ → Action → ℕ
seat_by slots (action.Offer request r) = seat.slot_seat request.conn.slot
seat_by slots (action.Post conn id r) = seat.slot_seat conn.slot
seat_by slots (action.Cancel conn id r) = seat.slot_seat conn.slot
seat_by slots (action.Take t task) = worker_seat slots t
seat_by slots (action.Finish t k len) = worker_seat slots t
seat_by slots (action.Collect conn r) = writer_seat conn
seat_by slots (action.End conn how) = seat.slot_seat conn.slot
seat_by slots (action.Leave slot) = seat.slot_seat slot

-- the caller of a slot may call this, if there is such a slot
abbrev pub slot_may : ℕ → Option Reader → Action → Bool
slot_may per_slot (Some r) a = reader_may per_slot r a
slot_may per_slot None a = false

-- a worker may ask for its task, if there is such a seat
abbrev pub worker_may : Option LastReply → Bool
worker_may (Some r) = may_take r
worker_may None = false

-- a writing side may ask for what is owed, if there is such a seat
abbrev pub writer_may : Option LastReply → Bool
writer_may (Some r) = may_collect r
writer_may None = false

-- the seat whose call this is may make it now
abbrev pub may_call : Seats → Action → Bool
may_call seats (action.Offer request x) =
    slot_may seats.per_slot (slice_get seats.readers.items request.conn.slot) (action.Offer request x)
may_call seats (action.Post conn id x) = slot_may seats.per_slot (slice_get seats.readers.items conn.slot) (action.Post conn id x)
may_call seats (action.Cancel conn id x) = slot_may seats.per_slot (slice_get seats.readers.items conn.slot) (action.Cancel conn id x)
may_call seats (action.Take t task) = worker_may (slice_get seats.replies.items (worker_seat seats.slots t))
may_call seats (action.Finish t k len) = true
may_call seats (action.Collect conn r) =
    nat_lt conn.slot seats.slots && nat_lt conn.nth seats.per_slot && writer_may (slice_get seats.replies.items (writer_seat conn))
may_call seats (action.End conn how) = slot_may seats.per_slot (slice_get seats.readers.items conn.slot) (action.End conn how)
may_call seats (action.Leave slot) = slot_may seats.per_slot (slice_get seats.readers.items slot) (action.Leave slot)

-- the callers of the slots after that of this slot called this
abbrev pub set_reader : List Reader → ℕ → Option Reader → Action → List Reader
set_reader readers slot (Some r) a = slice_set readers slot (reader_after r a)
set_reader readers slot None a = readers

-- the callers of the slots after this call
abbrev pub readers_after : List Reader → Action → List Reader
readers_after readers (action.Offer request x) =
    set_reader readers request.conn.slot (slice_get readers request.conn.slot) (action.Offer request x)
readers_after readers (action.Post conn id x) = set_reader readers conn.slot (slice_get readers conn.slot) (action.Post conn id x)
readers_after readers (action.Cancel conn id x) = set_reader readers conn.slot (slice_get readers conn.slot) (action.Cancel conn id x)
readers_after readers (action.End conn how) = set_reader readers conn.slot (slice_get readers conn.slot) (action.End conn how)
readers_after readers (action.Leave slot) = set_reader readers slot (slice_get readers slot) (action.Leave slot)
readers_after readers a = readers

-- the seats of a run of so many slots and connections of each, before any call
pub record Opened (count each : ℕ) (seats : Seats) : Type 0 where
  pub slots : seats.slots ≡ count
  pub per_slot : seats.per_slot ≡ each
  pub readers : seats.readers.items ≡ replicate count new_reader
  pub replies : seats.replies.items ≡ replicate (81 + 128 * count) Unheard
  pub fit : seats.fit ≡ true

-- the call of a line is its caller's, who may make it now
abbrev pub allows : Seats → TraceLine → Bool
allows seats l = (l.caller == seat_by seats.slots l.action) && may_call seats l.action

-- the seats after a line, as long as each call was its caller's to make
pub record Heard (line : TraceLine) (old new : Seats) : Type 0 where
  pub slots : new.slots ≡ old.slots
  pub per_slot : new.per_slot ≡ old.per_slot
  pub fit : new.fit ≡ (old.fit && allows old line)
  pub readers : new.fit ≡ true → new.readers.items ≡ readers_after old.readers.items line.action
  pub replies : new.fit ≡ true → new.replies.items ≡ slice_set old.replies.items line.caller (last_reply line.action)
