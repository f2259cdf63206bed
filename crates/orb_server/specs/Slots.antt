-- What one slot did: own profile.
use Rattle.std.specs.Prelude.{◌≡◌, ℕ, ◌+◌, false, List, [], ◌∷◌, ◌++◌, length, map}
use Rattle.std.specs.List.{flat_map}
use Rattle.orb_base.specs.Links.{AcceptorState}
use Rattle.orb_base.specs.Outside.{SourceState, SinkState}
use Rattle.turn_cell.specs.Seats.{CellView}
use Rattle.lane_machine.specs.State.{State}
use Rattle.lane_machine.specs.Callers.{slot_seat, writer_seat}
use Rattle.lane_machine.specs.Histories.{History}
use Rattle.lane_machine.specs.declared.call.LaneCall.TheVariants.{Leave}
use Rattle.lane_machine.specs.declared.call.LaneReply.TheVariants.{Noted}
use Rattle.adapter_policies.specs.SetupData.{SetupData}
use Rattle.conn_sides.specs.Entering.{entry}
use Rattle.lane_pool.specs.Pass.{Pass, conn_of}
use Rattle.lane_pool.specs.Returned.{IsHome}
use Rattle.orb_server.specs.Connections.{Conn, IsServed, AreServed, writers_left}
use Rattle.link_slots.specs.SlotEnds.{HasCause}
use Rattle.link_slots.specs.Slots.{HandsOut}
use Rattle.link_slots.specs.declared.slot_end.SlotEnd.{SlotEnd}
use Rattle.orb_server.specs.SlotEnds.{closed_behind}
use Rattle.orb_server.specs.declared.run.ConnLog.{ConnLog}

-- the entry by which a slot leaves
abbrev pub leaving : ℕ → History
leaving slot = entry (slot_seat slot) (Leave slot) Noted ∷ []

module _ {I O : Type 0} where
  -- the entries of the reading sides, one connection after another
  abbrev pub read_by : List (Conn I O) → History
  read_by cs = flat_map (λ (c : Conn I O). c.read) cs

  -- what the connections left
  abbrev pub logs_of : List (Conn I O) → List (ConnLog I O)
  logs_of cs = map {B = ConnLog I O} (λ (c : Conn I O). c.log) cs

  -- the links that they were served on
  abbrev pub links_of : List (Conn I O) → List (I × O)
  links_of cs = map {B = I × O} (λ (c : Conn I O). c.link) cs

  -- the slot's pass knows the calls of both sides of these connections, and then these
  pub record KnowsCalls (cell : CellView State) (slot : ℕ) (pass : Pass) (cs : List (Conn I O)) (last : History) : Type 0 where
    pub home : IsHome cell slot pass
    pub read : pass.seat.mine ≡ read_by cs ++ last
    pub written : pass.seat.ended ≡ writers_left slot 0 cs

module _ {I O : Type 0} (source : I → SourceState) (sink : O → SinkState) (setup : SetupData) where
  -- these connections of the slot were served on links of the acceptor, in order, and left these logs
  pub record ServesLinks (slot : ℕ) (old new : AcceptorState I O) (logs : List (ConnLog I O)) (cs : List (Conn I O)) : Type 0 where
    pub logs_are : logs ≡ logs_of cs
    pub served : AreServed source sink setup slot 0 cs
    pub links : HandsOut (links_of cs) old new

  module _ (cell : CellView State) where
    -- these connections were served, and so the slot comes out; its pass knows their calls, and then these
    pub record ComesOut (last : History) (slot : ℕ) (old : AcceptorState I O) (pass : Pass) (new : AcceptorState I O)
        (logs : List (ConnLog I O)) (end : SlotEnd) : Type 0 where
      pub cs : List (Conn I O)
      pub serves : ServesLinks slot old new logs cs
      pub knows : KnowsCalls cell slot pass cs last
      pub cause : HasCause end setup.per_slot (length logs) (closed_behind false logs) old new

    -- one more connection was served by the slot's pass, on this link
    pub record ServesOne (old new : Pass) (link : I × O) (log : ConnLog I O) : Type 0 where
      pub one : Conn I O
      pub link_is : one.link ≡ link
      pub log_is : one.log ≡ log
      pub served : IsServed source sink setup (conn_of old) one
      pub home : IsHome cell new.who new
      pub who_is : new.who ≡ old.who
      pub nth_is : new.nth ≡ old.nth + 1
      pub read : new.seat.mine ≡ old.seat.mine ++ one.read
      pub written : new.seat.ended ≡ old.seat.ended ++ record { number = writer_seat (conn_of old); calls = one.written; splits = 0 } ∷ []
