-- What the slots of a run called offers jobs of mandated priorities.
use Rattle.std.proofs.Common.{ℕ, ◌+◌, Bool, List, [], ◌∷◌, ◌++◌, Option, None, sym, subst}
use Rattle.orb_base.specs.Links.{AcceptorState}
use Rattle.orb_base.specs.Outside.{SourceState, SinkState}
use Rattle.orb_base.specs.declared.conn_id.ConnId.{ConnId}
use Rattle.orb_base.specs.declared.limits.TheConstants.{MAX_MESSAGE}
use Rattle.giop_frames.specs.Stream.{stream}
use Rattle.lane_machine.specs.Callers.{of, slot_seat}
use Rattle.lane_machine.specs.Histories.{History}
use Rattle.lane_machine.specs.declared.call.LaneCall.{LaneCall}
use Rattle.adapter_policies.specs.SetupData.{SetupData}
use Rattle.heard_calls.specs.declared.ending.Ending.{Ending}
use Rattle.conn_engine.specs.HeardSoFar.{HeardSoFar}
use Rattle.conn_sides.specs.Entering.{calls_of}
use Rattle.conn_sides.specs.ReadSides.{HearsBy}
use Rattle.conn_sides.specs.declared.read_side_end.ReadSideEnd.{ReadSideEnd}
use Rattle.conn_sides.specs.declared.read_side_end.ReadSideEnd.TheVariants as side
use Rattle.orb_server.specs.Connections.{Conn, IsHeard, AreServed}
use Rattle.orb_server.specs.Slots.{read_by, leaving}
use Rattle.orb_server.specs.Runs.{Slot, SlotRan}
use Rattle.server_laws.specs.Mandates.{AreMandated}
use Rattle.server_laws.proofs.Calls.{heard_mandated}

-- the first calls of such calls are such
first_mandated : (setup : SetupData) (calls rest : List LaneCall) → AreMandated setup (calls ++ rest) → AreMandated setup calls
first_mandated setup [] rest h = tt
first_mandated setup (call ∷ calls) rest h = (h.0, first_mandated setup calls rest h.1)

both_mandated : (setup : SetupData) (h more : History) → AreMandated setup (calls_of h) → AreMandated setup (calls_of more)
    → AreMandated setup (calls_of (h ++ more))
both_mandated setup [] more a b = b
both_mandated setup (e ∷ es) more a b = (a.0, both_mandated setup es more a.1 b)

so_far : (setup : SetupData) (conn : ConnId) (bytes : List ℕ) (calls : List LaneCall) (ending : Option Ending) → HeardSoFar setup conn bytes calls ending
    → AreMandated setup calls
so_far setup conn bytes calls ending h =
    subst (AreMandated setup) (sym h.calls_are) (heard_mandated setup conn (stream MAX_MESSAGE bytes).messages None 0 h.told h.hears)

by_end : (end : ReadSideEnd) (setup : SetupData) (conn : ConnId) (earlier bytes : List ℕ) (ended : Bool) (entries : History) (from to : SourceState)
    → HearsBy end setup conn earlier bytes ended entries from to → AreMandated setup (calls_of entries)
by_end (side.Read end) setup conn earlier bytes ended entries from to h =
    subst (AreMandated setup) (sym h.0.made.calls_are) (so_far setup conn bytes h.0.calls h.0.heard.ending h.0.heard.heard)
by_end side.RunClosed setup conn earlier bytes ended entries from to h =
    first_mandated setup (calls_of entries) h.0.made.rest
    (subst (AreMandated setup) h.0.made.parts (so_far setup conn bytes h.0.calls h.0.ending h.0.heard))
by_end side.NoMemory setup conn earlier bytes ended entries from to h =
    subst (AreMandated setup) (sym h.0.made.calls_are) (so_far setup conn earlier h.0.calls None h.0.heard)

conn_mandated : (setup : SetupData) (conn : ConnId) (entries : History) (end : ReadSideEnd) (from to : SourceState) → IsHeard setup conn entries end from to
    → AreMandated setup (calls_of entries)
conn_mandated setup conn entries end from to h =
    subst (λ (es : History). AreMandated setup (calls_of es)) (sym h.parts)
    (both_mandated setup h.calls _ (by_end end setup conn h.earlier h.bytes h.ended h.calls from to h.hears) (tt, tt))

module _ {I O : Type 0} (source : I → SourceState) (sink : O → SinkState) (setup : SetupData) where
  conns_mandated : (slot nth : ℕ) (cs : List (Conn I O)) → AreServed source sink setup slot nth cs → AreMandated setup (calls_of (read_by cs))
  conns_mandated slot nth [] served = tt
  conns_mandated slot nth (c ∷ cs) served =
      both_mandated setup c.read (read_by cs)
      (conn_mandated setup (record { slot = slot; nth = nth }) c.read c.log.read (source c.link.0) (source c.log.source) served.0.heard)
      (conns_mandated slot (nth + 1) cs served.1)

module _ {A I O : Type 0} (state : A → AcceptorState I O) (source : I → SourceState) (sink : O → SinkState) (setup : SetupData) where
  pub slot_mandated : (h : History) (slot : ℕ) (s : Slot A I O) → SlotRan state source sink setup h slot s → AreMandated setup (calls_of (of (slot_seat slot) h))
  slot_mandated h slot s ran =
      subst (λ (es : History). AreMandated setup (calls_of es)) (sym ran.read)
      (both_mandated setup (read_by ran.cs) (leaving slot) (conns_mandated source sink setup slot 0 ran.cs ran.serves.served) (tt, tt))
