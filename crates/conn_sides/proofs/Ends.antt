-- The end of a connection after its calls.
use Rattle.std.proofs.Common.{◌≡◌, List, [], ◌∷◌, ◌++◌, sym, ap, ◌∙◌, subst}
use Rattle.turn_cell.specs.declared.entry.Entry.{Entry}
use Rattle.turn_cell.specs.Seats.{CellView}
use Rattle.orb_base.specs.Outside.{SourceState}
use Rattle.lane_machine.specs.State.{State}
use Rattle.lane_machine.specs.declared.call.How.{How}
use Rattle.lane_machine.specs.declared.call.LaneCall.{LaneCall}
use Rattle.lane_machine.specs.declared.call.LaneCall.TheVariants.{End}
use Rattle.lane_machine.specs.declared.call.LaneReply.{LaneReply}
use Rattle.lane_machine.specs.declared.call.LaneReply.TheVariants as reply
use Rattle.adapter_policies.specs.SetupData.{SetupData}
use Rattle.lane_pool.specs.Pass.{Pass, conn_of}
use Rattle.lane_pool.specs.Passes.{Makes}
use Rattle.lane_pool.specs.Turns.{Reads}
use Rattle.conn_sides.specs.Entering.{Entered}
use Rattle.conn_sides.specs.ReadSides.{HearsReads, ReadsSide, how_by, end_entry}
use Rattle.conn_sides.specs.declared.read_side_end.ReadSideEnd.{ReadSideEnd}
use Rattle.conn_sides.proofs.Entering.{entered_one, entered_then, same_conn_of}

-- the End of the same connection, by the same pass
same_end : (cell : CellView State) (old now : Pass) (how : How) → end_entry now how ≡ end_entry old how → (new : Pass) → Entered cell (end_entry now how ∷ []) now new → Entered cell (end_entry old how ∷ []) now new
same_end cell old now how is new x = subst (λ (e : Entry State LaneCall LaneReply). Entered cell (e ∷ []) now new) is x

pub side_ended : (cell : CellView State) (setup : SetupData) (end : ReadSideEnd) (how : How) (old now new : Pass) (from to : SourceState) → HearsReads cell setup end old now from to → Reads cell now
    → how ≡ how_by end → Makes cell (End (conn_of now) how) reply.Noted now new → ReadsSide cell setup end old new from to
side_ended cell setup end how old now new from to x reads is m =
    let one : Entered cell (end_entry now (how_by end) ∷ []) now new =
    subst (λ (h : How). Entered cell (end_entry now h ∷ []) now new) is (entered_one cell (End (conn_of now) how) reply.Noted now new reads.serves.in_cell m) in
    let same : end_entry now (how_by end) ≡ end_entry old (how_by end) =
    λ i. record { caller = x.entered.same.number i; call = End (same_conn_of cell x.entries old now x.entered i) (how_by end); reply = reply.Noted } in
    record {
      bytes = x.bytes;
      earlier = x.earlier;
      ended = x.ended;
      takes = x.takes;
      entries = x.entries;
      hears = x.hears;
      before = x.before;
      entered = entered_then cell x.entries (end_entry old (how_by end) ∷ []) old now new x.entered (same_end cell old now (how_by end) same new one);
    }
