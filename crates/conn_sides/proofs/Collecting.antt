-- What is collected and written, one item after another.
use Rattle.std.proofs.Common.{◌≡◌, ℕ, Bool, List, [], ◌∷◌, ◌++◌, refl, sym, ap, ◌∙◌, subst, append-nil}
use Rattle.std.specs.Prelude.{if◌then◌else◌}
use Rattle.turn_cell.specs.declared.entry.Entry.{Entry}
use Rattle.turn_cell.specs.Seats.{CellView}
use Rattle.orb_base.specs.Conn.{same_conn}
use Rattle.orb_base.specs.Outside.{SinkState}
use Rattle.orb_base.specs.declared.conn_id.ConnId.{ConnId}
use Rattle.orb_base.specs.declared.item.Item.{Item}
use Rattle.lane_machine.specs.Histories.{History, IsLegal, replay}
use Rattle.lane_machine.specs.Machine.{step}
use Rattle.lane_machine.specs.State.{State}
use Rattle.lane_machine.specs.declared.call.LaneCall.{LaneCall}
use Rattle.lane_machine.specs.declared.call.LaneCall.TheVariants.{Collect}
use Rattle.lane_machine.specs.declared.call.LaneReply.{LaneReply}
use Rattle.lane_machine.specs.declared.call.LaneReply.TheVariants as reply
use Rattle.text_streams.specs.Streams.{WritesAll}
use Rattle.text_streams.specs.declared.writing.WriteAll.{WriteAll}
use Rattle.text_streams.specs.declared.writing.WriteAll.TheVariants.{Whole}
use Rattle.item_writer.specs.ItemBytes.{item_bytes}
use Rattle.pipe_laws.specs.Said.{handed_bytes, said, HandsShort}
use Rattle.lane_laws.proofs.Marks.{same_self}
use Rattle.lane_driver.proofs.Driving.{said_both}
use Rattle.lane_driver.proofs.Short.{collect_gives}
use Rattle.lane_pool.specs.Pass.{Pass, conn_of}
use Rattle.lane_pool.specs.Passes.{Makes}
use Rattle.lane_pool.specs.Turns.{Writes}
use Rattle.conn_sides.specs.Entering.{entry, Entered}
use Rattle.conn_sides.specs.Saying.{SaysOn}
use Rattle.conn_sides.specs.WriteSides.{AreHandedOver, WritesSide, last_reply, last_of, course_of}
use Rattle.conn_sides.specs.declared.write_end.LastCollect.{LastCollect}
use Rattle.conn_sides.specs.declared.write_end.WriteEnd.{WriteEnd}
use Rattle.conn_sides.proofs.Entering.{entered_none, entered_one, entered_then, same_conn_of}
use Rattle.item_writer.proofs.Saying.{says_start}
use Rattle.conn_sides.proofs.Saying.{says_on}

-- ---- what is handed over is short

-- the last entry of a legal history
legal_last : (s : State) (h : History) (e : Entry State LaneCall LaneReply) → IsLegal s (h ++ (e ∷ [])) → IsLegal s h × (e.reply ≡ (step (replay s h) e.call).1)
legal_last s [] e legal = (tt, legal.2)
legal_last s (d ∷ ds) e legal =
    let r = legal_last (step s d.call).0 ds e legal.3 in ((legal.0, legal.1, legal.2, r.0), r.1)

pub hands_short : (cell : CellView State) (conn : ConnId) (r : LaneReply) (old new : Pass) → Makes cell (Collect conn) r old new → HandsShort r
hands_short cell conn r old new m =
    let before : History = old.seat.seen ++ m.2.3.0 in
    let legal : IsLegal cell.terms.opening (before ++ (entry old.seat.number (Collect conn) r ∷ [])) = subst (IsLegal cell.terms.opening) m.2.3.1 m.2.1.0.1 in
    let l = legal_last cell.terms.opening before (entry old.seat.number (Collect conn) r) legal in
    collect_gives (replay cell.terms.opening before) conn r (record { first = cell.terms.opening; history = before; opens = m.2.1.0.0; legal = l.0; leads = refl }) l.1

-- ---- what one entry says

pub said_one : (conn : ConnId) (n : ℕ) (r : LaneReply) → said conn (entry n (Collect conn) r ∷ []) ≡ handed_bytes r
said_one conn n r =
    append-nil (if same_conn conn conn then handed_bytes r else []) ∙ ap (λ (b : Bool). if b then handed_bytes r else []) (same_self conn)

said_more : (conn : ConnId) (items : History) (n : ℕ) (r : LaneReply) → said conn (items ++ (entry n (Collect conn) r ∷ [])) ≡ said conn items ++ handed_bytes r
said_more conn items n r = said_both conn items (entry n (Collect conn) r ∷ []) ∙ ap (λ (b : List ℕ). said conn items ++ b) (said_one conn n r)

handed_more : (number : ℕ) (conn : ConnId) (items : History) (item : Item) → AreHandedOver number conn items → AreHandedOver number conn (items ++ (entry number (Collect conn) (reply.Handed item) ∷ []))
handed_more number conn [] item are = ((item, refl), tt)
handed_more number conn (e ∷ es) item are = (are.0, handed_more number conn es item are.1)

-- ---- items so far

pub record SaidSoFar (cell : CellView State) (wrote : WriteAll) (old new : Pass) (from to : SinkState) : Type 0 where
  pub items : History
  pub handed : AreHandedOver old.seat.number (conn_of old) items
  pub entered : Entered cell items old new
  pub writes : WritesAll wrote (said (conn_of old) items) from to
  pub more : Writes cell new

-- the entry of a collect by the same pass
collect_entered : (cell : CellView State) (items : History) (r : LaneReply) (old now new : Pass) → Entered cell items old now → Writes cell now → Makes cell (Collect (conn_of now)) r now new
    → Entered cell (items ++ (entry old.seat.number (Collect (conn_of old)) r ∷ [])) old new
collect_entered cell items r old now new x w m =
    let one : Entered cell (entry now.seat.number (Collect (conn_of now)) r ∷ []) now new = entered_one cell (Collect (conn_of now)) r now new w.in_cell m in
    let same : entry now.seat.number (Collect (conn_of now)) r ≡ entry old.seat.number (Collect (conn_of old)) r =
    λ i. record { caller = x.same.number i; call = Collect (same_conn_of cell items old now x i); reply = r } in
    entered_then cell items (entry old.seat.number (Collect (conn_of old)) r ∷ []) old now new x
    (subst (λ (e : Entry State LaneCall LaneReply). Entered cell (e ∷ []) now new) same one)

pub said_start : (cell : CellView State) (a : Pass) (from : SinkState) → Writes cell a → SaidSoFar cell Whole a a from from
said_start cell a from w = record { items = []; handed = tt; entered = entered_none cell a w.in_cell; writes = says_start from; more = w }

pub said_item : (cell : CellView State) (wrote wrote' : WriteAll) (item : Item) (old now new : Pass) (from mid to : SinkState) → SaidSoFar cell wrote old now from mid
    → Makes cell (Collect (conn_of now)) (reply.Handed item) now new → Writes cell new → SaysOn wrote wrote' (item_bytes item) mid to → SaidSoFar cell wrote' old new from to
said_item cell wrote wrote' item old now new from mid to x m w says =
    let more = said_more (conn_of old) x.items old.seat.number (reply.Handed item) in
    record {
      items = x.items ++ (entry old.seat.number (Collect (conn_of old)) (reply.Handed item) ∷ []);
      handed = handed_more old.seat.number (conn_of old) x.items item x.handed;
      entered = collect_entered cell x.items (reply.Handed item) old now new x.entered x.more m;
      writes = subst (λ (b : List ℕ). WritesAll wrote' b from to) (sym more) (says_on wrote wrote' (said (conn_of old) x.items) (item_bytes item) from mid to x.writes says);
      more = w;
    }

pub said_last : (cell : CellView State) (wrote : WriteAll) (end : WriteEnd) (last : LastCollect) (old now new : Pass) (from mid to : SinkState) → SaidSoFar cell wrote old now from mid
    → Makes cell (Collect (conn_of now)) (last_reply last) now new → last_of end ≡ last → SaysOn wrote (course_of end) (handed_bytes (last_reply last)) mid to
    → WritesSide cell end old new from to
said_last cell wrote end last old now new from mid to x m is says =
    let r : LaneReply = last_reply last in
    let more = said_more (conn_of old) x.items old.seat.number r in
    let whole : WritesAll (course_of end) (said (conn_of old) (x.items ++ (entry old.seat.number (Collect (conn_of old)) r ∷ []))) from to =
    subst (λ (b : List ℕ). WritesAll (course_of end) b from to) (sym more) (says_on wrote (course_of end) (said (conn_of old) x.items) (handed_bytes r) from mid to x.writes says) in
    record {
      items = x.items;
      handed = x.handed;
      entries = x.items ++ (entry old.seat.number (Collect (conn_of old)) r ∷ []);
      ends = ap (λ (l : LastCollect). x.items ++ (entry old.seat.number (Collect (conn_of old)) (last_reply l) ∷ [])) (sym is);
      entered = collect_entered cell x.items r old now new x.entered x.more m;
      writes = whole;
    }
