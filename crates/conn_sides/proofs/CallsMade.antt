-- The calls of a reading side, one after another.
use Rattle.std.proofs.Common.{◌≡◌, ℕ, ◌+◌, ◌-◌, take, Bool, true, false, List, [], ◌∷◌, ◌++◌, length, refl, sym, ap, ◌∙◌, subst, append_assoc, append-nil, arith, length-append}
use Rattle.std.specs.Prelude.{reverse}
use Rattle.std.proofs.lemmas.List.{reverse-append}
use Rattle.turn_cell.specs.Seats.{CellView}
use Rattle.orb_base.specs.declared.conn_id.ConnId.{ConnId}
use Rattle.orb_base.specs.Pool.{Pool}
use Rattle.lane_machine.specs.Callers.{is_closing}
use Rattle.lane_machine.specs.Histories.{History}
use Rattle.lane_machine.specs.State.{State}
use Rattle.lane_machine.specs.declared.call.LaneCall.{LaneCall}
use Rattle.lane_machine.specs.declared.call.LaneCall.TheVariants.{Cancel}
use Rattle.lane_machine.specs.declared.call.LaneReply.{LaneReply}
use Rattle.pipe_laws.specs.Legality.{IsHeardCall, AreHeardCalls}
use Rattle.pipe_laws.specs.Serials.{IsNumbered, CountsFrom}
use Rattle.lane_pool.specs.Pass.{Pass, conn_of}
use Rattle.lane_pool.specs.Passes.{Makes}
use Rattle.lane_pool.specs.Turns.{Reads, Listens, GoesOn, heard_by}
use Rattle.lane_pool.proofs.Turns.{listens_on}
use Rattle.conn_sides.specs.Entering.{entry, calls_of, met_closing, Entered}
use Rattle.conn_sides.specs.ReadSides.{MadeAll, MadeUpToClosing}
use Rattle.conn_sides.specs.Calling.{MakesOne, MadeBy, CallsAll}
use Rattle.conn_sides.proofs.Entering.{entered_none, entered_one, entered_then, same_conn_of, calls_both, closing_both}

pub makes_one : (cell : CellView State) (call : LaneCall) (r : LaneReply) (closing : Bool) (old new : Pass) → Makes cell call r old new → is_closing r ≡ closing → MakesOne cell call closing old new
makes_one cell call r closing old new m is = record { reply = r; makes = m; closes = is }

-- a cancel of the pass's connection
pub makes_cancel : (cell : CellView State) (conn : ConnId) (id : ℕ) (closing : Bool) (old new : Pass) → conn ≡ conn_of old → MakesOne cell (Cancel (conn_of old) id) closing old new → MakesOne cell (Cancel conn id) closing old new
makes_cancel cell conn id closing old new is m = subst (λ (c : ConnId). MakesOne cell (Cancel c id) closing old new) (sym is) m

-- some of the calls were made, and these are left, the last one first
pub record TurnedSoFar (cell : CellView State) (all left : List LaneCall) (old new : Pass) : Type 0 where
  pub calls : List LaneCall
  pub parts : all ≡ calls ++ reverse left
  pub entries : History
  pub made : MadeAll calls entries
  pub entered : Entered cell entries old new
  pub listens : Listens cell new
  pub heard : heard_by new ≡ heard_by old + length calls
  pub ones : AreHeardCalls cell.terms.opening.pool (conn_of new) (reverse left)
  pub counts : CountsFrom (heard_by new) (reverse left)

module _ (cell : CellView State) where
  pub turned_start : (turned : List LaneCall) (a : Pass) → Listens cell a → AreHeardCalls cell.terms.opening.pool (conn_of a) (reverse turned) → CountsFrom (heard_by a) (reverse turned)
      → TurnedSoFar cell (reverse turned) turned a a
  turned_start turned a l h n = record {
    calls = [];
    parts = refl;
    entries = [];
    made = record { calls_are = refl; is_open = refl };
    entered = entered_none cell a l.reads.serves.in_cell;
    listens = l;
    heard = omega arith;
    ones = h;
    counts = n;
  }

  -- the next call is last
  turned_next : (left front : List LaneCall) (call : LaneCall) → left ≡ front ++ (call ∷ []) → reverse left ≡ call ∷ reverse front
  turned_next left front call is = ap reverse is ∙ reverse-append front (call ∷ [])

  pub next_heard : (all left front : List LaneCall) (call : LaneCall) (old new : Pass) → TurnedSoFar cell all left old new → left ≡ front ++ (call ∷ [])
      → IsHeardCall cell.terms.opening.pool (conn_of new) call
  next_heard all left front call old new x is = (subst (AreHeardCalls cell.terms.opening.pool (conn_of new)) (turned_next left front call is) x.ones).0

  pub next_numbered : (all left front : List LaneCall) (call : LaneCall) (old new : Pass) → TurnedSoFar cell all left old new → left ≡ front ++ (call ∷ []) → IsNumbered (heard_by new) call
  next_numbered all left front call old new x is = (subst (CountsFrom (heard_by new)) (turned_next left front call is) x.counts).0

  one_open : (call : LaneCall) (mid new : Pass) (m : MakesOne cell call false mid new) → met_closing (entry mid.seat.number call m.reply ∷ []) ≡ false
  one_open call mid new m = rw m.closes refl

  calls_behind : (entries : History) (calls : List LaneCall) (call : LaneCall) (n : ℕ) (r : LaneReply) → calls_of entries ≡ calls → calls_of (entries ++ (entry n call r ∷ [])) ≡ calls ++ (call ∷ [])
  calls_behind entries calls call n r is = calls_both entries (entry n call r ∷ []) ∙ ap (λ (cs : List LaneCall). cs ++ (call ∷ [])) is

  pub turned_more : (all left front : List LaneCall) (call : LaneCall) (old mid new : Pass) → TurnedSoFar cell all left old mid → left ≡ front ++ (call ∷ [])
      → MakesOne cell call false mid new → GoesOn cell false mid new → TurnedSoFar cell all front old new
  turned_more all left front call old mid new x is m g =
      let e : History = entry mid.seat.number call m.reply ∷ [] in
      let next : reverse left ≡ call ∷ reverse front = turned_next left front call is in
      let one : Entered cell e mid new = entered_one cell call m.reply mid new x.listens.reads.serves.in_cell m.makes in
      let conn : conn_of new ≡ conn_of mid = same_conn_of cell e mid new one in
      let ones : AreHeardCalls cell.terms.opening.pool (conn_of mid) (reverse front) = (subst (AreHeardCalls cell.terms.opening.pool (conn_of mid)) next x.ones).1 in
      let counts : CountsFrom (heard_by mid + 1) (reverse front) = (subst (CountsFrom (heard_by mid)) next x.counts).1 in
      record {
        calls = x.calls ++ (call ∷ []);
        parts = x.parts ∙ ap (λ (cs : List LaneCall). x.calls ++ cs) next ∙ sym (append_assoc x.calls (call ∷ []) (reverse front));
        entries = x.entries ++ e;
        made = record {
          calls_are = calls_behind x.entries x.calls call mid.seat.number m.reply x.made.calls_are;
          is_open = closing_both x.entries e x.made.is_open (one_open call mid new m);
        };
        entered = entered_then cell x.entries e old mid new x.entered one;
        listens = listens_on cell false mid new g refl;
        heard = omega (arith, g.heard, x.heard, length-append x.calls (call ∷ []));
        ones = subst (λ (c : ConnId). AreHeardCalls cell.terms.opening.pool c (reverse front)) (sym conn) ones;
        counts = subst (λ (n : ℕ). CountsFrom n (reverse front)) (sym g.heard) counts;
      }

  pub turned_closed : (all left front : List LaneCall) (call : LaneCall) (old mid new : Pass) → TurnedSoFar cell all left old mid → left ≡ front ++ (call ∷ [])
      → MakesOne cell call true mid new → GoesOn cell true mid new → CallsAll cell all true old new
  turned_closed all left front call old mid new x is m g =
      let e : History = entry mid.seat.number call m.reply ∷ [] in
      let next : reverse left ≡ call ∷ reverse front = turned_next left front call is in
      record {
        entries = x.entries ++ e;
        made = (
          record {
            before = x.entries;
            last = entry mid.seat.number call m.reply;
            rest = reverse front;
            ends = refl;
            parts = x.parts ∙ ap (λ (cs : List LaneCall). x.calls ++ cs) next ∙ sym (append_assoc x.calls (call ∷ []) (reverse front))
                ∙ ap (λ (cs : List LaneCall). cs ++ reverse front) (sym (calls_behind x.entries x.calls call mid.seat.number m.reply x.made.calls_are));
            is_open = x.made.is_open;
            closes = m.closes;
          },
          g.reads,
        );
        entered = entered_then cell x.entries e old mid new x.entered (entered_one cell call m.reply mid new x.listens.reads.serves.in_cell m.makes);
      }

  -- a list from which nothing can be popped is empty
  pub nothing_popped : (left front : List LaneCall) (n : ℕ) → n ≡ 0 → front ≡ take (n - 1) left → left ≡ front ++ [] → left ≡ []
  nothing_popped left front n none rest items = items ∙ append-nil front ∙ rest ∙ ap (λ (k : ℕ). take (k - 1) left) none

  pub turned_all : (all left : List LaneCall) (old new : Pass) → TurnedSoFar cell all left old new → left ≡ [] → CallsAll cell all false old new
  turned_all all left old new x none =
      let is : x.calls ≡ all = sym (x.parts ∙ ap (λ (cs : List LaneCall). x.calls ++ reverse cs) none ∙ append-nil x.calls) in
      record {
        entries = x.entries;
        made = (
          record { calls_are = x.made.calls_are ∙ is; is_open = x.made.is_open },
          x.listens,
          x.heard ∙ ap (λ (cs : List LaneCall). heard_by old + length cs) is,
        );
        entered = x.entered;
      }
