-- Entries by one pass, one after the other.
use Rattle.std.proofs.Common.{◌≡◌, ℕ, Bool, true, false, List, [], ◌∷◌, ◌++◌, map, refl, sym, ap, ◌∙◌, append_assoc, append-nil}
use Rattle.std.specs.Prelude.{◌||◌}
use Rattle.std.proofs.lemmas.List.{map-append}
use Rattle.std.proofs.lemmas.List.Folds.{list_any-append}
use Rattle.turn_cell.specs.declared.entry.Entry.{Entry}
use Rattle.turn_cell.specs.Seats.{CellView}
use Rattle.lane_machine.specs.Callers.{is_closing}
use Rattle.lane_machine.specs.Histories.{History}
use Rattle.lane_machine.specs.State.{State}
use Rattle.lane_machine.specs.declared.call.LaneCall.{LaneCall}
use Rattle.lane_machine.specs.declared.call.LaneReply.{LaneReply}
use Rattle.lane_pool.specs.Pass.{Pass, conn_of}
use Rattle.lane_pool.specs.Passes.{IsIn, Makes}
use Rattle.lane_pool.specs.Returned.{IsSame}
use Rattle.lane_pool.proofs.Staying.{same_then}
use Rattle.conn_sides.specs.Entering.{entry, calls_of, met_closing, Entered}

module _ (cell : CellView State) where
  pub entered_none : (a : Pass) → IsIn cell a → Entered cell [] a a
  entered_none a i = record {
    same = record { in_cell = i; who = refl; nth = refl; number = refl; splits = refl; ended = refl };
    mine = sym (append-nil a.seat.mine);
    later = ([], sym (append-nil a.seat.seen));
  }

  pub entered_one : (call : LaneCall) (r : LaneReply) (old new : Pass) → IsIn cell old → Makes cell call r old new → Entered cell (entry old.seat.number call r ∷ []) old new
  entered_one call r old new i m = let c = m.2.0 in record {
    same = record { in_cell = (c.0 ∙ i.0, c.1 ∙ i.1); who = m.0; nth = m.1; number = c.2; splits = c.3; ended = c.4 };
    mine = m.2.2;
    later = c.5;
  }

  pub entered_then : (xs ys : History) (a b c : Pass) → Entered cell xs a b → Entered cell ys b c → Entered cell (xs ++ ys) a c
  entered_then xs ys a b c x y = record {
    same = same_then cell a b c x.same y.same;
    mine = y.mine ∙ ap (λ (h : History). h ++ ys) x.mine ∙ append_assoc a.seat.mine xs ys;
    later = (
      x.later.0 ++ y.later.0,
      y.later.1 ∙ ap (λ (h : History). h ++ y.later.0) x.later.1 ∙ append_assoc a.seat.seen x.later.0 y.later.0,
    );
  }

  -- the connection of the pass stays
  pub same_conn_of : (xs : History) (a b : Pass) → Entered cell xs a b → conn_of b ≡ conn_of a
  same_conn_of xs a b x = λ i. record { slot = x.same.who i; nth = x.same.nth i }

pub calls_both : (xs ys : History) → calls_of (xs ++ ys) ≡ calls_of xs ++ calls_of ys
calls_both xs ys = map-append (λ (e : Entry State LaneCall LaneReply). e.call) xs ys

pub closing_both : (xs ys : History) → met_closing xs ≡ false → met_closing ys ≡ false → met_closing (xs ++ ys) ≡ false
closing_both xs ys x y = list_any-append (λ (e : Entry State LaneCall LaneReply). is_closing e.reply) xs ys ∙ ap (λ (b : Bool). b || met_closing ys) x ∙ y
