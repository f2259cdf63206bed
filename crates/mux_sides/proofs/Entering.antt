-- Entries by one seat, one after the other.
use Rattle.std.proofs.Common.{[], ◌∷◌, ◌++◌, refl, sym, ap, ◌∙◌, append_assoc, append-nil}
use Rattle.turn_cell.specs.Seats.{CellView}
use Rattle.turn_cell.specs.Good.{entry}
use Rattle.client_mux.specs.declared.call.MuxCall.{MuxCall}
use Rattle.client_mux.specs.declared.call.MuxReply.{MuxReply}
use Rattle.client_mux.specs.Machine.{Mux, History}
use Rattle.shared_link.specs.Link.{Sitting}
use Rattle.shared_link.specs.Turns.{IsIn, Makes}
use Rattle.mux_sides.specs.Entering.{Enters}

pub enters_none : (a : Sitting) → Enters [] a a
enters_none a = record { later = (refl, refl, refl, refl, refl, ([], sym (append-nil a.seen))); mine = sym (append-nil a.mine) }

pub enters_one : (cell : CellView Mux) (call : MuxCall) (r : MuxReply) (old new : Sitting) → Makes cell call r old new → Enters (entry old.number call r ∷ []) old new
enters_one cell call r old new m = record { later = m.0; mine = m.2 }

pub enters_then : (xs ys : History) (a b c : Sitting) → Enters xs a b → Enters ys b c → Enters (xs ++ ys) a c
enters_then xs ys a b c x y = record {
  later = (
    y.later.0 ∙ x.later.0,
    y.later.1 ∙ x.later.1,
    y.later.2 ∙ x.later.2,
    y.later.3 ∙ x.later.3,
    y.later.4 ∙ x.later.4,
    (
      x.later.5.0 ++ y.later.5.0,
      y.later.5.1 ∙ ap (λ (h : History). h ++ y.later.5.0) x.later.5.1 ∙ append_assoc a.seen x.later.5.0 y.later.5.0,
    ),
  );
  mine = y.mine ∙ ap (λ (h : History). h ++ ys) x.mine ∙ append_assoc a.mine xs ys;
}

-- the seat stays one of the link
pub still_in : (cell : CellView Mux) (xs : History) (a b : Sitting) → Enters xs a b → IsIn cell a → IsIn cell b
still_in cell xs a b x i = (x.later.0 ∙ i.0, x.later.1 ∙ i.1)
