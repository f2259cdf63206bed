-- Passes that come back one after another.
use Rattle.std.proofs.Common.{◌≡◌, List, [], ◌∷◌, ◌++◌, append-nil, append_assoc, subst, sym, ap, ◌∙◌, refl}
use Rattle.turn_cell.specs.Seats.{CellView}
use Rattle.turn_cell.specs.Calls.{IsOf, IsJoined, gone}
use Rattle.turn_cell.specs.History.{StartsWith}
use Rattle.lane_machine.specs.State.{State}
use Rattle.lane_machine.specs.Histories.{History}
use Rattle.lane_pool.specs.Pass.{Pass, Sitting, Leaving}
use Rattle.lane_pool.specs.Passes.{IsIn}
use Rattle.lane_pool.specs.Returning.{AreIn, AreSeen, left_by, TakesIn}

cut_in : (cell : CellView State) (xs : List Pass) (x : Pass) → AreIn cell (xs ++ x ∷ []) → AreIn cell xs × IsIn cell x
cut_in cell [] x a = (tt, a.0)
cut_in cell (y ∷ ys) x a = let r = cut_in cell ys x a.1 in ((a.0, r.0), r.1)

pub in_front : (cell : CellView State) (all xs : List Pass) (x : Pass) → AreIn cell all → all ≡ xs ++ x ∷ [] → AreIn cell xs
in_front cell all xs x a e = (cut_in cell xs x (subst (AreIn cell) e a)).0

pub in_last : (cell : CellView State) (all xs : List Pass) (x : Pass) → AreIn cell all → all ≡ xs ++ x ∷ [] → IsIn cell x
in_last cell all xs x a e = (cut_in cell xs x (subst (AreIn cell) e a)).1

-- a history that goes on from one begins with what that begins with
pub on_from : (h later seen : History) → StartsWith later h → StartsWith h seen → StartsWith later seen
on_from h later seen a b = (b.0 ++ a.0, a.1 ∙ (ap (λ (z : History). z ++ a.0) b.1 ∙ append_assoc seen b.0 a.0))

pub seen_on : (h later : History) (ps : List Pass) → StartsWith later h → AreSeen h ps → AreSeen later ps
seen_on h later [] a s = tt
seen_on h later (p ∷ ps) a s = (on_from h later p.seat.seen a s.0, seen_on h later ps a s.1)

seen_push : (h : History) (ps : List Pass) (p : Pass) → AreSeen h ps → StartsWith h p.seat.seen → AreSeen h (ps ++ p ∷ [])
seen_push h [] p s a = (a, tt)
seen_push h (x ∷ xs) p s a = (s.0, seen_push h xs p s.1 a)

left_push : (ps : List Pass) (p : Pass) → left_by (ps ++ p ∷ []) ≡ left_by ps ++ (gone p.seat ∷ p.seat.ended)
left_push [] p = append-nil (gone p.seat ∷ p.seat.ended)
left_push (x ∷ xs) p = ap (λ (z : List Leaving). (gone x.seat ∷ x.seat.ended) ++ z) (left_push xs p) ∙ sym (append_assoc (gone x.seat ∷ x.seat.ended) (left_by xs) (gone p.seat ∷ p.seat.ended))

pub given_none : (cell : CellView State) (passes : List Pass) (old : Sitting) → passes ≡ [] → IsOf cell old → TakesIn cell passes old old
given_none cell passes old e in_cell = subst (λ (ps : List Pass). TakesIn cell ps old old) (sym e) (record {
  in_cell = in_cell;
  number = refl;
  splits = refl;
  ended = sym (append-nil old.ended);
  seen = tt;
  later = ([], sym (append-nil old.seen));
})

pub given_more : (cell : CellView State) (all xs : List Pass) (x : Pass) (old mid new : Sitting) → all ≡ xs ++ x ∷ [] → TakesIn cell xs old mid → IsOf cell mid → IsJoined mid x.seat new → TakesIn cell all old new
given_more cell all xs x old mid new e t in_cell j = let h = j.0 in subst (λ (ps : List Pass). TakesIn cell ps old new) (sym e) (record {
  in_cell = (h.0 ∙ in_cell.0, h.1 ∙ in_cell.1);
  number = h.2 ∙ t.number;
  splits = h.4 ∙ t.splits;
  ended = j.1 ∙ (ap (λ (z : List Leaving). z ++ (gone x.seat ∷ x.seat.ended)) t.ended ∙ (append_assoc old.ended (left_by xs) (gone x.seat ∷ x.seat.ended) ∙ ap (λ (z : List Leaving). old.ended ++ z) (sym (left_push xs x))));
  seen = seen_push new.seen xs x (seen_on mid.seen new.seen xs h.6 t.seen) h.7;
  later = on_from mid.seen new.seen old.seen h.6 t.later;
})

-- all that the first seat took in
pub all_left : (cell : CellView State) (slots workers : List Pass) (old mid new : Sitting) → old.ended ≡ [] → TakesIn cell slots old mid → TakesIn cell workers mid new → new.ended ≡ left_by slots ++ left_by workers
all_left cell slots workers old mid new e a b = b.ended ∙ ap (λ (z : List Leaving). z ++ left_by workers) (a.ended ∙ ap (λ (z : List Leaving). z ++ left_by slots) e)

pub all_splits : (cell : CellView State) (slots workers : List Pass) (old mid new : Sitting) → TakesIn cell slots old mid → TakesIn cell workers mid new → new.splits ≡ old.splits
all_splits cell slots workers old mid new a b = b.splits ∙ a.splits

pub all_number : (cell : CellView State) (slots workers : List Pass) (old mid new : Sitting) → TakesIn cell slots old mid → TakesIn cell workers mid new → old.number ≡ 0 → new.number ≡ 0
all_number cell slots workers old mid new a b e = b.number ∙ (a.number ∙ e)
