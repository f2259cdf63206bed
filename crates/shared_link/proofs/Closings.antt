-- Seats that come back one after another.
use Rattle.std.proofs.Common.{◌≡◌, ℕ, zero, suc, Bool, true, false, ◌+◌, ◌<◌, List, [], ◌∷◌, ◌++◌, map, length, Option, Some, None, inl, inr, append-nil, append_assoc, subst, sym, ap, ◌∙◌, refl, arith}
use Rattle.std.specs.Prelude.{if◌then◌else◌, nat_lt}
use Rattle.std.proofs.lemmas.Option.{none-some, same_Some}
use Rattle.turn_cell.specs.Seats.{CellView}
use Rattle.turn_cell.specs.Calls.{IsOf, IsJoined, gone}
use Rattle.turn_cell.specs.Numbers.{Each, Has, IsWhole}
use Rattle.turn_cell.specs.Whole.{numbers}
use Rattle.client_mux.specs.declared.limits.TheConstants.{MAX_SEATS}
use Rattle.client_mux.specs.Machine.{Mux, History}
use Rattle.client_mux.specs.Callers.{heir, of}
use Rattle.shared_link.specs.Link.{Sitting}
use Rattle.shared_link.specs.Turns.{IsIn, MainAt}
use Rattle.shared_link.specs.Closings.{IsBack, AreBack, AreOf, AreIn, Leaving, left_by, TakesIn}

cut_in : (cell : CellView Mux) (xs : List Sitting) (x : Sitting) → AreIn cell (xs ++ x ∷ []) → AreIn cell xs × IsIn cell x
cut_in cell [] x a = (tt, a.0)
cut_in cell (y ∷ ys) x a = let r = cut_in cell ys x a.1 in ((a.0, r.0), r.1)

pub in_first : (cell : CellView Mux) (all xs : List Sitting) (x : Sitting) → AreIn cell all → all ≡ xs ++ x ∷ [] → AreIn cell xs
in_first cell all xs x a e = (cut_in cell xs x (subst (AreIn cell) e a)).0

pub in_last : (cell : CellView Mux) (all xs : List Sitting) (x : Sitting) → AreIn cell all → all ≡ xs ++ x ∷ [] → IsIn cell x
in_last cell all xs x a e = (cut_in cell xs x (subst (AreIn cell) e a)).1

pub back_in : (cell : CellView Mux) (first : ℕ) (ss : List Sitting) → AreBack cell first ss → AreIn cell ss
back_in cell first [] a = tt
back_in cell first (s ∷ ss) a = (a.0.in_cell, back_in cell (first + 1) ss a.1)

left_push : (ss : List Sitting) (s : Sitting) → left_by (ss ++ s ∷ []) ≡ left_by ss ++ (gone s ∷ s.ended)
left_push [] s = append-nil (gone s ∷ s.ended)
left_push (x ∷ xs) s = ap (λ (z : List Leaving). (gone x ∷ x.ended) ++ z) (left_push xs s) ∙ sym (append_assoc (gone x ∷ x.ended) (left_by xs) (gone s ∷ s.ended))

pub taken_none : (cell : CellView Mux) (seats : List Sitting) (old : Sitting) → seats ≡ [] → IsOf cell old → TakesIn cell seats old old
taken_none cell seats old e in_cell =
    subst (λ (ss : List Sitting). TakesIn cell ss old old) (sym e) (record { in_cell = in_cell; number = refl; splits = refl; ended = sym (append-nil old.ended) })

pub taken_more : (cell : CellView Mux) (all xs : List Sitting) (x old mid new : Sitting) → all ≡ xs ++ x ∷ [] → TakesIn cell xs old mid → IsJoined mid x new → TakesIn cell all old new
taken_more cell all xs x old mid new e t j = let h = j.0 in subst (λ (ss : List Sitting). TakesIn cell ss old new) (sym e) (record {
  in_cell = (h.0 ∙ t.in_cell.0, h.1 ∙ t.in_cell.1);
  number = h.2 ∙ t.number;
  splits = h.4 ∙ t.splits;
  ended = j.1 ∙ (ap (λ (z : List Leaving). z ++ (gone x ∷ x.ended)) t.ended ∙ (append_assoc old.ended (left_by xs) (gone x ∷ x.ended) ∙ ap (λ (z : List Leaving). old.ended ++ z) (sym (left_push xs x))));
})

-- ---- all came back

-- what seats leave into which none was joined
left_flat : (cell : CellView Mux) (first : ℕ) (ss : List Sitting) → AreBack cell first ss → left_by ss ≡ map (λ (s : Sitting). gone s) ss
left_flat cell first [] a = refl
left_flat cell first (s ∷ ss) a =
    ap (λ (z : List Leaving). gone s ∷ (z ++ left_by ss)) a.0.alone ∙ ap (λ (z : List Leaving). gone s ∷ z) (left_flat cell (first + 1) ss a.1)

abbrev pairs : List Leaving → List (ℕ × ℕ)
pairs ds = map (λ (d : Leaving). (d.number, d.splits)) ds

abbrev gones : List Sitting → List Leaving
gones ss = map (λ (s : Sitting). gone s) ss

has_each : (cell : CellView Mux) (first : ℕ) (ss : List Sitting) → AreBack cell first ss → (k : ℕ) → k < length ss → Has (first + k) (pairs (gones ss))
has_each cell first [] a k l = absurd (omega arith)
has_each cell first (s ∷ ss) a zero l = inl (let e = a.0.number_is in omega arith)
has_each cell first (s ∷ ss) a (suc k) l =
    inr (subst (λ (n : ℕ). Has n (pairs (gones ss))) (omega arith) (has_each cell (first + 1) ss a.1 k (omega arith)))

abbrev Heirs : List (ℕ × ℕ) → ℕ × ℕ → Type 0
Heirs all p = (k : ℕ) → k < p.1 → (m : ℕ) → heir p.0 k ≡ Some m → Has m all

no_heirs : (cell : CellView Mux) (all : List (ℕ × ℕ)) (first : ℕ) (ss : List Sitting) → AreBack cell first ss → Each (Heirs all) (pairs (gones ss))
no_heirs cell all first [] a = tt
no_heirs cell all first (s ∷ ss) a = (λ k l m e. let z = a.0.unsplit in absurd (omega arith), no_heirs cell all (first + 1) ss a.1)

told : (b : Bool) (n m : ℕ) → ◌≡◌ {A = Option ℕ} (if b then Some n else None) (Some m) → n ≡ m
told true n m e = same_Some n m e
told false n m e = absurd (none-some m e)

first_heir : (k m : ℕ) → heir 0 k ≡ Some m → m ≡ k + 1
first_heir k m e = sym (told (nat_lt k MAX_SEATS) (k + 1) m e)

all_whole : (cell : CellView Mux) (ss : List Sitting) → AreBack cell 1 ss → IsWhole heir ((0, length ss) ∷ pairs (gones ss))
all_whole cell ss a =
    let all : List (ℕ × ℕ) = (0, length ss) ∷ pairs (gones ss) in (
      inl refl,
      (
        λ k l m e. inr (subst (λ (n : ℕ). Has n (pairs (gones ss))) (let s = first_heir k m e in omega arith) (has_each cell 1 ss a k l)),
        no_heirs cell all 1 ss a,
      ),
    )

pub back_whole : (cell : CellView Mux) (ss : List Sitting) (old new : Sitting) → MainAt cell (length ss) old → AreBack cell 1 ss → TakesIn cell ss old new
    → IsWhole heir (numbers new.number new.splits new.ended)
back_whole cell ss old new m a t =
    let n : new.number ≡ 0 = t.number ∙ m.number_is in
    let s : new.splits ≡ length ss = t.splits ∙ m.splits_is in
    let e : new.ended ≡ gones ss = t.ended ∙ (ap (λ (z : List Leaving). z ++ left_by ss) m.alone ∙ left_flat cell 1 ss a) in
    subst (λ (z : ℕ × ℕ × List Leaving). IsWhole heir (numbers z.0 z.1 z.2)) (λ i. (sym n i, sym s i, sym e i)) (all_whole cell ss a)

each_of : (h : History) (ss : List Sitting) → Each (λ (d : Leaving). d.calls ≡ of d.number h) (gones ss) → AreOf h ss
each_of h [] a = tt
each_of h (s ∷ ss) a = (a.0, each_of h ss a.1)

pub back_of : (cell : CellView Mux) (ss : List Sitting) (old new : Sitting) (h : History) → MainAt cell (length ss) old → AreBack cell 1 ss → TakesIn cell ss old new
    → Each (λ (d : Leaving). d.calls ≡ of d.number h) new.ended → AreOf h ss
back_of cell ss old new h m a t c =
    each_of h ss (subst (λ (z : List Leaving). Each (λ (d : Leaving). d.calls ≡ of d.number h) z)
    (t.ended ∙ (ap (λ (z : List Leaving). z ++ left_by ss) m.alone ∙ left_flat cell 1 ss a)) c)
