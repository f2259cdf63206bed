-- Fresh hands, one after another.
use Rattle.std.proofs.Common.{◌≡◌, ◌+◌, ◌<◌, ℕ, Bool, cond, List, [], ◌∷◌, ◌++◌, length, Some, None, ap, ◌∙◌, sym, subst, arith}
use Rattle.std.proofs.lemmas.Bool.{lt-ltb}
use Rattle.std.proofs.lemmas.Option.{same_Some}
use Rattle.turn_cell.specs.Calls.{IsSplit}
use Rattle.flat_seats.specs.Flat.{flat}
use Rattle.name_map.specs.declared.limits.TheConstants.{MAX_CALLERS, MAX_CALLS}
use Rattle.names_hall.specs.Hands.{Cell, Sitting, Hand}
use Rattle.names_hall.specs.Entering.{AreEntered, none}
use Rattle.names_hall.specs.Seats.{seat_of, MainAt, IsFresh, AreFresh}

heir_at : (n k : ℕ) → n ≡ 0 → k < MAX_CALLERS → flat MAX_CALLERS n k ≡ Some (k + 1)
heir_at n k e l = ap (λ (m : ℕ). flat MAX_CALLERS m k) e ∙ ap (λ (b : Bool). cond b (Some (k + 1)) None) (lt-ltb k MAX_CALLERS l)

heir_is : (cell : Cell) (k : ℕ) (main : Sitting) → MainAt cell k main → k < MAX_CALLERS → flat MAX_CALLERS main.number main.splits ≡ Some (k + 1)
heir_is cell k main m l = ap (λ (s : ℕ). flat MAX_CALLERS main.number s) m.splits_is ∙ heir_at main.number k m.number_is l

pub heir_of_first : (cell : Cell) (k : ℕ) (main : Sitting) → MainAt cell k main → k < MAX_CALLERS
    → (m : ℕ) × (flat MAX_CALLERS main.number main.splits ≡ Some m)
heir_of_first cell k main m l = (k + 1, heir_is cell k main m l)

pub split_on : (cell : Cell) (k : ℕ) (old new right : Sitting) → MainAt cell k old → IsSplit (flat MAX_CALLERS) old new right → MainAt cell (k + 1) new
split_on cell k old new right m s = record {
  in_cell = (s.0 ∙ m.in_cell.0, s.1 ∙ m.in_cell.1);
  number_is = s.2 ∙ m.number_is;
  splits_is = s.5 ∙ ap (λ (z : ℕ). z + 1) m.splits_is;
  alone = s.6 ∙ m.alone;
}

pub fresh : (cell : Cell) (k : ℕ) (old new : Sitting) (hand : Hand) → MainAt cell k old → k < MAX_CALLERS → IsSplit (flat MAX_CALLERS) old new hand.seat
    → hand.slot ≡ k → hand.done ≡ [] → hand.spare ≡ MAX_CALLS → IsFresh cell k hand
fresh cell k old new hand m l s slot done spare = record {
  at = record {
    of = record {
      in_cell = (s.7 ∙ m.in_cell.0, s.8 ∙ m.in_cell.1);
      number_is = same_Some hand.seat.number (k + 1) (sym s.9 ∙ heir_is cell k old m l) ∙ ap seat_of (sym slot);
      slot_is = subst (λ (z : ℕ). z < MAX_CALLERS) (sym slot) l;
      unsplit = s.12;
      alone = s.13;
      entered = subst (λ (z : List _). AreEntered (seat_of hand.slot) z hand.seat.mine) (sym done) (subst (λ (z : List _). AreEntered (seat_of hand.slot) [] z) (sym s.11) none);
      share = let e : length hand.done ≡ 0 = ap length done in omega arith;
    };
    at = slot;
  };
  unused = done;
}

grows_at : (cell : Cell) (first : ℕ) (hs : List Hand) (h : Hand) → AreFresh cell first hs → IsFresh cell (first + length hs) h → AreFresh cell first (hs ++ h ∷ [])
grows_at cell first [] h a f = (subst (λ (k : ℕ). IsFresh cell k h) (omega arith) f, tt)
grows_at cell first (x ∷ xs) h a f = (a.0, grows_at cell (first + 1) xs h a.1 (subst (λ (k : ℕ). IsFresh cell k h) (omega arith) f))

pub grows : (cell : Cell) (k : ℕ) (hs : List Hand) (h : Hand) → AreFresh cell 0 hs → length hs ≡ k → IsFresh cell k h → AreFresh cell 0 (hs ++ h ∷ [])
grows cell k hs h a e f = grows_at cell 0 hs h a (subst (λ (n : ℕ). IsFresh cell n h) (omega arith) f)
