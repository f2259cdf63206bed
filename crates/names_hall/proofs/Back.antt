-- Where every hand is back, no seat is missing, and the history is whole.
use Rattle.std.proofs.Common.{◌≡◌, ℕ, zero, suc, ◌+◌, ◌<◌, Bool, true, false, ltb, if◌then◌else◌, List, [], ◌∷◌, ◌++◌, length, map, Option, Some, None, inl, inr, sym, refl, ap, ◌∙◌, subst, arith}
use Rattle.std.proofs.lemmas.Option.{none-some, same_Some}
use Rattle.turn_cell.specs.Good.{Good}
use Rattle.turn_cell.specs.History.{of, replay, Legal, FitFrom}
use Rattle.turn_cell.specs.Numbers.{Each, Has, IsWhole}
use Rattle.turn_cell.specs.Whole.{numbers}
use Rattle.flat_seats.specs.Flat.{flat}
use Rattle.name_map.specs.declared.binding.Binding.{Binding}
use Rattle.name_map.specs.declared.limits.TheConstants.{MAX_CALLERS}
use Rattle.name_map.specs.Callers.{History, Opens, IsFit}
use Rattle.name_map.specs.Machine.{step}
use Rattle.names_hall.specs.Hands.{Cell, Sitting, Leaving, Hand}
use Rattle.names_hall.specs.Entering.{AreEntered}
use Rattle.names_hall.specs.Seats.{seat_of, AreHands, AreIn, MainAt}
use Rattle.names_hall.specs.Closing.{left_by, done_by, AreKept, IsLawful, TakesIn}

pub hands_in : (cell : Cell) (slot : ℕ) (hands : List Hand) → AreHands cell slot hands → AreIn cell hands
hands_in cell slot [] a = tt
hands_in cell slot (h ∷ hs) a = ((a.0.of.in_cell, a.0.of.alone), hands_in cell (slot + 1) hs a.1)

-- the numbers of seats that were joined, each beside its splits
abbrev pairs : List Leaving → List (ℕ × ℕ)
pairs left = map {B = ℕ × ℕ} (λ (d : Leaving). (d.number, d.splits)) left

there : (cell : Cell) (slot : ℕ) (hands : List Hand) → AreHands cell slot hands → (k : ℕ) → k < length hands → Has (seat_of (slot + k)) (pairs (left_by hands))
there cell slot [] a k l = absurd (omega arith)
there cell slot (h ∷ hs) a zero l = inl (let n = a.0.of.number_is in let s = a.0.at in omega arith)
there cell slot (h ∷ hs) a (suc k) l = inr (subst (λ (z : ℕ). Has z (pairs (left_by hs))) (omega arith) (there cell (slot + 1) hs a.1 k (omega arith)))

-- a list has every heir of a seat with so many splits
abbrev Heirs : List (ℕ × ℕ) → ℕ × ℕ → Type 0
Heirs ps p = (k : ℕ) → k < p.1 → (m : ℕ) → flat MAX_CALLERS p.0 k ≡ Some m → Has m ps

none_split : (cell : Cell) (all : List (ℕ × ℕ)) (slot : ℕ) (hands : List Hand) → AreHands cell slot hands → Each (Heirs all) (pairs (left_by hands))
none_split cell all slot [] a = tt
none_split cell all slot (h ∷ hs) a = ((λ k l m e. let s = a.0.of.unsplit in absurd (omega arith)), none_split cell all (slot + 1) hs a.1)

heir_first : (b : Bool) (k m : ℕ) → ◌≡◌ {A = Option ℕ} (if b then Some (k + 1) else None) (Some m) → k + 1 ≡ m
heir_first true k m e = same_Some (k + 1) m e
heir_first false k m e = absurd (none-some m e)

heir_of_main : (k m : ℕ) → flat MAX_CALLERS 0 k ≡ Some m → k + 1 ≡ m
heir_of_main k m e = heir_first (ltb k MAX_CALLERS) k m e

whole : (cell : Cell) (hands : List Hand) → AreHands cell 0 hands → length hands ≡ MAX_CALLERS → IsWhole (flat MAX_CALLERS) (numbers 0 MAX_CALLERS (left_by hands))
whole cell hands a n = (
  inl refl,
  (
    (λ k l m e. subst (λ (z : ℕ). Has z (numbers 0 MAX_CALLERS (left_by hands))) (heir_of_main k m e) (inr (subst (λ (z : ℕ). Has z (pairs (left_by hands))) (omega arith) (there cell 0 hands a k (omega arith))))),
    none_split cell (numbers 0 MAX_CALLERS (left_by hands)) 0 hands a,
  ),
)

-- what the first seat took in
main_ended : (cell : Cell) (hands : List Hand) (old new : Sitting) → MainAt cell MAX_CALLERS old → TakesIn cell hands old new → new.ended ≡ left_by hands
main_ended cell hands old new m t = t.ended ∙ ap (λ (z : List Leaving). z ++ left_by hands) m.alone

pub all_back : (cell : Cell) (hands : List Hand) (old new : Sitting) → MainAt cell MAX_CALLERS old → TakesIn cell hands old new → AreHands cell 0 hands → length hands ≡ MAX_CALLERS
    → IsWhole (flat MAX_CALLERS) (numbers new.number new.splits new.ended)
all_back cell hands old new m t a n =
    let number : 0 ≡ new.number = sym (t.number ∙ m.number_is) in
    let splits : MAX_CALLERS ≡ new.splits = sym (t.splits ∙ m.splits_is) in
    let ended : left_by hands ≡ new.ended = sym (main_ended cell hands old new m t) in
    subst (λ (z : ℕ × ℕ × List Leaving). IsWhole (flat MAX_CALLERS) (numbers z.0 z.1 z.2)) (λ i. (number i, splits i, ended i)) (whole cell hands a n)

kept_from : (cell : Cell) (h : History) (slot : ℕ) (hands : List Hand) → AreHands cell slot hands → Each (λ (d : Leaving). d.calls ≡ of d.number h) (left_by hands)
    → AreKept h slot (done_by hands)
kept_from cell h slot [] a e = tt
kept_from cell h slot (x ∷ xs) a e =
    let at : x.slot ≡ slot = a.0.at in
    let mine : AreEntered (seat_of slot) x.done x.seat.mine = subst (λ (s : ℕ). AreEntered (seat_of s) x.done x.seat.mine) at a.0.of.entered in
    let all : x.seat.mine ≡ of (seat_of slot) h = e.0 ∙ ap (λ (n : ℕ). of n h) (a.0.of.number_is ∙ ap seat_of at) in
    (subst (λ (z : History). AreEntered (seat_of slot) x.done z) all mine, kept_from cell h (slot + 1) xs a.1 e.1)

pub all_kept : (cell : Cell) (h : History) (hands : List Hand) (old new : Sitting) → MainAt cell MAX_CALLERS old → TakesIn cell hands old new → AreHands cell 0 hands
    → Each (λ (d : Leaving). d.calls ≡ of d.number h) new.ended → AreKept h 0 (done_by hands)
all_kept cell h hands old new m t a e =
    kept_from cell h 0 hands a (subst (λ (z : List Leaving). Each (λ (d : Leaving). d.calls ≡ of d.number h) z) (main_ended cell hands old new m t) e)

abbrev IsGoodAt : Cell → History → Type 0
IsGoodAt cell h = Good (λ _ _. true) (λ _ _. Unit {0}) step Opens IsFit cell.terms h

pub lawful : (cell : Cell) (h : History) → IsGoodAt cell h → IsLawful h
lawful cell h g = record {
  legal = subst (λ (b : List Binding). Legal (λ _ _. true) (λ _ _. Unit {0}) step b h) g.0 g.1;
  fit = subst (λ (b : List Binding). FitFrom IsFit b [] h) g.0 g.2;
}

pub map_after : (cell : Cell) (h : History) (last : List Binding) → IsGoodAt cell h → last ≡ replay step cell.terms.opening h → last ≡ replay step [] h
map_after cell h last g e = e ∙ ap (λ (b : List Binding). replay step b h) g.0
