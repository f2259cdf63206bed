-- Bands one by one: what is left of them decides whether all are apart.
use Rattle.std.proofs.Common.{◌≡◌, ℕ, ◌+◌, ◌-◌, ◌<◌, ◌≤◌, Bool, true, false, List, ◌∷◌, length, take, take_all, drop, get_or, refl, sym, ap, ◌∙◌, arith, length-drop}
use Rattle.std.specs.List.{list_any}
use Rattle.std.proofs.lemmas.List.{drop_more, drop_all}
use Rattle.orb_base.specs.Span.{Span}
use Rattle.orb_base.specs.Apart.{overlap, are_apart}

left_from : (bands : List Span) (at : ℕ) (band : Span) → at < length bands → band ≡ get_or bands at band → drop at bands ≡ band ∷ drop (at + 1) bands
left_from bands at band less is = drop_more bands at band less ∙ ap (λ (b : Span). b ∷ drop (at + 1) bands) (sym is)

-- the bands from a place on, as the program cuts them off
abbrev pub later : List Span → ℕ → List Span
later bands at = take (length bands - at) (drop at bands)

all_later : (bands : List Span) (at : ℕ) → later bands at ≡ drop at bands
all_later bands at = take_all (length bands - at) (drop at bands) (omega (arith, length-drop at bands))

-- a band that shares no priority with a later one leaves the answer to those
pub apart_next : (bands : List Span) (at : ℕ) (band : Span) (all : Bool) → at < length bands → band ≡ get_or bands at band
    → list_any (overlap band) (later bands (at + 1)) ≡ false → are_apart (drop at bands) ≡ all → are_apart (drop (at + 1) bands) ≡ all
unfolding are_apart
apart_next bands at band all less is none so_far =
    let apart : list_any (overlap band) (drop (at + 1) bands) ≡ false = ap (list_any (overlap band)) (sym (all_later bands (at + 1))) ∙ none in
    let here : are_apart (band ∷ drop (at + 1) bands) ≡ are_apart (drop (at + 1) bands) = rw apart refl in
    sym here ∙ ap are_apart (sym (left_from bands at band less is)) ∙ so_far

-- one that shares a priority with a later one decides
pub apart_stops : (bands : List Span) (at : ℕ) (band : Span) (all : Bool) → at < length bands → band ≡ get_or bands at band
    → list_any (overlap band) (later bands (at + 1)) ≡ true → are_apart (drop at bands) ≡ all → false ≡ all
unfolding are_apart
apart_stops bands at band all less is some so_far =
    let shared : list_any (overlap band) (drop (at + 1) bands) ≡ true = ap (list_any (overlap band)) (sym (all_later bands (at + 1))) ∙ some in
    let here : are_apart (band ∷ drop (at + 1) bands) ≡ false = rw shared refl in
    sym here ∙ ap are_apart (sym (left_from bands at band less is)) ∙ so_far

pub apart_all : (bands : List Span) (at : ℕ) (all : Bool) → length bands ≤ at → are_apart (drop at bands) ≡ all → true ≡ all
unfolding are_apart
apart_all bands at all done so_far =
    let here : are_apart (drop at bands) ≡ true = rw (drop_all at bands done) refl in
    sym here ∙ so_far
