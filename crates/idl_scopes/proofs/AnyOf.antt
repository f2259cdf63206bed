-- Whether some of a list pass, as far as a loop has come.
use Rattle.std.proofs.Common.{◌≡◌, ◌≤◌, ◌+◌, ◌<◌, ◌||◌, ℕ, Bool, true, false, List, length, drop, sym, ap, ◌∙◌}
use Rattle.std.specs.List.{slice_index_or, list_any}
use Rattle.std.proofs.lemmas.List.{at_drop_more, drop_all}

pub any_found : {X : Type 0} (p : X → Bool) (xs : List X) (n : ℕ) (d : X) (total : Bool) → n < length xs → p (slice_index_or xs n d) ≡ true
    → list_any p (drop n xs) ≡ total → true ≡ total
any_found p xs n d total lt is so_far = sym (at_drop_more (list_any p) xs n d lt ∙ ap (λ b. b || list_any p (drop (n + 1) xs)) is) ∙ so_far

pub any_next : {X : Type 0} (p : X → Bool) (xs : List X) (n : ℕ) (d : X) (total : Bool) → n < length xs → p (slice_index_or xs n d) ≡ false
    → list_any p (drop n xs) ≡ total → list_any p (drop (n + 1) xs) ≡ total
any_next p xs n d total lt is so_far = sym (at_drop_more (list_any p) xs n d lt ∙ ap (λ b. b || list_any p (drop (n + 1) xs)) is) ∙ so_far

pub any_end : {X : Type 0} (p : X → Bool) (xs : List X) (n : ℕ) (total : Bool) → length xs ≤ n → list_any p (drop n xs) ≡ total → false ≡ total
any_end p xs n total le so_far = ap (list_any p) (sym (drop_all n xs le)) ∙ so_far
