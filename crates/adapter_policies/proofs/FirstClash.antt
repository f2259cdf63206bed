-- The loop that looks for an entry that clashes with an earlier one.
use Rattle.std.proofs.Common.{◌≡◌, ℕ, Bool, ◌+◌, ◌<◌, true, false, List, length, get_or, take, drop, Some}
use Rattle.std.proofs.lemmas.List.{drop_more, take_more}
use Rattle.std.specs.List.{list_any}
use Rattle.adapter_policies.specs.Found.{first_clash}

pub clashes_here : {A : Type 0} (clash : A → A → Bool) (xs : List A) (n : ℕ) (d : A) → n < length xs
    → list_any (λ e. clash e (get_or xs n d)) (take n xs) ≡ true → first_clash clash (take n xs) n (drop n xs) ≡ Some n
clashes_here clash xs n d h here = rw (drop_more xs n d h, here)

pub clashes_on : {A : Type 0} (clash : A → A → Bool) (xs : List A) (n : ℕ) (d : A) → n < length xs
    → list_any (λ e. clash e (get_or xs n d)) (take n xs) ≡ false
    → first_clash clash (take n xs) n (drop n xs) ≡ first_clash clash (take (n + 1) xs) (n + 1) (drop (n + 1) xs)
clashes_on clash xs n d h on = rw (drop_more xs n d h, on, take_more xs n d h)
