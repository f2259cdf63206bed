-- Arrays of several lengths, as far as a loop has come, and their sizes.
use Rattle.std.proofs.Common.{◌≡◌, ◌≤◌, ◌+◌, ◌<◌, ℕ, List, [], ◌∷◌, length, drop, refl, sym, ap, ◌∙◌}
use Rattle.std.specs.Prelude.{nat_lt, ◌||◌}
use Rattle.std.specs.List.{slice_index_or}
use Rattle.std.proofs.lemmas.List.{at_drop_more, drop_all}
use Rattle.idl_names.specs.Sizes.{Sized, array_of, arrays_of, array_leaves, array_levels, is_large}

pub array_next : (lengths : List ℕ) (n : ℕ) (k next total : Sized) → n < length lengths → next ≡ array_of (slice_index_or lengths n 0) k
    → arrays_of (drop n lengths) k ≡ total → arrays_of (drop (n + 1) lengths) next ≡ total
array_next lengths n k next total lt is so_far =
    ap (arrays_of (drop (n + 1) lengths)) is ∙ sym (at_drop_more (λ ls. arrays_of ls k) lengths n 0 lt) ∙ so_far

pub array_end : (lengths : List ℕ) (n : ℕ) (k total : Sized) → length lengths ≤ n → arrays_of (drop n lengths) k ≡ total → k ≡ total
array_end lengths n k total le so_far = ap (λ ls. arrays_of ls k) (sym (drop_all n lengths le)) ∙ so_far

leaves_of_array : (ns : List ℕ) (k : Sized) → (arrays_of ns k).leaves ≡ array_leaves ns k.leaves
leaves_of_array [] k = refl
leaves_of_array (n ∷ ns) k = leaves_of_array ns (array_of n k)

levels_of_array : (ns : List ℕ) (k : Sized) → (arrays_of ns k).levels ≡ array_levels ns k.levels
levels_of_array [] k = refl
levels_of_array (n ∷ ns) k = levels_of_array ns (array_of n k)

-- an array is too large by its sizes
pub large_array : (ns : List ℕ) (k : Sized) → is_large (arrays_of ns k) ≡ (nat_lt 65536 (array_leaves ns k.leaves) || nat_lt 64 (array_levels ns k.levels))
large_array ns k = λ i. nat_lt 65536 (leaves_of_array ns k i) || nat_lt 64 (levels_of_array ns k i)
