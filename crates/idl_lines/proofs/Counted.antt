-- How many of what is seen of some items pass.
use Rattle.std.proofs.Common.{◌≡◌, ◌+◌, Bool, cond, List, map}
use Rattle.std.specs.List.{count_by}
use Rattle.std.proofs.lemmas.List.Folds.{fold-map}

-- as many of what is seen of the items pass as of the items
pub counted_as_seen : {A B : Type 0} (p : B → Bool) (f : A → B) (xs : List A) → count_by p (map f xs) ≡ count_by (λ x. p (f x)) xs
counted_as_seen p f xs = fold-map (λ n x. n + cond (p x) 1 0) f 0 xs
