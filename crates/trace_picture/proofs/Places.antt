-- A number past the end reads 0.
use Rattle.std.proofs.Common.{◌≡◌, ℕ, zero, suc, List, [], ◌∷◌, None, refl}
use Rattle.std.specs.Prelude.{slice_get, slice_index}
use Rattle.std.proofs.lemmas.Option.{none-some}

pub none_there : (xs : List ℕ) (k : ℕ) → None ≡ slice_get xs k → 0 ≡ slice_index xs k
none_there [] k e = refl
none_there (x ∷ xs) zero e = absurd (none-some x e)
none_there (x ∷ xs) (suc k) e = none_there xs k e
