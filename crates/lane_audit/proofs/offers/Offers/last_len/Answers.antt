-- A number past the end reads 0.
use Rattle.std.proofs.Common.{◌≡◌, ℕ, zero, suc, List, [], ◌∷◌, None, refl}
use Rattle.std.specs.Prelude.{slice_get, slice_index}
use Rattle.std.proofs.lemmas.Option.{none-some}
use Rattle.lane_audit.proofs.offers.Offers.last_len.Goals as goal

none_there : (xs : List ℕ) (k : ℕ) → None ≡ slice_get xs k → 0 ≡ slice_index xs k
none_there [] k e = refl
none_there (x ∷ xs) zero e = absurd (none-some x e)
none_there (x ∷ xs) (suc k) e = none_there xs k e

pub returns-in-None : goal.returns-in-None
returns-in-None c = none_there c.args.self.now.lens.items c.args.request c.in-None.ensures
