-- The seats that are split from the first one.
use Rattle.std.proofs.Common.{◌≡◌, ℕ, ◌+◌, ◌<◌, Bool, cond, Some, None, ap, ◌∙◌}
use Rattle.std.proofs.lemmas.Bool.{lt-ltb}
use Rattle.client_mux.specs.declared.limits.TheConstants.{MAX_SEATS}
use Rattle.client_mux.specs.Callers.{heir}

pub heir_of_first : (n k : ℕ) → n ≡ 0 → k < MAX_SEATS → heir n k ≡ Some (k + 1)
heir_of_first n k e l = ap (λ (m : ℕ). heir m k) e ∙ ap (λ (b : Bool). cond b (Some (k + 1)) None) (lt-ltb k MAX_SEATS l)
