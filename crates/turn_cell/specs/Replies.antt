-- What one answered call of an object gives.
use Rattle.std.specs.Prelude.{◌≡◌}

-- the new state and both replies are those of the step
abbrev pub IsStep : {O R : Type 0} → O × R → O → R × R → Type 0
IsStep next new replies = (new ≡ next.0) × (replies.0 ≡ next.1) × (replies.1 ≡ next.1)
