-- The first of two that is there.
use Rattle.std.proofs.Common.{◌≡◌, Option, Some, None, refl}

abbrev pub or_else : {A : Type 0} → Option A → Option A → Option A
or_else (Some a) b = Some a
or_else None b = b

pub or_none : {A : Type 0} (o : Option A) → or_else o None ≡ o
or_none (Some a) = refl
or_none None = refl
