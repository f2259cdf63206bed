-- When a value has fields, part by part.
use Rattle.std.proofs.Common.{◌≡◌, Bool, true, false, true≢false, ◌&&◌, List, Option, Some, None, is_some, refl, sym, if◌then◌else◌}
use Rattle.std.specs.Prelude.{ℤ, int_le, int_lt}
use Rattle.std.specs.Int.{Width}
use Rattle.cdr_core.specs.Field.{Field}
use Rattle.cdr_values.specs.Spelling.{ranged, one_field, behind, both}

pub if_some : {A : Type 0} (b : Bool) (o : Option A) → is_some (if b then o else None) ≡ true → (b ≡ true) × (is_some o ≡ true)
if_some true o h = (refl, h)
if_some false o h = absurd (true≢false (sym h))

pub ranged_some : (low high : ℤ) (w : Width) (z : ℤ) → is_some (ranged low high w z) ≡ true → (int_le low z && int_lt z high) ≡ true
ranged_some low high w z h = (if_some (int_le low z && int_lt z high) _ h).0

pub one_some : (o : Option Field) → is_some (one_field o) ≡ true → is_some o ≡ true
one_some (Some f) h = refl
one_some None h = h

pub behind_some : (before : List Field) (o : Option (List Field)) → is_some (behind before o) ≡ true → is_some o ≡ true
behind_some before (Some fs) h = refl
behind_some before None h = h

pub both_some : (a b : Option (List Field)) → is_some (both a b) ≡ true → (is_some a ≡ true) × (is_some b ≡ true)
both_some (Some fs) b h = (refl, behind_some fs b h)
both_some None b h = absurd (true≢false (sym h))

-- ---- the other way

pub some_one : (o : Option Field) → is_some o ≡ true → is_some (one_field o) ≡ true
some_one (Some f) h = refl
some_one None h = h

pub some_behind : (before : List Field) (o : Option (List Field)) → is_some o ≡ true → is_some (behind before o) ≡ true
some_behind before (Some fs) h = refl
some_behind before None h = h

pub some_both : (a b : Option (List Field)) → is_some a ≡ true → is_some b ≡ true → is_some (both a b) ≡ true
some_both (Some fs) b h g = some_behind fs b g
some_both None b h g = h

pub some_ranged : (low high : ℤ) (w : Width) (z : ℤ) → (int_le low z && int_lt z high) ≡ true → is_some (ranged low high w z) ≡ true
some_ranged low high w z h = rw h refl
