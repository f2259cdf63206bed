-- A name that isn't taken is not in its scope.
use Rattle.std.proofs.Common.{◌≡◌, ◌||◌, ℕ, Bool, true, false, List, refl}
use Rattle.std.specs.List.{list_any}
use Rattle.idl_scopes.specs.Table.{Table}
use Rattle.idl_scopes.specs.Finding.{lowered, above}
use Rattle.idl_scopes.specs.Keywords.{is_keyword}
use Rattle.idl_scopes.specs.Taking.{is_in, is_owner, is_operation_in, is_taken_part, is_taken}

left_false : (a b : Bool) → (a || b) ≡ false → a ≡ false
left_false true b e = absurd cc
left_false false b e = refl

right_false : (a b : Bool) → (a || b) ≡ false → b ≡ false
right_false true b e = absurd cc
right_false false b e = e

pub part_absent : (t : Table) (name : List ℕ) (scope : ℕ) → is_taken_part t name scope ≡ false → is_in t name scope ≡ false
part_absent t name scope e = right_false (is_keyword (lowered name)) (is_in t name scope) e

pub absent_here : (t : Table) (name : List ℕ) (scope : ℕ) → is_taken t name scope ≡ false → is_in t name scope ≡ false
absent_here t name scope e = part_absent t name scope (left_false (is_taken_part t name scope) (is_owner t name scope || list_any (is_operation_in t name) (above t scope)) e)
