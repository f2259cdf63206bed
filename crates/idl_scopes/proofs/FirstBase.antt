-- A first base clashes with none.
use Rattle.std.proofs.Common.{◌≡◌, ◌||◌, ℕ, false, List, [], ◌∷◌, length, refl, ap, ◌∙◌}
use Rattle.std.proofs.Math.Bool.{and-false}
use Rattle.std.specs.List.{list_any}
use Rattle.idl_scopes.specs.Table.{Table, Declared}
use Rattle.idl_scopes.specs.Bases.{clashes, bases_clash, holds}

none_clash : (t : Table) (later : List ℕ) (ds : List Declared) → list_any (clashes t [] later) ds ≡ false
none_clash t later [] = refl
none_clash t later (d ∷ ds) = ap (λ b. b || list_any (clashes t [] later) ds) (and-false (holds later d.scope)) ∙ none_clash t later ds

pub first_base : (t : Table) (earlier later : List ℕ) → length earlier ≡ 0 → bases_clash t earlier later ≡ false
first_base t [] later h = none_clash t later t.declared
first_base t (x ∷ xs) later h = absurd (cc)
