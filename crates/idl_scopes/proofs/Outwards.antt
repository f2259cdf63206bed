-- One step outwards.
use Rattle.std.proofs.Common.{◌≡◌, ◌-◌, ◌<◌, arith, ℕ, zero, suc, List, None, refl}
use Rattle.std.specs.Prelude.{if◌then◌else◌, ◌==◌}
use Rattle.idl_scopes.specs.Table.{Table}
use Rattle.idl_scopes.specs.Finding.{inside, outwards, outer, or_else}

pub outwards_step : (n scope : ℕ) (name : List ℕ) (t : Table) → 0 < n
    → outwards n t name scope ≡ or_else (inside t name scope) (if scope == 0 then None else outwards (n - 1) t name (outer t scope))
unfolding outwards
outwards_step zero scope name t h = absurd (omega arith)
outwards_step (suc n) scope name t h = let e : suc n - 1 ≡ n = omega arith in rw e refl
