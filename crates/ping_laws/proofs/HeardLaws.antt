-- The objects of the built-in setup have different keys.
use Rattle.std.proofs.Common.{zero, suc, refl}
use Rattle.ping_laws.specs.Setup.{HasDistinctKeys}
use Rattle.adapter_policies.specs.BuiltIn.{built_in}
use Rattle.ping_laws.proofs.Places.{past_end}

pub built_in_is_distinct : HasDistinctKeys built_in
built_in_is_distinct zero zero x y is is' same = refl
built_in_is_distinct zero (suc n) x y is is' same = absurd (past_end n y is')
built_in_is_distinct (suc m) n x y is is' same = absurd (past_end m x is)
