use Rattle.std.proofs.Common.{arith, drop, subst, sym, ◌≡◌, []}
use Rattle.std.specs.List.{AllByRecursion}
use Rattle.std.proofs.lemmas.List.{drop_all}
use Rattle.service_contexts.specs.Layout.{IsBand}
use Rattle.adapter_policies.proofs.Published.{next_band}
use Rattle.adapter_policies.proofs.publishing.show_bands.Goals as goal

-- the band at the index is one
pub loop-band-preserved : goal.loop-band-preserved
loop-band-preserved c = next_band c.args.bands.now c.loop-band.band-index c.band-item.result (omega arith) c.band-item.is c.show_band.ensures c.loop-band.invariant

-- after the last one there is none
pub returns : goal.returns
returns c =
    let none : drop c.loop-band.band-index c.args.bands.now ≡ [] = drop_all c.loop-band.band-index c.args.bands.now (omega arith) in
    c.loop-band.invariant (subst (λ xs. AllByRecursion IsBand xs) (sym none) tt)
