-- The bands before the index are bands: all are, where those after it are.
use Rattle.std.proofs.Common.{drop}
use Rattle.std.specs.List.{AllByRecursion}
use Rattle.service_contexts.specs.Layout.{IsBand}
use Rattle.adapter_policies.proofs.publishing.show_bands.Given as goal

abbrev pub invariant-loop-band : goal.invariant-loop-band
invariant-loop-band l = AllByRecursion IsBand (drop l.band-index l.bands) → AllByRecursion IsBand l.bands
