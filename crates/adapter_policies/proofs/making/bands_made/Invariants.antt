use Rattle.std.proofs.Common.{◌≡◌, ◌++◌, drop, map}
use Rattle.adapter_policies.specs.SetupData.{span_of}
use Rattle.adapter_policies.proofs.making.bands_made.Given as goal

abbrev pub invariant-loop-band : goal.invariant-loop-band
invariant-loop-band l = l.made.items ++ map span_of (drop l.band-index l.bands) ≡ map span_of l.bands
