use Rattle.std.proofs.Common.{◌≡◌, take}
use Rattle.std.specs.List.{flat_map}
use Rattle.cdr_core.specs.Writing.{written}
use Rattle.service_contexts.specs.Layout.{band_fields}
use Rattle.service_contexts.proofs.bands.put_bands.Given as goal

abbrev pub invariant-loop-band : goal.invariant-loop-band
invariant-loop-band l = l.into ≡ written l.fn.into (flat_map band_fields (take l.band-index l.bands))
