use Rattle.std.proofs.Common.{◌≡◌, ◌++◌, string_bytes, take}
use Rattle.std.specs.List.{flat_map}
use Rattle.reference_lines.specs.ReferenceText.{band_text}
use Rattle.reference_lines.proofs.ref_lines.put_each.Given as goal

abbrev pub invariant-loop-band : goal.invariant-loop-band
invariant-loop-band l = string_bytes l.text ≡ string_bytes l.fn.text ++ flat_map band_text (take l.band-index l.bands)
