use Rattle.std.proofs.Common.{◌∷◌, [], length, ◌∙◌}
use Rattle.std.specs.Int.{w32}
use Rattle.std.specs.List.{flat_map}
use Rattle.orb_base.specs.declared.order.Order.TheVariants.{Big}
use Rattle.cdr_core.specs.Field.{number}
use Rattle.service_contexts.specs.Layout.{band_fields, bands_fields}
use Rattle.cdr_core.proofs.CallerLemmas.{written_both, encapsulated}
use Rattle.service_contexts.proofs.bands.bands_policy.Goals as goal

pub returns : goal.returns
returns c =
    let bands = c.args.bands.now in
    let all = written_both c.put_u8.new.self c.put_u32.new.self c.put_bands.new.into
    (number w32 (length bands) ∷ []) (flat_map band_fields bands) c.in_ok-put_u32.ensures
    c.in_ok-put_bands.ensures in
    c.finish.ensures
    ∙ encapsulated Big c.new-into.result c.put_u8.new.self c.put_bands.new.into (bands_fields bands)
    c.new-into.ensures c.in_ok-put_u8.ensures all
