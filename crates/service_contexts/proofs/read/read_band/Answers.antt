use Rattle.std.proofs.Common.{◌≡◌, rules}
use Rattle.orb_base.specs.Span.{Span}
use Rattle.cdr_core.specs.Cursor.{AreBytes}
use Rattle.service_contexts.specs.Layout.{IsBand, band_fields}
use Rattle.service_contexts.specs.Reading.{band_at, carried}
use Rattle.service_contexts.proofs.Carried.{exactly, band_law}
use Rattle.service_contexts.proofs.read.read_band.Goals as goal

pub returns-clause-carries : goal.returns-clause-carries
unfolding carried
returns-clause-carries c =
    let fits : AreBytes c.args.bytes.now = search rules in
    let same : c.take_band.result ≡ carried band_at c.args.bytes.now = search rules in
    exactly Span IsBand band_fields band_at band_law c.take_band.result c.args.bytes.now fits same
