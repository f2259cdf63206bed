use Rattle.std.proofs.Common.{◌≡◌, IfOk, rules}
use Rattle.std.specs.Option.{option_map}
use Rattle.cdr_core.specs.Cursor.{AreBytes}
use Rattle.service_contexts.specs.Moves.{items_of}
use Rattle.service_contexts.specs.Reading.{bands_at, carried}
use Rattle.service_contexts.proofs.Carried.{bands_exactly}
use Rattle.service_contexts.proofs.bands.read_bands_policy.Goals as goal

pub returns-in-Ok-clause-carries : goal.returns-in-Ok-clause-carries
unfolding carried
returns-in-Ok-clause-carries c =
    let fits : AreBytes c.args.bytes.now = search rules in
    let same : IfOk c.take_bands.result (λ bands. option_map items_of bands ≡ carried bands_at c.args.bytes.now) =
    search rules in
    bands_exactly c.take_bands.result c.args.bytes.now fits same
