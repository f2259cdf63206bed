use Rattle.std.proofs.Common.{ap}
use Rattle.std.specs.Result.{result_ok}
use Rattle.cdr_core.specs.Sequence.{times}
use Rattle.cdr_core.proofs.CallerLemmas.{is_done}
use Rattle.service_contexts.specs.Reading.{band_at, or_refused}
use Rattle.service_contexts.proofs.Taking.{bands_end, bands_go_on}
use Rattle.service_contexts.proofs.bands.take_so_many.Goals as goal

pub returns-in-None : goal.returns-in-None
returns-in-None c =
    bands_end c.loop.bands.items c.args.count c.loop.counter c.loop.reader c.args.reader.now c.loop-test.true c.in-None.ensures
    c.loop.invariant

pub loop-preserved : goal.loop-preserved
loop-preserved c =
    rw c.in-Ok.ensures.ok
    (bands_go_on c.loop.bands.items c.args.count c.loop.counter c.loop.reader c.args.reader.now c.in-Some.band
    c.take_band.new.reader c.loop-test.true c.in-Some.ensures c.loop.invariant)

pub returns : goal.returns
returns c =
    ap result_ok (is_done (or_refused band_at) c.loop.bands.items c.args.count c.loop.counter c.loop.reader
    (times (or_refused band_at) c.args.count c.args.reader.now) c.loop-test.false c.loop.invariant)
