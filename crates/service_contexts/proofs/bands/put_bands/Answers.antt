use Rattle.std.proofs.lemmas.Result.{err_from_is_err_and}
use Rattle.service_contexts.specs.Layout.{band_fields}
use Rattle.cdr_core.proofs.CallerLemmas.{written_none, list_next, list_front, list_done}
use Rattle.service_contexts.proofs.bands.put_bands.Goals as goal

pub loop-band-init : goal.loop-band-init
loop-band-init c = written_none c.args.into.now

pub loop-band-preserved : goal.loop-band-preserved
loop-band-preserved c =
    list_next band_fields c.args.into.now c.loop-band.into c.put_band.new.into c.args.bands.now
    c.loop-band.band-index c.band-item.result c.loop-band-test.true c.band-item.is
    c.loop-band.invariant c.in_ok-put_band.ensures

pub returns-in_err-put_band : goal.returns-in_err-put_band
returns-in_err-put_band c =
    let p = err_from_is_err_and c.from_residual.result c.from_residual.ensures.1 in
    rw p.1 (list_front band_fields p.0 c.args.into.now c.loop-band.into c.put_band.new.into c.args.bands.now
    c.loop-band.band-index c.band-item.result c.loop-band-test.true c.band-item.is
    c.loop-band.invariant c.in_err-put_band.ensures)

pub returns : goal.returns
returns c =
    list_done band_fields c.args.into.now c.loop-band.into c.args.bands.now c.loop-band.band-index
    c.loop-band-test.false c.loop-band.auto.band-index-end
    c.loop-band.invariant
