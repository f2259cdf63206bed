use Rattle.std.proofs.Common.{◌≡◌, ◌-◌}
use Rattle.cdr_core.specs.Sequence.{times}
use Rattle.cdr_core.proofs.CallerLemmas.{with_front}
use Rattle.service_contexts.specs.Reading.{band_at, or_refused}
use Rattle.service_contexts.proofs.bands.take_so_many.Given as goal

abbrev pub invariant-loop : goal.invariant-loop
invariant-loop l =
    with_front l.bands.items (times (or_refused band_at) (l.count - l.counter) l.reader)
    ≡ times (or_refused band_at) l.count l.initial.reader
