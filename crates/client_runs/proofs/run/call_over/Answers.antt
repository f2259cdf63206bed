use Rattle.std.proofs.Common.{refl}
use Rattle.client_runs.proofs.run.call_over.Goals as goal

pub returns : goal.returns
returns g c = record {
  left = (c.exchange-end.new.source, c.exchange-end.new.sink);
  held = refl;
  once = c.exchange-end.ensures;
}
