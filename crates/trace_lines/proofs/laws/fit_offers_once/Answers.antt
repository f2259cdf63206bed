-- A serial number is the number of the calls that were heard before.
use Rattle.trace_lines.proofs.Fitting.{fit_offers_once}
use Rattle.trace_lines.proofs.laws.fit_offers_once.Goals as goal

pub returns : goal.returns
returns c = λ s h l f. fit_offers_once s h l f
