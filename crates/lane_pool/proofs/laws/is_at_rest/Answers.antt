-- The rule of the table, and the limits of the machine after a legal history.
use Rattle.std.proofs.Common.{sym, subst}
use Rattle.lane_pool.specs.Limits.{KeepsLimits}
use Rattle.lane_pool.proofs.laws.is_at_rest.Goals as goal

pub returns : goal.returns
returns c = λ terms table kept free. let fresh = (kept.home free).2 in record {
  object = fresh.2;
  history = fresh.0;
  good = kept.good;
  limits = subst (KeepsLimits terms.opening) (sym fresh.2) (c.limits_are_kept.ensures terms kept.history kept.good);
}
