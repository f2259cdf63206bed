-- The limits that every call of the lane machine keeps.
use Rattle.lane_pool.proofs.laws.limits_are_kept.Goals as goal

pub returns : goal.returns
returns c = λ terms h good. let w = c.within_limits.ensures in record {
  owed_few = λ conn. w.owed terms.opening h good.0 good.1 conn;
  few_requests = w.waiting terms.opening h good.0 good.1;
  few_bytes = w.bytes terms.opening h good.0 good.1;
  few_busy = w.threads terms.opening h good.0 good.1;
}
