-- A finished request owes one reply, and a Collect hands one over.
use Rattle.lane_laws.proofs.Replying.{replies_counted}
use Rattle.lane_laws.proofs.Quieting.{told_nothing_owed, all_replied}
use Rattle.lane_laws.proofs.laws.replies_are_counted.Goals as goal

pub returns : goal.returns
returns c = record {
  count = λ conn serial s h o l. replies_counted conn serial s h o l;
  told = λ conn s h o l f n told. told_nothing_owed s h conn o l f n told;
  all = λ conn serial s h o l f n told. all_replied conn serial s h o l f n told;
}
