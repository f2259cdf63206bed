-- The first of greatest rank is the one found down the lanes.
use Rattle.thread_borrowing.proofs.Chains.{chosen_down, never_upward, lane_alone}
use Rattle.thread_borrowing.proofs.laws.choice_goes_down.Goals as goal

pub returns : goal.returns
returns c = record {
  down = λ borrowing lane threads. chosen_down borrowing lane threads;
  never_upward = λ borrowing lane threads t thread e g. never_upward borrowing lane threads t thread e g;
  alone = λ lane threads t thread e g. lane_alone lane threads t thread e g;
}
