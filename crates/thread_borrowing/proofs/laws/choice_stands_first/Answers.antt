-- Ranks are in the order of lanes and standings.
use Rattle.thread_borrowing.proofs.Chains.{first_of_all}
use Rattle.thread_borrowing.proofs.Chosen.{none_chosen}
use Rattle.thread_borrowing.proofs.laws.choice_stands_first.Goals as goal

pub returns : goal.returns
returns c = record {
  some = λ borrowing lane threads t e. first_of_all borrowing lane threads t e;
  none = λ borrowing lane threads e k other g. none_chosen borrowing lane threads k other e g;
}
