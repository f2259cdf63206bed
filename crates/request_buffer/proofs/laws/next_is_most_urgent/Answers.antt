-- The first of greatest priority.
use Rattle.request_buffer.proofs.NextJobs.{most_urgent, never_upward, none_next}
use Rattle.request_buffer.proofs.laws.next_is_most_urgent.Goals as goal

pub returns : goal.returns
returns c = record {
  first = λ borrowing lane waiting at e. most_urgent borrowing lane waiting at e;
  never_upward = λ borrowing lane waiting at job e g. never_upward borrowing lane waiting at job e g;
  none = λ borrowing lane waiting e k other g. none_next borrowing lane waiting k other e g;
}
