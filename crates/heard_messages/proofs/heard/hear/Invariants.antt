use Rattle.std.proofs.Common.{◌≤◌, None, length, drop}
use Rattle.heard_messages.proofs.Hearings.{Leaves}
use Rattle.heard_messages.proofs.heard.hear.Given as goal

abbrev pub invariant-loop-message : goal.invariant-loop-message
invariant-loop-message g l = record {
  leaves : Leaves (g.J.Judge.means l.judge) l.messages (drop l.message-index l.messages) l.fn.bound l.serial (record { calls = l.calls.items; bound = l.bound; ending = None });
  few : length l.calls.items ≤ l.message-index;
}
