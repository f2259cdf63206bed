use Rattle.std.proofs.Common.{◌≤◌, length, drop}
use Rattle.heard_calls.proofs.Hearings.{Standing}
use Rattle.heard_calls.proofs.hearing.hear.Given as goal

abbrev pub invariant-loop-message : goal.invariant-loop-message
invariant-loop-message l = record {
  stands : Standing l.fn.setup l.fn.conn l.messages (drop l.message-index l.messages) l.fn.band l.fn.serial l.heard;
  few : length l.heard.calls ≤ l.message-index;
}
