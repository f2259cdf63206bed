-- The count of the connection shrinks where a request was taken out.
use Rattle.std.proofs.Common.{sym, ap, ◌∙◌}
use Rattle.trace_lines.specs.ReadBack.{reply_of_cancel}
use Rattle.lane_audit.proofs.Keeping.{some_owed, removed_owes}
use Rattle.lane_audit.proofs.Kept.{removed_kept, not_removed_kept, not_removed}
use Rattle.lane_audit.proofs.desk.Desk.cancel.Goals as goal
use Rattle.lane_audit.proofs.desk.Desk.cancel.Goals.{in-Removed, in_default}

pub take_one-requires : goal.take_one-requires
take_one-requires c = elim c.match-matches.branch [
  | in-Removed w ↦ record { some = λ r. some_owed _ _ _ _ c.self.invariant (removed_owes _ _ _ (sym (ap reply_of_cancel w.in-Removed.is) ∙ c.if-not-cancel.ensures.0)) r }
  | in_default w ↦ absurd (cc)
]

pub invariant_of-self-then-matches : goal.invariant_of-self-then-matches
invariant_of-self-then-matches c = elim c.match-matches.branch [
  | in-Removed w ↦ removed_kept c.self.inside.lists c.cancel.new.self c.args.conn c.args.id c.self.inside.counts c.take_one.new.self
      (sym (ap reply_of_cancel w.in-Removed.is) ∙ c.if-not-cancel.ensures.0, c.if-not-cancel.ensures.1) c.take_one.ensures c.self.invariant
  | in_default w ↦ absurd (cc)
]

pub invariant_of-self-else-matches : goal.invariant_of-self-else-matches
invariant_of-self-else-matches c = elim c.match-matches.branch [
  | in-Removed w ↦ absurd (cc)
  | in_default w ↦ not_removed_kept c.self.inside.lists c.cancel.new.self c.args.conn c.args.id (reply_of_cancel c.args.reply) c.self.inside.counts
      (not_removed c.args.reply w.in_default.not-Removed) c.if-not-cancel.ensures c.self.invariant
]
