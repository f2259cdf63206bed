-- Nothing is owed, and the ending changes nothing that is.
use Rattle.std.proofs.Common.{◌≡◌, Bool, true, ◌||◌, sym, ap, subst, ◌∙◌}
use Rattle.std.specs.Prelude.{is_some, IfOk}
use Rattle.lane_machine.specs.State.{State}
use Rattle.lane_machine.specs.Machine.{end_of}
use Rattle.lane_machine.specs.Readiness.{is_ready, owed}
use Rattle.lane_machine.specs.declared.call.LaneCall.TheVariants.{Collect}
use Rattle.lane_audit.specs.Endings.{reply_of_ending}
use Rattle.lane_audit.specs.Verdicts.{Judges}
use Rattle.lane_audit.proofs.Collecting.{none_owed, end_ready, ended_any, ended_judged}
use Rattle.lane_audit.proofs.desk.Desk.finish_collecting.Goals as goal
use Rattle.lane_audit.proofs.desk.Desk.finish_collecting.Goals.{then-has_ended, else-has_ended}

pub finish_collecting-requires : goal.finish_collecting-requires
finish_collecting-requires c = record {
  none = none_owed c.self.inside.lists c.args.conn (ap (λ (s : State). owed s c.args.conn) c.self.view_is ∙ sym c.owed.ensures ∙ c.if-owed-ne0.false);
}

is_over_for : (c : goal.After-finish_collecting) → (is_some (end_of c.self.inside.lists c.args.conn) || c.self.inside.lists.closing) ≡ true
is_over_for c = elim c.if-has_ended.branch [
  | then-has_ended w ↦ ap (λ (b : Bool). b || c.self.inside.lists.closing) (sym c.has_ended.ensures ∙ w.if-has_ended.true)
  | else-has_ended w ↦ ap (λ (b : Bool). b || c.self.inside.lists.closing) (sym c.has_ended.ensures ∙ w.if-has_ended.false) ∙ sym w.is_closing.ensures ∙ sym w.value-is ∙ c.if-not-is_closing.false
]

ready : (c : goal.After-finish_collecting) → is_ready c.self.inside.lists (Collect c.args.conn) ≡ true
ready c = end_ready c.self.inside.lists c.args.conn (ap (λ (s : State). owed s c.args.conn) c.self.view_is ∙ sym c.owed.ensures ∙ c.if-owed-ne0.false) (is_over_for c)

pub invariant_of-self : goal.invariant_of-self
invariant_of-self c =
    ended_any c.self.inside.lists c.finish_collecting.new.self c.args.conn c.args.ending c.self.inside.counts c.finish_collecting.result (ready c) c.finish_collecting.ensures
    c.self.invariant

pub returns : goal.returns
returns c =
    subst (λ (s : State). IfOk c.finish_collecting.result (λ b. Judges s (Collect c.args.conn) (reply_of_ending c.args.ending) c.finish_collecting.new.self b)) c.self.view_is
    (ended_judged c.self.inside.lists c.finish_collecting.new.self c.args.conn c.args.ending c.finish_collecting.result (ready c) c.finish_collecting.ensures)
