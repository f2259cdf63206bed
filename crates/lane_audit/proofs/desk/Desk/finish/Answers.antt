-- The count of the connection shrinks where nothing more is owed for the request.
use Rattle.std.proofs.Common.{◌≡◌, ℕ, sym, subst, ◌∙◌, arith}
use Rattle.std.specs.Prelude.{slice_get}
use Rattle.std.proofs.lemmas.Bool.{iff_false}
use Rattle.std.proofs.lemmas.List.{length-replicate}
use Rattle.orb_base.specs.declared.conn_id.ConnId.{ConnId}
use Rattle.lane_machine.specs.State.{State}
use Rattle.lane_machine.specs.Machine.{step}
use Rattle.lane_machine.specs.Readiness.{IsBusyWith}
use Rattle.lane_machine.specs.declared.call.LaneCall.TheVariants.{Finish}
use Rattle.lane_machine.specs.declared.call.LaneReply.TheVariants as reply
use Rattle.trace_lines.specs.ReadBack.{answer_of}
use Rattle.lane_audit.specs.Counting.{OwesMore}
use Rattle.lane_audit.specs.Verdicts.{IsRight}
use Rattle.lane_audit.proofs.Keeping.{some_owed, not_late_owes}
use Rattle.lane_audit.proofs.Kept.{late_kept, not_late_kept, busy_there, finish_sound, finish_right}
use Rattle.lane_audit.proofs.desk.Desk.finish.Goals as goal
use Rattle.lane_audit.proofs.desk.Desk.finish.Goals.{then-body_len-gt-MAX_BODY-via-then-body_len-gt-MAX_BODY, then-body_len-gt-MAX_BODY-via-else-body_len-gt-MAX_BODY+then-not-is_busy_with, in-Late, in_default}

pub returns-then-body_len-gt-MAX_BODY : goal.returns-then-body_len-gt-MAX_BODY
returns-then-body_len-gt-MAX_BODY c = elim c.then-body_len-gt-MAX_BODY.branch [
  | then-body_len-gt-MAX_BODY-via-then-body_len-gt-MAX_BODY w ↦ λ right. let few = right.sound.1 in omega (arith, few, length-replicate {A = ℕ} c.args.body_len 0, w.if-body_len-gt-MAX_BODY.true)
  | then-body_len-gt-MAX_BODY-via-else-body_len-gt-MAX_BODY+then-not-is_busy_with w ↦ λ right.
      iff_false (w.is_busy_with.ensures c.args.body_len) w.if-not-is_busy_with.true (subst (λ (s : State). IsBusyWith (answer_of c.args.asked c.args.body_len) (slice_get s.threads c.args.thread)) (sym c.self.view_is) right.sound.0)
]

pub finish-requires-clause-there : goal.finish-requires-clause-there
finish-requires-clause-there c = busy_there (answer_of c.args.asked c.args.body_len) _ ((c.is_busy_with.ensures c.args.body_len).0 c.if-not-is_busy_with.false)

pub take_one-requires : goal.take_one-requires
take_one-requires c = elim c.match-matches.branch [
  | in-Late w ↦ absurd (cc)
  | in_default w ↦ record {
    some = λ r. some_owed c.self.inside.lists _ c.self.inside.counts c.conn.result c.self.invariant
        (subst (λ (x : ConnId). OwesMore c.self.inside.lists (step c.self.inside.lists (Finish c.args.thread (answer_of c.args.asked c.args.body_len))).0 x 0 1) (sym c.conn.ensures)
        (not_late_owes c.self.inside.lists c.args.thread c.args.asked c.args.body_len (λ e. w.in_default.not-Late (c.due.ensures ∙ e))
        (finish_sound c.self.inside.lists c.args.thread c.args.asked c.args.body_len ((c.is_busy_with.ensures c.args.body_len).0 c.if-not-is_busy_with.false) c.if-body_len-gt-MAX_BODY.false))) r;
  }
]

pub invariant_of-self-then-not-matches : goal.invariant_of-self-then-not-matches
invariant_of-self-then-not-matches c = elim c.match-matches.branch [
  | in-Late w ↦ absurd (cc)
  | in_default w ↦ not_late_kept c.self.inside.lists c.finish.new.self c.args.thread c.args.asked c.args.body_len c.self.inside.counts c.take_one.new.self c.conn.result
      (λ e. w.in_default.not-Late (c.due.ensures ∙ e))
      (finish_sound c.self.inside.lists c.args.thread c.args.asked c.args.body_len ((c.is_busy_with.ensures c.args.body_len).0 c.if-not-is_busy_with.false) c.if-body_len-gt-MAX_BODY.false)
      c.in_ok-finish.ensures.ok c.conn.ensures c.take_one.ensures c.self.invariant
]

pub invariant_of-self-else-not-matches : goal.invariant_of-self-else-not-matches
invariant_of-self-else-not-matches c = elim c.match-matches.branch [
  | in-Late w ↦ late_kept c.self.inside.lists c.finish.new.self c.args.thread c.args.asked c.args.body_len c.self.inside.counts (sym c.due.ensures ∙ w.in-Late.is)
      (finish_sound c.self.inside.lists c.args.thread c.args.asked c.args.body_len ((c.is_busy_with.ensures c.args.body_len).0 c.if-not-is_busy_with.false) c.if-body_len-gt-MAX_BODY.false)
      c.in_ok-finish.ensures.ok c.self.invariant
  | in_default w ↦ absurd (cc)
]

pub returns-then-not-matches : goal.returns-then-not-matches
returns-then-not-matches c =
    subst (λ (s : State). IsRight s (Finish c.args.thread (answer_of c.args.asked c.args.body_len)) reply.Finished × (c.finish.new.self ≡ (step s (Finish c.args.thread (answer_of c.args.asked c.args.body_len))).0)) c.self.view_is
    (finish_right c.self.inside.lists c.finish.new.self c.args.thread c.args.asked c.args.body_len ((c.is_busy_with.ensures c.args.body_len).0 c.if-not-is_busy_with.false) c.if-body_len-gt-MAX_BODY.false c.in_ok-finish.ensures.ok)

pub returns-else-not-matches : goal.returns-else-not-matches
returns-else-not-matches c =
    subst (λ (s : State). IsRight s (Finish c.args.thread (answer_of c.args.asked c.args.body_len)) reply.Finished × (c.finish.new.self ≡ (step s (Finish c.args.thread (answer_of c.args.asked c.args.body_len))).0)) c.self.view_is
    (finish_right c.self.inside.lists c.finish.new.self c.args.thread c.args.asked c.args.body_len ((c.is_busy_with.ensures c.args.body_len).0 c.if-not-is_busy_with.false) c.if-body_len-gt-MAX_BODY.false c.in_ok-finish.ensures.ok)
