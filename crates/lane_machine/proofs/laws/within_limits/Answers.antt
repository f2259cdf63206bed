-- Each call keeps the limits.
use Rattle.std.proofs.Common.{◌≡◌, ◌≤◌, ℕ, Bool, not, sym, subst, ap, ◌∙◌, refl, arith, length}
use Rattle.std.proofs.lemmas.List.Sums.{count_by-le-length}
use Rattle.orb_base.specs.declared.conn_id.ConnId.{ConnId}
use Rattle.thread_borrowing.specs.ThreadList.{Thread, is_free}
use Rattle.lane_machine.specs.State.{State, Opens}
use Rattle.lane_machine.specs.Histories.{History, replay, IsLegal}
use Rattle.lane_machine.proofs.Runs.{always}
use Rattle.lane_machine.proofs.Bounds.{Bounded, bounded, bounded_first, owed_is}
use Rattle.lane_machine.proofs.laws.within_limits.Goals as goal

there : (s : State) (h : History) → Opens s → IsLegal s h → Bounded s.pool (replay s h)
there s h o l = always (Bounded s.pool) (bounded s.pool) s h (subst (Bounded s.pool) (sym o.fresh) (bounded_first s.pool s.slots s.per_slot o.can.well_formed.lanes.few_threads)) l

pub returns : goal.returns
returns c = record {
  owed = λ s h o l conn. let b = (there s h o l).owed_few conn in subst (λ (n : ℕ). n ≤ 65) (sym (owed_is (replay s h) conn)) b;
  waiting = λ s h o l. let b = there s h o l in b.fits_in.0;
  bytes = λ s h o l. let b = there s h o l in b.fits_in.1;
  threads = λ s h o l. let b = (there s h o l).threads in let k = count_by-le-length (λ (thread : Thread). not (is_free thread.doing)) (replay s h).threads in omega arith;
}
