-- Each call keeps that no thread idles.
use Rattle.std.proofs.Common.{◌≡◌, ℕ, sym, subst}
use Rattle.lane_machine.specs.State.{State, Opens}
use Rattle.lane_machine.specs.Histories.{History, replay, IsLegal}
use Rattle.lane_machine.specs.Urgency.{NoneIdles}
use Rattle.lane_machine.proofs.Runs.{always}
use Rattle.lane_machine.proofs.Urgent.{none_idles, none_idles_first, given_first}
use Rattle.lane_machine.proofs.laws.no_idling.Goals as goal

there : (s : State) (h : History) → Opens s → IsLegal s h → NoneIdles (replay s h)
there s h o l = always NoneIdles none_idles s h (subst NoneIdles (sym o.fresh) (none_idles_first s.pool s.slots s.per_slot)) l

pub returns : goal.returns
returns c = record {
  busy = λ s h o l. there s h o l;
  first = λ s h call o l r q t thread job got. given_first (replay s h) call (there s h o l) t thread job got;
}
