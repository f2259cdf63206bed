-- What holds of each state that a legal history reaches.
use Rattle.std.proofs.Common.{◌≡◌, true, [], ◌∷◌, ◌++◌, sym, subst, refl}
use Rattle.lane_machine.specs.declared.call.LaneCall.{LaneCall}
use Rattle.lane_machine.specs.State.{State, Opens, opening}
use Rattle.lane_machine.specs.Machine.{step}
use Rattle.lane_machine.specs.Readiness.{is_ready, IsSound}
use Rattle.lane_machine.specs.Histories.{History, replay, IsLegal}
use Rattle.lane_machine.specs.Urgency.{NoneIdles}
use Rattle.lane_machine.proofs.Runs.{always}
use Rattle.lane_machine.proofs.Urgent.{none_idles, none_idles_first}
use Rattle.lane_laws.proofs.Served.{Served, served_step, served_first}
use Rattle.pipe_laws.specs.Reached.{IsReached}

-- what holds of each opening, and what each sound call keeps, holds of each such state
pub holds : (Inv : State → Type 0) → ((s : State) → Opens s → Inv s) → ((s : State) (call : LaneCall) → is_ready s call ≡ true → IsSound s call → Inv s → Inv (step s call).0)
    → (s : State) → IsReached s → Inv s
holds Inv first keeps s r = subst Inv (sym r.leads) (always Inv keeps r.first r.history (first r.first r.opens) r.legal)

pub reached_idles : (s : State) → IsReached s → NoneIdles s
reached_idles s r = holds NoneIdles (λ z o. subst NoneIdles (sym o.fresh) (none_idles_first z.pool z.slots z.per_slot)) none_idles s r

first_served : (s : State) → Opens s → Served s s
first_served s o = subst (λ (z : State). Served z z) (sym o.fresh) (served_first s.pool s.slots s.per_slot o.can.well_formed.lanes.each)

pub reached_served : (s : State) (r : IsReached s) → Served r.first s
reached_served s r = subst (Served r.first) (sym r.leads) (always (Served r.first) (served_step r.first) r.first r.history (first_served r.first r.opens) r.legal)

pub legal_push : (s : State) (h : History) (call : LaneCall) → IsLegal s h → is_ready (replay s h) call ≡ true → IsSound (replay s h) call
    → IsLegal s (h ++ record { caller = 0; call = call; reply = (step (replay s h) call).1 } ∷ [])
legal_push s [] call l ready sound = (ready, sound, refl, tt)
legal_push s (e ∷ h) call l ready sound = (l.0, l.1, l.2, legal_push (step s e.call).0 h call l.3 ready sound)

pub replay_push : (s : State) (h : History) (call : LaneCall) → replay s (h ++ record { caller = 0; call = call; reply = (step (replay s h) call).1 } ∷ []) ≡ (step (replay s h) call).0
replay_push s [] call = refl
replay_push s (e ∷ h) call = replay_push (step s e.call).0 h call
