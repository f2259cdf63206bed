-- What each call keeps holds at every place of a history.
use Rattle.std.proofs.Common.{◌≡◌, true, [], ◌∷◌}
use Rattle.lane_machine.specs.declared.call.LaneCall.{LaneCall}
use Rattle.lane_machine.specs.State.{State}
use Rattle.lane_machine.specs.Machine.{step}
use Rattle.lane_machine.specs.Readiness.{is_ready, IsSound}
use Rattle.lane_machine.specs.Histories.{History, replay, IsLegal}

pub always : (Inv : State → Type 0) → ((s : State) (call : LaneCall) → is_ready s call ≡ true → IsSound s call → Inv s → Inv (step s call).0) → (s : State) (h : History) → Inv s → IsLegal s h → Inv (replay s h)
always Inv keeps s [] i l = i
always Inv keeps s (e ∷ es) i l = always Inv keeps (step s e.call).0 es (keeps s e.call l.0 l.1 i) l.3
