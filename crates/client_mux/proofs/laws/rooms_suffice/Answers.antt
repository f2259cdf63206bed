-- A Start finds room.
use Rattle.client_mux.proofs.Rooms.{start_has_call, start_has_send}
use Rattle.client_mux.proofs.laws.rooms_suffice.Goals as goal

pub returns-clause-call_at_start : goal.returns-clause-call_at_start
returns-clause-call_at_start c = λ x h n by r o l f g. start_has_call x h n by r o l f g

pub returns-clause-send_at_start : goal.returns-clause-send_at_start
returns-clause-send_at_start c = λ x h n by r o l f g. start_has_send x h n by r o l f g
