use Rattle.halls.proofs.Kept.{slot_keeps}
use Rattle.halls.proofs.laws.slots_keep_what_connections_did.Goals as goal

pub returns : goal.returns
returns g c = slot_keeps g.I.Source.state g.O.Sink.state g.H.Hall.held
