use Rattle.server_laws.proofs.Slots.{slot_mandated}
use Rattle.server_laws.proofs.laws.each_request_has_its_mandated_priority.Goals as goal

pub returns : goal.returns
returns g c = λ setup h slot s ran. slot_mandated g.A.Acceptor.state g.A.In.Source.state g.A.Out.Sink.state setup h slot s ran
