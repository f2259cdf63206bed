use Rattle.orb_server.specs.Connections.{conn_at}
use Rattle.orb_server.specs.Runs.{opening_of}
use Rattle.orb_server.proofs.Replied.{is_told}
use Rattle.orb_server.proofs.laws.each_reply_is_handed_once.Goals as goal

pub returns : goal.returns
returns g c = λ setup h slot s law ran nth l serial.
    let told = is_told g.A.Acceptor.state g.A.In.Source.state g.A.Out.Sink.state setup h slot s ran nth l in
    c.replies_are_counted.ensures.all (conn_at slot nth) serial (opening_of setup) h law.opens law.legal law.fit told.0 told.1
