use Rattle.server_runs.proofs.Succeeding.{all_hold, all_taken, in_plan}
use Rattle.server_runs.proofs.laws.runs_follow_each_other.Goals as goal

pub returns : goal.returns
returns g c = record {
  each = λ setup outcome plan end runs before behind out out' ran.
      all_hold g.A.Acceptor.state g.A.In.Source.state g.A.Out.Sink.state setup outcome plan end runs before behind out out' ran;
  links = λ setup outcome plan end runs before behind out out' ran.
      all_taken g.A.Acceptor.state g.A.In.Source.state g.A.Out.Sink.state setup outcome plan end runs before behind out out' ran;
  count = λ setup outcome plan end runs before behind out out' some ran.
      in_plan g.A.Acceptor.state g.A.In.Source.state g.A.Out.Sink.state setup outcome plan end runs before behind out out' some ran;
}
