use Rattle.std.proofs.Common.{inl}
use Rattle.orb_command.proofs.serve.run_server.Goals as goal

pub returns-in-Ok : goal.returns-in-Ok
returns-in-Ok g c = (c.in-Ok.ensures.kept, inl (c.in-Ok.broker, c.in-Ok.ensures.gives, c.serve_broker.ensures))
