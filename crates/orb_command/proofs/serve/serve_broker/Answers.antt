use denote.Param.Send.{sendable}
use Rattle.dynamic_servants.proofs.Threads.{servants_shared}
use Rattle.orb_command.proofs.serve.serve_broker.Goals as goal

pub serve_at-requires-sync-S : goal.serve_at-requires-sync-S
serve_at-requires-sync-S g c κs within = search (servants_shared, sendable) depth 60 fits 20000
