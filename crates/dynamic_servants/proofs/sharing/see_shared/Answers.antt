use denote.Param.Send.{sendable}
use Rattle.dynamic_servants.proofs.Threads.{servants_sent, servants_shared}
use Rattle.dynamic_servants.proofs.sharing.see_shared.Goals as goal

pub may_go-requires-send-T : goal.may_go-requires-send-T
may_go-requires-send-T c κs = search (servants_sent, sendable) depth 60 fits 20000

pub may_share-requires-sync-T : goal.may_share-requires-sync-T
may_share-requires-sync-T c κs = search (servants_shared, sendable) depth 60 fits 20000
