-- A connection comes out: what was read and made, and the last message.
use Rattle.std.proofs.Common.{◌≡◌, sym, subst}
use Rattle.orb_base.specs.Outside.{SourceState, SinkState}
use Rattle.orb_base.specs.declared.conn_id.ConnId.{ConnId}
use Rattle.adapter_policies.specs.SetupData.{SetupData}
use Rattle.halls.specs.Hands.{HandState}
use Rattle.halls.specs.Sides.{Reads, SaysLast, Sides}
use Rattle.halls.specs.Steps.{Making}
use Rattle.halls.specs.declared.ends.HallRead.{HallRead}
use Rattle.halls.specs.declared.ends.HallWrite.{HallWrite}
use Rattle.halls.proofs.Steps.{making}

pub both_sides : (read : HallRead) (write : HallWrite) (setup : SetupData) (conn : ConnId) (from to : SourceState) (old : Making) (hand : HandState) (mid last closed : SinkState)
    → Reads read setup conn from to old (making hand mid) → SaysLast read write mid last → closed ≡ last
    → Sides (read, write) setup conn from to old (making hand closed)
both_sides read write setup conn from to old hand mid last closed reads says same =
    record { mid = mid; reads = reads; says = subst (SaysLast read write mid) (sym same) says }
