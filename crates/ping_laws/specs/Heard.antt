-- The jobs of requests.
use Rattle.std.specs.Prelude.{◌≡◌, ℕ, suc, List, [], ◌∷◌, Some, None, length, slice_get, codes, IsSome}
use Rattle.orb_base.specs.Priorities.{lane_of}
use Rattle.orb_base.specs.JobRecord.{JobRecord}
use Rattle.priority_maps.specs.Maps.{to_native}
use Rattle.orb_base.specs.declared.conn_id.ConnId.{ConnId}
use Rattle.orb_base.specs.declared.order.Order.{Order}
use Rattle.orb_base.specs.declared.limits.TheConstants.{MAX_MESSAGE}
use Rattle.giop_frames.specs.Messages.{Message}
use Rattle.giop_frames.specs.Stream.{stream}
use Rattle.giop_messages.specs.Flags.{due_of}
use Rattle.giop_messages.specs.Message.{Request, key, request}
use Rattle.giop_messages.specs.Reading.{ReadsIn}
use Rattle.lane_machine.specs.declared.call.LaneCall.{LaneCall}
use Rattle.lane_machine.specs.declared.call.LaneCall.TheVariants.{Offer}
use Rattle.lane_machine.specs.declared.call.How.{How}
use Rattle.lane_machine.specs.declared.call.How.TheVariants.{Quiet}
use Rattle.adapter_policies.specs.SetupData.{AdapterData, SetupData}
use Rattle.adapter_policies.specs.declared.object_spec.ObjectSpec.{ObjectSpec}

-- the job of a request that passed every judgement, as the call of this number of its connection
abbrev pub job_of : ConnId → ℕ → Order → ℕ → Request → ℕ → ℕ → ℕ → JobRecord
job_of conn serial order size r target level lane = record {
  conn = conn;
  serial = serial;
  id = r.id;
  order = order;
  due = due_of r.flags;
  priority = level;
  lane = lane;
  size = size;
  target = target;
  operation = r.operation;
  body = r.body;
}
