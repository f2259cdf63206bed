-- What a writing side is told to which nothing is owed any more, as the lane machine says it.
use Rattle.lane_machine.specs.declared.call.LaneReply.{LaneReply}
use Rattle.lane_machine.specs.declared.call.LaneReply.TheVariants as reply
use Rattle.lane_audit.specs.declared.ending.Ending.{Ending}
use Rattle.lane_audit.specs.declared.ending.Ending.TheVariants as ending

-- the reply of an ending
abbrev pub reply_of_ending : Ending → LaneReply
reply_of_ending ending.Close = reply.Close
reply_of_ending ending.Error = reply.Error
reply_of_ending ending.Done = reply.Done
