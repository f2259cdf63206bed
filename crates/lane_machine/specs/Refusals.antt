-- Which requests are told of TRANSIENT.
use Rattle.std.specs.Prelude.{◌≡◌, ◌≢◌, ℕ, Some, slice_get}
use Rattle.orb_base.specs.declared.due.Due.TheVariants.{Nothing}
use Rattle.orb_base.specs.declared.job.Job.{Job}
use Rattle.turn_cell.specs.declared.entry.Entry.{Entry}
use Rattle.lane_machine.specs.declared.call.LaneCall.{LaneCall}
use Rattle.lane_machine.specs.declared.call.LaneCall.TheVariants.{Offer}
use Rattle.lane_machine.specs.declared.call.LaneReply.{LaneReply}
use Rattle.lane_machine.specs.declared.call.LaneReply.TheVariants as reply
use Rattle.lane_machine.specs.State.{State}
use Rattle.lane_machine.specs.Histories.{History}

-- the history has an Offer of the request that was answered Full
abbrev pub WasRefused : History → Job → Type 0
WasRefused h job =
    (k : ℕ) × (e : Entry State LaneCall LaneReply) × (slice_get h k ≡ Some e) × (e.call ≡ Offer job) × (e.reply ≡ reply.Full)

-- a reply to the request is due
abbrev pub HasReply : Job → Type 0
HasReply job = job.due ≢ Nothing
