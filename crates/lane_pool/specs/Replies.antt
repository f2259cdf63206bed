-- The replies of the lane machine by the calls that get them.
use Rattle.std.specs.Prelude.{◌≡◌, Bool, true, false}
use Rattle.lane_machine.specs.State.{State}
use Rattle.lane_machine.specs.Machine.{step}
use Rattle.lane_machine.specs.declared.call.LaneCall.{LaneCall}
use Rattle.lane_machine.specs.declared.call.LaneReply.{LaneReply}
use Rattle.lane_machine.specs.declared.call.LaneReply.TheVariants as reply
use Rattle.lane_pool.specs.declared.answers.Offered.{Offered}
use Rattle.lane_pool.specs.declared.answers.Offered.TheVariants as offered
use Rattle.lane_pool.specs.declared.answers.Posting.{Posting}
use Rattle.lane_pool.specs.declared.answers.Posting.TheVariants as posting
use Rattle.lane_pool.specs.declared.answers.Cancelling.{Cancelling}
use Rattle.lane_pool.specs.declared.answers.Cancelling.TheVariants as cancelling
use Rattle.lane_pool.specs.declared.answers.Taken.{Taken}
use Rattle.lane_pool.specs.declared.answers.Taken.TheVariants as taken
use Rattle.lane_pool.specs.declared.answers.Collected.{Collected}
use Rattle.lane_pool.specs.declared.answers.Collected.TheVariants as collected

-- the machine's reply to an Offer that is answered so
abbrev pub offered_reply : Offered → LaneReply
offered_reply (offered.Run thread lent) = reply.Run thread lent
offered_reply offered.Kept = reply.Kept
offered_reply offered.Full = reply.Full
offered_reply offered.Closing = reply.Closing

-- to a Post
abbrev pub posting_reply : Posting → LaneReply
posting_reply posting.Posted = reply.Posted
posting_reply posting.Closing = reply.Closing

-- to a Cancel
abbrev pub cancelling_reply : Cancelling → LaneReply
cancelling_reply cancelling.Removed = reply.Removed
cancelling_reply cancelling.Nothing = reply.Nothing
cancelling_reply cancelling.Closing = reply.Closing

-- to a Take
abbrev pub taken_reply : Taken → LaneReply
taken_reply (taken.Job job) = reply.Given job
taken_reply taken.Ended = reply.Ended

-- to a Collect
abbrev pub collected_reply : Collected → LaneReply
collected_reply (collected.Item item) = reply.Handed item
collected_reply collected.Close = reply.Close
collected_reply collected.Error = reply.Error
collected_reply collected.Done = reply.Done

-- the replies that an Offer can get
abbrev pub is_offered : LaneReply → Bool
is_offered (reply.Run _ _) = true
is_offered reply.Kept = true
is_offered reply.Full = true
is_offered reply.Closing = true
is_offered _ = false

-- a Post
abbrev pub is_posting : LaneReply → Bool
is_posting reply.Posted = true
is_posting reply.Closing = true
is_posting _ = false

-- a Cancel
abbrev pub is_cancelling : LaneReply → Bool
is_cancelling reply.Removed = true
is_cancelling reply.Nothing = true
is_cancelling reply.Closing = true
is_cancelling _ = false

-- a Take
abbrev pub is_taken : LaneReply → Bool
is_taken (reply.Given _) = true
is_taken reply.Ended = true
is_taken _ = false

-- a Collect
abbrev pub is_collected : LaneReply → Bool
is_collected (reply.Handed _) = true
is_collected reply.Close = true
is_collected reply.Error = true
is_collected reply.Done = true
is_collected _ = false

-- the call gets this reply at some state
abbrev pub IsAnswer : LaneCall → LaneReply → Type 0
IsAnswer call r = (s : State) × (r ≡ (step s call).1)
