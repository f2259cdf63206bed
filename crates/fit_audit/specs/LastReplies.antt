-- What the last reply to a worker or a writing side says of its next call. Own profile.
use Rattle.std.specs.Prelude.{Bool, true, false}
use Rattle.trace_lines.specs.declared.trace_line.CollectReply.{CollectReply}
use Rattle.trace_lines.specs.declared.trace_line.CollectReply.TheVariants as collect_reply
use Rattle.trace_lines.specs.declared.trace_line.Action.{Action}
use Rattle.trace_lines.specs.declared.trace_line.Action.TheVariants as action
use Rattle.fit_audit.specs.declared.last_reply.LastReply.{LastReply}
use Rattle.fit_audit.specs.declared.last_reply.LastReply.TheVariants.{Unheard, Finished, Handed, Other}

-- a message was handed over, or nothing comes any more
abbrev pub collected : CollectReply → LastReply
collected (collect_reply.Answered k) = Handed
collected (collect_reply.Early k) = Handed
collected (collect_reply.Transient k) = Handed
collected (collect_reply.Posted id) = Handed
collected collect_reply.Close = Other
collected collect_reply.Error = Other
collected collect_reply.Done = Other

-- what a call's reply says of the next call
abbrev pub last_reply : Action → LastReply
last_reply (action.Finish t k len) = Finished
last_reply (action.Collect conn r) = collected r
last_reply a = Other

-- nothing is in the worker's hands, and it was not told that all has ended
abbrev pub may_take : LastReply → Bool
may_take Unheard = true
may_take Finished = true
may_take r = false

-- the writing side was not told that nothing comes any more
abbrev pub may_collect : LastReply → Bool
may_collect Unheard = true
may_collect Handed = true
may_collect r = false
