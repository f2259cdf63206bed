-- The replies of a request whose reply is due with its answer, named by its connection and serial: those that are owed, and those that
-- were handed over. Real-time CORBA 1.2, Threadpools.
use Rattle.std.specs.Prelude.{ℕ}
use Rattle.std.specs.List.{sum_by}
use Rattle.orb_base.specs.declared.conn_id.ConnId.{ConnId}
use Rattle.orb_base.specs.declared.due.Due.{Due}
use Rattle.orb_base.specs.declared.due.Due.TheVariants as due
use Rattle.orb_base.specs.declared.item.Item.{Item}
use Rattle.orb_base.specs.declared.item.Item.TheVariants as item
use Rattle.orb_base.specs.declared.job.Job.{Job}
use Rattle.lane_machine.specs.declared.call.LaneCall.{LaneCall}
use Rattle.lane_machine.specs.declared.call.LaneCall.TheVariants.{Finish}
use Rattle.lane_machine.specs.declared.call.LaneReply.{LaneReply}
use Rattle.lane_machine.specs.declared.call.LaneReply.TheVariants as reply
use Rattle.lane_machine.specs.State.{State}
use Rattle.lane_machine.specs.Histories.{History}
use Rattle.lane_machine.specs.Fates.{named}

-- 1 for the reply of a finished request of this name
abbrev pub replies_to : ConnId → ℕ → Item → ℕ
replies_to conn serial (item.Answered answer) = named conn serial answer.job
replies_to conn serial (item.Early job) = 0
replies_to conn serial (item.Transient job) = 0
replies_to conn serial (item.Noticed notice) = 0

-- how many such replies are owed
abbrev pub owed_replies : ConnId → ℕ → State → ℕ
owed_replies conn serial s = sum_by (replies_to conn serial) s.out

-- 1 for a Collect that handed one over
abbrev pub hands : ConnId → ℕ → LaneReply → ℕ
hands conn serial (reply.Handed i) = replies_to conn serial i
hands conn serial r = 0

-- 1 for a request of this name whose reply is due with its answer
abbrev pub awaits : ConnId → ℕ → Due → Job → ℕ
awaits conn serial due.Late job = named conn serial job
awaits conn serial due.Early job = 0
awaits conn serial due.Nothing job = 0

-- 1 for a Finish of it, where its reply is due then
abbrev pub ends_awaited : ConnId → ℕ → LaneCall → ℕ
ends_awaited conn serial (Finish t answer) = awaits conn serial answer.job.due answer.job
ends_awaited conn serial call = 0

-- how many such replies were handed over
abbrev pub handed_replies : ConnId → ℕ → History → ℕ
handed_replies conn serial h = sum_by (λ e. hands conn serial e.reply) h

-- how often it was finished with a reply due
abbrev pub finished_awaited : ConnId → ℕ → History → ℕ
finished_awaited conn serial h = sum_by (λ e. ends_awaited conn serial e.call) h
