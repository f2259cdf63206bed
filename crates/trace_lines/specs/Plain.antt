-- What a trace keeps of a history, and of the state of the lane machine along it: everything but the byte order, target, operation and
-- body of requests, what an answer is but for the length of its body, and what an answer of the reading side says. Own profile.
use Rattle.std.specs.Prelude.{map}
use Rattle.orb_base.specs.Outcomes.{body_len}
use Rattle.orb_base.specs.declared.answer.Answer.{Answer}
use Rattle.orb_base.specs.declared.item.Item.{Item}
use Rattle.orb_base.specs.declared.item.Item.TheVariants as item
use Rattle.orb_base.specs.declared.job.Job.{Job}
use Rattle.orb_base.specs.declared.notice.Notice.{Notice}
use Rattle.thread_borrowing.specs.declared.doing.Doing.{Doing}
use Rattle.thread_borrowing.specs.declared.doing.Doing.TheVariants.{Free, Given, Busy}
use Rattle.thread_borrowing.specs.ThreadList.{Thread}
use Rattle.lane_machine.specs.State.{State}
use Rattle.lane_machine.specs.Entries.{One}
use Rattle.lane_machine.specs.Histories.{History}
use Rattle.lane_machine.specs.declared.call.LaneCall.{LaneCall}
use Rattle.lane_machine.specs.declared.call.LaneCall.TheVariants.{Offer, Post, Cancel, Take, Finish, Collect, End, Leave}
use Rattle.lane_machine.specs.declared.call.LaneReply.{LaneReply}
use Rattle.lane_machine.specs.declared.call.LaneReply.TheVariants as reply
use Rattle.trace_lines.specs.Lines.{request_of}
use Rattle.trace_lines.specs.ReadBack.{job_of, answer_of, notice_of}

-- a request as it is read back
abbrev pub plain : Job → Job
plain job = job_of (request_of job)

-- an answer as it is read back: of the plain request, with a body of the same length
abbrev pub plain_answer : Answer → Answer
plain_answer a = answer_of (plain a.job) (body_len a.outcome)

-- an answer of the reading side as it is read back
abbrev pub plain_notice : Notice → Notice
plain_notice n = notice_of n.conn n.id

-- what is owed, as it is read back
abbrev pub plain_item : Item → Item
plain_item (item.Answered a) = item.Answered (plain_answer a)
plain_item (item.Early job) = item.Early (plain job)
plain_item (item.Transient job) = item.Transient (plain job)
plain_item (item.Noticed n) = item.Noticed (plain_notice n)

-- what a thread does, as it is read back
abbrev pub plain_doing : Doing → Doing
plain_doing Free = Free
plain_doing (Given job) = Given (plain job)
plain_doing (Busy job) = Busy (plain job)

-- a thread, as it is read back
abbrev pub plain_thread : Thread → Thread
plain_thread thread = record thread { doing = plain_doing thread.doing }

-- the state of the lane machine, as it is read back
abbrev pub plain_state : State → State
plain_state s = record s { threads = map plain_thread s.threads; waiting = map plain s.waiting; out = map plain_item s.out }

-- a call as it is read back
abbrev pub plain_call : LaneCall → LaneCall
plain_call (Offer job) = Offer (plain job)
plain_call (Post n) = Post (plain_notice n)
plain_call (Cancel conn id) = Cancel conn id
plain_call (Take t) = Take t
plain_call (Finish t a) = Finish t (plain_answer a)
plain_call (Collect conn) = Collect conn
plain_call (End conn how) = End conn how
plain_call (Leave slot) = Leave slot

-- a reply as it is read back
abbrev pub plain_reply : LaneReply → LaneReply
plain_reply (reply.Given job) = reply.Given (plain job)
plain_reply (reply.Handed i) = reply.Handed (plain_item i)
plain_reply r = r

-- an entry as it is read back
abbrev pub plain_entry : One → One
plain_entry e = record { caller = e.caller; call = plain_call e.call; reply = plain_reply e.reply }

-- a history as it is read back
abbrev pub plain_history : History → History
plain_history h = map plain_entry h
