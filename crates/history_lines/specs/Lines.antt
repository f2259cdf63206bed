-- The lines of a history, one for each call with its reply: own profile.
use Rattle.std.specs.Prelude.{ℕ, Bool, true, false, List, [], ◌++◌, codes}
use Rattle.std.specs.List.{flat_map}
use Rattle.std.specs.Fmt.{decimal}
use Rattle.orb_base.specs.declared.conn_id.ConnId.{ConnId}
use Rattle.orb_base.specs.declared.item.Item.{Item}
use Rattle.orb_base.specs.declared.item.Item.TheVariants as item
use Rattle.orb_base.specs.declared.job.Job.{Job}
use Rattle.orb_base.specs.declared.outcome.Outcome.{Outcome}
use Rattle.orb_base.specs.declared.outcome.Outcome.TheVariants as outcome
use Rattle.lane_machine.specs.Entries.{One}
use Rattle.lane_machine.specs.Histories.{History}
use Rattle.lane_machine.specs.declared.call.How.{How}
use Rattle.lane_machine.specs.declared.call.How.TheVariants.{Quiet, Bad, Shut}
use Rattle.lane_machine.specs.declared.call.LaneCall.{LaneCall}
use Rattle.lane_machine.specs.declared.call.LaneCall.TheVariants.{Offer, Post, Cancel, Take, Finish, Collect, End, Leave}
use Rattle.lane_machine.specs.declared.call.LaneReply.{LaneReply}
use Rattle.lane_machine.specs.declared.call.LaneReply.TheVariants as reply

-- a connection, by its slot and its number there
abbrev pub conn_text : ConnId → List ℕ
conn_text conn = codes "c" ++ decimal conn.slot ++ codes "." ++ decimal conn.nth

-- a request that is offered: its connection, id, priority and lane
abbrev pub offer_text : Job → List ℕ
offer_text job =
    codes "offer " ++ conn_text job.conn ++ codes " #" ++ decimal job.id ++ codes " p" ++ decimal job.priority
    ++ codes " l" ++ decimal job.lane

-- what an invocation came to
abbrev pub outcome_word : Outcome → List ℕ
outcome_word (outcome.Returned body) = codes "returned"
outcome_word (outcome.User body) = codes "user"
outcome_word (outcome.System exception) = codes "system"

-- how the reading of a connection ended
abbrev pub how_word : How → List ℕ
how_word Quiet = codes "quiet"
how_word Bad = codes "bad"
how_word Shut = codes "shut"

-- a call, by its kind, its connection, thread or slot, and the id of its request
abbrev pub call_text : LaneCall → List ℕ
call_text (Offer job) = offer_text job
call_text (Post notice) = codes "post " ++ conn_text notice.conn ++ codes " #" ++ decimal notice.id
call_text (Cancel conn id) = codes "cancel " ++ conn_text conn ++ codes " #" ++ decimal id
call_text (Take thread) = codes "take t" ++ decimal thread
call_text (Finish thread answer) =
    codes "finish t" ++ decimal thread ++ codes " #" ++ decimal answer.job.id ++ codes " " ++ outcome_word answer.outcome
call_text (Collect conn) = codes "collect " ++ conn_text conn
call_text (End conn how) = codes "end " ++ conn_text conn ++ codes " " ++ how_word how
call_text (Leave slot) = codes "leave s" ++ decimal slot

-- the id of the request that a message answers
abbrev pub item_id : Item → ℕ
item_id (item.Answered answer) = answer.job.id
item_id (item.Early job) = job.id
item_id (item.Transient job) = job.id
item_id (item.Noticed notice) = notice.id

-- the thread that a request was given to, which is lent where its lane is another one
abbrev pub run_word : Bool → List ℕ
run_word true = codes " lent t"
run_word false = codes " run t"

-- a reply: what became of an offered request, the id of a request that is given or answered, or a word; a call that is only
-- noted, or finished, has none
abbrev pub reply_text : LaneReply → List ℕ
reply_text (reply.Run thread lent) = run_word lent ++ decimal thread
reply_text reply.Kept = codes " kept"
reply_text reply.Full = codes " full"
reply_text reply.Closing = codes " closing"
reply_text reply.Posted = codes " posted"
reply_text reply.Removed = codes " removed"
reply_text reply.Nothing = codes " nothing"
reply_text (reply.Given job) = codes " #" ++ decimal job.id
reply_text reply.Ended = codes " ended"
reply_text reply.Finished = []
reply_text (reply.Handed item) = codes " #" ++ decimal (item_id item)
reply_text reply.Close = codes " close"
reply_text reply.Error = codes " error"
reply_text reply.Done = codes " done"
reply_text reply.Noted = []

-- a call and its reply
abbrev pub line : LaneCall → LaneReply → List ℕ
line call answer = call_text call ++ reply_text answer ++ codes "\n"

-- the line of an entry, which doesn't say who called
abbrev pub entry_line : One → List ℕ
entry_line entry = line entry.call entry.reply

-- one line after the other
abbrev pub history_text : History → List ℕ
history_text history = flat_map entry_line history
