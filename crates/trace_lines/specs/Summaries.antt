-- What a run did, in numbers over its history, and their line: own profile.
use Rattle.std.specs.Prelude.{ℕ, Bool, true, false, not, ◌&&◌, List, ◌++◌, codes, count_by}
use Rattle.std.specs.Fmt.{decimal}
use Rattle.lane_machine.specs.Callers as callers
use Rattle.lane_machine.specs.Entries.{One}
use Rattle.lane_machine.specs.Histories.{History}
use Rattle.lane_machine.specs.declared.call.LaneCall.{LaneCall}
use Rattle.lane_machine.specs.declared.call.LaneCall.TheVariants.{Offer, Post, Cancel}
use Rattle.lane_machine.specs.declared.call.LaneReply.{LaneReply}
use Rattle.lane_machine.specs.declared.call.LaneReply.TheVariants as reply
use Rattle.trace_lines.specs.declared.summary.Counted.{Counted}
use Rattle.trace_lines.specs.declared.summary.Counted.TheVariants.{Heard, Offered, Own, Lent, Kept, Full, Removed, Handed, Ended}
use Rattle.trace_lines.specs.declared.summary.Summary.{Summary}

-- a call that a connection's bytes mean
abbrev pub is_heard : LaneCall → Bool
is_heard (Offer job) = true
is_heard (Post notice) = true
is_heard (Cancel conn id) = true
is_heard call = false

-- the request was given to a thread, which is lent or not
abbrev pub is_run : Bool → LaneReply → Bool
is_run true (reply.Run thread lent) = lent
is_run false (reply.Run thread lent) = not lent
is_run lent r = false

-- the request waits
abbrev pub is_kept : LaneReply → Bool
is_kept reply.Kept = true
is_kept r = false

-- the request was refused
abbrev pub is_full : LaneReply → Bool
is_full reply.Full = true
is_full r = false

-- the request was given to a thread, waits or was refused
abbrev pub is_offered : LaneReply → Bool
is_offered (reply.Run thread lent) = true
is_offered reply.Kept = true
is_offered reply.Full = true
is_offered r = false

-- a message was handed to a connection's writing side
abbrev pub is_handed : LaneReply → Bool
is_handed (reply.Handed item) = true
is_handed r = false

-- the request was withdrawn
abbrev pub is_removed : LaneReply → Bool
is_removed reply.Removed = true
is_removed r = false

-- a connection's bytes mean the call of the entry, and no limit of the run was met by it
abbrev pub counts : One → Bool
counts e = is_heard e.call && not (callers.is_closing e.reply)

-- the request of the entry was given to a thread, which is lent or not
abbrev pub gives : Bool → One → Bool
gives lent e = is_run lent e.reply

-- the request of the entry waits
abbrev pub keeps : One → Bool
keeps e = is_kept e.reply

-- the request of the entry was refused
abbrev pub refuses : One → Bool
refuses e = is_full e.reply

-- the request of the entry was given to a thread, waits or was refused
abbrev pub offers : One → Bool
offers e = is_offered e.reply

-- the entry hands a message to a connection's writing side
abbrev pub hands : One → Bool
hands e = is_handed e.reply

-- the request of the entry was withdrawn
abbrev pub removes : One → Bool
removes e = is_removed e.reply

-- the reading of a connection has ended by the entry
abbrev pub is_end : One → Bool
is_end e = callers.is_end e.call

-- an entry is counted so
abbrev pub is_counted : Counted → One → Bool
is_counted Heard = counts
is_counted Offered = offers
is_counted Own = gives false
is_counted Lent = gives true
is_counted Kept = keeps
is_counted Full = refuses
is_counted Removed = removes
is_counted Handed = hands
is_counted Ended = is_end

-- how many entries are counted so
abbrev pub count : Counted → History → ℕ
count what h = count_by (is_counted what) h

-- the numbers of a history
abbrev pub summary_of : History → Summary
summary_of h = record {
  calls = count Heard h;
  run = count Own h;
  lent = count Lent h;
  kept = count Kept h;
  full = count Full h;
  removed = count Removed h;
  connections = count Ended h;
}

-- what became of the requests when they came
abbrev pub given_text : Summary → List ℕ
given_text s =
    codes "run " ++ decimal s.run ++ codes " lent " ++ decimal s.lent ++ codes " kept " ++ decimal s.kept ++ codes " full " ++ decimal s.full

-- the line of these numbers
abbrev pub summary_line : Summary → List ℕ
summary_line s =
    codes "calls " ++ decimal s.calls ++ codes " " ++ given_text s ++ codes " removed " ++ decimal s.removed
    ++ codes " connections " ++ decimal s.connections ++ codes "\n"
