-- What the caller of a slot may call, by what it called before. Own profile.
use Rattle.std.specs.Prelude.{ℕ, ◌+◌, ◌-◌, ◌^◌, ◌==◌, ◌&&◌, ◌||◌, not, nat_lt, min, Bool, true, false}
use Rattle.trace_lines.specs.declared.trace_line.OfferReply.{OfferReply}
use Rattle.trace_lines.specs.declared.trace_line.OfferReply.TheVariants as offer_reply
use Rattle.trace_lines.specs.declared.trace_line.PostReply.{PostReply}
use Rattle.trace_lines.specs.declared.trace_line.PostReply.TheVariants as post_reply
use Rattle.trace_lines.specs.declared.trace_line.CancelReply.{CancelReply}
use Rattle.trace_lines.specs.declared.trace_line.CancelReply.TheVariants as cancel_reply
use Rattle.trace_lines.specs.declared.trace_line.Action.{Action}
use Rattle.trace_lines.specs.declared.trace_line.Action.TheVariants as action
use Rattle.fit_audit.specs.declared.reader.Reader.{Reader}

-- an Offer was answered Closing
abbrev pub offer_closing : OfferReply → Bool
offer_closing offer_reply.Closing = true
offer_closing r = false

-- a Post was
abbrev pub post_closing : PostReply → Bool
post_closing post_reply.Closing = true
post_closing r = false

-- a Cancel was
abbrev pub cancel_closing : CancelReply → Bool
cancel_closing cancel_reply.Closing = true
cancel_closing r = false

-- the call was answered Closing
abbrev pub is_closing : Action → Bool
is_closing (action.Offer request r) = offer_closing r
is_closing (action.Post conn id r) = post_closing r
is_closing (action.Cancel conn id r) = cancel_closing r
is_closing a = false

-- the slot reads its connection of this number, of which it has so many
abbrev pub reads : ℕ → Reader → ℕ → Bool
reads per_slot r nth = nat_lt nth per_slot && (r.ended == nth) && not r.left

-- no call of this connection was answered Closing
abbrev pub may_hear : ℕ → Reader → ℕ → Bool
may_hear per_slot r nth = reads per_slot r nth && not r.closed

-- the slot's caller may call this
abbrev pub reader_may : ℕ → Reader → Action → Bool
reader_may per_slot r (action.Offer request x) = may_hear per_slot r request.conn.nth && (r.heard == request.serial)
reader_may per_slot r (action.Post conn id x) = may_hear per_slot r conn.nth
reader_may per_slot r (action.Cancel conn id x) = may_hear per_slot r conn.nth
reader_may per_slot r (action.End conn how) = reads per_slot r conn.nth
reader_may per_slot r (action.Leave slot) = not r.left && (r.heard == 0)
reader_may per_slot r a = false

-- one more, up to the greatest number
abbrev pub one_more : ℕ → ℕ
one_more n = min (n + 1) (2 ^ 64 - 1)

-- the slot's caller after a call of its connection
abbrev pub hearing : Reader → Bool → Reader
hearing r closing = record { ended = r.ended; heard = one_more r.heard; closed = r.closed || closing; left = r.left }

-- the slot's caller after it called this
abbrev pub reader_after : Reader → Action → Reader
reader_after r (action.Offer request x) = hearing r (offer_closing x)
reader_after r (action.Post conn id x) = hearing r (post_closing x)
reader_after r (action.Cancel conn id x) = hearing r (cancel_closing x)
reader_after r (action.End conn how) = record { ended = one_more r.ended; heard = 0; closed = false; left = r.left }
reader_after r (action.Leave slot) = record { ended = r.ended; heard = r.heard; closed = r.closed; left = true }
reader_after r a = r

-- the slot's caller before any call
abbrev pub new_reader : Reader
new_reader = record { ended = 0; heard = 0; closed = false; left = false }
