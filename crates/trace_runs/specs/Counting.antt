-- The numbers of a history, by the lines that say it. Own profile.
use Rattle.std.specs.Prelude.{Bool, true, false}
use Rattle.trace_lines.specs.declared.trace_line.OfferReply.{OfferReply}
use Rattle.trace_lines.specs.declared.trace_line.OfferReply.TheVariants as offer_reply
use Rattle.trace_lines.specs.declared.trace_line.PostReply.{PostReply}
use Rattle.trace_lines.specs.declared.trace_line.PostReply.TheVariants as post_reply
use Rattle.trace_lines.specs.declared.trace_line.CancelReply.{CancelReply}
use Rattle.trace_lines.specs.declared.trace_line.CancelReply.TheVariants as cancel_reply
use Rattle.trace_lines.specs.declared.trace_line.Action.{Action}
use Rattle.trace_lines.specs.declared.trace_line.Action.TheVariants as action
use Rattle.trace_lines.specs.declared.trace_line.TraceLine.{TraceLine}
use Rattle.trace_runs.specs.declared.summaries.Counted.{Counted}
use Rattle.trace_runs.specs.declared.summaries.Counted.TheVariants.{Heard, Own, Lent, Kept, Full, Removed, Ended}

-- an offered request is counted so
abbrev pub counts_offer : Counted → OfferReply → Bool
counts_offer Heard offer_reply.Closing = false
counts_offer Heard r = true
counts_offer Own (offer_reply.Run t) = true
counts_offer Lent (offer_reply.Lent t) = true
counts_offer Kept offer_reply.Kept = true
counts_offer Full offer_reply.Full = true
counts_offer what r = false

-- an answer of the reading side is
abbrev pub counts_post : Counted → PostReply → Bool
counts_post Heard post_reply.Posted = true
counts_post what r = false

-- a withdrawal is
abbrev pub counts_cancel : Counted → CancelReply → Bool
counts_cancel Heard cancel_reply.Removed = true
counts_cancel Heard cancel_reply.Nothing = true
counts_cancel Removed cancel_reply.Removed = true
counts_cancel what r = false

-- an ended reading side is
abbrev pub counts_end : Counted → Bool
counts_end Ended = true
counts_end what = false

-- a call with its reply is
abbrev pub counts_action : Counted → Action → Bool
counts_action what (action.Offer request r) = counts_offer what r
counts_action what (action.Post conn id r) = counts_post what r
counts_action what (action.Cancel conn id r) = counts_cancel what r
counts_action what (action.End conn how) = counts_end what
counts_action what a = false

-- a line is
abbrev pub counts_line : Counted → TraceLine → Bool
counts_line what line = counts_action what line.action
