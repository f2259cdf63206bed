-- The table of a run's lanes, in numbers over the entries before the first wrong one. Own profile.
use Rattle.std.specs.Prelude.{ℕ, Bool, true, false, not, ◌+◌, ◌-◌, ◌==◌, ◌&&◌, List, [], ◌∷◌, ◌++◌, codes, length, take, max, count_by, slice_index, if◌then◌else◌}
use Rattle.std.specs.Fmt.{decimal}
use Rattle.orb_base.specs.Pool.{Pool}
use Rattle.trace_lines.specs.declared.trace_line.OfferReply.{OfferReply}
use Rattle.trace_lines.specs.declared.trace_line.OfferReply.TheVariants as offer_reply
use Rattle.trace_lines.specs.declared.trace_line.Action.{Action}
use Rattle.trace_lines.specs.declared.trace_line.Action.TheVariants as action
use Rattle.trace_lines.specs.declared.trace_line.TraceLine.{TraceLine}
use Rattle.trace_reading.specs.Traces.{Trace}
use Rattle.trace_picture.specs.Scenes.{no_scene}
use Rattle.trace_picture.specs.Shapes.{shapes}
use Rattle.trace_picture.specs.Plots.{Plot, plot_of, home_of}
use Rattle.trace_picture.specs.Pictures.{is_removal}
use Rattle.trace_picture.specs.Grounds.{each}
use Rattle.trace_picture.specs.declared.shape.Shape.{Shape}
use Rattle.trace_picture.specs.declared.shape.Shape.TheVariants as shape
use Rattle.trace_picture.specs.declared.shape.WaitEnd.{WaitEnd}
use Rattle.trace_picture.specs.declared.shape.WaitEnd.TheVariants as how
use Rattle.trace_picture.specs.declared.tables.Counted.{Counted}
use Rattle.trace_picture.specs.declared.tables.Counted.TheVariants.{Own, LentOut, LentIn, Kept, Full, Removed}

-- the request was heard
abbrev pub is_heard : OfferReply → Bool
is_heard (offer_reply.Run t) = true
is_heard (offer_reply.Lent t) = true
is_heard offer_reply.Kept = true
is_heard offer_reply.Full = true
is_heard offer_reply.Closing = false

-- a request of this lane is offered, and was heard
abbrev pub offers_to : ℕ → Action → Bool
offers_to l (action.Offer request reply) = (request.lane == l) && is_heard reply
offers_to l a = false

-- a line offers a request of this lane, which was heard
abbrev pub line_offers : ℕ → TraceLine → Bool
line_offers l line = offers_to l line.action

-- what is counted of a thread of this lane that carries out a request of that one: its own, lent out, and lent in
abbrev pub counts_bar : Counted → ℕ → ℕ → ℕ → Bool
counts_bar Own l home lane = (home == l) && (lane == l)
counts_bar LentOut l home lane = (home == l) && not (lane == l)
counts_bar LentIn l home lane = not (home == l) && (lane == l)
counts_bar what l home lane = false

-- what is counted of a request of this lane that waits
abbrev pub counts_wait : Counted → WaitEnd → Bool
counts_wait Kept how = true
counts_wait Removed how = is_removal how
counts_wait what how = false

-- what is counted of one that is refused
abbrev pub counts_full : Counted → Bool
counts_full Full = true
counts_full what = false

-- a shape is counted so for a lane
abbrev pub counts : Plot → ℕ → Counted → Shape → Bool
counts p l what (shape.Bar thread lane request start end) = counts_bar what l (home_of p thread) lane
counts p l what (shape.Wait lane request start end how) = (lane == l) && counts_wait what how
counts p l what (shape.Full lane at) = (lane == l) && counts_full what
counts p l what s = false

-- how many entries a request of the lane waited that was taken then
abbrev pub taken_after : ℕ → ℕ → WaitEnd → ℕ
taken_after start end how.Taken = end - start
taken_after start end how.Removed = 0
taken_after start end how.Open = 0

-- how many entries a request of this lane waited, where the shape is such a wait
abbrev pub waited_in : ℕ → Shape → ℕ
waited_in l (shape.Wait lane request start end how) = if lane == l then taken_after start end how else 0
waited_in l s = 0

-- the longest such wait; 0 where none was taken
abbrev pub longest : ℕ → List Shape → ℕ
longest l [] = 0
longest l (s ∷ ss) = max (waited_in l s) (longest l ss)

-- what is said of a lane: what its threads carried out, and its requests that others did
abbrev pub ran_text : Plot → List Shape → ℕ → List ℕ
ran_text p s l =
    codes "own " ++ decimal (count_by (counts p l Own) s) ++ codes " lent_out " ++ decimal (count_by (counts p l LentOut) s)
    ++ codes " lent_in " ++ decimal (count_by (counts p l LentIn) s)

-- and what became of those that no thread took at once
abbrev pub others_text : Plot → List Shape → ℕ → List ℕ
others_text p s l =
    codes "kept " ++ decimal (count_by (counts p l Kept) s) ++ codes " full " ++ decimal (count_by (counts p l Full) s) ++ codes " removed "
    ++ decimal (count_by (counts p l Removed) s) ++ codes " longest " ++ decimal (longest l s)

-- the name of a lane, and how many of its requests were heard
abbrev pub name_text : Plot → List TraceLine → ℕ → List ℕ
name_text p lines l =
    codes "lane " ++ decimal l ++ codes " priority " ++ decimal (slice_index p.priorities l) ++ codes " requests "
    ++ decimal (count_by (line_offers l) lines)

-- the line of a lane
unfoldable pub lane_line : Plot → List TraceLine → List Shape → ℕ → List ℕ
lane_line p lines s l = name_text p lines l ++ codes " " ++ ran_text p s l ++ codes " " ++ others_text p s l ++ codes "\n"

-- the lines of all lanes
abbrev pub lanes_text : Plot → List TraceLine → List Shape → List ℕ
lanes_text p lines s = each (lane_line p lines s) (length p.priorities)

-- the table of these lines
abbrev pub table_of : Pool → List TraceLine → ℕ → List ℕ
table_of pool lines legal = lanes_text (plot_of pool 0 0) (take legal lines) (shapes no_scene 0 (take legal lines))

-- the table of a run of which so many entries come before the first wrong one
abbrev pub table_text : Trace → ℕ → List ℕ
table_text t legal = table_of t.pool t.lines legal
