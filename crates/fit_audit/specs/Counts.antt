-- What is counted of the lines of a run. Own profile.
use Rattle.std.specs.Prelude.{ℕ, ◌+◌, ◌-◌, Bool, true, false, List, [], ◌∷◌, ◌++◌, Option, Some, None, max, slice_get, count_by}
use Rattle.trace_lines.specs.declared.trace_line.OfferReply.{OfferReply}
use Rattle.trace_lines.specs.declared.trace_line.OfferReply.TheVariants as offer_reply
use Rattle.trace_lines.specs.declared.trace_line.Action.{Action}
use Rattle.trace_lines.specs.declared.trace_line.Action.TheVariants as action
use Rattle.trace_lines.specs.declared.trace_line.TraceLine.{TraceLine}

-- a thread of another lane was given the request
abbrev pub lends : OfferReply → Bool
lends (offer_reply.Lent t) = true
lends r = false

-- the action is an Offer to which such a thread was lent
abbrev pub offers_lent : Action → Bool
offers_lent (action.Offer request r) = lends r
offers_lent a = false

-- the line is of such an Offer
abbrev pub is_lent : TraceLine → Bool
is_lent l = offers_lent l.action

-- how many Offers were answered so
abbrev pub lent : List TraceLine → ℕ
lent lines = count_by is_lent lines

-- the number of an Offer's line, where the request was kept
abbrev pub kept_by : ℕ → OfferReply → Option ℕ
kept_by n offer_reply.Kept = Some n
kept_by n r = None

-- that of the Offer of this line, if it is one
abbrev pub kept_in : ℕ → Action → List (Option ℕ)
kept_in n (action.Offer request r) = kept_by n r ∷ []
kept_in n a = []

-- of each Offer among lines, of which the first has this number: the number of its line, where the request was kept
abbrev pub kept_lines : ℕ → List TraceLine → List (Option ℕ)
kept_lines n [] = []
kept_lines n (l ∷ ls) = kept_in n l.action ++ kept_lines (n + 1) ls

-- how many lines after a request was kept this line comes; 0 for a request that wasn't kept before it
abbrev pub lines_since : ℕ → Option (Option ℕ) → ℕ
lines_since n (Some (Some place)) = n - place
lines_since n (Some None) = 0
lines_since n None = 0

-- how long the request waited that a thread takes, by its number among the Offers
abbrev pub task_wait : List (Option ℕ) → ℕ → Option ℕ → ℕ
task_wait kept n (Some k) = lines_since n (slice_get kept k)
task_wait kept n None = 0

-- how long the request waited that this line says to be taken
abbrev pub wait_of : List (Option ℕ) → ℕ → Action → ℕ
wait_of kept n (action.Take t task) = task_wait kept n task
wait_of kept n a = 0

-- the longest such wait among lines, of which the first has this number; 0 where none is taken
abbrev pub longest_from : List (Option ℕ) → ℕ → List TraceLine → ℕ
longest_from kept n [] = 0
longest_from kept n (l ∷ ls) = max (wait_of kept n l.action) (longest_from kept (n + 1) ls)

-- the longest wait of a request that was kept, in lines from its Offer to its Take; 0 where none is taken
abbrev pub longest : List TraceLine → ℕ
longest lines = longest_from (kept_lines 0 lines) 0 lines
