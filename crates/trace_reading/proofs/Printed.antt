-- What is printed of a line is its words, with one blank between them, and a line feed.
use Rattle.std.proofs.Common.{◌≡◌, ℕ, ◌<◌, Bool, true, false, List, [], ◌∷◌, ◌++◌, length, refl, sym, ap, ◌∙◌, arith, append_assoc}
use Rattle.std.specs.Prelude.{codes}
use Rattle.std.specs.Fmt.{decimal}
use Rattle.std.specs.List.{join_with_byte}
use Rattle.std.proofs.lemmas.List.{append_cancel_right}
use Rattle.orb_base.specs.Pool.{Pool}
use Rattle.orb_base.specs.declared.lane_spec.LaneSpec.{LaneSpec}
use Rattle.trace_lines.specs.Texts.{limit, flags_text, pool_text, lane_text, action_text, line_text, count_text}
use Rattle.trace_lines.specs.declared.trace_line.OfferReply.TheVariants as offer_reply
use Rattle.trace_lines.specs.declared.trace_line.CollectReply.TheVariants as collect_reply
use Rattle.trace_lines.specs.declared.trace_line.Action.{Action}
use Rattle.trace_lines.specs.declared.trace_line.Action.TheVariants as action
use Rattle.trace_lines.specs.declared.trace_line.TraceLine.{TraceLine}
use Rattle.trace_reading.specs.declared.row.Head.{Head}
use Rattle.trace_reading.specs.declared.row.Row.TheVariants.{Pool as PoolRow, Lane, Entry, Count}
use Rattle.trace_reading.specs.Laws.{LinesReadBack, LinesWereWritten}
use Rattle.trace_reading.specs.RowReading.{line_in}
use Rattle.trace_reading.specs.RowWords.{action_words, row_line}
use Rattle.trace_reading.proofs.RowsBack.{line_back, line_was}

action_printed : (a : Action) → action_text a ≡ join_with_byte 32 (action_words a)
action_printed (action.Offer request (offer_reply.Run t)) = simp append_assoc
action_printed (action.Offer request (offer_reply.Lent t)) = simp append_assoc
action_printed (action.Offer request offer_reply.Kept) = simp append_assoc
action_printed (action.Offer request offer_reply.Full) = simp append_assoc
action_printed (action.Offer request offer_reply.Closing) = simp append_assoc
action_printed (action.Post conn id r) = simp append_assoc
action_printed (action.Cancel conn id r) = simp append_assoc
action_printed (action.Take t task) = simp append_assoc
action_printed (action.Finish t k len) = simp append_assoc
action_printed (action.Collect conn (collect_reply.Answered k)) = simp append_assoc
action_printed (action.Collect conn (collect_reply.Early k)) = simp append_assoc
action_printed (action.Collect conn (collect_reply.Transient k)) = simp append_assoc
action_printed (action.Collect conn (collect_reply.Posted id)) = simp append_assoc
action_printed (action.Collect conn collect_reply.Close) = simp append_assoc
action_printed (action.Collect conn collect_reply.Error) = simp append_assoc
action_printed (action.Collect conn collect_reply.Done) = simp append_assoc
action_printed (action.End conn h) = simp append_assoc
action_printed (action.Leave slot) = refl

-- a word before others
join_more : (w : List ℕ) (ws : List (List ℕ)) → 0 < length ws → join_with_byte 32 (w ∷ ws) ≡ w ++ 32 ∷ join_with_byte 32 ws
join_more w [] some = absurd (omega arith)
join_more w (v ∷ ws) some = refl

some_words : (a : Action) → 0 < length (action_words a)
some_words (action.Offer request r) = omega arith
some_words (action.Post conn id r) = omega arith
some_words (action.Cancel conn id r) = omega arith
some_words (action.Take t task) = omega arith
some_words (action.Finish t k len) = omega arith
some_words (action.Collect conn r) = omega arith
some_words (action.End conn h) = omega arith
some_words (action.Leave slot) = omega arith

pub line_printed : (l : TraceLine) → line_text l ≡ row_line (Entry l) ++ 10 ∷ []
line_printed l =
    ap (λ (z : List ℕ). (decimal l.caller ++ 32 ∷ []) ++ z ++ 10 ∷ []) (action_printed l.action)
    ∙ ap (λ (z : List ℕ). z ++ 10 ∷ []) (append_assoc (decimal l.caller) (32 ∷ []) (join_with_byte 32 (action_words l.action))
    ∙ sym (join_more (decimal l.caller) (action_words l.action) (some_words l.action)))

pub lane_printed : (l : LaneSpec) → lane_text l ≡ row_line (Lane l) ++ 10 ∷ []
lane_printed l = simp append_assoc

pub count_printed : (n : ℕ) → count_text n ≡ row_line (Count n) ++ 10 ∷ []
count_printed n = refl

-- what a run opened with, but for its lanes
abbrev pub head_of : Pool → ℕ → ℕ → Head
head_of pool slots per_slot = record {
  flags = record { laned = pool.laned; borrowing = pool.borrowing; buffering = pool.buffering };
  limits = record { max_requests = pool.max_requests; max_bytes = pool.max_bytes; run_calls = pool.run_calls; run_bytes = pool.run_bytes };
  slots = slots;
  per_slot = per_slot;
}

limit_bare : (b : Bool) (most : ℕ) → (b ≡ false → most ≡ 0) → limit b most ≡ most
limit_bare true most h = refl
limit_bare false most h = sym (h refl)

abbrev pool_by : Pool → ℕ → ℕ → ℕ → ℕ → List ℕ
pool_by pool slots per_slot requests bytes =
    codes "pool " ++ flags_text pool ++ codes " "
    ++ (decimal requests ++ codes " " ++ decimal bytes ++ codes " " ++ decimal pool.run_calls ++ codes " " ++ decimal pool.run_bytes)
    ++ codes " " ++ decimal slots ++ codes " " ++ decimal per_slot ++ codes "\n"

pool_words : (pool : Pool) (slots per_slot : ℕ) → pool_by pool slots per_slot pool.max_requests pool.max_bytes ≡ row_line (PoolRow (head_of pool slots per_slot)) ++ 10 ∷ []
pool_words pool slots per_slot = simp append_assoc

pub pool_printed : (pool : Pool) (slots per_slot : ℕ) → (pool.buffering ≡ false → (pool.max_requests ≡ 0) × (pool.max_bytes ≡ 0))
    → pool_text pool slots per_slot ≡ row_line (PoolRow (head_of pool slots per_slot)) ++ 10 ∷ []
pool_printed pool slots per_slot bare =
    (λ i. pool_by pool slots per_slot (limit_bare pool.buffering pool.max_requests (λ e. (bare e).0) i) (limit_bare pool.buffering pool.max_bytes (λ e. (bare e).1) i))
    ∙ pool_words pool slots per_slot

pub reads_back : LinesReadBack
reads_back l text f e =
    ap line_in (append_cancel_right text (row_line (Entry l)) (10 ∷ []) (sym e ∙ line_printed l)) ∙ line_back (Entry l) f

pub were_written : LinesWereWritten
were_written l text e = let h = line_was text (Entry l) e in (line_printed l ∙ ap (λ (z : List ℕ). z ++ 10 ∷ []) (sym h.0), h.1)
