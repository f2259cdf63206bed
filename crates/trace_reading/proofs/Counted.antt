-- The numbers of a summary fit, and its line has more words than any other.
use Rattle.std.proofs.Common.{◌≡◌, ℕ, ◌<◌, ◌^◌, suc, Bool, true, false, List, [], ◌∷◌, ◌++◌, length, Some, None, refl, sym, ap, ◌∙◌, arith, append_assoc}
use Rattle.std.specs.Prelude.{if◌then◌else◌, codes, nat_le, count_by}
use Rattle.std.specs.Fmt.{decimal}
use Rattle.std.specs.List.{join_with_byte}
use Rattle.std.specs.Option.{option_and_then}
use Rattle.std.proofs.lemmas.List.Sums.{count_by-le-length}
use Rattle.orb_base.specs.declared.job.Job.{Job}
use Rattle.lane_machine.specs.Entries.{One}
use Rattle.trace_lines.specs.ReadBack.{jobs_of, entries_after, history_of}
use Rattle.trace_lines.specs.Summaries.{counts, gives, keeps, refuses, removes, is_end, summary_of, given_text, summary_line}
use Rattle.trace_lines.specs.declared.summary.Summary.{Summary}
use Rattle.trace_lines.specs.declared.trace_line.TraceLine.{TraceLine}
use Rattle.trace_reading.specs.Words.{parts_in}
use Rattle.trace_reading.specs.RowReading.{row_of, line_in}
use Rattle.trace_reading.proofs.Joins.{above, AreAbove, decimal_above, split_join, above_join}

-- a summary's words after its first
abbrev pub summary_rest : Summary → List (List ℕ)
summary_rest s =
    decimal s.calls ∷ codes "run" ∷ decimal s.run ∷ codes "lent" ∷ decimal s.lent ∷ codes "kept" ∷ decimal s.kept ∷ codes "full" ∷ decimal s.full
    ∷ codes "removed" ∷ decimal s.removed ∷ codes "connections" ∷ decimal s.connections ∷ []

-- all its words
abbrev pub summary_words : Summary → List (List ℕ)
summary_words s = codes "calls" ∷ summary_rest s

-- its line, without the line feed
abbrev pub said : Summary → List ℕ
said s = join_with_byte 32 (summary_words s)

-- texts that are joined one after another
all_flat : (a b c d e f g h r : List ℕ) → (((((((a ++ b) ++ c) ++ d) ++ e) ++ f) ++ g) ++ h) ++ r ≡ a ++ (b ++ (c ++ (d ++ (e ++ (f ++ (g ++ (h ++ r)))))))
all_flat a b c d e f g h r = simp append_assoc

words_flat : (a b c d e f g : List ℕ)
    → join_with_byte 32 (codes "calls" ∷ a ∷ codes "run" ∷ b ∷ codes "lent" ∷ c ∷ codes "kept" ∷ d ∷ codes "full" ∷ e ∷ codes "removed" ∷ f ∷ codes "connections" ∷ g ∷ []) ++ 10 ∷ []
    ≡ codes "calls " ++ (a ++ (codes " " ++ (codes "run " ++ (b ++ (codes " lent " ++ (c ++ (codes " kept " ++ (d ++ (codes " full " ++ (e
    ++ (codes " removed " ++ (f ++ (codes " connections " ++ (g ++ codes "\n"))))))))))))))
words_flat a b c d e f g = simp append_assoc

pub summary_printed : (s : Summary) → summary_line s ≡ said s ++ 10 ∷ []
summary_printed s =
    all_flat (codes "calls ") (decimal s.calls) (codes " ") (given_text s) (codes " removed ") (decimal s.removed) (codes " connections ") (decimal s.connections) (codes "\n")
    ∙ ap (λ (z : List ℕ). codes "calls " ++ (decimal s.calls ++ (codes " " ++ z)))
    (all_flat (codes "run ") (decimal s.run) (codes " lent ") (decimal s.lent) (codes " kept ") (decimal s.kept) (codes " full ") (decimal s.full)
    (codes " removed " ++ (decimal s.removed ++ (codes " connections " ++ (decimal s.connections ++ codes "\n")))))
    ∙ sym (words_flat (decimal s.calls) (decimal s.run) (decimal s.lent) (decimal s.kept) (decimal s.full) (decimal s.removed) (decimal s.connections))

entries_same : (jobs : List Job) (before lines : List TraceLine) → length (entries_after jobs before lines) ≡ length lines
entries_same jobs before [] = refl
entries_same jobs before (l ∷ ls) = ap suc (entries_same jobs (before ++ l ∷ []) ls)

few : (p : One → Bool) (lines : List TraceLine) → length lines < 2 ^ 32 → count_by p (history_of lines) < 2 ^ 64
few p lines l = omega (arith, count_by-le-length p (history_of lines), entries_same (jobs_of lines) [] lines)

number_above : (p : One → Bool) (lines : List TraceLine) → length lines < 2 ^ 32 → above 32 (decimal (count_by p (history_of lines))) ≡ true
number_above p lines l = decimal_above 32 (count_by p (history_of lines)) (omega arith) (few p lines l)

summary_above : (lines : List TraceLine) → length lines < 2 ^ 32 → AreAbove 32 (summary_words (summary_of (history_of lines)))
summary_above lines l = (
  refl,
  (
    number_above counts lines l,
    (
      refl,
      (
        number_above (gives false) lines l,
        (
          refl,
          (
            number_above (gives true) lines l,
            (
              refl,
              (
                number_above keeps lines l,
                (refl, (number_above refuses lines l, (refl, (number_above removes lines l, (refl, (number_above is_end lines l, tt)))))),
              ),
            ),
          ),
        ),
      ),
    ),
  ),
)

too_many : (s : Summary) → AreAbove 32 (summary_words s) → parts_in 32 (said s) ≡ None
too_many s e =
    ap (λ (z : List (List ℕ)). if nat_le (length z) 12 then Some z else None) (split_join 32 (codes "calls") (summary_rest s) e)

-- no other line is a summary
pub said_unread : (lines : List TraceLine) → length lines < 2 ^ 32 → line_in (said (summary_of (history_of lines))) ≡ None
said_unread lines l = ap (option_and_then row_of) (too_many (summary_of (history_of lines)) (summary_above lines l))

pub said_above : (lines : List TraceLine) → length lines < 2 ^ 32 → above 10 (said (summary_of (history_of lines))) ≡ true
said_above lines l = above_join (summary_words (summary_of (history_of lines))) (summary_above lines l)
