-- What follows the text of a run is read as if nothing were before it.
use Rattle.std.proofs.Common.{◌≡◌, ℕ, ◌⊎◌, Bool, true, false, inl, inr, List, [], ◌∷◌, ◌++◌, length, map, refl, sym, ap, subst, ◌∙◌, arith, append_assoc}
use Rattle.std.specs.List.{All, flat_map}
use Rattle.std.proofs.lemmas.List.Elements.{All-tail}
use Rattle.trace_lines.specs.ReadBack.{history_of}
use Rattle.trace_lines.specs.Summaries.{summary_of}
use Rattle.trace_lines.specs.declared.trace_line.TraceLine.{TraceLine}
use Rattle.trace_reading.specs.declared.row.Row.TheVariants.{Pool as PoolRow, Count}
use Rattle.trace_reading.specs.Traces.{Trace, IsTrace, AreTraces, MayBegin, run_text}
use Rattle.trace_reading.proofs.Counted.{said, summary_printed}
use Rattle.trace_reading.proofs.OneReading.{pieces, Other, after_head, grouped, kind, no_said, no_run, all_printed, all_fit}
use Rattle.trace_reading.proofs.Pieces.{Piece, Told, Said, entry_piece, piece_line, piece_text, run_pieces, said_pieces, run_printed, run_fits}
use Rattle.trace_reading.proofs.Printed.{head_of}
use Rattle.trace_runs.specs.Begun.{HasNoFeed}
use Rattle.trace_runs.specs.Reading.{HasNoSummary}
use Rattle.trace_runs.proofs.Rests.{next_line}
use Rattle.trace_runs.proofs.Following.{more_lanes, more_lines, no_lane}

-- the summary of these lines
abbrev summary_piece : List TraceLine → Piece
summary_piece lines = Said (said (summary_of (history_of lines)))

-- a run that comes next begins here, or the summary of the run before does
abbrev ComesNext : Trace → Piece → List Piece → List Trace → Type 0
ComesNext t q r us = (q ∷ r ≡ pieces us) ⊎ ((t.summed ≡ false) × (q ≡ summary_piece t.lines))

after_said : (a b : Bool) (lines : List TraceLine) (q : Piece) (r : List Piece) (us : List Trace) → said_pieces a lines ++ q ∷ r ≡ said_pieces b lines ++ pieces us
    → (q ∷ r ≡ pieces us) ⊎ ((a ≡ false) × (q ≡ summary_piece lines))
after_said true true lines q r us e = inl cc
after_said false false lines q r us e = inl e
after_said true false lines q r us e = absurd (subst (Other 4) (sym e) (no_said us) refl)
after_said false true lines q r us e = let first : q ≡ summary_piece lines = cc in inr (refl, first)

comes_next : (t u : Trace) (q : Piece) (r : List Piece) (us : List Trace) → run_pieces t ++ q ∷ r ≡ run_pieces u ++ pieces us → ComesNext t q r us
comes_next t u q r us e =
    let both : Told (PoolRow (head_of t.pool t.slots t.per_slot)) ∷ after_head t (q ∷ r) ≡ Told (PoolRow (head_of u.pool u.slots u.per_slot)) ∷ after_head u (pieces us) =
    sym (grouped t (q ∷ r)) ∙ e ∙ grouped u (pieces us) in
    let rest : after_head t (q ∷ r) ≡ after_head u (pieces us) = cc in
    let tail_t = said_pieces t.summed t.lines ++ q ∷ r in
    let tail_u = said_pieces u.summed u.lines ++ pieces us in
    elim (more_lanes t.pool.lanes u.pool.lanes (map entry_piece t.lines ++ (Told (Count (length t.lines)) ∷ tail_t)) (map entry_piece u.lines ++ (Told (Count (length u.lines)) ∷ tail_u))
    (no_lane t.lines (length t.lines) tail_t) rest) [
      | inl k ↦ elim (more_lines t.lines u.lines (Told (Count (length t.lines)) ∷ tail_t) (Told (Count (length u.lines)) ∷ tail_u) (λ z. omega (arith, z)) k.1) [
        | inl j ↦
            let h = j.1 in
            let last : tail_t ≡ tail_u = cc in
            after_said t.summed u.summed t.lines q r us (last ∙ ap (λ (z : List TraceLine). said_pieces u.summed z ++ pieces us) (sym j.0))
        | inr j ↦ absurd (let first : Told (Count (length u.lines)) ≡ entry_piece j.0 = let h = j.3 in cc in omega (arith, ap kind first))
      ]
      | inr k ↦ absurd (subst (Other 1) k.3 (no_lane u.lines (length u.lines) tail_u) refl)
    ]

-- what comes after a run that was given out, of which no summary comes next, is runs by itself where it is with the run
pub traces_without_run : (t : Trace) (w after more : List ℕ) (us : List Trace) → IsTrace t → (t.summed ≡ false → HasNoSummary t.lines (w ++ 10 ∷ after)) → HasNoFeed w
    → AreTraces ((run_text t ++ (w ++ 10 ∷ after)) ++ more) us → (vs : List Trace) × AreTraces ((w ++ 10 ∷ after) ++ more) vs
traces_without_run t w after more us is alone n are =
    let text : flat_map piece_text (run_pieces t) ++ (w ++ 10 ∷ (after ++ more)) ≡ flat_map piece_text (pieces us) =
    ap (λ (z : List ℕ). z ++ (w ++ 10 ∷ (after ++ more))) (sym (run_printed t is)) ∙ ap (λ (z : List ℕ). run_text t ++ z) (sym (append_assoc w (10 ∷ after) more))
    ∙ sym (append_assoc (run_text t) (w ++ 10 ∷ after) more) ∙ are.text ∙ all_printed us are.each in
    let k = next_line (run_pieces t) (pieces us) w (after ++ more) (run_fits t is) (all_fit us are.each) n text in
    by_first us are.each k.piece k.later k.line k.rest k.parts
  where
    told : (us : List Trace) (q : Piece) (later : List Piece) → All IsTrace us → piece_line q ≡ w → after ++ more ≡ flat_map piece_text later
        → ComesNext t q later us → (vs : List Trace) × AreTraces ((w ++ 10 ∷ after) ++ more) vs
    told us q later each line rest (inl same) = (
      us,
      record {
        text = append_assoc w (10 ∷ after) more ∙ (λ i. sym line i ++ 10 ∷ rest i) ∙ sym (append_assoc (piece_line q) (10 ∷ []) (flat_map piece_text later))
            ∙ ap (λ (z : List Piece). flat_map piece_text z) same ∙ sym (all_printed us each);
        each = each;
      },
    )
    told us q later each line rest (inr summary) =
        let said_is : said (summary_of (history_of t.lines)) ≡ w = ap piece_line (sym summary.1) ∙ line in
        absurd ((alone summary.0).none after (sym (append_assoc w (10 ∷ []) after) ∙ ap (λ (z : List ℕ). (z ++ 10 ∷ []) ++ after) (sym said_is)
        ∙ ap (λ (z : List ℕ). z ++ after) (sym (summary_printed (summary_of (history_of t.lines))))))

    by_first : (us : List Trace) → All IsTrace us → (q : Piece) (later : List Piece) → piece_line q ≡ w → after ++ more ≡ flat_map piece_text later
        → pieces us ≡ run_pieces t ++ q ∷ later → (vs : List Trace) × AreTraces ((w ++ 10 ∷ after) ++ more) vs
    by_first [] each q later line rest parts = absurd (no_run t (q ∷ later) parts)
    by_first (u ∷ us) each q later line rest parts =
        told us q later (All-tail IsTrace u us each) line rest (comes_next t u q later us (sym parts))

-- and may be an input's beginning
pub without_run : (t : Trace) (w after : List ℕ) → IsTrace t → (t.summed ≡ false → HasNoSummary t.lines (w ++ 10 ∷ after)) → HasNoFeed w
    → MayBegin (run_text t ++ (w ++ 10 ∷ after)) → MayBegin (w ++ 10 ∷ after)
without_run t w after is alone n begins =
    let k = traces_without_run t w after begins.0 begins.1 is alone n begins.2 in (begins.0, k.0, k.1)
