-- Which line may come after those of a run that was begun.
use Rattle.std.proofs.Common.{◌≡◌, ℕ, ◌<◌, ◌⊎◌, inl, inr, List, [], ◌∷◌, ◌++◌, length, map, refl, sym, ap, subst, ◌∙◌, arith, append_assoc, append-nil}
use Rattle.std.specs.List.{All}
use Rattle.std.proofs.lemmas.List.{length-append}
use Rattle.std.proofs.lemmas.List.Elements.{All-nil, All-cons, All-head}
use Rattle.orb_base.specs.Pool.{HasLanes, lane_threads}
use Rattle.orb_base.specs.declared.lane_spec.LaneSpec.{LaneSpec}
use Rattle.trace_lines.specs.declared.trace_line.TraceLine.{TraceLine}
use Rattle.trace_reading.specs.declared.row.Head.{Head}
use Rattle.trace_reading.specs.declared.row.Row.TheVariants.{Pool as PoolRow, Count}
use Rattle.trace_reading.specs.RowWords.{FitsLane}
use Rattle.trace_reading.specs.Traces.{Trace, IsTrace}
use Rattle.trace_reading.proofs.OneReading.{pieces, Other, after_head, grouped, kind}
use Rattle.trace_reading.proofs.Pieces.{Piece, Told, Said, lane_piece, entry_piece, said_pieces}
use Rattle.trace_reading.proofs.Printed.{head_of}
use Rattle.trace_runs.specs.Begun.{run_of, first_lane, MayFollow}
use Rattle.trace_runs.proofs.Prefixes.{fewer_lanes, fewer_lines}

-- the first ones of these lanes are those; then others come, or one more
abbrev pub MoreLanes : List LaneSpec → List LaneSpec → List Piece → List Piece → Type 0
MoreLanes xs ys a b =
    ((xs ≡ ys) × (a ≡ b)) ⊎ ((x : LaneSpec) × (zs : List LaneSpec) × (xs ≡ ys ++ x ∷ zs) × (b ≡ lane_piece x ∷ (map lane_piece zs ++ a)))

pub more_lanes : (xs ys : List LaneSpec) (a b : List Piece) → Other 1 a → map lane_piece xs ++ a ≡ map lane_piece ys ++ b → MoreLanes xs ys a b
more_lanes [] [] a b o e = inl (refl, e)
more_lanes [] (y ∷ ys) a b o e = absurd (subst (Other 1) e o refl)
more_lanes (x ∷ xs) [] a b o e = inr (x, xs, refl, sym e)
more_lanes (x ∷ xs) (y ∷ ys) a b o e =
    let h : x ≡ y = cc in
    let t : map lane_piece xs ++ a ≡ map lane_piece ys ++ b = cc in
    elim (more_lanes xs ys a b o t) [
      | inl k ↦ inl ((λ i. h i ∷ k.0 i), k.1)
      | inr k ↦ inr (k.0, k.1, (λ i. h i ∷ k.2 i), k.3)
    ]

-- and so for entries
abbrev pub MoreLines : List TraceLine → List TraceLine → List Piece → List Piece → Type 0
MoreLines xs ys a b =
    ((xs ≡ ys) × (a ≡ b)) ⊎ ((x : TraceLine) × (zs : List TraceLine) × (xs ≡ ys ++ x ∷ zs) × (b ≡ entry_piece x ∷ (map entry_piece zs ++ a)))

pub more_lines : (xs ys : List TraceLine) (a b : List Piece) → Other 2 a → map entry_piece xs ++ a ≡ map entry_piece ys ++ b → MoreLines xs ys a b
more_lines [] [] a b o e = inl (refl, e)
more_lines [] (y ∷ ys) a b o e = absurd (subst (Other 2) e o refl)
more_lines (x ∷ xs) [] a b o e = inr (x, xs, refl, sym e)
more_lines (x ∷ xs) (y ∷ ys) a b o e =
    let h : x ≡ y = cc in
    let t : map entry_piece xs ++ a ≡ map entry_piece ys ++ b = cc in
    elim (more_lines xs ys a b o t) [
      | inl k ↦ inl ((λ i. h i ∷ k.0 i), k.1)
      | inr k ↦ inr (k.0, k.1, (λ i. h i ∷ k.2 i), k.3)
    ]

-- after the lanes of a run comes no lane
pub no_lane : (lines : List TraceLine) (n : ℕ) (rest : List Piece) → Other 1 (map entry_piece lines ++ (Told (Count n) ∷ rest))
no_lane [] n rest = λ e. omega (arith, e)
no_lane (l ∷ ls) n rest = λ e. omega (arith, e)

-- what may follow, as a line of any kind
abbrev pub Follows : Trace → Piece → Type 0
Follows t (Told r) = MayFollow t r
Follows t (Said w) = ⊥

-- a run is what its first line, its lanes and its entries say, but for its summary
unsummed : (u : Trace) → IsTrace u → IsTrace (run_of (head_of u.pool u.slots u.per_slot) u.pool.lanes u.lines)
unsummed u is = fewer_lines u u.lines [] (sym (append-nil u.lines)) is

module _ (u : Trace) (r : List Piece) (is : IsTrace u) (head : Head) (same : head_of u.pool u.slots u.per_slot ≡ head) where
  -- with its lanes: one more entry, or how many there are
  after_lanes : (lanes : List LaneSpec) (lines : List TraceLine) (q : Piece) (rs : List Piece) → u.pool.lanes ≡ lanes
      → map entry_piece u.lines ++ (Told (Count (length u.lines)) ∷ (said_pieces u.summed u.lines ++ r)) ≡ map entry_piece lines ++ q ∷ rs
      → Follows (run_of head lanes lines) q
  after_lanes lanes lines q rs lane_same e =
      elim (more_lines u.lines lines (Told (Count (length u.lines)) ∷ (said_pieces u.summed u.lines ++ r)) (q ∷ rs) (λ z. omega (arith, z)) e) [
        | inl k ↦
            let first : Told (Count (length u.lines)) ≡ q = let h = k.1 in cc in
            let all : IsTrace (run_of head lanes lines) =
            subst (λ (z : Head). IsTrace (run_of z lanes lines)) same (subst (λ (z : List LaneSpec). IsTrace (run_of (head_of u.pool u.slots u.per_slot) z lines)) lane_same
            (subst (λ (z : List TraceLine). IsTrace (run_of (head_of u.pool u.slots u.per_slot) u.pool.lanes z)) k.0 (unsummed u is))) in
            subst (Follows (run_of head lanes lines)) first (all, ap length k.0)
        | inr k ↦
            let first : entry_piece k.0 ≡ q = let h = k.3 in cc in
            let longer : IsTrace (run_of (head_of u.pool u.slots u.per_slot) u.pool.lanes (lines ++ k.0 ∷ [])) =
            fewer_lines u (lines ++ k.0 ∷ []) k.1 (k.2 ∙ sym (append_assoc lines (k.0 ∷ []) k.1)) is in
            subst (Follows (run_of head lanes lines)) first
            (subst (λ (z : Head). IsTrace (run_of z lanes (lines ++ k.0 ∷ []))) same
            (subst (λ (z : List LaneSpec). IsTrace (run_of (head_of u.pool u.slots u.per_slot) z (lines ++ k.0 ∷ []))) lane_same longer))
      ]

  -- with one more lane
  one_lane : (lanes : List LaneSpec) (x : LaneSpec) (zs : List LaneSpec) → u.pool.lanes ≡ lanes ++ x ∷ zs → IsTrace (run_of head (lanes ++ x ∷ []) [])
  one_lane lanes x zs e =
      let bare : IsTrace (run_of (head_of u.pool u.slots u.per_slot) u.pool.lanes []) = fewer_lines u [] u.lines refl is in
      subst (λ (z : Head). IsTrace (run_of z (lanes ++ x ∷ []) [])) same
      (fewer_lanes (run_of (head_of u.pool u.slots u.per_slot) u.pool.lanes []) (lanes ++ x ∷ []) zs (e ∙ sym (append_assoc lanes (x ∷ []) zs))
      (omega (arith, length-append lanes (x ∷ []))) refl bare)

  after_first : (lanes : List LaneSpec) (lines : List TraceLine) (q : Piece) (rs : List Piece)
      → after_head u r ≡ map lane_piece lanes ++ (map entry_piece lines ++ q ∷ rs) → Follows (run_of head lanes lines) q
  after_first lanes [] q rs e =
      elim (more_lanes u.pool.lanes lanes (map entry_piece u.lines ++ (Told (Count (length u.lines)) ∷ (said_pieces u.summed u.lines ++ r))) (q ∷ rs)
      (no_lane u.lines (length u.lines) (said_pieces u.summed u.lines ++ r)) e) [
        | inl k ↦ after_lanes lanes [] q rs k.0 k.1
        | inr k ↦
            let first : lane_piece k.0 ≡ q = let h = k.3 in cc in
            subst (Follows (run_of head lanes [])) first (refl, one_lane lanes k.0 k.1 k.2)
      ]
  after_first lanes (l ∷ ls) q rs e =
      elim (more_lanes u.pool.lanes lanes (map entry_piece u.lines ++ (Told (Count (length u.lines)) ∷ (said_pieces u.summed u.lines ++ r))) (map entry_piece (l ∷ ls) ++ q ∷ rs)
      (no_lane u.lines (length u.lines) (said_pieces u.summed u.lines ++ r)) e) [
        | inl k ↦ after_lanes lanes (l ∷ ls) q rs k.0 k.1
        | inr k ↦ let first : entry_piece l ≡ lane_piece k.0 = let h = k.3 in cc in absurd (omega (arith, ap kind first))
      ]

-- the lines of a run that was begun
abbrev pub begun_pieces : Head → List LaneSpec → List TraceLine → List Piece
begun_pieces head lanes lines = Told (PoolRow head) ∷ (map lane_piece lanes ++ map entry_piece lines)

-- a line that comes next in an input may follow
pub follows : (us : List Trace) (head : Head) (lanes : List LaneSpec) (lines : List TraceLine) (q : Piece) (rs : List Piece) → All IsTrace us
    → pieces us ≡ begun_pieces head lanes lines ++ q ∷ rs → Follows (run_of head lanes lines) q
follows [] head lanes lines q rs each e = cc
follows (u ∷ us) head lanes lines q rs each e =
    let both : Told (PoolRow (head_of u.pool u.slots u.per_slot)) ∷ after_head u (pieces us) ≡ Told (PoolRow head) ∷ (map lane_piece lanes ++ (map entry_piece lines ++ q ∷ rs)) =
    sym (grouped u (pieces us)) ∙ e ∙ ap (λ (z : List Piece). Told (PoolRow head) ∷ z) (append_assoc (map lane_piece lanes) (map entry_piece lines) (q ∷ rs)) in
    let same : head_of u.pool u.slots u.per_slot ≡ head = cc in
    let rest : after_head u (pieces us) ≡ map lane_piece lanes ++ (map entry_piece lines ++ q ∷ rs) = cc in
    after_first u (pieces us) (All-head IsTrace u us each) head same lanes lines q rs rest

-- the first line of an input
abbrev pub Opens : Piece → Type 0
Opens (Told (PoolRow head)) = IsTrace (run_of head (first_lane ∷ []) [])
Opens q = ⊥

pub first_has : HasLanes (first_lane ∷ [])
first_has = record {
  rising = λ k d l. absurd (omega arith);
  each = All-cons (λ (lane : LaneSpec). 0 < lane_threads lane) first_lane [] (omega arith) (All-nil (λ (lane : LaneSpec). 0 < lane_threads lane));
  few = omega arith;
  few_threads = omega arith;
}

-- what a run opened with goes with such a lane
with_first : (u : Trace) → IsTrace u → IsTrace (run_of (head_of u.pool u.slots u.per_slot) (first_lane ∷ []) [])
with_first u is = record {
  can = record {
    well_formed = record {
      lanes = first_has;
      flat = record { one_lane = λ off. refl; no_borrowing = is.can.well_formed.flat.no_borrowing };
      room = record { some_request = is.can.well_formed.room.some_request; some_byte = is.can.well_formed.room.some_byte };
      limits = record {
        requests = is.can.well_formed.limits.requests;
        bytes = is.can.well_formed.limits.bytes;
        calls = is.can.well_formed.limits.calls;
        run = is.can.well_formed.limits.run;
      };
    };
    slots = is.can.slots;
  };
  bare = is.bare;
  some_lane = omega arith;
  lanes = All-cons FitsLane first_lane [] (omega arith, omega arith, omega arith) (All-nil FitsLane);
  within = λ k d l. absurd (omega arith);
  few = omega arith;
}

pub opens : (us : List Trace) (q : Piece) (rs : List Piece) → All IsTrace us → pieces us ≡ q ∷ rs → Opens q
opens [] q rs each e = cc
opens (u ∷ us) q rs each e =
    let both : Told (PoolRow (head_of u.pool u.slots u.per_slot)) ∷ after_head u (pieces us) ≡ q ∷ rs = sym (grouped u (pieces us)) ∙ e in
    let first : Told (PoolRow (head_of u.pool u.slots u.per_slot)) ≡ q = cc in
    subst Opens first (with_first u (All-head IsTrace u us each))

-- no input ends with the lines of a run that was begun

abbrev NoCount : List Piece → Type 0
NoCount [] = Unit {0}
NoCount (p ∷ ps) = (kind p ≡ 3 → ⊥) × NoCount ps

no_count-append : (ps qs : List Piece) → NoCount ps → NoCount qs → NoCount (ps ++ qs)
no_count-append [] qs f g = g
no_count-append (p ∷ ps) qs f g = (f.0, no_count-append ps qs f.1 g)

lanes_no_count : (lanes : List LaneSpec) → NoCount (map lane_piece lanes)
lanes_no_count [] = tt
lanes_no_count (l ∷ ls) = ((λ e. omega (arith, e)), lanes_no_count ls)

lines_no_count : (lines : List TraceLine) → NoCount (map entry_piece lines)
lines_no_count [] = tt
lines_no_count (l ∷ ls) = ((λ e. omega (arith, e)), lines_no_count ls)

count_there : (ps : List Piece) (n : ℕ) (qs : List Piece) → NoCount (ps ++ (Told (Count n) ∷ qs)) → ⊥
count_there [] n qs f = f.0 refl
count_there (p ∷ ps) n qs f = count_there ps n qs f.1

pub unfinished : (us : List Trace) (head : Head) (lanes : List LaneSpec) (lines : List TraceLine) → pieces us ≡ begun_pieces head lanes lines → ⊥
unfinished [] head lanes lines e = cc
unfinished (u ∷ us) head lanes lines e =
    let both : Told (PoolRow (head_of u.pool u.slots u.per_slot)) ∷ after_head u (pieces us) ≡ Told (PoolRow head) ∷ (map lane_piece lanes ++ map entry_piece lines) = sym (grouped u (pieces us)) ∙ e in
    let rest : after_head u (pieces us) ≡ map lane_piece lanes ++ map entry_piece lines = cc in
    let flat : (map lane_piece u.pool.lanes ++ map entry_piece u.lines) ++ (Told (Count (length u.lines)) ∷ (said_pieces u.summed u.lines ++ pieces us)) ≡ map lane_piece lanes ++ map entry_piece lines =
    append_assoc (map lane_piece u.pool.lanes) (map entry_piece u.lines) (Told (Count (length u.lines)) ∷ (said_pieces u.summed u.lines ++ pieces us)) ∙ rest in
    count_there (map lane_piece u.pool.lanes ++ map entry_piece u.lines) (length u.lines) (said_pieces u.summed u.lines ++ pieces us)
    (subst NoCount (sym flat) (no_count-append (map lane_piece lanes) (map entry_piece lines) (lanes_no_count lanes) (lines_no_count lines)))
