-- One read's bytes: what they mean is called.
use Rattle.std.proofs.Common.{◌≡◌, ℕ, ◌+◌, Bool, true, false, List, [], ◌∷◌, ◌++◌, length, Option, Some, None, refl, sym, ap, ◌∙◌, subst, arith, length-append}
use Rattle.turn_cell.specs.Seats.{CellView}
use Rattle.orb_base.specs.declared.conn_id.ConnId.{ConnId}
use Rattle.orb_base.specs.Pool.{Pool, IsWellFormed}
use Rattle.orb_base.specs.declared.limits.TheConstants.{MAX_MESSAGE}
use Rattle.giop_frames.specs.Stream.{stream}
use Rattle.lane_machine.specs.State.{State}
use Rattle.lane_machine.specs.declared.call.LaneCall.{LaneCall}
use Rattle.pipe_laws.specs.Legality.{AreHeardCalls}
use Rattle.pipe_laws.specs.Serials.{CountsFrom}
use Rattle.adapter_policies.specs.SetupData.{SetupData}
use Rattle.heard_calls.specs.declared.ending.Ending.{Ending}
use Rattle.conn_engine.specs.Hearers.{Hearer, IsGoing, FeedsOn}
use Rattle.conn_engine.proofs.HeardCalls.{heard_ones}
use Rattle.lane_pool.specs.Pass.{Pass, conn_of}
use Rattle.lane_pool.specs.Turns.{Listens, heard_by}
use Rattle.conn_sides.specs.Calling.{CallsAll, is_shut}
use Rattle.conn_sides.specs.Pieces.{HearsPiece, out_of}
use Rattle.conn_sides.specs.declared.calling.Called.{Called}
use Rattle.conn_sides.specs.declared.calling.Called.TheVariants.{Heard, Closing}

-- calls after others
later_heard : (pool : Pool) (conn : ConnId) (xs ys : List LaneCall) → AreHeardCalls pool conn (xs ++ ys) → AreHeardCalls pool conn ys
later_heard pool conn [] ys h = h
later_heard pool conn (x ∷ xs) ys h = later_heard pool conn xs ys h.1

later_counts : (n : ℕ) (xs ys : List LaneCall) → CountsFrom n (xs ++ ys) → CountsFrom (n + length xs) ys
later_counts n [] ys h = subst (λ (k : ℕ). CountsFrom k ys) (omega arith) h
later_counts n (x ∷ xs) ys h = subst (λ (k : ℕ). CountsFrom k ys) (omega arith) (later_counts (n + 1) xs ys h.1)

module _ (h h' : Hearer) (piece : List ℕ) (calls : List LaneCall) (ending : Option Ending) (feeds : FeedsOn h h' piece calls ending) where
  -- all calls so far
  all_ones : IsWellFormed h.setup.pool → AreHeardCalls h'.setup.pool h'.conn (h.calls ++ calls) × CountsFrom 0 (h.calls ++ calls)
  all_ones well =
      let is : feeds.heard.told.calls ≡ h.calls ++ calls = sym feeds.heard.calls_are ∙ feeds.calls_are in
      let well' : IsWellFormed h'.setup.pool = subst (λ (s : SetupData). IsWellFormed s.pool) (sym feeds.same_setup) well in
      subst (λ (cs : List LaneCall). AreHeardCalls h'.setup.pool h'.conn cs × CountsFrom 0 cs) is
      (heard_ones h'.setup h'.conn (stream MAX_MESSAGE h'.framer.fed).messages None 0 feeds.heard.told well' feeds.heard.hears)

  pub piece_heard : (cell : CellView State) (old : Pass) (items : List LaneCall) → IsWellFormed h.setup.pool → cell.terms.opening.pool ≡ h.setup.pool → h.conn ≡ conn_of old → items ≡ calls
      → AreHeardCalls cell.terms.opening.pool (conn_of old) items
  piece_heard cell old items well pool conn is =
      subst (AreHeardCalls cell.terms.opening.pool (conn_of old)) (sym is)
      (subst (λ (p : Pool). AreHeardCalls p (conn_of old) calls) (ap (λ (s : SetupData). s.pool) feeds.same_setup ∙ sym pool)
      (subst (λ (c : ConnId). AreHeardCalls h'.setup.pool c calls) (feeds.same_conn ∙ conn)
      (later_heard h'.setup.pool h'.conn h.calls calls (all_ones well).0)))

  pub piece_counts : (old : Pass) (items : List LaneCall) → IsGoing h → IsWellFormed h.setup.pool → heard_by old ≡ h.made → items ≡ calls → CountsFrom (heard_by old) items
  piece_counts old items going well heard is =
      subst (CountsFrom (heard_by old)) (sym is)
      (subst (λ (n : ℕ). CountsFrom n calls) (omega (arith, heard, going.made_is)) (later_counts 0 h.calls calls (all_ones well).1))

  -- what became of the piece
  went : (called : Called) (ending' : Option Ending) (cell : CellView State) (old new : Pass) → ending ≡ ending' → IsGoing h → heard_by old ≡ h.made
      → CallsAll cell calls (is_shut called) old new → HearsPiece (out_of called ending') cell h h' piece old new
  went Closing ending' cell old new same going heard made = (
    record { calls = calls; ending = ending; feeds = feeds; entries = made.entries; made = made.made.0; entered = made.entered },
    made.made.1,
  )
  went Heard (Some e) cell old new same going heard made = (
    record { calls = calls; feeds = subst (FeedsOn h h' piece calls) same feeds; entries = made.entries; made = made.made.0; entered = made.entered },
    made.made.1.reads,
  )
  went Heard None cell old new same going heard made =
      let now = feeds.goes_on same in
      let more : length h'.calls ≡ length h.calls + length calls = ap length feeds.calls_are ∙ length-append h.calls calls in (
        record { calls = calls; feeds = subst (FeedsOn h h' piece calls) same feeds; entries = made.entries; made = made.made.0; entered = made.entered },
        made.made.1,
        omega (arith, made.made.2, heard, going.made_is, now.made_is, more),
      )

  pub piece_went : (called : Called) (cell : CellView State) (old new : Pass) (items : List LaneCall) → IsGoing h → heard_by old ≡ h.made → items ≡ calls
      → CallsAll cell items (is_shut called) old new → HearsPiece (out_of called ending) cell h h' piece old new
  piece_went called cell old new items going heard is made =
      went called ending cell old new refl going heard (subst (λ (cs : List LaneCall). CallsAll cell cs (is_shut called) old new) is made)
