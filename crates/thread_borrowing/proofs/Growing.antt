-- How the threads of a pool are put together.
use Rattle.std.proofs.Common.{◌≡◌, ℕ, suc, ◌+◌, ◌<◌, Bool, true, false, List, [], ◌∷◌, ◌++◌, length, sum_by, drop, get_or, refl, sym, ap, ◌∙◌, arith, add-one, append_assoc, length-append, drop-cons}
use Rattle.std.proofs.Math.Seq.{drop-length}
use Rattle.std.proofs.lemmas.List.{append-nil, length-replicate}
use Rattle.std.proofs.lemmas.Grind.{replicate_next}
use Rattle.std.proofs.lemmas.List.Sums.{sum_by-cons}
use Rattle.orb_base.specs.Room.{Room}
use Rattle.orb_base.specs.Pool.{Pool, IsWellFormed, lane_threads}
use Rattle.orb_base.specs.declared.lane_spec.LaneSpec.{LaneSpec}
use Rattle.thread_borrowing.specs.declared.doing.Doing.TheVariants.{Free}
use Rattle.thread_borrowing.specs.ThreadList.{Thread, AreFew, some_threads, pool_threads}

-- a list grew by so many equal threads
pub record GrewBy (old : Room Thread) (lane : ℕ) (kind : Bool) (count : ℕ) (new : Room Thread) : Type 0 where
  pub is : new.items ≡ old.items ++ some_threads lane kind count

-- nothing was put yet
pub grew_none : (old : Room Thread) (lane : ℕ) (kind : Bool) → GrewBy old lane kind 0 old
grew_none old lane kind = record { is = sym (append-nil old.items) }

-- one more was put
pub grew_more : (old new next : Room Thread) (lane : ℕ) (kind : Bool) (count : ℕ) (thread : Thread)
    → thread ≡ record { lane = lane; is_static = kind; started = kind; doing = Free } → next.items ≡ new.items ++ thread ∷ []
    → GrewBy old lane kind count new → GrewBy old lane kind (count + 1) next
grew_more old new next lane kind count thread is more so_far =
    let grown = so_far.is in
    record { is = rw (more, grown, is, append_assoc, replicate_next) }

-- the threads so far, and those of the lanes from an index on, are all
pub record BuiltUpTo (lanes : List LaneSpec) (at : ℕ) (threads : Room Thread) : Type 0 where
  pub is : threads.items ++ pool_threads at (drop at lanes) ≡ pool_threads 0 lanes

-- there is none yet
pub built_none : (lanes : List LaneSpec) (threads : Room Thread) → threads.items ≡ [] → BuiltUpTo lanes 0 threads
built_none lanes threads none = record { is = rw none }

-- the threads of one more lane were put
pub built_more : (lanes : List LaneSpec) (at : ℕ) (spec : LaneSpec) (threads statics next : Room Thread)
    → at < length lanes → spec ≡ get_or lanes at spec
    → statics.items ≡ threads.items ++ some_threads at true spec.statics → next.items ≡ statics.items ++ some_threads at false spec.dynamics
    → BuiltUpTo lanes at threads → BuiltUpTo lanes (at + 1) next
built_more lanes at spec threads statics next within item with_statics with_both so_far =
    let rest : drop at lanes ≡ spec ∷ drop (at + 1) lanes =
    let d = drop-cons lanes at spec within in let a : at + 1 ≡ suc at = add-one at in cc in
    let all : threads.items ++ pool_threads at (spec ∷ drop (at + 1) lanes) ≡ pool_threads 0 lanes =
    ap (λ specs. threads.items ++ pool_threads at specs) (sym rest) ∙ so_far.is in
    record { is = rw (with_both, with_statics) (simp append_assoc (simp append_assoc at all)) }

-- after the last lane they are all
pub built_all : (lanes : List LaneSpec) (threads : Room Thread)
    → BuiltUpTo lanes (length lanes) threads → threads.items ≡ pool_threads 0 lanes
built_all lanes threads so_far =
    let none = ap (λ specs. threads.items ++ pool_threads (length lanes) specs) (sym (drop-length lanes)) in
    sym (append-nil threads.items) ∙ none ∙ so_far.is

-- as many threads as the lanes have
pub length-pool_threads : (lane : ℕ) (lanes : List LaneSpec) → length (pool_threads lane lanes) ≡ sum_by lane_threads lanes
length-pool_threads lane [] = refl
length-pool_threads lane (spec ∷ specs) =
    simp (length-append, length-replicate) (rw sum_by-cons (let rest = length-pool_threads (lane + 1) specs in omega arith))

-- a pool that can be opened has few threads
pub few_threads : (pool : Pool) (lanes : List LaneSpec) (threads : List Thread) → IsWellFormed pool → lanes ≡ pool.lanes → threads ≡ pool_threads 0 lanes → AreFew threads
few_threads pool lanes threads well_formed are_lanes are_threads =
    let few = well_formed.lanes.few_threads in
    let long = length-pool_threads 0 pool.lanes in
    rw (are_threads, are_lanes) (omega arith)
