-- The lane of each thread, lane by lane.
use Rattle.std.proofs.Common.{◌≡◌, ℕ, ◌+◌, ◌<◌, ◌≤◌, List, [], ◌∷◌, ◌++◌, length, drop, get_or, refl, sym, ap, ◌∙◌, arith, append_assoc, append-nil, length-append}
use Rattle.std.specs.Prelude.{map, sum_by, replicate}
use Rattle.std.proofs.lemmas.List.{drop_more, drop_all, length-replicate, length-map}
use Rattle.std.proofs.lemmas.List.Sums.{sum_by-cons}
use Rattle.orb_base.specs.Pool.{HasLanes, lane_threads}
use Rattle.orb_base.specs.declared.limits.TheConstants.{MAX_LANES, MAX_THREADS}
use Rattle.orb_base.specs.declared.lane_spec.LaneSpec.{LaneSpec}
use Rattle.trace_picture.specs.Plots.{homes_from}

-- one more lane
pub home_more : (all old new : List ℕ) (i n : ℕ) (lanes : List LaneSpec) (lane : LaneSpec) → i < length lanes → lane ≡ get_or lanes i lane
    → all ≡ old ++ homes_from i (drop i lanes) → n ≡ lane_threads lane → new ≡ old ++ replicate n i
    → all ≡ new ++ homes_from (i + 1) (drop (i + 1) lanes)
home_more all old new i n lanes lane within here so many more =
    let rest : List ℕ = homes_from (i + 1) (drop (i + 1) lanes) in
    so ∙ ap (λ (z : List LaneSpec). old ++ homes_from i z) (drop_more lanes i lane within ∙ ap (λ (z : LaneSpec). z ∷ drop (i + 1) lanes) (sym here))
    ∙ ap (λ (k : ℕ). old ++ (replicate k i ++ rest)) (sym many) ∙ sym (append_assoc old (replicate n i) rest) ∙ ap (λ (z : List ℕ). z ++ rest) (sym more)

-- all lanes
pub homes_all : (all old : List ℕ) (i : ℕ) (lanes : List LaneSpec) → length lanes ≤ i → all ≡ old ++ homes_from i (drop i lanes) → old ≡ all
homes_all all old i lanes past so = sym (so ∙ ap (λ (z : List LaneSpec). old ++ homes_from i z) (drop_all i lanes past) ∙ append-nil old)

-- as many as there are threads
pub count_homes : (l : ℕ) (lanes : List LaneSpec) → length (homes_from l lanes) ≡ sum_by lane_threads lanes
count_homes l [] = refl
count_homes l (lane ∷ lanes) =
    simp (length-append, length-replicate) (rw sum_by-cons (let rest = count_homes (l + 1) lanes in omega arith))

-- no more threads and lanes than a pool may have
pub few_homes : (homes : List ℕ) (lanes : List LaneSpec) → HasLanes lanes → homes ≡ homes_from 0 lanes → length homes ≤ MAX_THREADS
few_homes homes lanes has is = let few = has.few_threads in omega (arith, ap length is, count_homes 0 lanes)

pub few_levels : (levels : List ℕ) (lanes : List LaneSpec) → HasLanes lanes → levels ≡ map (λ lane. lane.priority) lanes → length levels ≤ MAX_LANES
few_levels levels lanes has is = let few = has.few in omega (arith, ap length is, length-map lanes (λ (lane : LaneSpec). lane.priority))
