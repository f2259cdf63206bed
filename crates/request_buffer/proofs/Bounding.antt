-- What a buffer keeps as it changes.
use Rattle.std.proofs.Common.{◌≡◌, ℕ, zero, suc, ◌+◌, ◌-◌, ◌^◌, ◌<◌, ◌≤◌, true, List, [], ◌∷◌, ◌++◌, length, Some, refl, sym, ap, ◌∙◌, subst, arith, length-append}
use Rattle.std.specs.Prelude.{slice_get, IsSomeAnd, nat_lt, nat_le}
use Rattle.std.specs.List.{remove}
use Rattle.std.proofs.lemmas.Bool.{and_parts, ltb-true, leb-true}
use Rattle.std.proofs.lemmas.List.Edits.{length-remove}
use Rattle.std.proofs.lemmas.List.Sums.{sum_by_push}
use Rattle.std.proofs.lemmas.Option.{same_Some, slice_get_within}
use Rattle.orb_base.specs.Room.{Room}
use Rattle.orb_base.specs.declared.job.Job.{Job}
use Rattle.thread_borrowing.proofs.Places.{sum_remove}
use Rattle.request_buffer.specs.Kept.{kept_bytes, has_room, arrival_of, IsPut, IsTaken}
use Rattle.request_buffer.specs.Entries.{Entry, InOrder, entries, requests_of}
use Rattle.request_buffer.specs.Finding.{AreStamped, IsPutAmong, IsRenumbered, IsTakenFrom, HasStamp, queue_of}
use Rattle.request_buffer.specs.Bounds.{IsBounded}
use Rattle.request_buffer.proofs.Around.{in_all}
use Rattle.request_buffer.proofs.Keeping.{put_kept, taken_kept}
use Rattle.request_buffer.proofs.Arriving.{kept_of, put_last, one_longer, taken_by_place}
use Rattle.request_buffer.proofs.Spots.{some_within, from_there}

-- an empty buffer
pub bounded_empty : (queues : List (Room Entry)) (max_requests max_bytes : ℕ) → AreStamped max_requests 0 queues → entries queues ≡ [] → max_requests < 2 ^ 32 → max_bytes < 2 ^ 32
    → IsBounded queues 0 0 0 max_requests max_bytes
unfolding requests_of
bounded_empty queues max_requests max_bytes are none small few = record {
  stamped = are;
  queued = sym (ap length none);
  counted = refl;
  weighed = refl;
  few_bytes = omega arith;
  few_requests = omega arith;
  small_requests = small;
  small_bytes = few;
}

pub none_wait : (queues : List (Room Entry)) → requests_of 0 queues ≡ []
unfolding requests_of
none_wait queues = refl

-- a queue is no longer than all together
shorter : (queues : List (Room Entry)) (q : ℕ) (queue : Room Entry) → slice_get queues q ≡ Some queue → length queue.items ≤ length (entries queues)
shorter [] q queue g = absurd (let w = slice_get_within [] q queue g in omega arith)
shorter (first ∷ queues) zero queue g =
    let long = length-append first.items (entries queues) in
    let same : length first.items ≡ length queue.items = ap (λ (r : Room Entry). length r.items) (same_Some first queue g) in
    omega arith
shorter (first ∷ queues) (suc q) queue g =
    let long = length-append first.items (entries queues) in
    let rest = shorter queues q queue g in
    omega arith

-- where a request fits, its queue has room
pub room_there : (room stamp lane : ℕ) (queues : List (Room Entry)) → AreStamped room stamp queues → length (entries queues) < room
    → IsSomeAnd (slice_get queues (queue_of lane)) (λ (queue : Room Entry). (0 < queue.spare) × InOrder queue.items)
room_there room stamp lane queues are fewer =
    let sixteen = are.sixteen in
    let t = some_within queues (queue_of lane) (omega arith) in
    let had = are.roomy (queue_of lane) t.0 t.1 in
    let short = shorter queues (queue_of lane) t.0 t.1 in
    from_there (slice_get queues (queue_of lane)) (λ (queue : Room Entry). (0 < queue.spare) × InOrder queue.items) t.0 t.1 (omega arith, (are.queued (queue_of lane) t.0 t.1).in_order)

-- a request fits where neither limit is passed
pub record Fits (requests bytes size max_requests max_bytes : ℕ) : Type 0 where
  pub one_more : requests < max_requests
  pub its_bytes : bytes + size ≤ max_bytes

pub fits_in : (queues : List (Room Entry)) (next requests bytes max_requests max_bytes size : ℕ) → IsBounded queues next requests bytes max_requests max_bytes
    → has_room (kept_of next queues max_requests max_bytes) size ≡ true → Fits requests bytes size max_requests max_bytes
fits_in queues next requests bytes max_requests max_bytes size bounded fits =
    let parts = and_parts (nat_lt (length (requests_of next queues)) max_requests) (nat_le (kept_bytes (requests_of next queues) + size) max_bytes) fits in
    let few = ltb-true (length (requests_of next queues)) max_requests parts.0 in
    let small = leb-true (kept_bytes (requests_of next queues) + size) max_bytes parts.1 in
    let counted = bounded.counted in
    let weighed = bounded.weighed in
    record { one_more = omega arith; its_bytes = omega arith }

-- a request was put
pub bounded_put : (old now new : List (Room Entry)) (next stamp requests bytes max_requests max_bytes size : ℕ) (e : Entry) → IsBounded old next requests bytes max_requests max_bytes
    → IsRenumbered max_requests next stamp old now → IsPutAmong now new e → e.stamp ≡ stamp → size ≡ e.job.size → Fits requests bytes size max_requests max_bytes
    → IsBounded new (stamp + 1) (requests + 1) (bytes + size) max_requests max_bytes
bounded_put old now new next stamp requests bytes max_requests max_bytes size e bounded renumbered put is sized fits =
    let are = subst (λ (s : ℕ). AreStamped max_requests s now) (sym is) renumbered.stamped in
    let same = subst (λ (s : ℕ). requests_of s now ≡ requests_of next old) (sym is) renumbered.requests in
    let last = put_last max_requests now new e are put ∙ ap (λ js. js ++ e.job ∷ []) same in
    let kept = put_kept max_requests now new e put are in
    let all : requests_of (stamp + 1) new ≡ requests_of next old ++ e.job ∷ [] = subst (λ (s : ℕ). requests_of (s + 1) new ≡ requests_of next old ++ e.job ∷ []) is last in
    let longer = one_longer now new e put in
    let many = renumbered.as_many in
    let queued = bounded.queued in
    let counted = bounded.counted in
    let weighed = bounded.weighed in
    let one = fits.one_more in
    let more = fits.its_bytes in
    let long : length (requests_of (stamp + 1) new) ≡ length (requests_of next old) + 1 = ap length all ∙ length-append (requests_of next old) (e.job ∷ []) in
    let weight : kept_bytes (requests_of (stamp + 1) new) ≡ kept_bytes (requests_of next old) + e.job.size = ap kept_bytes all ∙ sum_by_push (λ (j : Job). j.size) (requests_of next old) e.job in
    record {
      stamped = subst (λ (s : ℕ). AreStamped max_requests (s + 1) new) is kept;
      queued = omega arith;
      counted = omega arith;
      weighed = omega arith;
      few_bytes = omega arith;
      few_requests = omega arith;
      small_requests = bounded.small_requests;
      small_bytes = bounded.small_bytes;
    }

pub is_put : (old now new : List (Room Entry)) (next stamp max_requests max_bytes : ℕ) (e : Entry) (job : Job) → IsRenumbered max_requests next stamp old now → IsPutAmong now new e → e.stamp ≡ stamp → e.job ≡ job
    → IsPut (kept_of next old max_requests max_bytes) (kept_of (stamp + 1) new max_requests max_bytes) job
is_put old now new next stamp max_requests max_bytes e job renumbered put is same_job =
    let are = subst (λ (s : ℕ). AreStamped max_requests s now) (sym is) renumbered.stamped in
    let same = subst (λ (s : ℕ). requests_of s now ≡ requests_of next old) (sym is) renumbered.requests in
    let last = put_last max_requests now new e are put ∙ ap (λ js. js ++ e.job ∷ []) same in
    (subst (λ (s : ℕ). requests_of (s + 1) new ≡ requests_of next old ++ e.job ∷ []) is last ∙ ap (λ (j : Job). requests_of next old ++ j ∷ []) same_job, (refl, refl))

-- a request was taken out
pub bounded_taken : (old new : List (Room Entry)) (next requests bytes max_requests max_bytes size place q at : ℕ) (e : Entry) → IsBounded old next requests bytes max_requests max_bytes
    → HasStamp old q at place → IsTakenFrom old new q at e → size ≡ e.job.size → IsBounded new next (requests - 1) (bytes - size) max_requests max_bytes
bounded_taken old new next requests bytes max_requests max_bytes size place q at e bounded has taken sized =
    let t = taken_by_place max_requests next max_requests max_bytes place q at old new e bounded.stamped has taken in
    let queued = bounded.queued in
    let counted = bounded.counted in
    let weighed = bounded.weighed in
    let fewer = t.fewer in
    let few_bytes = bounded.few_bytes in
    let few_requests = bounded.few_requests in
    let sums = sum_remove (λ (j : Job). j.size) (requests_of next old) t.at e.job t.stood in
    let long : length (requests_of next new) + 1 ≡ length (requests_of next old) = ap (λ (js : List Job). length js + 1) t.left ∙ length-remove (requests_of next old) t.at (slice_get_within (requests_of next old) t.at e.job t.stood) in
    let weight : kept_bytes (requests_of next new) ≡ kept_bytes (remove (requests_of next old) t.at) = ap kept_bytes t.left in
    record {
      stamped = taken_kept max_requests next old new q at e taken bounded.stamped;
      queued = omega arith;
      counted = omega arith;
      weighed = omega arith;
      few_bytes = omega arith;
      few_requests = omega arith;
      small_requests = bounded.small_requests;
      small_bytes = bounded.small_bytes;
    }

pub some_waits : (old new : List (Room Entry)) (next requests bytes max_requests max_bytes q at : ℕ) (e : Entry) → IsBounded old next requests bytes max_requests max_bytes
    → IsTakenFrom old new q at e → 1 ≤ requests
some_waits old new next requests bytes max_requests max_bytes q at e bounded taken =
    let place = in_all old q at taken.before e taken.there taken.stood in
    let within = slice_get_within (entries old) place.0 e place.1 in
    let queued = bounded.queued in
    omega arith

pub bytes_cover : (old new : List (Room Entry)) (next requests bytes max_requests max_bytes size place q at : ℕ) (e : Entry) → IsBounded old next requests bytes max_requests max_bytes
    → HasStamp old q at place → IsTakenFrom old new q at e → size ≡ e.job.size → size ≤ bytes
bytes_cover old new next requests bytes max_requests max_bytes size place q at e bounded has taken sized =
    let t = taken_by_place max_requests next max_requests max_bytes place q at old new e bounded.stamped has taken in
    let sums = sum_remove (λ (j : Job). j.size) (requests_of next old) t.at e.job t.stood in
    let weighed = bounded.weighed in
    omega arith

pub is_taken : (old new : List (Room Entry)) (room next max_requests max_bytes place q at : ℕ) (e : Entry) (job : Job) → AreStamped room next old → HasStamp old q at place → IsTakenFrom old new q at e → e.job ≡ job
    → IsSomeAnd (arrival_of (kept_of next old max_requests max_bytes) place) (IsTaken (kept_of next old max_requests max_bytes) (kept_of next new max_requests max_bytes) job)
is_taken old new room next max_requests max_bytes place q at e job are has taken same =
    let t = taken_by_place room next max_requests max_bytes place q at old new e are has taken in
    from_there (arrival_of (kept_of next old max_requests max_bytes) place) (IsTaken (kept_of next old max_requests max_bytes) (kept_of next new max_requests max_bytes) job) t.at t.named
    (t.stood ∙ ap Some same, t.left, (refl, refl))
