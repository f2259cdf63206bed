-- A count over all queues, one after another.
use Rattle.std.proofs.Common.{◌≡◌, ℕ, ◌+◌, ◌^◌, ◌<◌, ◌≤◌, Bool, List, ◌∷◌, length, drop, Some, ap, ◌∙◌, arith}
use Rattle.std.specs.Prelude.{slice_get, count_by}
use Rattle.std.proofs.lemmas.List.{drop_more, drop_all}
use Rattle.std.proofs.lemmas.List.Sums.{sum_by-append, count_by-le-length}
use Rattle.std.proofs.lemmas.Option.{slice_get_within, get_or_from_slice_get}
use Rattle.orb_base.specs.Room.{Room}
use Rattle.request_buffer.specs.Entries.{Entry, entries}

-- the count so far and that of the queues to come make the whole
pub record CountSoFar (p : Entry → Bool) (queues : List (Room Entry)) (n count : ℕ) : Type 0 where
  pub is : count + count_by p (entries (drop n queues)) ≡ count_by p (entries queues)

pub count_start : (p : Entry → Bool) (queues : List (Room Entry)) → CountSoFar p queues 0 0
count_start p queues = record { is = omega arith }

count_parts : (p : Entry → Bool) (queues : List (Room Entry)) (n count more : ℕ) (queue : Room Entry) → slice_get queues n ≡ Some queue → more ≡ count_by p queue.items → CountSoFar p queues n count
    → (count + more) + count_by p (entries (drop (n + 1) queues)) ≡ count_by p (entries queues)
count_parts p queues n count more queue g is so_far =
    let rest : drop n queues ≡ queue ∷ drop (n + 1) queues =
    drop_more queues n queue (slice_get_within queues n queue g) ∙ ap (λ (r : Room Entry). r ∷ drop (n + 1) queues) (get_or_from_slice_get queues n queue queue g) in
    let sum : count_by p (entries (drop n queues)) ≡ count_by p queue.items + count_by p (entries (drop (n + 1) queues)) =
    ap (λ qs. count_by p (entries qs)) rest ∙ sum_by-append _ queue.items (entries (drop (n + 1) queues)) in
    let was = so_far.is in
    omega arith

pub count_more : (p : Entry → Bool) (queues : List (Room Entry)) (n count more next : ℕ) (queue : Room Entry) → slice_get queues n ≡ Some queue → more ≡ count_by p queue.items → next ≡ count + more
    → CountSoFar p queues n count → CountSoFar p queues (n + 1) next
count_more p queues n count more next queue g is sum so_far =
    let parts = count_parts p queues n count more queue g is so_far in
    record { is = omega arith }

pub count_fits : (p : Entry → Bool) (queues : List (Room Entry)) (n count more : ℕ) (queue : Room Entry) → slice_get queues n ≡ Some queue → more ≡ count_by p queue.items → length (entries queues) < 2 ^ 32
    → CountSoFar p queues n count → count + more < 2 ^ 32
count_fits p queues n count more queue g is few so_far =
    let parts = count_parts p queues n count more queue g is so_far in
    let all = count_by-le-length p (entries queues) in
    omega arith

pub count_end : (p : Entry → Bool) (queues : List (Room Entry)) (n count : ℕ) → length queues ≤ n → CountSoFar p queues n count → count ≡ count_by p (entries queues)
count_end p queues n count all so_far =
    let none = ap (λ qs. count_by p (entries qs)) (drop_all n queues all) in
    let was = so_far.is in
    omega arith

-- the steps of a count
pub ruleset count_steps = (count_start, count_more, count_fits, count_end)
