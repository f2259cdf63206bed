-- The requests of a buffer in order of arrival, and the places that name them.
use Rattle.std.proofs.Common.{◌≡◌, ℕ, suc, ◌+◌, ◌<◌, ◌≤◌, Bool, true, false, cond, List, [], ◌∷◌, ◌++◌, length, map, Option, Some, None, inl, inr, refl, sym, ap, ◌∙◌, subst, arith, add-one, length-append}
use Rattle.std.specs.Prelude.{◌==◌, slice_get, position, count_by, is_some, IsSome}
use Rattle.std.specs.List.{remove}
use Rattle.std.proofs.lemmas.Bool.{both_ways, cases_lt, eq-eqb, eqb-true}
use Rattle.std.proofs.lemmas.List.{map-append, length-map}
use Rattle.std.proofs.lemmas.List.Folds.{fold-map}
use Rattle.std.proofs.lemmas.Option.{same_Some}
use Rattle.orb_base.specs.Room.{Room}
use Rattle.orb_base.specs.declared.conn_id.ConnId.{ConnId}
use Rattle.orb_base.specs.declared.job.Job.{Job}
use Rattle.thread_borrowing.specs.Choice.{may_run}
use Rattle.thread_borrowing.proofs.Places.{at_place}
use Rattle.request_buffer.specs.declared.found.Spot.{Spot}
use Rattle.request_buffer.specs.declared.sought.Sought.{Sought}
use Rattle.request_buffer.specs.declared.sought.Sought.TheVariants.{Next, Late, Stamped}
use Rattle.request_buffer.specs.Kept.{Kept, arrival_of, may_cancel}
use Rattle.request_buffer.specs.Next.{next_job}
use Rattle.request_buffer.specs.Entries.{Entry, entries, stamped, arrived, requests_of, stamps_of, is_sought, weight}
use Rattle.request_buffer.specs.Finding.{AreStamped, IsBest, IsPutAmong, IsTakenFrom, NoneIn, StandsAt, HasStamp}
use Rattle.request_buffer.proofs.ListFacts.{middle, of_earlier, remove_middle, first_here, greatest_here, none_greatest, none_first, of_map, on_map}
use Rattle.request_buffer.proofs.Arrivals.{between, arrived_in, arrived_later, only_one, none_left, tally}
use Rattle.request_buffer.proofs.Around.{Among, stands_in, put_among, taken_among, in_all}
use Rattle.request_buffer.proofs.Keeping.{fresh_above}

-- a request between those that arrived before and after it, and the others without it
record Leaving (next : ℕ) (small big : List Entry) (e : Entry) : Type 0 where
  pub sooner : List Entry
  pub later : List Entry
  pub together : arrived next big ≡ sooner ++ e ∷ later
  pub without : arrived next small ≡ sooner ++ later
  pub old : (k : ℕ) (y : Entry) → slice_get sooner k ≡ Some y → y.stamp < e.stamp

leaving : (next : ℕ) (small big : List Entry) (e : Entry) → Among small big e → ((s : ℕ) → length (stamped s big) ≤ 1) → e.stamp < next → Leaving next small big e
leaving next small big e among distinct below =
    let xs = among.before in
    let ys = among.after in
    let fresh : stamped e.stamp (xs ++ ys) ≡ [] = none_left e.stamp e xs ys refl (subst (λ zs. length (stamped e.stamp zs) ≤ 1) among.big_is (distinct e.stamp)) in
    let parts = between next e xs ys below fresh in
    record {
      sooner = arrived e.stamp (xs ++ ys);
      later = parts.later;
      together = ap (arrived next) among.big_is ∙ parts.together;
      without = ap (arrived next) among.small_is ∙ parts.without;
      old = λ k y g. (arrived_in e.stamp (xs ++ ys) k y g).0;
    }

-- a request that waits, among those that arrived
record Standing (next : ℕ) (queues : List (Room Entry)) (e : Entry) : Type 0 where
  pub sooner : List Entry
  pub later : List Entry
  pub is : arrived next (entries queues) ≡ sooner ++ e ∷ later
  pub old : (k : ℕ) (y : Entry) → slice_get sooner k ≡ Some y → y.stamp < e.stamp

standing : (room next : ℕ) (queues : List (Room Entry)) (q at : ℕ) (e : Entry) → AreStamped room next queues → StandsAt queues q at e → Standing next queues e
standing room next queues q at e are stands =
    let holds = stands_in queues q at e stands in
    let among : Among (holds.before ++ holds.after) (entries queues) e = record { before = holds.before; after = holds.after; small_is = refl; big_is = holds.is } in
    let place = in_all queues q at stands.queue e stands.there stands.stands in
    let parts = leaving next (holds.before ++ holds.after) (entries queues) e among are.distinct (are.below place.0 e place.1) in
    record { sooner = parts.sooner; later = parts.later; is = parts.together; old = parts.old }

module _ (next : ℕ) (queues : List (Room Entry)) (e : Entry) (at : Standing next queues e) where
  stands_there : slice_get (arrived next (entries queues)) (length at.sooner) ≡ Some e
  stands_there = ap (λ zs. slice_get zs (length at.sooner)) at.is ∙ middle at.sooner e at.later

  -- those before it have lower stamps
  older : (k : ℕ) (y : Entry) → k < length at.sooner → slice_get (arrived next (entries queues)) k ≡ Some y → y.stamp < e.stamp
  older k y below g = at.old k y (of_earlier at.sooner (e ∷ at.later) k y below (ap (λ zs. slice_get zs k) (sym at.is) ∙ g))

  -- its stamp is at its place alone
  stamp_place : position (λ p. p == e.stamp) (stamps_of next queues) ≡ Some (length at.sooner)
  unfolding stamps_of
  stamp_place =
      first_here (λ p. p == e.stamp) (map (λ (x : Entry). x.stamp) (arrived next (entries queues))) (length at.sooner) e.stamp
      (on_map (λ (x : Entry). x.stamp) (arrived next (entries queues)) (length at.sooner) e stands_there)
      (eq-eqb e.stamp e.stamp refl)
      (λ k y g same. elim (cases_lt k (length at.sooner)) [
        | inl below ↦ absurd (
            let x = of_map (λ (x : Entry). x.stamp) (arrived next (entries queues)) k y g in
            let l = older k x.0 below x.1 in
            let s = eqb-true y e.stamp same in
            let z = x.2 in
            omega arith
            )
        | inr above ↦ above
      ])

  job_place : slice_get (requests_of next queues) (length at.sooner) ≡ Some e.job
  unfolding requests_of
  job_place = on_map (λ (x : Entry). x.job) (arrived next (entries queues)) (length at.sooner) e stands_there

-- the best of those that are sought is the earliest of greatest weight
best_first : (next : ℕ) (queues : List (Room Entry)) (sought : Sought) (spot : Spot) (best : IsBest sought queues spot) (at : Standing next queues best.entry)
    → (k : ℕ) (y : Entry) → slice_get (arrived next (entries queues)) k ≡ Some y → is_sought sought y ≡ true
    → (weight sought y ≤ weight sought best.entry) × (weight sought y ≡ weight sought best.entry → length at.sooner ≤ k)
best_first next queues sought spot best at k y g wanted =
    let place = (arrived_in next (entries queues) k y g).1 in
    let over = best.best place.0 y place.1 wanted in
    let weighs : spot.found.weight ≡ weight sought best.entry = ap (λ f. f.weight) best.is in
    let stamp_is : spot.found.stamp ≡ best.entry.stamp = ap (λ f. f.stamp) best.is in
    let less = over.0 in (
      omega arith,
      λ same. elim (cases_lt k (length at.sooner)) [
        | inl below ↦ absurd (let l = older next queues best.entry at k y below g in let m = over.1 (same ∙ sym weighs) in omega arith)
        | inr above ↦ above
      ],
    )

-- the request that a thread takes next is where the best for its lane is
next_place : (b : Bool) (lane next : ℕ) (queues : List (Room Entry)) (spot : Spot) (best : IsBest (Next lane b) queues spot) (at : Standing next queues best.entry)
    → next_job b lane (requests_of next queues) ≡ Some (length at.sooner)
unfolding next_job requests_of
next_place b lane next queues spot best at =
    greatest_here (λ job. may_run b lane job.lane) (λ job. job.priority) (map (λ (x : Entry). x.job) (arrived next (entries queues))) (length at.sooner) best.entry.job
    (on_map (λ (x : Entry). x.job) (arrived next (entries queues)) (length at.sooner) best.entry (stands_there next queues best.entry at))
    best.fits
    (λ k y g runs. (
    let x = of_map (λ (x : Entry). x.job) (arrived next (entries queues)) k y g in
    let first = best_first next queues (Next lane b) spot best at k x.0 x.1 (ap (λ (j : Job). may_run b lane j.lane) x.2 ∙ runs) in
    let p : x.0.job.priority ≡ y.priority = ap (λ (j : Job). j.priority) x.2 in
    let less = first.0 in
    (omega arith, λ same. first.1 (p ∙ same))
    ))

late_place : (conn : ConnId) (id next : ℕ) (queues : List (Room Entry)) (spot : Spot) (best : IsBest (Late conn id) queues spot) (at : Standing next queues best.entry)
    → position (may_cancel conn id) (requests_of next queues) ≡ Some (length at.sooner)
unfolding requests_of
late_place conn id next queues spot best at =
    first_here (may_cancel conn id) (map (λ (x : Entry). x.job) (arrived next (entries queues))) (length at.sooner) best.entry.job
    (on_map (λ (x : Entry). x.job) (arrived next (entries queues)) (length at.sooner) best.entry (stands_there next queues best.entry at))
    best.fits
    (λ k y g runs. (
    let x = of_map (λ (x : Entry). x.job) (arrived next (entries queues)) k y g in
    (best_first next queues (Late conn id) spot best at k x.0 x.1 (ap (may_cancel conn id) x.2 ∙ runs)).1 refl
    ))

-- a buffer's value
abbrev pub kept_of : ℕ → List (Room Entry) → ℕ → ℕ → Kept
kept_of next queues max_requests max_bytes = record {
  requests = requests_of next queues;
  places = stamps_of next queues;
  max_requests = max_requests;
  max_bytes = max_bytes;
}

-- the stamp of the best names the next request
pub names_next : (b : Bool) (lane room next max_requests max_bytes stamp : ℕ) (queues : List (Room Entry)) (spot : Spot) → AreStamped room next queues → IsBest (Next lane b) queues spot → stamp ≡ spot.found.stamp
    → (arrival_of (kept_of next queues max_requests max_bytes) stamp ≡ next_job b lane (requests_of next queues)) × IsSome (arrival_of (kept_of next queues max_requests max_bytes) stamp)
unfolding arrival_of
names_next b lane room next max_requests max_bytes stamp queues spot are best is =
    let at = standing room next queues spot.queue spot.found.at best.entry are best.stands in
    let same : stamp ≡ best.entry.stamp = is ∙ ap (λ f. f.stamp) best.is in
    let named : position (λ p. p == stamp) (stamps_of next queues) ≡ Some (length at.sooner) = ap (λ (s : ℕ). position (λ p. p == s) (stamps_of next queues)) same ∙ stamp_place next queues best.entry at in
    (named ∙ sym (next_place b lane next queues spot best at), ap is_some named)

pub names_late : (conn : ConnId) (id room next max_requests max_bytes stamp : ℕ) (queues : List (Room Entry)) (spot : Spot) → AreStamped room next queues → IsBest (Late conn id) queues spot → stamp ≡ spot.found.stamp
    → (arrival_of (kept_of next queues max_requests max_bytes) stamp ≡ position (may_cancel conn id) (requests_of next queues)) × IsSome (arrival_of (kept_of next queues max_requests max_bytes) stamp)
unfolding arrival_of
names_late conn id room next max_requests max_bytes stamp queues spot are best is =
    let at = standing room next queues spot.queue spot.found.at best.entry are best.stands in
    let same : stamp ≡ best.entry.stamp = is ∙ ap (λ f. f.stamp) best.is in
    let named : position (λ p. p == stamp) (stamps_of next queues) ≡ Some (length at.sooner) = ap (λ (s : ℕ). position (λ p. p == s) (stamps_of next queues)) same ∙ stamp_place next queues best.entry at in
    (named ∙ sym (late_place conn id next queues spot best at), ap is_some named)

-- there is no next request where none is found
pub none_next : (b : Bool) (lane next : ℕ) (queues : List (Room Entry)) → NoneIn (Next lane b) (entries queues) → next_job b lane (requests_of next queues) ≡ None
unfolding next_job requests_of
none_next b lane next queues none =
    none_greatest (λ job. may_run b lane job.lane) (λ job. job.priority) (map (λ (x : Entry). x.job) (arrived next (entries queues)))
    (λ k y g. (
    let x = of_map (λ (x : Entry). x.job) (arrived next (entries queues)) k y g in
    let place = (arrived_in next (entries queues) k x.0 x.1).1 in
    ap (λ (j : Job). may_run b lane j.lane) (sym x.2) ∙ none place.0 x.0 place.1
    ))

pub none_late : (conn : ConnId) (id next : ℕ) (queues : List (Room Entry)) → NoneIn (Late conn id) (entries queues) → position (may_cancel conn id) (requests_of next queues) ≡ None
unfolding requests_of
none_late conn id next queues none =
    none_first (may_cancel conn id) (map (λ (x : Entry). x.job) (arrived next (entries queues)))
    (λ k y g. (
    let x = of_map (λ (x : Entry). x.job) (arrived next (entries queues)) k y g in
    let place = (arrived_in next (entries queues) k x.0 x.1).1 in
    ap (may_cancel conn id) (sym x.2) ∙ none place.0 x.0 place.1
    ))

-- a place that names a request is the stamp of one
pub is_stamp : (next max_requests max_bytes place : ℕ) (queues : List (Room Entry)) → IsSome (arrival_of (kept_of next queues max_requests max_bytes) place) → NoneIn (Stamped place) (entries queues) → ⊥
unfolding arrival_of stamps_of
is_stamp next max_requests max_bytes place queues is none = of_case (position (λ p. p == place) (map (λ (x : Entry). x.stamp) (arrived next (entries queues)))) refl is
  where
    of_case : (o : Option ℕ) → position (λ p. p == place) (map (λ (x : Entry). x.stamp) (arrived next (entries queues))) ≡ o → IsSome o → ⊥
    of_case None e there = both_ways false refl there
    of_case (Some i) e there =
        let s = at_place (λ p. p == place) (map (λ (x : Entry). x.stamp) (arrived next (entries queues))) i e in
        let x = of_map (λ (x : Entry). x.stamp) (arrived next (entries queues)) i s.0 s.1 in
        let at = (arrived_in next (entries queues) i x.0 x.1).1 in
        both_ways (x.0.stamp == place) (none at.0 x.0 at.1) (ap (λ (n : ℕ). n == place) x.2 ∙ s.2)

-- a request that is taken out by the place that names it
pub record Taken (next max_requests max_bytes place : ℕ) (old new : List (Room Entry)) (job : Job) : Type 0 where
  pub at : ℕ
  pub named : arrival_of (kept_of next old max_requests max_bytes) place ≡ Some at
  pub stood : slice_get (requests_of next old) at ≡ Some job
  pub left : requests_of next new ≡ remove (requests_of next old) at
  pub fewer : length (entries new) + 1 ≡ length (entries old)

pub taken_by_place : (room next max_requests max_bytes place q at : ℕ) (old new : List (Room Entry)) (e : Entry) → AreStamped room next old → HasStamp old q at place → IsTakenFrom old new q at e
    → Taken next max_requests max_bytes place old new e.job
unfolding arrival_of requests_of
taken_by_place room next max_requests max_bytes place q at old new e are has taken =
    let among = taken_among old new q at e taken in
    let queue : has.stands.queue ≡ taken.before = same_Some has.stands.queue taken.before (sym has.stands.there ∙ taken.there) in
    let same : has.entry ≡ e = same_Some has.entry e (sym has.stands.stands ∙ ap (λ (r : Room Entry). slice_get r.items at) queue ∙ taken.stood) in
    let stamp : e.stamp ≡ place = ap (λ (x : Entry). x.stamp) (sym same) ∙ has.is in
    let stands : StandsAt old q at e = record { queue = taken.before; there = taken.there; stands = taken.stood } in
    let where_it_is = in_all old q at taken.before e taken.there taken.stood in
    let parts = leaving next (entries new) (entries old) e among are.distinct (are.below where_it_is.0 e where_it_is.1) in
    let st : Standing next old e = record { sooner = parts.sooner; later = parts.later; is = parts.together; old = parts.old } in
    let job : Entry → Job = λ (x : Entry). x.job in
    let jobs : map job (arrived next (entries old)) ≡ map job parts.sooner ++ e.job ∷ map job parts.later = ap (map job) parts.together ∙ map-append job parts.sooner (e ∷ parts.later) in
    let others : map job (arrived next (entries new)) ≡ map job parts.sooner ++ map job parts.later = ap (map job) parts.without ∙ map-append job parts.sooner parts.later in
    let long : length (map job parts.sooner) ≡ length parts.sooner = length-map parts.sooner job in
    let small = ap length among.small_is ∙ length-append among.before among.after in
    let big = ap length among.big_is ∙ length-append among.before (e ∷ among.after) in
    record {
      at = length parts.sooner;
      named = ap (λ (s : ℕ). position (λ p. p == s) (stamps_of next old)) (sym stamp) ∙ stamp_place next old e st;
      stood = on_map job (arrived next (entries old)) (length parts.sooner) e (stands_there next old e st);
      left =
          others
          ∙ sym (remove_middle (map job parts.sooner) e.job (map job parts.later))
          ∙ ap (λ zs. remove zs (length (map job parts.sooner))) (sym jobs)
          ∙ ap (λ (n : ℕ). remove (map job (arrived next (entries old))) n) long;
      fewer = omega arith;
    }

-- a request that is put comes after the others
pub put_last : (room : ℕ) (old new : List (Room Entry)) (e : Entry) → AreStamped room e.stamp old → IsPutAmong old new e
    → requests_of (e.stamp + 1) new ≡ requests_of e.stamp old ++ e.job ∷ []
unfolding requests_of
put_last room old new e are put =
    let among = put_among old new e put in
    let xs = among.before in
    let ys = among.after in
    let job : Entry → Job = λ (x : Entry). x.job in
    let fresh : stamped e.stamp (xs ++ ys) ≡ [] = ap (stamped e.stamp) (sym among.small_is) ∙ fresh_above e.stamp (entries old) are.below in
    let last : stamped e.stamp (entries new) ≡ e ∷ [] = ap (stamped e.stamp) among.big_is ∙ only_one e.stamp e xs ys refl fresh in
    let first : arrived e.stamp (entries new) ≡ arrived e.stamp (entries old) =
    ap (arrived e.stamp) among.big_is ∙ arrived_later e.stamp e xs ys (omega arith) ∙ ap (arrived e.stamp) (sym among.small_is) in
    let all : arrived (suc e.stamp) (entries new) ≡ arrived e.stamp (entries old) ++ e ∷ [] =
    ap (λ zs. zs ++ stamped e.stamp (entries new)) first ∙ ap (λ zs. arrived e.stamp (entries old) ++ zs) last in
    ap (λ (n : ℕ). map job (arrived n (entries new))) (add-one e.stamp) ∙ ap (map job) all ∙ map-append job (arrived e.stamp (entries old)) (e ∷ [])

pub one_longer : (old new : List (Room Entry)) (e : Entry) → IsPutAmong old new e → length (entries new) ≡ length (entries old) + 1
one_longer old new e put =
    let among = put_among old new e put in
    let small = ap length among.small_is ∙ length-append among.before among.after in
    let big = ap length among.big_is ∙ length-append among.before (e ∷ among.after) in
    omega arith

-- as many of the requests pass as of the queues' ones
pub counted_alike : (p : Job → Bool) (room next : ℕ) (queues : List (Room Entry)) → AreStamped room next queues → count_by (λ (e : Entry). p e.job) (entries queues) ≡ count_by p (requests_of next queues)
unfolding requests_of
counted_alike p room next queues are =
    sym (tally (λ (e : Entry). cond (p e.job) 1 0) next (entries queues) are.below)
    ∙ sym (fold-map _ (λ (e : Entry). e.job) 0 (arrived next (entries queues)))
