-- What a search over queues knows at each step.
use Rattle.std.proofs.Common.{◌≡◌, ℕ, zero, suc, ◌+◌, ◌<◌, ◌≤◌, Bool, true, false, List, [], ◌∷◌, ◌++◌, length, Option, Some, None, inl, inr, ◌⊎◌, refl, sym, ap, ◌∙◌, subst, arith, length-append}
use Rattle.std.specs.Prelude.{if◌then◌else◌, slice_get, MatchOption, IsSomeAnd}
use Rattle.std.proofs.lemmas.Bool.{both_ways, cases_lt, eqb-true}
use Rattle.std.proofs.lemmas.Option.{same_Some, none-some, slice_get_within}
use Rattle.orb_base.specs.Room.{Room}
use Rattle.thread_borrowing.proofs.Places.{push_cases}
use Rattle.request_buffer.specs.declared.found.Found.{Found}
use Rattle.request_buffer.specs.declared.found.Spot.{Spot}
use Rattle.request_buffer.specs.declared.sought.Sought.{Sought}
use Rattle.request_buffer.specs.declared.sought.Sought.TheVariants.{Stamped}
use Rattle.request_buffer.specs.Ranks.{is_ahead}
use Rattle.request_buffer.specs.Entries.{Entry, entries, stamped, is_sought}
use Rattle.request_buffer.specs.Finding.{AreQueues, AreStamped, IsBest, IsBestIn, NoneIn, Outranks, StandsAt, HasStamp, found_at, queue_of, better_spot}
use Rattle.request_buffer.proofs.Around.{in_queue}
use Rattle.request_buffer.proofs.Searching.{ahead_is, not_ahead, outranks_too}

-- what is known of what is there
pub record There {X : Type 0} (o : Option X) (P : X → Type 0) : Type 0 where
  pub value : X
  pub is : o ≡ Some value
  pub holds : P value

pub there : {X : Type 0} (o : Option X) (P : X → Type 0) → IsSomeAnd o P → There o P
there None P h = absurd h
there (Some x) P h = record { value = x; is = refl; holds = h }

pub from_there : {X : Type 0} (o : Option X) (P : X → Type 0) (x : X) → o ≡ Some x → P x → IsSomeAnd o P
from_there {X = X} o P x e h = subst (λ (z : Option X). IsSomeAnd z P) (sym e) h

-- the best of the queues before a number
pub record IsBestBefore (sought : Sought) (queues : List (Room Entry)) (n : ℕ) (spot : Spot) : Type 0 where
  pub entry : Entry
  pub stands : StandsAt queues spot.queue spot.found.at entry
  pub fits : is_sought sought entry ≡ true
  pub is : spot.found ≡ found_at sought spot.found.at entry
  pub best : (q k : ℕ) (queue : Room Entry) (e : Entry) → q < n → slice_get queues q ≡ Some queue → slice_get queue.items k ≡ Some e → is_sought sought e ≡ true → Outranks sought spot.found e

pub record SpotSoFar (sought : Sought) (queues : List (Room Entry)) (n : ℕ) (best : Option Spot) : Type 0 where
  pub so_far : MatchOption best ((q k : ℕ) (queue : Room Entry) (e : Entry) → q < n → slice_get queues q ≡ Some queue → slice_get queue.items k ≡ Some e → is_sought sought e ≡ false) (IsBestBefore sought queues n)

pub spot_start : (sought : Sought) (queues : List (Room Entry)) → SpotSoFar sought queues 0 None
spot_start sought queues = record { so_far = λ q k queue e below g h. absurd (omega arith) }

-- a queue is one of those before, or the next
or_next : (queues : List (Room Entry)) (n q : ℕ) (next queue : Room Entry) → q < n + 1 → slice_get queues n ≡ Some next → slice_get queues q ≡ Some queue → (q < n) ⊎ (next ≡ queue)
or_next queues n q next queue below there here = elim (cases_lt q n) [
  | inl before ↦ inl before
  | inr same ↦ inr (same_Some next queue (sym there ∙ ap (slice_get queues) (let z : n ≡ q = omega arith in z) ∙ here))
]

-- the best stays, and what the next queue has is no better
spot_stays : (sought : Sought) (queues : List (Room Entry)) (n : ℕ) (spot : Spot) (next : Room Entry) → slice_get queues n ≡ Some next → IsBestBefore sought queues n spot
    → ((k : ℕ) (e : Entry) → slice_get next.items k ≡ Some e → is_sought sought e ≡ true → Outranks sought spot.found e) → IsBestBefore sought queues (n + 1) spot
spot_stays sought queues n spot next there was over = record {
  entry = was.entry;
  stands = was.stands;
  fits = was.fits;
  is = was.is;
  best = λ q k queue e below g h wanted. elim (or_next queues n q next queue below there g) [
    | inl before ↦ was.best q k queue e before g h wanted
    | inr same ↦ over k e (subst (λ (r : Room Entry). slice_get r.items k ≡ Some e) (sym same) h) wanted
  ];
}

-- the next queue has a better one
spot_new : (sought : Sought) (queues : List (Room Entry)) (n : ℕ) (found : Found) (next : Room Entry) → slice_get queues n ≡ Some next → IsBestIn sought next.items found
    → ((q k : ℕ) (queue : Room Entry) (e : Entry) → q < n → slice_get queues q ≡ Some queue → slice_get queue.items k ≡ Some e → is_sought sought e ≡ true → Outranks sought found e)
    → IsBestBefore sought queues (n + 1) (record { queue = n; found = found })
spot_new sought queues n found next there is over = record {
  entry = is.entry;
  stands = record { queue = next; there = there; stands = is.stands };
  fits = is.fits;
  is = is.is;
  best = λ q k queue e below g h wanted. elim (or_next queues n q next queue below there g) [
    | inl before ↦ over q k queue e before g h wanted
    | inr same ↦ is.best k e (subst (λ (r : Room Entry). slice_get r.items k ≡ Some e) (sym same) h) wanted
  ];
}

spot_next : (sought : Sought) (queues : List (Room Entry)) (n : ℕ) (best : Option Spot) (found : Option Found) (next : Room Entry) → slice_get queues n ≡ Some next
    → MatchOption found (NoneIn sought next.items) (IsBestIn sought next.items) → SpotSoFar sought queues n best → SpotSoFar sought queues (n + 1) (better_spot best n found)
spot_next sought queues n None None next there is was = record {
  so_far = λ q k queue e below g h. elim (or_next queues n q next queue below there g) [
    | inl before ↦ was.so_far q k queue e before g h
    | inr same ↦ is k e (subst (λ (r : Room Entry). slice_get r.items k ≡ Some e) (sym same) h)
  ];
}
spot_next sought queues n (Some spot) None next there is was =
    record { so_far = spot_stays sought queues n spot next there was.so_far (λ k e g wanted. absurd (both_ways (is_sought sought e) (is k e g) wanted)) }
spot_next sought queues n None (Some found) next there is was =
    record { so_far = spot_new sought queues n found next there is (λ q k queue e below g h wanted. absurd (both_ways (is_sought sought e) (was.so_far q k queue e below g h) wanted)) }
spot_next sought queues n (Some spot) (Some found) next there is was = of_test (is_ahead spot.found found) refl
  where
    of_test : (b : Bool) → is_ahead spot.found found ≡ b → SpotSoFar sought queues (n + 1) (if b then Some spot else Some (record { queue = n; found = found }))
    of_test true ahead =
        record { so_far = spot_stays sought queues n spot next there was.so_far (λ k e g wanted. outranks_too sought spot.found found e (ahead_is spot.found found ahead) (is.best k e g wanted)) }
    of_test false behind =
        record { so_far = spot_new sought queues n found next there is (λ q k queue e below g h wanted. outranks_too sought found spot.found e (not_ahead spot.found found behind) (was.so_far.best q k queue e below g h wanted)) }

pub spot_more : (sought : Sought) (queues : List (Room Entry)) (n : ℕ) (best next_best : Option Spot) (found : Option Found)
    → IsSomeAnd (slice_get queues n) (λ (queue : Room Entry). MatchOption found (NoneIn sought queue.items) (IsBestIn sought queue.items)) → next_best ≡ better_spot best n found
    → SpotSoFar sought queues n best → SpotSoFar sought queues (n + 1) next_best
spot_more sought queues n best next_best found is better was =
    let t = there (slice_get queues n) (λ (queue : Room Entry). MatchOption found (NoneIn sought queue.items) (IsBestIn sought queue.items)) is in
    subst (SpotSoFar sought queues (n + 1)) (sym better) (spot_next sought queues n best found t.value t.is t.holds was)

pub spot_end : (sought : Sought) (queues : List (Room Entry)) (n : ℕ) (best : Option Spot) → length queues ≤ n → SpotSoFar sought queues n best → MatchOption best (NoneIn sought (entries queues)) (IsBest sought queues)
spot_end sought queues n None all was =
    λ k e g. let i = in_queue queues k e g in
    was.so_far i.q i.at i.queue e (let w = slice_get_within queues i.q i.queue i.there in omega arith) i.there i.stands
spot_end sought queues n (Some spot) all was =
    let so_far = was.so_far in
    record {
      entry = so_far.entry;
      stands = so_far.stands;
      fits = so_far.fits;
      is = so_far.is;
      best = λ k e g wanted. let i = in_queue queues k e g in
          so_far.best i.q i.at i.queue e (let w = slice_get_within queues i.q i.queue i.there in omega arith) i.there i.stands wanted;
    }

-- the best of a queue, where it may have one
pub best_there : (sought : Sought) (queues : List (Room Entry)) (n : ℕ) (queue : Room Entry) (found : Option Found) → slice_get queues n ≡ Some queue
    → MatchOption found (NoneIn sought queue.items) (IsBestIn sought queue.items)
    → IsSomeAnd (slice_get queues n) (λ (r : Room Entry). MatchOption found (NoneIn sought r.items) (IsBestIn sought r.items))
best_there sought queues n queue found g is = from_there (slice_get queues n) (λ (r : Room Entry). MatchOption found (NoneIn sought r.items) (IsBestIn sought r.items)) queue g is

-- what is within a list
pub some_within : {X : Type 0} (xs : List X) (n : ℕ) → n < length xs → (x : X) × (slice_get xs n ≡ Some x)
some_within [] n within = absurd (omega arith)
some_within (x ∷ xs) zero within = (x, refl)
some_within (x ∷ xs) (suc n) within = some_within xs n (omega arith)

pub none_there : (sought : Sought) (queues : List (Room Entry)) (n : ℕ) → n < length queues → AreQueues queues → ((e : Entry) → queue_of e.job.lane ≡ n → is_sought sought e ≡ false)
    → IsSomeAnd (slice_get queues n) (λ (r : Room Entry). MatchOption None (NoneIn sought r.items) (IsBestIn sought r.items))
none_there sought queues n within are never = of_case (slice_get queues n) refl
  where
    of_case : (o : Option (Room Entry)) → slice_get queues n ≡ o → IsSomeAnd o (λ (r : Room Entry). MatchOption None (NoneIn sought r.items) (IsBestIn sought r.items))
    of_case None e = absurd (let r = some_within queues n within in none-some r.0 (sym e ∙ r.1))
    of_case (Some queue) e = λ k entry g. never entry ((are n queue e).own k entry g)

-- queues that were made so far are empty and have room
pub record Built (room n : ℕ) (queues : List (Room Entry)) : Type 0 where
  pub long : length queues ≡ n
  pub empty : (q : ℕ) (queue : Room Entry) → slice_get queues q ≡ Some queue → queue.items ≡ []
  pub roomy : (q : ℕ) (queue : Room Entry) → slice_get queues q ≡ Some queue → room ≤ queue.spare

pub built_start : (room : ℕ) (queues : List (Room Entry)) → queues ≡ [] → Built room 0 queues
built_start room [] e = record { long = refl; empty = λ q queue g. absurd (none-some queue g); roomy = λ q queue g. absurd (none-some queue g) }
built_start room (q ∷ qs) e = absurd (let l = ap length e in omega arith)

pub built_more : (room n : ℕ) (queues next : List (Room Entry)) (queue : Room Entry) → queue.items ≡ [] → room ≤ queue.spare → next ≡ queues ++ queue ∷ [] → Built room n queues → Built room (n + 1) next
built_more room n queues next queue none spare is was =
    let long = was.long in
    let more = ap length is ∙ length-append queues (queue ∷ []) in
    record {
      long = omega arith;
      empty = λ q other g. elim (push_cases queues q queue other (subst (λ qs. slice_get qs q ≡ Some other) is g)) [
        | inl before ↦ was.empty q other before
        | inr same ↦ subst (λ (r : Room Entry). r.items ≡ []) same none
      ];
      roomy = λ q other g. elim (push_cases queues q queue other (subst (λ qs. slice_get qs q ≡ Some other) is g)) [
        | inl before ↦ was.roomy q other before
        | inr same ↦ subst (λ (r : Room Entry). room ≤ r.spare) same spare
      ];
    }

pub none_at_all : (queues : List (Room Entry)) → ((q : ℕ) (queue : Room Entry) → slice_get queues q ≡ Some queue → queue.items ≡ []) → entries queues ≡ []
none_at_all [] empty = refl
none_at_all (q ∷ qs) empty = ap (λ es. es ++ entries qs) (empty 0 q refl) ∙ none_at_all qs (λ k queue g. empty (suc k) queue g)

pub built_end : (room : ℕ) (queues : List (Room Entry)) → Built room 16 queues → AreStamped room 0 queues
built_end room queues built =
    let none = none_at_all queues built.empty in
    record {
      sixteen = built.long;
      queued = λ q queue g. record {
        in_order = λ j k x y below gx gy. absurd (none-some x (sym (ap (λ (zs : List Entry). slice_get zs j) (built.empty q queue g)) ∙ gx));
        own = λ k e h. absurd (none-some e (sym (ap (λ (zs : List Entry). slice_get zs k) (built.empty q queue g)) ∙ h));
      };
      roomy = λ q queue g. let r = built.roomy q queue g in omega arith;
      distinct = λ s. let l = ap (λ (zs : List Entry). length (stamped s zs)) none in omega arith;
      below = λ k e g. absurd (none-some e (sym (ap (λ (zs : List Entry). slice_get zs k) none) ∙ g));
    }

pub built_none : (room : ℕ) (queues : List (Room Entry)) → Built room 16 queues → entries queues ≡ []
built_none room queues built = none_at_all queues built.empty

-- the steps of making queues
pub ruleset built_steps = (built_start, built_more, built_end, built_none)

-- a spot has the stamp that was sought
pub has_stamp : (queues : List (Room Entry)) (stamp : ℕ) (spot : Spot) → IsBest (Stamped stamp) queues spot → HasStamp queues spot.queue spot.found.at stamp
has_stamp queues stamp spot best = record { entry = best.entry; stands = best.stands; is = eqb-true best.entry.stamp stamp best.fits }

-- a request is within its queue
pub within_queue : (queues : List (Room Entry)) (q at : ℕ) (e : Entry) → StandsAt queues q at e → IsSomeAnd (slice_get queues q) (λ (r : Room Entry). at < length r.items)
within_queue queues q at e stands =
    from_there (slice_get queues q) (λ (r : Room Entry). at < length r.items) stands.queue stands.there (slice_get_within stands.queue.items at e stands.stands)

-- what holds where one is named holds where the other is
pub taken_where : (o p : Option ℕ) (Q : Type 0) (P : ℕ → Type 0) → p ≡ o → IsSomeAnd p P → MatchOption o Q P
taken_where o None Q P e h = absurd h
taken_where o (Some x) Q P e h = subst (λ (z : Option ℕ). MatchOption z Q P) e h

pub nowhere : (o : Option ℕ) (Q : Type 0) (P : ℕ → Type 0) → o ≡ None → Q → MatchOption o Q P
nowhere o Q P e h = subst (λ (z : Option ℕ). MatchOption z Q P) (sym e) h
