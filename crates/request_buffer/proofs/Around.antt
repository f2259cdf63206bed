-- The requests of all queues around a change of one queue.
use Rattle.std.proofs.Common.{◌≡◌, ℕ, zero, suc, List, [], ◌∷◌, ◌++◌, take, drop, Some, inl, inr, refl, sym, ap, ◌∙◌, subst, append_assoc}
use Rattle.std.specs.Prelude.{slice_get, slice_set}
use Rattle.std.proofs.lemmas.List.{set_split, take-append-drop}
use Rattle.std.proofs.lemmas.Option.{none-some, same_Some, slice_get_within}
use Rattle.orb_base.specs.Room.{Room}
use Rattle.request_buffer.specs.Entries.{Entry, entries, restamped}
use Rattle.request_buffer.specs.Finding.{StandsAt, IsPutAmong, IsTakenFrom, IsRestamped}
use Rattle.request_buffer.proofs.ListFacts.{around, of_first, of_second, of_either}

-- the requests of the queues before one and of those after it
record Beside (queues : List (Room Entry)) (q : ℕ) (queue : Room Entry) : Type 0 where
  pub before : List Entry
  pub after : List Entry
  pub is : entries queues ≡ before ++ (queue.items ++ after)
  pub set : (other : Room Entry) → entries (slice_set queues q other) ≡ before ++ (other.items ++ after)

beside : (queues : List (Room Entry)) (q : ℕ) (queue : Room Entry) → slice_get queues q ≡ Some queue → Beside queues q queue
beside [] q queue g = absurd (none-some queue g)
beside (first ∷ queues) zero queue g =
    record {
      before = [];
      after = entries queues;
      is = ap (λ (r : Room Entry). r.items ++ entries queues) (same_Some first queue g);
      set = λ other. refl;
    }
beside (first ∷ queues) (suc q) queue g =
    let rest = beside queues q queue g in
    record {
      before = first.items ++ rest.before;
      after = rest.after;
      is = ap (λ es. first.items ++ es) rest.is ∙ sym (append_assoc first.items rest.before (queue.items ++ rest.after));
      set = λ other. ap (λ es. first.items ++ es) (rest.set other) ∙ sym (append_assoc first.items rest.before (other.items ++ rest.after));
    }

-- one list is the other with an item in the middle
pub record Among (small big : List Entry) (e : Entry) : Type 0 where
  pub before : List Entry
  pub after : List Entry
  pub small_is : small ≡ before ++ after
  pub big_is : big ≡ before ++ e ∷ after

-- in a middle part
widened : (xs ls rs ys : List Entry) → xs ++ ((ls ++ rs) ++ ys) ≡ (xs ++ ls) ++ (rs ++ ys)
widened xs ls rs ys = ap (λ zs. xs ++ zs) (append_assoc ls rs ys) ∙ sym (append_assoc xs ls (rs ++ ys))

-- where a request is
pub record Holds (items : List Entry) (e : Entry) : Type 0 where
  pub before : List Entry
  pub after : List Entry
  pub is : items ≡ before ++ e ∷ after

pub stands_in : (queues : List (Room Entry)) (q at : ℕ) (e : Entry) → StandsAt queues q at e → Holds (entries queues) e
stands_in queues q at e stands =
    let parts = beside queues q stands.queue stands.there in
    let items = stands.queue.items in
    record {
      before = parts.before ++ take at items;
      after = drop (suc at) items ++ parts.after;
      is =
          parts.is
          ∙ ap (λ zs. parts.before ++ (zs ++ parts.after)) (around items at e stands.stands)
          ∙ widened parts.before (take at items) (e ∷ drop (suc at) items) parts.after;
    }

pub put_among : (old new : List (Room Entry)) (e : Entry) → IsPutAmong old new e → Among (entries old) (entries new) e
put_among old new e put =
    let parts = beside old _ put.before put.there in
    let items = put.before.items in
    let at = put.put.at in
    record {
      before = parts.before ++ take at items;
      after = drop at items ++ parts.after;
      small_is =
          parts.is
          ∙ ap (λ zs. parts.before ++ (zs ++ parts.after)) (sym (take-append-drop at items))
          ∙ widened parts.before (take at items) (drop at items) parts.after;
      big_is =
          ap entries put.set
          ∙ parts.set put.after
          ∙ ap (λ zs. parts.before ++ (zs ++ parts.after)) put.put.inserted
          ∙ widened parts.before (take at items) (e ∷ drop at items) parts.after;
    }

pub taken_among : (old new : List (Room Entry)) (q at : ℕ) (e : Entry) → IsTakenFrom old new q at e → Among (entries new) (entries old) e
taken_among old new q at e taken =
    let parts = beside old q taken.before taken.there in
    let items = taken.before.items in
    record {
      before = parts.before ++ take at items;
      after = drop (suc at) items ++ parts.after;
      small_is =
          ap entries taken.set
          ∙ parts.set taken.after
          ∙ ap (λ zs. parts.before ++ (zs ++ parts.after)) taken.items
          ∙ widened parts.before (take at items) (drop (suc at) items) parts.after;
      big_is =
          parts.is
          ∙ ap (λ zs. parts.before ++ (zs ++ parts.after)) (around items at e taken.stood)
          ∙ widened parts.before (take at items) (e ∷ drop (suc at) items) parts.after;
    }

-- a request with another stamp in the same place
pub record Swapped (old new : List Entry) (stamp : ℕ) (e : Entry) : Type 0 where
  pub before : List Entry
  pub after : List Entry
  pub old_is : old ≡ before ++ e ∷ after
  pub new_is : new ≡ before ++ restamped stamp e ∷ after

pub restamped_among : (old new : List (Room Entry)) (q at stamp : ℕ) (e : Entry) → IsRestamped old new q at stamp e → Swapped (entries old) (entries new) stamp e
restamped_among old new q at stamp e changed =
    let parts = beside old q changed.before changed.there in
    let items = changed.before.items in
    record {
      before = parts.before ++ take at items;
      after = drop (suc at) items ++ parts.after;
      old_is =
          parts.is
          ∙ ap (λ zs. parts.before ++ (zs ++ parts.after)) (around items at e changed.stood)
          ∙ widened parts.before (take at items) (e ∷ drop (suc at) items) parts.after;
      new_is =
          ap entries changed.set
          ∙ parts.set changed.after
          ∙ ap (λ zs. parts.before ++ (zs ++ parts.after)) (changed.items ∙ set_split items at (restamped stamp e) (slice_get_within items at e changed.stood))
          ∙ widened parts.before (take at items) (restamped stamp e ∷ drop (suc at) items) parts.after;
    }

-- a request of all queues is one of a queue
pub record InQueue (queues : List (Room Entry)) (e : Entry) : Type 0 where
  pub q : ℕ
  pub queue : Room Entry
  pub at : ℕ
  pub there : slice_get queues q ≡ Some queue
  pub stands : slice_get queue.items at ≡ Some e

pub in_queue : (queues : List (Room Entry)) (k : ℕ) (e : Entry) → slice_get (entries queues) k ≡ Some e → InQueue queues e
in_queue [] k e g = absurd (none-some e g)
in_queue (first ∷ queues) k e g = elim (of_either first.items (entries queues) k e g) [
  | inl here ↦ record { q = 0; queue = first; at = k; there = refl; stands = here }
  | inr (j, later) ↦ (let rest = in_queue queues j e later in record { q = suc rest.q; queue = rest.queue; at = rest.at; there = rest.there; stands = rest.stands })
]

-- and the other way
pub in_all : (queues : List (Room Entry)) (q at : ℕ) (queue : Room Entry) (e : Entry) → slice_get queues q ≡ Some queue → slice_get queue.items at ≡ Some e
    → (k : ℕ) × (slice_get (entries queues) k ≡ Some e)
in_all [] q at queue e g h = absurd (none-some queue g)
in_all (first ∷ queues) zero at queue e g h = (at, of_first first.items (entries queues) at e (subst (λ (r : Room Entry). slice_get r.items at ≡ Some e) (sym (same_Some first queue g)) h))
in_all (first ∷ queues) (suc q) at queue e g h = let k = in_all queues q at queue e g h in of_second first.items (entries queues) k.0 e k.1
