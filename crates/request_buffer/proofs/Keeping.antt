-- The queues stay in order, with different stamps, as they change.
use Rattle.std.proofs.Common.{◌≡◌, ℕ, ◌+◌, ◌<◌, ◌≤◌, List, [], ◌∷◌, ◌++◌, length, Some, inl, inr, refl, sym, ap, ◌∙◌, subst, arith}
use Rattle.std.specs.Prelude.{slice_get, slice_set}
use Rattle.std.proofs.lemmas.Bool.{cases_eq}
use Rattle.std.proofs.lemmas.List.{length-set}
use Rattle.std.proofs.lemmas.List.Edits.{length-insert, length-remove}
use Rattle.std.proofs.lemmas.Option.{slice_get_within}
use Rattle.orb_base.specs.Room.{Room}
use Rattle.thread_borrowing.proofs.Places.{set_cases}
use Rattle.request_buffer.specs.Entries.{Entry, InOrder, entries, stamped}
use Rattle.request_buffer.specs.Finding.{AreQueues, AreStamped, HaveRoom, IsQueue, IsPutIn, IsPutAmong, IsTakenFrom, queue_of}
use Rattle.request_buffer.proofs.ListFacts.{inserted, left_at, one_more, still}
use Rattle.request_buffer.proofs.Arrivals.{without_other, only_one, none_left, none_stamped}
use Rattle.request_buffer.proofs.Around.{Among, put_among, taken_among, in_all}
use Rattle.request_buffer.proofs.Ordering.{in_order_put, in_order_taken}

-- one queue changed
pub queued_set : (queues : List (Room Entry)) (q : ℕ) (new : Room Entry) → AreQueues queues → IsQueue q new → AreQueues (slice_set queues q new)
queued_set queues q new are is k queue g = elim (set_cases queues q k new queue g) [
  | inl (here, same) ↦ subst (λ z. IsQueue k z) same (subst (λ n. IsQueue n new) (sym here) is)
  | inr other ↦ are k queue other
]

pub roomy_set : (room : ℕ) (queues : List (Room Entry)) (q : ℕ) (new : Room Entry) → HaveRoom room queues → room ≤ length new.items + new.spare → HaveRoom room (slice_set queues q new)
roomy_set room queues q new have more k queue g = elim (set_cases queues q k new queue g) [
  | inl (here, same) ↦ subst (λ (z : Room Entry). room ≤ length z.items + z.spare) same more
  | inr other ↦ have k queue other
]

-- with one more of a new stamp the stamps differ still
pub distinct_with : (small big : List Entry) (e : Entry) → Among small big e → stamped e.stamp small ≡ [] → ((s : ℕ) → length (stamped s small) ≤ 1) → (s : ℕ) → length (stamped s big) ≤ 1
distinct_with small big e among fresh distinct s = elim (cases_eq e.stamp s) [
  | inl same ↦ (
      let none : stamped s (among.before ++ among.after) ≡ [] = subst (λ n. stamped n (among.before ++ among.after) ≡ []) same (ap (stamped e.stamp) (sym among.small_is) ∙ fresh) in
      let one : stamped s big ≡ e ∷ [] = ap (stamped s) among.big_is ∙ only_one s e among.before among.after same none in
      let long : length (stamped s big) ≡ 1 = ap length one in
      omega arith
      )
  | inr differs ↦ (
      let same : stamped s big ≡ stamped s small = ap (stamped s) among.big_is ∙ without_other s e among.before among.after differs ∙ ap (stamped s) (sym among.small_is) in
      let long = ap length same in
      let few = distinct s in
      omega arith
      )
]

-- and with one less
pub distinct_without : (small big : List Entry) (e : Entry) → Among small big e → ((s : ℕ) → length (stamped s big) ≤ 1) → (s : ℕ) → length (stamped s small) ≤ 1
distinct_without small big e among distinct s = elim (cases_eq e.stamp s) [
  | inl same ↦ (
      let few = subst (λ zs. length (stamped s zs) ≤ 1) among.big_is (distinct s) in
      let none : stamped s small ≡ [] = ap (stamped s) among.small_is ∙ none_left s e among.before among.after same few in
      let long : length (stamped s small) ≡ 0 = ap length none in
      omega arith
      )
  | inr differs ↦ (
      let same : stamped s big ≡ stamped s small = ap (stamped s) among.big_is ∙ without_other s e among.before among.after differs ∙ ap (stamped s) (sym among.small_is) in
      let long = ap length same in
      let few = distinct s in
      omega arith
      )
]

-- no request has a stamp that all are below
pub fresh_above : (next : ℕ) (items : List Entry) → ((k : ℕ) (e : Entry) → slice_get items k ≡ Some e → e.stamp < next) → stamped next items ≡ []
fresh_above next items below = none_stamped next items (λ k e g same. let l = below k e g in omega arith)

own_put : (number : ℕ) (old new : List Entry) (e : Entry) → IsPutIn old new e → queue_of e.job.lane ≡ number
    → ((k : ℕ) (y : Entry) → slice_get old k ≡ Some y → queue_of y.job.lane ≡ number) → (k : ℕ) (y : Entry) → slice_get new k ≡ Some y → queue_of y.job.lane ≡ number
own_put number old new e put is own k y g = elim (inserted old put.at k e y put.within (subst (λ zs. slice_get zs k ≡ Some y) put.inserted g)) [
  | inl (here, same) ↦ subst (λ (z : Entry). queue_of z.job.lane ≡ number) same is
  | inr (j, s, _) ↦ own j y s
]

-- a request with the next stamp was put
pub put_kept : (room : ℕ) (old new : List (Room Entry)) (e : Entry) → IsPutAmong old new e → AreStamped room e.stamp old → AreStamped room (e.stamp + 1) new
put_kept room old new e put are =
    let among = put_among old new e put in
    let number = queue_of e.job.lane in
    let was = are.queued number put.before put.there in
    let had = are.roomy number put.before put.there in
    let grew = ap length put.put.inserted ∙ length-insert put.before.items put.put.at e put.put.within in
    let spare = put.room in
    let newer : (k : ℕ) (y : Entry) → slice_get put.before.items k ≡ Some y → y.stamp < e.stamp =
    λ k y g. let j = in_all old number k put.before y put.there g in are.below j.0 y j.1 in
    let is : IsQueue number put.after = record {
      in_order = in_order_put put.before.items put.after.items e was.in_order put.put newer;
      own = own_put number put.before.items put.after.items e put.put refl was.own;
    } in
    record {
      sixteen = ap length put.set ∙ length-set old number put.after ∙ are.sixteen;
      queued = subst AreQueues (sym put.set) (queued_set old number put.after are.queued is);
      roomy = subst (HaveRoom room) (sym put.set) (roomy_set room old number put.after are.roomy (omega arith));
      distinct = distinct_with (entries old) (entries new) e among (fresh_above e.stamp (entries old) are.below) are.distinct;
      below = λ k y g. elim (one_more among.before e among.after k y (subst (λ zs. slice_get zs k ≡ Some y) among.big_is g)) [
        | inl same ↦ subst (λ (z : Entry). z.stamp < e.stamp + 1) same (omega arith)
        | inr (j, other) ↦ (let l = are.below j y (subst (λ zs. slice_get zs j ≡ Some y) (sym among.small_is) other) in omega arith)
      ];
    }

-- a request was taken out
pub taken_kept : (room next : ℕ) (old new : List (Room Entry)) (q at : ℕ) (e : Entry) → IsTakenFrom old new q at e → AreStamped room next old → AreStamped room next new
taken_kept room next old new q at e taken are =
    let among = taken_among old new q at e taken in
    let was = are.queued q taken.before taken.there in
    let had = are.roomy q taken.before taken.there in
    let shrank : length taken.after.items + 1 ≡ length taken.before.items = ap (λ (xs : List Entry). length xs + 1) taken.items ∙ length-remove taken.before.items at (slice_get_within taken.before.items at e taken.stood) in
    let spare = taken.room in
    let is : IsQueue q taken.after = record {
      in_order = subst InOrder (sym taken.items) (in_order_taken taken.before.items at was.in_order);
      own = λ k y g. let h = left_at taken.before.items at k y (subst (λ zs. slice_get zs k ≡ Some y) taken.items g) in was.own h.0 y h.1;
    } in
    record {
      sixteen = ap length taken.set ∙ length-set old q taken.after ∙ are.sixteen;
      queued = subst AreQueues (sym taken.set) (queued_set old q taken.after are.queued is);
      roomy = subst (HaveRoom room) (sym taken.set) (roomy_set room old q taken.after are.roomy (omega arith));
      distinct = distinct_without (entries new) (entries old) e among are.distinct;
      below = λ k y g. let h = still among.before e among.after k y (subst (λ zs. slice_get zs k ≡ Some y) among.small_is g) in
          are.below h.0 y (subst (λ zs. slice_get zs h.0 ≡ Some y) (sym among.big_is) h.1);
    }
