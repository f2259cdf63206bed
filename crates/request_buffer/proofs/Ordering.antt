-- The order of a queue as it changes.
use Rattle.std.proofs.Common.{◌≡◌, ℕ, ◌<◌, ◌≤◌, List, Some, inl, inr, subst, arith}
use Rattle.std.specs.Prelude.{slice_get, slice_set}
use Rattle.std.specs.List.{remove}
use Rattle.std.proofs.lemmas.Bool.{cases_lt}
use Rattle.thread_borrowing.proofs.Places.{set_cases}
use Rattle.request_buffer.specs.Entries.{Entry, InOrder, Precedes, restamped}
use Rattle.request_buffer.specs.Finding.{IsPutIn}
use Rattle.request_buffer.proofs.ListFacts.{inserted, left_at}

-- a request that came last went after all of no lower priority
pub in_order_put : (old new : List Entry) (e : Entry) → InOrder old → IsPutIn old new e → ((k : ℕ) (y : Entry) → slice_get old k ≡ Some y → y.stamp < e.stamp) → InOrder new
in_order_put old new e ordered put newer j k x y below gx gy =
    let hx = inserted old put.at j e x put.within (subst (λ zs. slice_get zs j ≡ Some x) put.inserted gx) in
    let hy = inserted old put.at k e y put.within (subst (λ zs. slice_get zs k ≡ Some y) put.inserted gy) in
    elim hx [
      | inl (here, is) ↦ elim hy [
        | inl (there, _) ↦ absurd (omega arith)
        | inr (m, t, inl (early, _)) ↦ absurd (omega arith)
        | inr (m, t, inr (late, next)) ↦ (let lower = put.after m y (omega arith) t in subst (λ z. Precedes z y) is (omega arith, λ same. absurd (omega arith)))
      ]
      | inr (i, s, inl (before, at)) ↦ elim hy [
        | inl (there, is) ↦ (let higher = put.before i x (omega arith) s in let earlier = newer i x s in subst (λ z. Precedes x z) is (omega arith, λ same. omega arith))
        | inr (m, t, inl (early, next)) ↦ ordered i m x y (omega arith) s t
        | inr (m, t, inr (late, next)) ↦ ordered i m x y (omega arith) s t
      ]
      | inr (i, s, inr (after, at)) ↦ elim hy [
        | inl (there, _) ↦ absurd (omega arith)
        | inr (m, t, inl (early, next)) ↦ absurd (omega arith)
        | inr (m, t, inr (late, next)) ↦ ordered i m x y (omega arith) s t
      ]
    ]

-- one was taken out
pub in_order_taken : (items : List Entry) (at : ℕ) → InOrder items → InOrder (remove items at)
in_order_taken items at ordered j k x y below gx gy =
    let hx = left_at items at j x gx in
    let hy = left_at items at k y gy in
    elim hx.2 [
      | inl (early, is) ↦ elim hy.2 [
        | inl (_, at_m) ↦ ordered hx.0 hy.0 x y (omega arith) hx.1 hy.1
        | inr (_, at_m) ↦ ordered hx.0 hy.0 x y (omega arith) hx.1 hy.1
      ]
      | inr (late, is) ↦ elim hy.2 [
        | inl (before, at_m) ↦ absurd (omega arith)
        | inr (_, at_m) ↦ ordered hx.0 hy.0 x y (omega arith) hx.1 hy.1
      ]
    ]

-- one got a lower stamp, and no stamp was between
pub in_order_restamped : (items : List Entry) (at stamp : ℕ) (e : Entry) → InOrder items → slice_get items at ≡ Some e → stamp ≤ e.stamp
    → ((k : ℕ) (y : Entry) → slice_get items k ≡ Some y → stamp ≤ y.stamp → e.stamp ≤ y.stamp)
    → InOrder (slice_set items at (restamped stamp e))
in_order_restamped items at stamp e ordered stood lower least j k x y below gx gy =
    elim (set_cases items at j (restamped stamp e) x gx) [
      | inl (here, is) ↦ elim (set_cases items at k (restamped stamp e) y gy) [
        | inl (there, _) ↦ absurd (omega arith)
        | inr t ↦ (
            let first = ordered at k e y (omega arith) stood t in
            subst (λ z. Precedes z y) is (first.0, λ same. let f = first.1 same in omega arith)
            )
      ]
      | inr s ↦ elim (set_cases items at k (restamped stamp e) y gy) [
        | inl (there, is) ↦ (
            let first = ordered j at x e (omega arith) s stood in
            subst (λ z. Precedes x z) is (
              first.0,
              λ same. (
                  let f = first.1 same in
                  elim (cases_lt x.stamp stamp) [ inl l ↦ l | inr l ↦ absurd (let m = least j x s l in omega arith) ]
                  ),
            )
            )
        | inr t ↦ ordered j k x y below s t
      ]
    ]
