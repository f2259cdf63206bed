-- What a search of a queue knows at each step.
use Rattle.std.proofs.Common.{◌≡◌, ℕ, ◌+◌, ◌<◌, ◌≤◌, Bool, true, false, leb, ltb, eqb, List, length, get_or, Option, Some, None, inl, inr, refl, sym, ap, ◌∙◌, subst, arith}
use Rattle.std.specs.Prelude.{◌&&◌, ◌||◌, if◌then◌else◌, slice_get, MatchOption}
use Rattle.std.specs.List.Sorted.{IsPartitionPoint, IsPartitionedBy}
use Rattle.std.proofs.lemmas.Bool.{both_ways, cases_lt, le-leb, leb-true, leb-false, or_cases, and_parts, ltb-true, ltb-false, eqb-true, eqb-false}
use Rattle.std.proofs.lemmas.Option.{same_Some, slice_get_within, get_or_from_slice_get, slice_get-get_or}
use Rattle.request_buffer.specs.declared.found.Found.{Found}
use Rattle.request_buffer.specs.declared.sought.Sought.{Sought}
use Rattle.request_buffer.specs.declared.sought.Sought.TheVariants.{Next}
use Rattle.request_buffer.specs.Ranks.{is_ahead, better}
use Rattle.request_buffer.specs.Entries.{Entry, InOrder, is_sought, weight}
use Rattle.request_buffer.specs.Finding.{IsBestIn, NoneIn, Outranks, found_at}

-- the priorities fall
pub falls : (items : List Entry) (priority : ℕ) → InOrder items → IsPartitionedBy (λ (e : Entry). leb priority e.job.priority) items
falls items priority ordered i j d upto within no_lower = elim (cases_lt i j) [
  | inl less ↦ (
      let first = ordered i j (get_or items i d) (get_or items j d) less (slice_get-get_or items i d (omega arith)) (slice_get-get_or items j d within) in
      let p = first.0 in
      let q = leb-true priority (get_or items j d).job.priority no_lower in
      le-leb priority (get_or items i d).job.priority (omega arith)
      )
  | inr same ↦ subst (λ (n : ℕ). leb priority (get_or items n d).job.priority ≡ true) (let z : j ≡ i = omega arith in z) no_lower
]

pub no_lower : (items : List Entry) (priority at : ℕ) → IsPartitionPoint (λ (e : Entry). leb priority e.job.priority ≡ true) (λ (e : Entry). leb priority e.job.priority ≡ false) items at
    → (k : ℕ) (e : Entry) → k < at → slice_get items k ≡ Some e → priority ≤ e.job.priority
no_lower items priority at point k e below g =
    leb-true priority e.job.priority (subst (λ (x : Entry). leb priority x.job.priority ≡ true) (get_or_from_slice_get items k e e g) (point.0 k e (omega arith) below))

pub lower : (items : List Entry) (priority at : ℕ) → IsPartitionPoint (λ (e : Entry). leb priority e.job.priority ≡ true) (λ (e : Entry). leb priority e.job.priority ≡ false) items at
    → (k : ℕ) (e : Entry) → at ≤ k → slice_get items k ≡ Some e → e.job.priority < priority
lower items priority at point k e above g =
    leb-false priority e.job.priority (subst (λ (x : Entry). leb priority x.job.priority ≡ false) (get_or_from_slice_get items k e e g) (point.1 k e above (slice_get_within items k e g)))

-- none of those before an index is sought
pub record NoneBelow (sought : Sought) (items : List Entry) (at : ℕ) : Type 0 where
  pub none : (k : ℕ) (e : Entry) → k < at → slice_get items k ≡ Some e → is_sought sought e ≡ false

pub none_below_start : (sought : Sought) (items : List Entry) → NoneBelow sought items 0
none_below_start sought items = record { none = λ k e below g. absurd (omega arith) }

pub none_below_more : (sought : Sought) (items : List Entry) (at : ℕ) (e : Entry) → slice_get items at ≡ Some e → is_sought sought e ≡ false
    → NoneBelow sought items at → NoneBelow sought items (at + 1)
none_below_more sought items at e g missed so_far = record {
  none = λ k y below h. elim (cases_lt k at) [
    | inl before ↦ so_far.none k y before h
    | inr here ↦ (
        let same : e ≡ y = same_Some e y (sym g ∙ ap (slice_get items) (let z : at ≡ k = omega arith in z) ∙ h) in
        subst (λ (x : Entry). is_sought sought x ≡ false) same missed
        )
  ];
}

pub none_below_end : (sought : Sought) (items : List Entry) (at : ℕ) → length items ≤ at → NoneBelow sought items at → NoneIn sought items
none_below_end sought items at all so_far k e g = so_far.none k e (let w = slice_get_within items k e g in omega arith) g

-- the first that a thread may run is the best of a queue in order
pub first_best : (lane : ℕ) (borrowing : Bool) (items : List Entry) (at : ℕ) (e : Entry) (found : Found) → InOrder items → slice_get items at ≡ Some e → is_sought (Next lane borrowing) e ≡ true
    → found ≡ found_at (Next lane borrowing) at e → NoneBelow (Next lane borrowing) items at → IsBestIn (Next lane borrowing) items found
first_best lane borrowing items at e found ordered g fits is so_far =
    let at_is : found.at ≡ at = ap (λ (f : Found). f.at) is in
    let weighs : found.weight ≡ e.job.priority = ap (λ (f : Found). f.weight) is in
    let stamp_is : found.stamp ≡ e.stamp = ap (λ (f : Found). f.stamp) is in
    record {
      entry = e;
      stands = ap (slice_get items) at_is ∙ g;
      fits = fits;
      is = is ∙ ap (λ (n : ℕ). found_at (Next lane borrowing) n e) (sym at_is);
      best = λ k other h sought. elim (cases_lt k at) [
        | inl before ↦ absurd (both_ways (is_sought (Next lane borrowing) other) (so_far.none k other before h) sought)
        | inr after ↦ elim (cases_lt at k) [
          | inl later ↦ (let first = ordered at k e other later g h in let p = first.0 in (omega arith, λ same. let s = first.1 (same ∙ weighs) in omega arith))
          | inr here ↦ (
              let same : e ≡ other = same_Some e other (sym g ∙ ap (slice_get items) (let z : at ≡ k = omega arith in z) ∙ h) in
              let p : e.job.priority ≡ other.job.priority = ap (λ (x : Entry). x.job.priority) same in
              let s : e.stamp ≡ other.stamp = ap (λ (x : Entry). x.stamp) same in
              (omega arith, λ equal. omega arith)
              )
        ]
      ];
    }

-- the best of those before an index
pub record IsBestBelow (sought : Sought) (items : List Entry) (at : ℕ) (found : Found) : Type 0 where
  pub entry : Entry
  pub stands : slice_get items found.at ≡ Some entry
  pub fits : is_sought sought entry ≡ true
  pub is : found ≡ found_at sought found.at entry
  pub best : (k : ℕ) (other : Entry) → k < at → slice_get items k ≡ Some other → is_sought sought other ≡ true → Outranks sought found other

pub record BestSoFar (sought : Sought) (items : List Entry) (at : ℕ) (best : Option Found) : Type 0 where
  pub so_far : MatchOption best (NoneBelow sought items at) (IsBestBelow sought items at)

pub best_start : (sought : Sought) (items : List Entry) → BestSoFar sought items 0 None
best_start sought items = record { so_far = none_below_start sought items }

below_more : (sought : Sought) (items : List Entry) (at : ℕ) (e : Entry) (found : Found) → slice_get items at ≡ Some e → is_sought sought e ≡ false → IsBestBelow sought items at found → IsBestBelow sought items (at + 1) found
below_more sought items at e found g missed so_far = record {
  entry = so_far.entry;
  stands = so_far.stands;
  fits = so_far.fits;
  is = so_far.is;
  best = λ k y below h wanted. elim (cases_lt k at) [
    | inl before ↦ so_far.best k y before h wanted
    | inr here ↦ (
        let same : e ≡ y = same_Some e y (sym g ∙ ap (slice_get items) (let z : at ≡ k = omega arith in z) ∙ h) in
        absurd (both_ways (is_sought sought e) missed (subst (λ (x : Entry). is_sought sought x ≡ true) (sym same) wanted))
        )
  ];
}

pub best_missed : (sought : Sought) (items : List Entry) (at : ℕ) (e : Entry) (best : Option Found) → slice_get items at ≡ Some e → is_sought sought e ≡ false
    → BestSoFar sought items at best → BestSoFar sought items (at + 1) best
best_missed sought items at e None g missed so_far = record { so_far = none_below_more sought items at e g missed so_far.so_far }
best_missed sought items at e (Some found) g missed so_far = record { so_far = below_more sought items at e found g missed so_far.so_far }

-- of two, the one ahead outranks what the other does
pub ahead_is : (first other : Found) → is_ahead first other ≡ true → (other.weight ≤ first.weight) × (other.weight ≡ first.weight → first.stamp ≤ other.stamp)
ahead_is first other ahead = elim (or_cases (ltb other.weight first.weight) _ ahead) [
  | inl more ↦ (let m = ltb-true other.weight first.weight more in (omega arith, λ same. absurd (omega arith)))
  | inr equal ↦ (
      let parts = and_parts (eqb other.weight first.weight) (leb first.stamp other.stamp) equal in
      let same = eqb-true other.weight first.weight parts.0 in
      let early = leb-true first.stamp other.stamp parts.1 in
      (omega arith, λ _. early)
      )
]

pub not_ahead : (first other : Found) → is_ahead first other ≡ false → (first.weight ≤ other.weight) × (first.weight ≡ other.weight → other.stamp ≤ first.stamp)
not_ahead first other behind = of_test (ltb other.weight first.weight) refl behind
  where
    of_equal : (b : Bool) → eqb other.weight first.weight ≡ b → (b && leb first.stamp other.stamp) ≡ false → first.weight ≤ other.weight → (first.weight ≤ other.weight) × (first.weight ≡ other.weight → other.stamp ≤ first.stamp)
    of_equal true is late less = (less, λ _. let l = leb-false first.stamp other.stamp late in omega arith)
    of_equal false is _ less = (less, λ same. absurd (eqb-false other.weight first.weight is (sym same)))

    of_test : (b : Bool) → ltb other.weight first.weight ≡ b → (b || (eqb other.weight first.weight && leb first.stamp other.stamp)) ≡ false → (first.weight ≤ other.weight) × (first.weight ≡ other.weight → other.stamp ≤ first.stamp)
    of_test true is never = absurd (both_ways true never refl)
    of_test false is rest = of_equal (eqb other.weight first.weight) refl rest (ltb-false other.weight first.weight is)

-- what one outranks, one ahead of it does
pub outranks_too : (sought : Sought) (first second : Found) (other : Entry) → (second.weight ≤ first.weight) × (second.weight ≡ first.weight → first.stamp ≤ second.stamp) → Outranks sought second other → Outranks sought first other
outranks_too sought first second other ahead outranks =
    let a = ahead.0 in
    let b = outranks.0 in (
      omega arith,
      λ same. (
          let equal : second.weight ≡ first.weight = omega arith in
          let c = ahead.1 equal in
          let d = outranks.1 (same ∙ sym equal) in
          omega arith
          ),
    )

new_best : (sought : Sought) (items : List Entry) (at : ℕ) (e : Entry) (found : Found) → slice_get items at ≡ Some e → is_sought sought e ≡ true → found ≡ found_at sought at e
    → ((k : ℕ) (other : Entry) → k < at → slice_get items k ≡ Some other → is_sought sought other ≡ true → Outranks sought found other) → IsBestBelow sought items (at + 1) found
new_best sought items at e found g fits is rest =
    let at_is : found.at ≡ at = ap (λ (f : Found). f.at) is in
    let weighs : found.weight ≡ weight sought e = ap (λ (f : Found). f.weight) is in
    let stamp_is : found.stamp ≡ e.stamp = ap (λ (f : Found). f.stamp) is in
    record {
      entry = e;
      stands = ap (slice_get items) at_is ∙ g;
      fits = fits;
      is = is ∙ ap (λ (n : ℕ). found_at sought n e) (sym at_is);
      best = λ k other below h wanted. elim (cases_lt k at) [
        | inl before ↦ rest k other before h wanted
        | inr here ↦ (
            let same : e ≡ other = same_Some e other (sym g ∙ ap (slice_get items) (let z : at ≡ k = omega arith in z) ∙ h) in
            let p : weight sought e ≡ weight sought other = ap (weight sought) same in
            let s : e.stamp ≡ other.stamp = ap (λ (x : Entry). x.stamp) same in
            (omega arith, λ equal. omega arith)
            )
      ];
    }

pub best_found : (sought : Sought) (items : List Entry) (at : ℕ) (e : Entry) (best : Option Found) (found : Found) → slice_get items at ≡ Some e → is_sought sought e ≡ true
    → found ≡ found_at sought at e → BestSoFar sought items at best → BestSoFar sought items (at + 1) (Some (better best found))
best_found sought items at e None found g fits is so_far =
    record { so_far = new_best sought items at e found g fits is (λ k other below h wanted. absurd (both_ways (is_sought sought other) (so_far.so_far.none k other below h) wanted)) }
best_found sought items at e (Some first) found g fits is so_far = of_test (is_ahead first found) refl
  where
    of_test : (b : Bool) → is_ahead first found ≡ b → BestSoFar sought items (at + 1) (Some (if b then first else found))
    of_test true ahead =
        let was = so_far.so_far in
        let both = new_best sought items at e found g fits is in
        let weighs : found.weight ≡ weight sought e = ap (λ (f : Found). f.weight) is in
        let stamp_is : found.stamp ≡ e.stamp = ap (λ (f : Found). f.stamp) is in
        let over = ahead_is first found ahead in
        let o = over.0 in
        record {
          so_far = record {
            entry = was.entry;
            stands = was.stands;
            fits = was.fits;
            is = was.is;
            best = λ k other below h wanted. elim (cases_lt k at) [
              | inl before ↦ was.best k other before h wanted
              | inr here ↦ (
                  let same : e ≡ other = same_Some e other (sym g ∙ ap (slice_get items) (let z : at ≡ k = omega arith in z) ∙ h) in
                  let p : weight sought e ≡ weight sought other = ap (weight sought) same in
                  let s : e.stamp ≡ other.stamp = ap (λ (x : Entry). x.stamp) same in
                  (omega arith, λ equal. let l = over.1 (weighs ∙ p ∙ equal) in omega arith)
                  )
            ];
          };
        }
    of_test false behind =
        let was = so_far.so_far in
        record { so_far = new_best sought items at e found g fits is (λ k other below h wanted. outranks_too sought found first other (not_ahead first found behind) (was.best k other below h wanted)) }

pub best_end : (sought : Sought) (items : List Entry) (at : ℕ) (best : Option Found) → length items ≤ at → BestSoFar sought items at best → MatchOption best (NoneIn sought items) (IsBestIn sought items)
best_end sought items at None all so_far = none_below_end sought items at all so_far.so_far
best_end sought items at (Some found) all so_far =
    let was = so_far.so_far in
    record {
      entry = was.entry;
      stands = was.stands;
      fits = was.fits;
      is = was.is;
      best = λ k other h wanted. was.best k other (let w = slice_get_within items k other h in omega arith) h wanted;
    }
