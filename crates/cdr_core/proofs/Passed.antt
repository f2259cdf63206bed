-- What a loop passes over, item by item, without a list of it.
use Rattle.std.proofs.Common.{◌≡◌, ℕ, zero, suc, ◌-◌, ◌+◌, ◌≤◌, ◌<◌, List, [], ◌∷◌, Result, Ok, Err, refl, sym, ap, ◌∙◌, arith}
use Rattle.cdr_core.specs.declared.fault.CdrFault.{CdrFault}
use Rattle.cdr_core.specs.Cursor.{Cursor, Reads}
use Rattle.cdr_core.specs.Reading.{count_at}
use Rattle.cdr_core.specs.Sequence.{Parsed, ◌>>=◌, times, behind}
use Rattle.cdr_core.specs.Lists.{Item, item_at, made_at, list_at, read_or_none, listed}
use Rattle.cdr_core.proofs.Binding.{ok_is}

-- a value before what is read leaves the cursor after it where it is
behind_more : {E A : Type 0} (a : A) (reading : Parsed E (List A))
    → behind (reading >>= λ x. Ok (a ∷ x.0, x.1)) ≡ behind reading
behind_more a (Ok x) = refl
behind_more a (Err e) = refl

-- ---- the loop

pub passes_on : {E A : Type 0} (one : Cursor → Parsed E A) (count i : ℕ) (c : Cursor) (a : A) (d : Cursor)
    (total : Result Cursor E) → i < count → one c ≡ Ok (a, d)
    → behind (times one (count - i) c) ≡ total → behind (times one (count - (i + 1)) d) ≡ total
unfolding times
passes_on {E} {A} one count i c a d total lt h so_far =
    let k : count - i ≡ suc (count - (i + 1)) = omega arith in
    let step : behind (times one (count - i) c) ≡ behind (times one (count - (i + 1)) d) =
    rw (k, h) (behind_more a (times one (count - (i + 1)) d)) in
    sym step ∙ so_far

pub passes_to_fault : {E A : Type 0} (one : Cursor → Parsed E A) (e : E) (count i : ℕ) (c : Cursor)
    (total : Result Cursor E) → i < count → one c ≡ Err e
    → behind (times one (count - i) c) ≡ total → total ≡ Err e
unfolding times
passes_to_fault one e count i c total lt h so_far =
    let k : count - i ≡ suc (count - (i + 1)) = omega arith in
    let step : behind (times one (count - i) c) ≡ Err e = rw (k, h) refl in
    sym so_far ∙ step

pub passes_all : {E A : Type 0} (one : Cursor → Parsed E A) (count i : ℕ) (c : Cursor) (total : Result Cursor E)
    → count ≤ i → behind (times one (count - i) c) ≡ total → total ≡ Ok c
unfolding times
passes_all {E} {A} one count i c total le so_far =
    let k : count - i ≡ 0 = omega arith in
    let step : behind (times one (count - i) c) ≡ Ok c = rw k refl in
    sym so_far ∙ step

-- ---- what is made of the items

-- what is made of an item that was read
abbrev made_of : {A : Type 0} → (Item → A) → Reads Item → Reads A
made_of made first = first >>= λ x. Ok (made x.0, x.1)

-- a value that was read, and so many more
abbrev and_others : {A : Type 0} → (Cursor → Reads A) → ℕ → Reads A → Reads (List A)
and_others one n first = first >>= λ x. times one n x.1 >>= λ others. Ok (x.0 ∷ others.0, others.1)

-- whatever is made of an item, the cursor after it is the same
one_made : {A : Type 0} (made : Item → A) (n : ℕ) (first : Reads Item)
    → ((d : Cursor) → behind (times (made_at made) n d) ≡ behind (times item_at n d))
    → behind (and_others (made_at made) n (made_of made first)) ≡ behind (and_others item_at n first)
one_made made n (Ok x) others =
    behind_more (made x.0) (times (made_at made) n x.1) ∙ others x.1 ∙ sym (behind_more x.0 (times item_at n x.1))
one_made made n (Err e) others = refl

times_made : {A : Type 0} (made : Item → A) (n : ℕ) (c : Cursor)
    → behind (times (made_at made) n c) ≡ behind (times item_at n c)
unfolding times
times_made made zero c = refl
times_made made (suc n) c = one_made made n (item_at c) (λ d. times_made made n d)

counted_made : {A : Type 0} (made : Item → A) (count : Reads ℕ)
    → behind (count >>= λ x. times (made_at made) x.0 x.1) ≡ behind (count >>= λ x. times item_at x.0 x.1)
counted_made made (Ok x) = times_made made x.0 x.1
counted_made made (Err e) = refl

list_made : {A : Type 0} (made : Item → A) (c : Cursor)
    → behind (list_at (made_at made) c) ≡ behind (list_at item_at c)
unfolding list_at
list_made made c = counted_made made (count_at c)

-- ---- for callers

read_there : {A : Type 0} (reading : Reads (List A)) (d : Cursor) → behind reading ≡ Ok d
    → reading ≡ Ok (read_or_none reading, d)
read_there (Ok x) d e = ap (λ (y : Cursor). Ok (x.0, y)) (ok_is x.1 d e)
read_there (Err f) d e = absurd cc

refused_there : {A : Type 0} (reading : Reads (List A)) (f : CdrFault) → behind reading ≡ Err f → reading ≡ Err f
refused_there (Ok x) f e = absurd cc
refused_there (Err g) f e = let same : g ≡ f = cc in ap Err same

-- what was passed is the list there, whatever is made of its items
pub passed_list : {A : Type 0} (made : Item → A) (c d : Cursor) → behind (list_at item_at c) ≡ Ok d
    → list_at (made_at made) c ≡ Ok (listed made c, d)
passed_list made c d e = read_there (list_at (made_at made) c) d (list_made made c ∙ e)

pub refused_list : {A : Type 0} (made : Item → A) (c : Cursor) (f : CdrFault) → behind (list_at item_at c) ≡ Err f
    → list_at (made_at made) c ≡ Err f
refused_list made c f e = refused_there (list_at (made_at made) c) f (list_made made c ∙ e)
