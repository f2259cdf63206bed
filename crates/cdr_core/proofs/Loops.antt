-- Values that a loop reads or puts one after the other.
use Rattle.std.proofs.Common.{◌≡◌, ℕ, zero, suc, ◌-◌, ◌+◌, ◌≤◌, ◌<◌, List, [], ◌∷◌, ◌++◌, length, take, drop, get_or, Ok, Err, refl, sym, ap, subst, ◌∙◌}
use Rattle.std.proofs.Common.{append_assoc, add-one, arith}
use Rattle.std.specs.List.{AllByRecursion, flat_map}
use Rattle.std.specs.Int.{w8}
use Rattle.std.proofs.Math.Seq.{take-suc, take-length}
use Rattle.std.proofs.lemmas.List.{append-nil, take-append-drop}
use Rattle.std.proofs.lemmas.List.Concat.{flat_map-cons}
use Rattle.std.proofs.lemmas.Grind.{flat_map-append}
use Rattle.orb_base.specs.declared.no_memory.NoMemory.{NoMemory}
use Rattle.orb_base.specs.declared.order.Order.{Order}
use Rattle.orb_base.specs.declared.order.Order.TheVariants.{Big, Little}
use Rattle.std.specs.Prelude.{Option, Some, None}
use Rattle.cdr_core.specs.Answers.{FailsWith}
use Rattle.cdr_core.specs.Cursor.{Cursor}
use Rattle.cdr_core.specs.Encapsulation.{order_byte, encapsulation}
use Rattle.cdr_core.specs.Field.{Field, number, number_bytes}
use Rattle.cdr_core.specs.Writing.{Page, page, written, HasFront}
use Rattle.cdr_core.specs.Sequence.{Parsed, ◌>>=◌, times}
use Rattle.cdr_core.proofs.Pages.{written-then, puts_then, puts_first}

-- ---- readings

-- what was read before, and what is still read
abbrev pub with_front : {E A : Type 0} → List A → Parsed E (List A) → Parsed E (List A)
with_front front reading = reading >>= λ x. Ok (front ++ x.0, x.1)

regroup : {E A : Type 0} (front : List A) (a : A) (reading : Parsed E (List A))
    → with_front front (reading >>= λ x. Ok (a ∷ x.0, x.1)) ≡ with_front (front ++ a ∷ []) reading
regroup {E} {A} front a (Ok x) = ap (λ (xs : List A). Ok (xs, x.1)) (simp append_assoc)
regroup front a (Err f) = refl

pub goes_on : {E A : Type 0} (one : Cursor → Parsed E A) (front : List A) (count i : ℕ) (c : Cursor) (a : A) (d : Cursor)
    (total : Parsed E (List A)) → i < count → one c ≡ Ok (a, d)
    → with_front front (times one (count - i) c) ≡ total
    → with_front (front ++ a ∷ []) (times one (count - (i + 1)) d) ≡ total
unfolding times
goes_on {E} {A} one front count i c a d total lt h so_far =
    let k : count - i ≡ suc (count - (i + 1)) = omega arith in
    let next : Parsed E (List A) = with_front (front ++ a ∷ []) (times one (count - (i + 1)) d) in
    let step : with_front front (times one (count - i) c) ≡ next =
    rw (k, h) (regroup front a (times one (count - (i + 1)) d)) in
    sym step ∙ so_far

pub ends : {E A : Type 0} (one : Cursor → Parsed E A) (e : E) (front : List A) (count i : ℕ) (c : Cursor)
    (total : Parsed E (List A)) → i < count → one c ≡ Err e
    → with_front front (times one (count - i) c) ≡ total → total ≡ Err e
unfolding times
ends one e front count i c total lt h so_far =
    let k : count - i ≡ suc (count - (i + 1)) = omega arith in
    let step : with_front front (times one (count - i) c) ≡ Err e = rw (k, h) refl in
    sym so_far ∙ step

-- the same of an error that may be no fault
pub ends_with : {F A : Type 0} (one : Cursor → Parsed F A) (f : Option F) (front : List A) (count i : ℕ) (c : Cursor)
    (total : Parsed F (List A)) → i < count → FailsWith f (one c)
    → with_front front (times one (count - i) c) ≡ total → FailsWith f total
ends_with one (Some f) front count i c total lt h so_far = ends one f front count i c total lt h so_far
ends_with one None front count i c total lt h so_far = tt

pub is_done : {E A : Type 0} (one : Cursor → Parsed E A) (front : List A) (count i : ℕ) (c : Cursor)
    (total : Parsed E (List A)) → count ≤ i → with_front front (times one (count - i) c) ≡ total
    → total ≡ Ok (front, c)
unfolding times
is_done {E} {A} one front count i c total le so_far =
    let k : count - i ≡ 0 = omega arith in
    let step : with_front front (times one (count - i) c) ≡ Ok (front, c) =
    rw k (ap (λ (xs : List A). Ok (xs, c)) (append-nil front)) in
    sym so_far ∙ step

-- ---- lists, item by item

-- one item more
pub one_more : {X : Type 0} (xs : List X) (i : ℕ) (x : X) → i < length xs → x ≡ get_or xs i x
    → take (i + 1) xs ≡ take i xs ++ x ∷ []
one_more {X} xs i x h is =
    let whole : take (i + 1) xs ≡ take i xs ++ get_or xs i x ∷ [] = rw add-one (take-suc xs i x h) in
    whole ∙ ap (λ (y : X). take i xs ++ y ∷ []) (sym is)

-- what is before an item, and what is after it
pub around : {X : Type 0} (xs : List X) (i : ℕ) (x : X) → i < length xs → x ≡ get_or xs i x
    → xs ≡ take i xs ++ x ∷ drop (i + 1) xs
around {X} xs i x h is =
    sym (take-append-drop (i + 1) xs)
    ∙ ap (λ (ys : List X). ys ++ drop (i + 1) xs) (one_more xs i x h is)
    ∙ append_assoc (take i xs) (x ∷ []) (drop (i + 1) xs)

pub all_of : {X : Type 0} (xs : List X) (i : ℕ) → length xs ≤ i → i ≤ length xs → take i xs ≡ xs
all_of {X} xs i a b =
    let same : i ≡ length xs = omega arith in
    ap (λ (n : ℕ). take n xs) same ∙ take-length xs

-- what holds of each item holds of the one at an index
pub each_at : {X : Type 0} (P : X → Type 0) (xs : List X) (i : ℕ) (x : X) → i < length xs → x ≡ get_or xs i x
    → AllByRecursion P xs → P x
each_at P [] i x h is all = absurd (omega arith)
each_at P (y ∷ xs) zero x h is all = subst P (sym is) all.0
each_at P (y ∷ xs) (suc i) x h is all = each_at P xs i x (omega arith) is all.1

-- ---- pages

pub written_none : (p : Page) → p ≡ written p []
unfolding written
written_none p = ap (λ (x : List ℕ). page p.order p.place x) (sym (append-nil p.bytes))

pub written_both : (old mid new : Page) (a b : List Field) → mid ≡ written old a → new ≡ written mid b
    → new ≡ written old (a ++ b)
written_both old mid new a b e f = f ∙ ap (λ (p : Page). written p b) e ∙ written-then old a b

pub front_then : (e : NoMemory) (old mid new : Page) (a b rest : List Field) → mid ≡ written old a → HasFront mid new b
    → HasFront old new (a ++ b ++ rest)
front_then e old mid new a b rest m h = puts_first old new (a ++ b) rest (puts_then (Err e) old mid new a b m h)

pub fields_more : {X : Type 0} (f : X → List Field) (xs : List X) (i : ℕ) (x : X) → i < length xs → x ≡ get_or xs i x
    → flat_map f (take (i + 1) xs) ≡ flat_map f (take i xs) ++ f x
fields_more {X} f xs i x h is =
    ap (λ (ys : List X). flat_map f ys) (one_more xs i x h is)
    ∙ flat_map-append f (take i xs) (x ∷ [])
    ∙ ap (λ (fs : List Field). flat_map f (take i xs) ++ fs) (append-nil (f x))

pub fields_around : {X : Type 0} (f : X → List Field) (xs : List X) (i : ℕ) (x : X) → i < length xs → x ≡ get_or xs i x
    → flat_map f xs ≡ flat_map f (take i xs) ++ f x ++ flat_map f (drop (i + 1) xs)
fields_around {X} f xs i x h is =
    let rest : List X = drop (i + 1) xs in
    ap (λ (ys : List X). flat_map f ys) (around xs i x h is)
    ∙ flat_map-append f (take i xs) (x ∷ rest)
    ∙ ap (λ (fs : List Field). flat_map f (take i xs) ++ fs) (flat_map-cons f x rest)
    ∙ sym (append_assoc (flat_map f (take i xs)) (f x) (flat_map f rest))

pub list_next : {X : Type 0} (f : X → List Field) (old mid new : Page) (xs : List X) (i : ℕ) (x : X) → i < length xs
    → x ≡ get_or xs i x
    → mid ≡ written old (flat_map f (take i xs)) → new ≡ written mid (f x) → new
    ≡ written old (flat_map f (take (i + 1) xs))
list_next f old mid new xs i x h is m n =
    written_both old mid new (flat_map f (take i xs)) (f x) m n
    ∙ ap (λ (fs : List Field). written old fs) (sym (fields_more f xs i x h is))

pub list_front : {X : Type 0} (f : X → List Field) (e : NoMemory) (old mid new : Page) (xs : List X) (i : ℕ) (x : X)
    → i < length xs → x ≡ get_or xs i x
    → mid ≡ written old (flat_map f (take i xs)) → HasFront mid new (f x) → HasFront old new (flat_map f xs)
list_front f e old mid new xs i x h is m n =
    let P : List Field → Type 0 = λ fs. HasFront old new fs in
    subst P (sym (fields_around f xs i x h is))
    (front_then e old mid new (flat_map f (take i xs)) (f x) (flat_map f (drop (i + 1) xs)) m n)

pub list_done : {X : Type 0} (f : X → List Field) (old new : Page) (xs : List X) (i : ℕ) → length xs ≤ i → i ≤ length xs
    → new ≡ written old (flat_map f (take i xs)) → new ≡ written old (flat_map f xs)
list_done {X} f old new xs i low high e = e ∙ ap (λ (ys : List X). written old (flat_map f ys)) (all_of xs i low high)

order_first : (order : Order) → number_bytes order w8 (order_byte order) ≡ order_byte order ∷ []
unfolding number_bytes
order_first Big = refl
order_first Little = refl

-- fields put after the order byte, on an empty page, are their encapsulation
pub encapsulated : (order : Order) (empty begun new : Page) (fields : List Field) → empty ≡ page order 0 []
    → begun ≡ written empty (number w8 (order_byte order) ∷ []) → new ≡ written begun fields
    → new.bytes ≡ encapsulation order fields
unfolding written
encapsulated order empty begun new fields e b n =
    ap (λ (p : Page). p.bytes) (written_both empty begun new (number w8 (order_byte order) ∷ []) fields b n)
    ∙ ap (λ (p : Page). (written p (number w8 (order_byte order) ∷ fields)).bytes) e
    ∙ rw (order_first order) refl
