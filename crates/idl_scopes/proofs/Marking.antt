-- Marks, and the numbers that are new.
use Rattle.std.proofs.Common.{◌≡◌, ◌≤◌, ◌+◌, ◌<◌, ℕ, Bool, true, false, not, ◌||◌, List, [], ◌∷◌, ◌++◌, length, drop, refl, sym, ap, ◌∙◌, eqb-true}
use Rattle.std.specs.Prelude.{◌==◌, if◌then◌else◌}
use Rattle.std.specs.List.{slice_index_or, list_any}
use Rattle.std.proofs.lemmas.List.{append-nil, at_drop_more, drop_all}
use Rattle.std.proofs.lemmas.List.Folds.{list_any-append}
use Rattle.idl_scopes.specs.Each.{has, and_new, and_each}
use Rattle.idl_scopes.proofs.SharedParts.{joins}

turned : (a b c : Bool) → ((a || b) || c) ≡ (b || (a || c))
turned true true c = refl
turned true false c = refl
turned false true c = refl
turned false false c = refl

or_none : (a : Bool) → (a || false) ≡ a
or_none true = refl
or_none false = refl

is_not : (a b : Bool) → b ≡ not a → b ≡ true → a ≡ false
is_not true b e h = absurd cc
is_not false b e h = refl

is_so : (a b : Bool) → b ≡ not a → b ≡ false → a ≡ true
is_so true b e h = refl
is_so false b e h = absurd cc

-- marks of a list, as far as a loop has come
pub marked_next : (numbers : List ℕ) (i n x : ℕ) (old new total : Bool) → i < length numbers → slice_index_or numbers i 0 ≡ x → new ≡ ((n == x) || old)
    → (old || has (drop i numbers) n) ≡ total → (new || has (drop (i + 1) numbers) n) ≡ total
marked_next numbers i n x old new total lt is set reached =
    ap (λ b. b || has (drop (i + 1) numbers) n) set
    ∙ turned (n == x) old (has (drop (i + 1) numbers) n)
    ∙ ap (λ y. old || ((n == y) || has (drop (i + 1) numbers) n)) (sym is)
    ∙ ap (λ b. old || b) (sym (at_drop_more (λ (ys : List ℕ). has ys n) numbers i 0 lt))
    ∙ reached

pub marked_end : (numbers : List ℕ) (i n : ℕ) (old total : Bool) → length numbers ≤ i → (old || has (drop i numbers) n) ≡ total → old ≡ total
marked_end numbers i n old total le reached = sym (or_none old) ∙ ap (λ (ys : List ℕ). old || has ys n) (sym (drop_all i numbers le)) ∙ reached

-- a new number is marked with the others
pub marked_new : (before items next : List ℕ) (n x : ℕ) (old new : Bool) → next ≡ items ++ x ∷ [] → new ≡ ((n == x) || old) → old ≡ has (before ++ items) n → new ≡ has (before ++ next) n
marked_new before items next n x old new put set is =
    set
    ∙ ap (λ b. (n == x) || b) (is ∙ list_any-append (λ y. n == y) before items)
    ∙ shuffled (n == x) (has before n) (has items n)
    ∙ sym (ap (λ b. has before n || b) (list_any-append (λ y. n == y) items (x ∷ [])))
    ∙ sym (list_any-append (λ y. n == y) before (items ++ x ∷ []))
    ∙ ap (λ (ys : List ℕ). has (before ++ ys) n) (sym put)
  where
    shuffled : (a b c : Bool) → (a || (b || c)) ≡ (b || (c || (a || false)))
    shuffled true true c = refl
    shuffled true false true = refl
    shuffled true false false = refl
    shuffled false b true = refl
    shuffled false b false = refl

-- a number that was marked leaves the marks as they were
pub marked_twice : (m : ℕ → Bool) (xs : List ℕ) (x n : ℕ) (new : Bool) → ((k : ℕ) → m k ≡ has xs k) → m x ≡ true → new ≡ ((n == x) || m n) → new ≡ has xs n
marked_twice m xs x n new are there set = set ∙ by (n == x) refl ∙ are n
  where
    by : (b : Bool) → (n == x) ≡ b → ((n == x) || m n) ≡ m n
    by true e = ap (λ b. b || m n) e ∙ sym (ap m (eqb-true n x e) ∙ there)
    by false e = ap (λ b. b || m n) e

module _ (before several : List ℕ) where
  -- one number after the new ones
  pub each_new : (items next : List ℕ) (i x : ℕ) (m b : Bool) (total : List ℕ) → i < length several → slice_index_or several i 0 ≡ x → m ≡ has (before ++ items) x → b ≡ not m → b ≡ true → next ≡ items ++ x ∷ []
      → and_each (before ++ items) (drop i several) ≡ total → and_each (before ++ next) (drop (i + 1) several) ≡ total
  each_new items next i x m b total lt is has said new put reached =
      ap (λ (ys : List ℕ). and_each (before ++ ys) (drop (i + 1) several)) put
      ∙ ap (λ (ys : List ℕ). and_each ys (drop (i + 1) several)) (sym (joins before items (x ∷ [])))
      ∙ ap (λ c. and_each (if c then before ++ items else (before ++ items) ++ x ∷ []) (drop (i + 1) several)) (sym (sym has ∙ is_not m b said new))
      ∙ ap (λ y. and_each (and_new (before ++ items) y) (drop (i + 1) several)) (sym is)
      ∙ sym (at_drop_more (and_each (before ++ items)) several i 0 lt)
      ∙ reached

  -- one that is there already
  pub each_old : (items : List ℕ) (i x : ℕ) (m b : Bool) (total : List ℕ) → i < length several → slice_index_or several i 0 ≡ x → m ≡ has (before ++ items) x → b ≡ not m → b ≡ false
      → and_each (before ++ items) (drop i several) ≡ total → and_each (before ++ items) (drop (i + 1) several) ≡ total
  each_old items i x m b total lt is has said old reached =
      ap (λ c. and_each (if c then before ++ items else (before ++ items) ++ x ∷ []) (drop (i + 1) several)) (sym (sym has ∙ is_so m b said old))
      ∙ ap (λ y. and_each (and_new (before ++ items) y) (drop (i + 1) several)) (sym is)
      ∙ sym (at_drop_more (and_each (before ++ items)) several i 0 lt)
      ∙ reached

  pub each_end : (items : List ℕ) (i : ℕ) → length several ≤ i → and_each (before ++ items) (drop i several) ≡ and_each before several → and_each before several ≡ before ++ items
  each_end items i le reached = sym reached ∙ ap (and_each (before ++ items)) (drop_all i several le)

  -- all are new so far
  pub all_next : (items next : List ℕ) (i x : ℕ) → i < length several → slice_index_or several i 0 ≡ x → next ≡ items ++ x ∷ [] → items ++ drop i several ≡ several → next ++ drop (i + 1) several ≡ several
  all_next items next i x lt is put reached =
      ap (λ (ys : List ℕ). ys ++ drop (i + 1) several) put
      ∙ joins items (x ∷ []) (drop (i + 1) several)
      ∙ ap (λ y. items ++ (y ∷ drop (i + 1) several)) (sym is)
      ∙ ap (λ (ys : List ℕ). items ++ ys) (sym (at_drop_more (λ (ys : List ℕ). ys) several i 0 lt))
      ∙ reached

  pub all_end : (items : List ℕ) (i : ℕ) → length several ≤ i → items ++ drop i several ≡ several → items ≡ several
  all_end items i le reached = sym (append-nil items) ∙ ap (λ (ys : List ℕ). items ++ ys) (sym (drop_all i several le)) ∙ reached
