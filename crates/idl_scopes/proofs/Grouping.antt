-- Numbers of keys, after one more.
use Rattle.std.proofs.Common.{◌≡◌, ℕ, zero, suc, Bool, true, false, ◌||◌, cond, List, [], ◌∷◌, ◌++◌, length, Option, Some, None, refl, sym, ap, ◌∙◌, subst, eq-eqb}
use Rattle.std.specs.Prelude.{Vec, slice_get, slice_set, ◌==◌}
use Rattle.std.specs.Cmp.{IsEquivalence}
use Rattle.std.specs.declared.alloc.Global.{Global}
use Rattle.std.proofs.lemmas.List.Folds.{list_any-append}
use Rattle.std.proofs.lemmas.Option.{none-some, same_Some}
use Rattle.indexmap.specs.IndexMap.{IndexMap, get, get_by}
use Rattle.idl_scopes.specs.Bases.{holds}
use Rattle.idl_scopes.specs.Groups.{items_of, listed}

or_true : (a b : Bool) → a ≡ true → (a || b) ≡ true
or_true true b e = refl
or_true false b e = absurd cc

or_second : (a b : Bool) → b ≡ true → (a || b) ≡ true
or_second true b e = refl
or_second false b e = e

pub holds_more : (xs ys : List ℕ) (n : ℕ) → holds xs n ≡ true → holds (xs ++ ys) n ≡ true
holds_more xs ys n h = list_any-append (λ s. s == n) xs ys ∙ or_true (holds xs n) (holds ys n) h

pub holds_last : (xs : List ℕ) (n : ℕ) → holds (xs ++ n ∷ []) n ≡ true
holds_last xs n = list_any-append (λ s. s == n) xs (n ∷ []) ∙ or_second (holds xs n) (holds (n ∷ []) n) (or_true (n == n) false (eq-eqb n n refl))

-- a list that has grown
grown : (lists : List (Vec ℕ Global)) (i j : ℕ) (v w : Vec ℕ Global) (n : ℕ) → slice_get lists i ≡ Some v → w.items ≡ v.items ++ n ∷ []
    → (m : ℕ) → holds (items_of (slice_get lists j)) m ≡ true → holds (items_of (slice_get (slice_set lists i w) j)) m ≡ true
grown [] i j v w n at is m h = absurd (none-some v at)
grown (x ∷ xs) zero zero v w n at is m h =
    subst (λ (ys : List ℕ). holds ys m ≡ true) (sym is) (holds_more v.items (n ∷ []) m (subst (λ (u : Vec ℕ Global). holds u.items m ≡ true) (same_Some x v at) h))
grown (x ∷ xs) zero (suc j) v w n at is m h = h
grown (x ∷ xs) (suc i) zero v w n at is m h = h
grown (x ∷ xs) (suc i) (suc j) v w n at is m h = grown xs i j v w n at is m h

pub kept_grown : (lists : List (Vec ℕ Global)) (i : ℕ) (o : Option ℕ) (v w : Vec ℕ Global) (n : ℕ) → slice_get lists i ≡ Some v → w.items ≡ v.items ++ n ∷ []
    → (m : ℕ) → holds (listed lists o) m ≡ true → holds (listed (slice_set lists i w) o) m ≡ true
kept_grown lists i None v w n at is m h = absurd cc
kept_grown lists i (Some j) v w n at is m h = grown lists i j v w n at is m h

there : (lists : List (Vec ℕ Global)) (i : ℕ) (v w : Vec ℕ Global) → slice_get lists i ≡ Some v → slice_get (slice_set lists i w) i ≡ Some w
there [] i v w at = absurd (none-some v at)
there (x ∷ xs) zero v w at = refl
there (x ∷ xs) (suc i) v w at = there xs i v w at

pub put_grown : (lists : List (Vec ℕ Global)) (i : ℕ) (v w : Vec ℕ Global) (n : ℕ) → slice_get lists i ≡ Some v → w.items ≡ v.items ++ n ∷ [] → holds (listed (slice_set lists i w) (Some i)) n ≡ true
put_grown lists i v w n at is =
    subst (λ (o : Option (Vec ℕ Global)). holds (items_of o) n ≡ true) (sym (there lists i v w at)) (subst (λ (ys : List ℕ). holds ys n ≡ true) (sym is) (holds_last v.items n))

-- one more list
longer : (lists : List (Vec ℕ Global)) (v : Vec ℕ Global) (j m : ℕ) → holds (items_of (slice_get lists j)) m ≡ true → holds (items_of (slice_get (lists ++ v ∷ []) j)) m ≡ true
longer [] v j m h = absurd cc
longer (x ∷ xs) v zero m h = h
longer (x ∷ xs) v (suc j) m h = longer xs v j m h

pub kept_longer : (lists : List (Vec ℕ Global)) (v : Vec ℕ Global) (o : Option ℕ) (m : ℕ) → holds (listed lists o) m ≡ true → holds (listed (lists ++ v ∷ []) o) m ≡ true
kept_longer lists v None m h = absurd cc
kept_longer lists v (Some j) m h = longer lists v j m h

pub put_longer : (lists : List (Vec ℕ Global)) (v : Vec ℕ Global) (n : ℕ) → v.items ≡ n ∷ [] → holds (listed (lists ++ v ∷ []) (Some (length lists))) n ≡ true
put_longer [] v n is = subst (λ (ys : List ℕ). holds ys n ≡ true) (sym is) (or_true (n == n) false (eq-eqb n n refl))
put_longer (x ∷ xs) v n is = put_longer xs v n is

module _ {K S : Type 0} (eq : K → K → Bool) (laws : IsEquivalence eq) (m m' : IndexMap K ℕ S) (lists : List (Vec ℕ Global)) (v : Vec ℕ Global) (key : K) (at : ℕ)
    (updates : (q : K) → get eq m' q ≡ cond (eq key q) (Some at) (get eq m q)) where
  -- a key that had none has a list
  pub begun_kept : listed lists (get eq m key) ≡ [] → (k : K) (n : ℕ) → holds (listed lists (get eq m k)) n ≡ true → holds (listed (lists ++ v ∷ []) (get eq m' k)) n ≡ true
  begun_kept none k n h = by (eq key k) refl
    where
      by : (b : Bool) → eq key k ≡ b → holds (listed (lists ++ v ∷ []) (get eq m' k)) n ≡ true
      by true e =
          let same : get eq m k ≡ get eq m key = (λ j. get_by (λ x. sym (laws.congr key k x e) j) m) in
          absurd (subst (λ (ys : List ℕ). holds ys n ≡ true → ⊥) (sym none) (λ f. cc) (subst (λ (o : Option ℕ). holds (listed lists o) n ≡ true) same h))
      by false e =
          subst (λ (o : Option ℕ). holds (listed (lists ++ v ∷ []) o) n ≡ true) (sym (updates k ∙ ap (λ (b : Bool). cond b (Some at) (get eq m k)) e)) (kept_longer lists v (get eq m k) n h)

  pub begun_put : (n : ℕ) → v.items ≡ n ∷ [] → at ≡ length lists → holds (listed (lists ++ v ∷ []) (get eq m' key)) n ≡ true
  begun_put n is last =
      subst (λ (o : Option ℕ). holds (listed (lists ++ v ∷ []) o) n ≡ true)
      (sym (updates key ∙ ap (λ (b : Bool). cond b (Some at) (get eq m key)) (laws.refl key) ∙ ap Some last)) (put_longer lists v n is)
