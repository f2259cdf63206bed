-- One more part after those so far.
use Rattle.std.proofs.Common.{◌≡◌, ◌<◌, ℕ, suc, ◌==◌, false, List, [], ◌∷◌, ◌++◌, length, refl, sym, ap, arith}
use Rattle.std.proofs.lemmas.Bool.{eqb-false, ne_eqb}
use Rattle.script_values.specs.Trees as run
use Rattle.script_checks.specs.Built.{is_given}
use Rattle.script_laws.specs.Kinds.{Every}
use Rattle.script_laws.proofs.Checks.{both_false}
use Rattle.script_laws.proofs.Holes.{Distinct}

pub every_snoc : {A : Type 0} (P : A → Type 0) (xs : List A) (x : A) → Every P xs → P x → Every P (xs ++ x ∷ [])
every_snoc P [] x h g = (g, tt)
every_snoc P (y ∷ ys) x h g = (h.0, every_snoc P ys x h.1 g)

pub every_weaker : {A : Type 0} (P Q : A → Type 0) (xs : List A) → ((x : A) → P x → Q x) → Every P xs → Every Q xs
every_weaker P Q [] f h = tt
every_weaker P Q (x ∷ xs) f h = (f x h.0, every_weaker P Q xs f h.1)

given_snoc : (qs : List run.Part) (q : run.Part) (n : ℕ) → is_given qs n ≡ false → (q.0 == n) ≡ false → is_given (qs ++ q ∷ []) n ≡ false
given_snoc [] q n h g = rw g refl
given_snoc (r ∷ qs) q n h g = let b = both_false (r.0 == n) (is_given qs n) h in rw b.0 (given_snoc qs q n b.1 g)

pub distinct_snoc : (qs : List run.Part) (q : run.Part) → Distinct qs → is_given qs q.0 ≡ false → Distinct (qs ++ q ∷ [])
distinct_snoc [] q h new = (refl, tt)
distinct_snoc (r ∷ qs) q h new =
    let b = both_false (r.0 == q.0) (is_given qs q.0) new in
    let other : (q.0 == r.0) ≡ false = ne_eqb q.0 r.0 (λ e. eqb-false r.0 q.0 b.0 (sym e)) in
    (given_snoc qs q r.0 h.0 other, distinct_snoc qs q h.1 b.1)

pub new_behind : (qs : List run.Part) (n : ℕ) → Every (λ (q : run.Part). q.0 < n) qs → is_given qs n ≡ false
new_behind [] n h = refl
new_behind (q ∷ qs) n h =
    let l = h.0 in
    let other : (q.0 == n) ≡ false = ne_eqb q.0 n (λ e. omega (arith, e, l)) in
    rw other (new_behind qs n h.1)

pub snoc_long : {A : Type 0} (xs : List A) (x : A) → length (xs ++ x ∷ []) ≡ suc (length xs)
snoc_long [] x = refl
snoc_long (y ∷ ys) x = ap suc (snoc_long ys x)
