-- How many contexts the list has that a reader is at, and a line in parts.
use Rattle.std.proofs.Common.{◌≡◌, ℕ, zero, suc, List, ◌∷◌, ◌++◌, length, Ok, Err, IsOk, refl, ap, sym, subst, append_assoc, ◌∙◌}
use Rattle.orb_base.specs.Tagged.{Context}
use Rattle.cdr_core.specs.declared.fault.CdrFault.{CdrFault}
use Rattle.cdr_core.specs.Cursor.{Cursor, Reads}
use Rattle.cdr_core.specs.Reading.{count_at}
use Rattle.cdr_core.specs.Sequence.{◌>>=◌, times}
use Rattle.cdr_core.specs.Lists.{made_at, list_at, context_of, read_or_none, listed, IsAtList}

-- a value before what is read
abbrev with_first : {A : Type 0} → A → Reads (List A) → Reads (List A)
with_first a r = r >>= λ x. Ok (a ∷ x.0, x.1)

one_more : {A : Type 0} (a : A) (n : ℕ) (r : Reads (List A)) → (IsOk r → length (read_or_none r) ≡ n) → IsOk (with_first a r)
    → length (read_or_none (with_first a r)) ≡ suc n
one_more a n (Ok x) h k = ap suc (h refl)
one_more a n (Err e) h k = absurd cc

-- a value, and so many after it
abbrev with_others : {A : Type 0} → (Cursor → Reads A) → ℕ → Reads A → Reads (List A)
with_others one n r = r >>= λ f. with_first f.0 (times one n f.1)

first_and : {A : Type 0} (one : Cursor → Reads A) (n : ℕ) (r : Reads A)
    → ((d : Cursor) → IsOk (times one n d) → length (read_or_none (times one n d)) ≡ n)
    → IsOk (with_others one n r) → length (read_or_none (with_others one n r)) ≡ suc n
first_and one n (Ok f) h k = one_more f.0 n (times one n f.1) (h f.1) k
first_and one n (Err e) h k = absurd cc

so_many : {A : Type 0} (one : Cursor → Reads A) (n : ℕ) (c : Cursor) → IsOk (times one n c) → length (read_or_none (times one n c)) ≡ n
unfolding times
so_many one zero c k = refl
so_many one (suc n) c k = first_and one n (one c) (so_many one n) k

counted_list : (c : Cursor) (n : ℕ) (d : Cursor) → count_at c ≡ Ok (n, d) → list_at (made_at context_of) c ≡ times (made_at context_of) n d
unfolding list_at
counted_list c n d e = ap (λ (r : Reads ℕ). r >>= λ x. times (made_at context_of) x.0 x.1) e

no_list : (c : Cursor) (f : CdrFault) → count_at c ≡ Err f → list_at (made_at context_of) c ≡ Err f
unfolding list_at
no_list c f e = ap (λ (r : Reads ℕ). r >>= λ x. times (made_at context_of) x.0 x.1) e

pub counted : (list c : Cursor) (n : ℕ) (d : Cursor) → c ≡ list → count_at c ≡ Ok (n, d) → IsAtList context_of list → n ≡ length (listed context_of list)
counted list c n d same e there =
    let reads : list_at (made_at context_of) list ≡ times (made_at context_of) n d =
    ap (λ (x : Cursor). list_at (made_at context_of) x) (sym same) ∙ counted_list c n d e in
    let ok : IsOk (times (made_at context_of) n d) = subst (λ (r : Reads (List Context)). IsOk r) reads there in
    sym (ap (λ (r : Reads (List Context)). length (read_or_none r)) reads ∙ so_many (made_at context_of) n d ok)

pub uncounted : (list c : Cursor) (f : CdrFault) → c ≡ list → count_at c ≡ Err f → 0 ≡ length (listed context_of list)
uncounted list c f same e =
    sym (ap (λ (r : Reads (List Context)). length (read_or_none r)) (ap (λ (x : Cursor). list_at (made_at context_of) x) (sym same) ∙ no_list c f e))

-- a line that is put in three parts
pub put_in_parts : (t u v w head fields end : List ℕ) → u ≡ t ++ head → v ≡ u ++ fields → w ≡ v ++ end → w ≡ t ++ (head ++ (fields ++ end))
put_in_parts t u v w head fields end hu hv hw =
    hw ∙ ap (λ (x : List ℕ). x ++ end) (hv ∙ ap (λ (x : List ℕ). x ++ fields) hu)
    ∙ append_assoc (t ++ head) fields end ∙ append_assoc t head (fields ++ end)
