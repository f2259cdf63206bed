-- Where the unfinished message of an id is, and what leaves the other ones alone.
use Rattle.std.proofs.Common.{◌≡◌, ℕ, suc, ◌+◌, ◌<◌, Bool, true, false, cond, not, ◌==◌, List, [], ◌∷◌, ◌++◌, length, Option, Some, None, refl, ap, sym, ◌∙◌, arith, map, filter, nat_lt, subst}
use Rattle.std.specs.List.{position, position_or_len}
use Rattle.giop_frames.specs.Messages.{Partial, open_at}
use Rattle.giop_frames.specs.Steps.{Found, Placed, IsDistinct}

abbrev pub same : ℕ → Partial → Bool
same id u = u.id == id

-- the first is not of the id, nor are the others
pub none_first : (b : Bool) (u : Partial) (o : Option Partial) → cond b (Some u) o ≡ None → (b ≡ false) × (o ≡ None)
none_first true u o h = absurd (cc)
none_first false u o h = (refl, h)

found_first : (id : ℕ) (u : Partial) (us : List Partial) (b : Bool) (n : ℕ) → same id u ≡ b
    → cond (not b) (1 + n) 0 < length (u ∷ us) → (n < length us → Found id us n) → Found id (u ∷ us) (cond (not b) (1 + n) 0)
found_first id u us true n e lt rec = record { front = []; there = u; back = us; parts = refl; place = refl; same = e; before = refl }
found_first id u us false n e lt rec =
    let f : Found id us n = rec (omega arith) in
    record {
      front = u ∷ f.front;
      there = f.there;
      back = f.back;
      parts = ap (λ (vs : List Partial). u ∷ vs) f.parts;
      place = omega (arith, f.place);
      same = f.same;
      before = ap (λ (b : Bool). cond b (Some u) (open_at id f.front)) e ∙ f.before;
    }

found_at : (id : ℕ) (us : List Partial) → position_or_len (same id) us < length us → Found id us (position_or_len (same id) us)
found_at id [] lt = absurd (omega arith)
found_at id (u ∷ us) lt = found_first id u us (same id u) (position_or_len (same id) us) refl lt (found_at id us)

below_tail : (n m : ℕ) → nat_lt (1 + n) (1 + m) ≡ false → nat_lt n m ≡ false
below_tail n m h = grind arith

zero_below : (m : ℕ) → nat_lt 0 (1 + m) ≡ false → ⊥
zero_below m h = grind arith

none_step : (id : ℕ) (u : Partial) (us : List Partial) (b : Bool) (n : ℕ) → same id u ≡ b
    → nat_lt (cond (not b) (1 + n) 0) (1 + length us) ≡ false → (nat_lt n (length us) ≡ false → open_at id us ≡ None) → open_at id (u ∷ us) ≡ None
none_step id u us true n e h rec = absurd (zero_below (length us) h)
none_step id u us false n e h rec = ap (λ (b : Bool). cond b (Some u) (open_at id us)) e ∙ rec (below_tail n (length us) h)

suc_length : (n m : ℕ) → nat_lt n (suc m) ≡ false → nat_lt n (1 + m) ≡ false
suc_length n m h = grind arith

none_at : (id : ℕ) (us : List Partial) → nat_lt (position_or_len (same id) us) (length us) ≡ false → open_at id us ≡ None
none_at id [] h = refl
none_at id (u ∷ us) h = none_step id u us (same id u) (position_or_len (same id) us) refl (suc_length (cond (not (same id u)) (1 + position_or_len (same id) us) 0) (length us) h) (none_at id us)

lt_of : (n m : ℕ) → nat_lt n m ≡ true → n < m
lt_of n m h = grind arith

placed_by : (id : ℕ) (us : List Partial) (b : Bool) → nat_lt (position_or_len (same id) us) (length us) ≡ b
    → Placed id us (cond b (Some (position_or_len (same id) us)) None)
placed_by id us true e = found_at id us (lt_of _ _ e)
placed_by id us false e = none_at id us e

pub placed : (id : ℕ) (us : List Partial) (o : Option ℕ) → o ≡ position (λ u. u.id == id) us → Placed id us o
placed id us o is =
    let P : Option ℕ → Type 0 = λ x. Placed id us x in
    subst P (sym is) (placed_by id us (nat_lt (position_or_len (same id) us) (length us)) refl)

-- after the unfinished message of an id there is no other one of it
pub after_none : (front : List Partial) (there : Partial) (back : List Partial) → IsDistinct (front ++ there ∷ back) → open_at there.id back ≡ None
after_none [] there back d = d.0
after_none (u ∷ front) there back d = after_none front there back d.1

-- what leaves messages of other ids alone leaves them all
pub filter_quiet : (id : ℕ) (t : Partial → Bool) → ((u : Partial) → same id u ≡ false → t u ≡ false)
    → (us : List Partial) → open_at id us ≡ None → filter (λ u. not (t u)) us ≡ us
filter_quiet id t q [] h = refl
filter_quiet id t q (u ∷ us) h =
    let n : (same id u ≡ false) × (open_at id us ≡ None) = none_first (same id u) u (open_at id us) h in
    ap (λ (b : Bool). cond (not b) (u ∷ filter (λ u. not (t u)) us) (filter (λ u. not (t u)) us)) (q u n.0)
    ∙ ap (λ (vs : List Partial). u ∷ vs) (filter_quiet id t q us n.1)

pub map_quiet : (id : ℕ) (g : Partial → Partial) → ((u : Partial) → same id u ≡ false → g u ≡ u)
    → (us : List Partial) → open_at id us ≡ None → map g us ≡ us
map_quiet id g q [] h = refl
map_quiet id g q (u ∷ us) h =
    let n : (same id u ≡ false) × (open_at id us ≡ None) = none_first (same id u) u (open_at id us) h in
    ap (λ (v : Partial). v ∷ map g us) (q u n.0) ∙ ap (λ (vs : List Partial). u ∷ vs) (map_quiet id g q us n.1)

-- the first of the id is after others
pub open_behind : (id : ℕ) (front : List Partial) (there : Partial) (back : List Partial)
    → open_at id front ≡ None → same id there ≡ true → open_at id (front ++ there ∷ back) ≡ Some there
open_behind id [] there back h e = ap (λ (b : Bool). cond b (Some there) (open_at id back)) e
open_behind id (u ∷ front) there back h e =
    let n : (same id u ≡ false) × (open_at id front ≡ None) = none_first (same id u) u (open_at id front) h in
    ap (λ (b : Bool). cond b (Some u) (open_at id (front ++ there ∷ back))) n.0 ∙ open_behind id front there back n.1 e
