-- What a search and a change come to at the place of a key.
use Rattle.std.proofs.Common.{◌≡◌, ℕ, zero, suc, ◌+◌, ◌<◌, ◌≤◌, Bool, true, false, List, [], ◌∷◌, ◌++◌, length, take, drop, slice_get, slice_set, insert, remove, bytes_eq, Option, Some, None, is_some, option_map, if◌then◌else◌, ap, sym, refl, subst, ◌∙◌, arith}
use Rattle.std.proofs.lemmas.Bool.{true≢false}
use Rattle.turn_cell.specs.Numbers.{Each}
use Rattle.name_map.specs.declared.binding.Binding.{Binding}
use Rattle.name_map.specs.Keys.{is_below, Below}
use Rattle.name_map.specs.Bindings.{binding, key_of, target_of, Rises, find, has, put, out, above}
use Rattle.name_map.specs.Places.{place, is_of, is_there, next_place}
use Rattle.name_map.proofs.Order.{below_trans, not_itself, not_back, else_above, below_differs, above_differs, same_key, key_itself}
use Rattle.name_map.proofs.Placing.{if_true, if_false}

-- what follows from a test, by its two cases
pub by_test : {P : Type 0} (b : Bool) → (b ≡ true → P) → (b ≡ false → P) → P
by_test true f g = f refl
by_test false f g = g refl

pub each_map : (P Q : Binding → Type 0) → ((b : Binding) → P b → Q b) → (bs : List Binding) → Each P bs → Each Q bs
each_map P Q f [] h = tt
each_map P Q f (b ∷ bs) h = (f b h.0, each_map P Q f bs h.1)

-- ---- a key below all others

-- isn't there
pub none_above : (key : List ℕ) (bs : List Binding) → Each (λ c. Below key c.key) bs → find key bs ≡ None
none_above key [] h = refl
none_above key (b ∷ bs) h = if_false (bytes_eq b.key key) (Some b.target) (find key bs) (above_differs b.key key h.0) ∙ none_above key bs h.1

-- isn't taken out
pub kept_above : (key : List ℕ) (bs : List Binding) → Each (λ c. Below key c.key) bs → out key bs ≡ bs
kept_above key [] h = refl
kept_above key (b ∷ bs) h = if_false (bytes_eq b.key key) (out key bs) (b ∷ out key bs) (above_differs b.key key h.0) ∙ ap (λ (z : List Binding). b ∷ z) (kept_above key bs h.1)

-- has the first one next
pub first_above : (key : List ℕ) (bs : List Binding) → Each (λ c. Below key c.key) bs → above key bs ≡ option_map key_of (slice_get bs 0)
first_above key [] h = refl
first_above key (b ∷ bs) h = if_true (is_below key b.key) (Some b.key) (above key bs) h.0

-- ---- at the place of a key

abbrev pub found_at : List ℕ → Option Binding → Option (List ℕ)
found_at key None = None
found_at key (Some b) = if bytes_eq b.key key then Some b.target else None

pub place_low : (key : List ℕ) (b : Binding) (bs : List Binding) → Below b.key key → place key (b ∷ bs) ≡ suc (place key bs)
place_low key b bs e = if_true (is_below b.key key) (suc (place key bs)) 0 e

pub place_high : (key : List ℕ) (b : Binding) (bs : List Binding) → is_below b.key key ≡ false → place key (b ∷ bs) ≡ 0
place_high key b bs e = if_false (is_below b.key key) (suc (place key bs)) 0 e

-- those after a binding that isn't below a key are above it
pub later_above : (key : List ℕ) (b : Binding) (bs : List Binding) → Each (λ c. Below b.key c.key) bs → is_below b.key key ≡ false → Each (λ c. Below key c.key) bs
later_above key b bs h e = by_test (bytes_eq b.key key)
    (λ s. subst (λ (k : List ℕ). Each (λ c. Below k c.key) bs) (same_key b.key key s) h)
    (λ d. each_map (λ c. Below b.key c.key) (λ c. Below key c.key) (λ c l. below_trans key b.key c.key (else_above b.key key e d) l) bs h)

find_low : (key : List ℕ) (b : Binding) (bs : List Binding) → Below b.key key → find key (b ∷ bs) ≡ find key bs
find_low key b bs e = if_false (bytes_eq b.key key) (Some b.target) (find key bs) (below_differs b.key key e)

-- what is found is what is at the place
pub find_is : (key : List ℕ) (bs : List Binding) → Rises bs → find key bs ≡ found_at key (slice_get bs (place key bs))
find_is key [] r = refl
find_is key (b ∷ bs) r = by_test (is_below b.key key)
    (λ e. find_low key b bs e ∙ find_is key bs r.1 ∙ ap (λ i. found_at key (slice_get (b ∷ bs) i)) (sym (place_low key b bs e)))
    (λ e. ap (λ (o : Option (List ℕ)). if bytes_eq b.key key then Some b.target else o) (none_above key bs (later_above key b bs r.0 e))
    ∙ ap (λ i. found_at key (slice_get (b ∷ bs) i)) (sym (place_high key b bs e)))

not_some : (o : Option (List ℕ)) → is_some o ≡ false → None ≡ o
not_some None e = refl
not_some (Some x) e = absurd (true≢false e)

found_is_of : (key : List ℕ) (o : Option Binding) → is_some (found_at key o) ≡ is_of key o
found_is_of key None = refl
found_is_of key (Some b) = by_test (bytes_eq b.key key) (λ e. ap is_some (if_true (bytes_eq b.key key) (Some b.target) None e) ∙ sym e) (λ e. ap is_some (if_false (bytes_eq b.key key) (Some b.target) None e) ∙ sym e)

-- a key is there exactly where it is at its place
pub has_is : (key : List ℕ) (bs : List Binding) → Rises bs → has key bs ≡ is_there key bs
has_is key bs r = ap is_some (find_is key bs r) ∙ found_is_of key (slice_get bs (place key bs))

-- by what is read at the place
pub has_at : (key : List ℕ) (bs : List Binding) (i : ℕ) (o : Option Binding) → Rises bs → i ≡ place key bs → o ≡ slice_get bs i → is_of key o ≡ has key bs
has_at key bs i o r p l = ap (is_of key) (l ∙ ap (slice_get bs) p) ∙ sym (has_is key bs r)

found_there : (key : List ℕ) (o : Option Binding) → is_of key o ≡ true → option_map target_of o ≡ found_at key o
found_there key None e = refl
found_there key (Some b) e = sym (if_true (bytes_eq b.key key) (Some b.target) None e)

pub find_at : (key : List ℕ) (bs : List Binding) (i : ℕ) (o : Option Binding) → Rises bs → i ≡ place key bs → true ≡ has key bs → o ≡ slice_get bs i → option_map target_of o ≡ find key bs
find_at key bs i o r p t l = found_there key o (has_at key bs i o r p l ∙ sym t) ∙ ap (found_at key) (l ∙ ap (slice_get bs) p) ∙ sym (find_is key bs r)

pub find_none : (key : List ℕ) (bs : List Binding) → false ≡ has key bs → None ≡ find key bs
find_none key bs t = not_some (find key bs) (sym t)

pub there_low : (key : List ℕ) (b : Binding) (bs : List Binding) → Below b.key key → is_there key (b ∷ bs) ≡ is_there key bs
there_low key b bs e = ap (λ i. is_of key (slice_get (b ∷ bs) i)) (place_low key b bs e)

pub there_high : (key : List ℕ) (b : Binding) (bs : List Binding) → is_below b.key key ≡ false → is_there key (b ∷ bs) ≡ bytes_eq b.key key
there_high key b bs e = ap (λ i. is_of key (slice_get (b ∷ bs) i)) (place_high key b bs e)

pub put_low : (key target : List ℕ) (b : Binding) (bs : List Binding) → Below b.key key → put key target (b ∷ bs) ≡ b ∷ put key target bs
put_low key target b bs e = if_true (is_below b.key key) (b ∷ put key target bs) (if bytes_eq b.key key then binding key target ∷ bs else binding key target ∷ b ∷ bs) e

pub put_high : (key target : List ℕ) (b : Binding) (bs : List Binding) → is_below b.key key ≡ false → put key target (b ∷ bs) ≡ (if bytes_eq b.key key then binding key target ∷ bs else binding key target ∷ b ∷ bs)
put_high key target b bs e = if_false (is_below b.key key) (b ∷ put key target bs) (if bytes_eq b.key key then binding key target ∷ bs else binding key target ∷ b ∷ bs) e

-- a new key goes into its place
pub put_new : (key target : List ℕ) (bs : List Binding) → is_there key bs ≡ false → insert bs (place key bs) (binding key target) ≡ put key target bs
put_new key target [] n = refl
put_new key target (b ∷ bs) n = by_test (is_below b.key key)
    (λ e. ap (λ i. insert (b ∷ bs) i (binding key target)) (place_low key b bs e) ∙ ap (λ (z : List Binding). b ∷ z) (put_new key target bs (sym (there_low key b bs e) ∙ n)) ∙ sym (put_low key target b bs e))
    (λ e. ap (λ i. insert (b ∷ bs) i (binding key target)) (place_high key b bs e)
    ∙ sym (put_high key target b bs e ∙ if_false (bytes_eq b.key key) (binding key target ∷ bs) (binding key target ∷ b ∷ bs) (sym (there_high key b bs e) ∙ n)))

-- an old key's binding is put in its place
pub put_old : (key target : List ℕ) (bs : List Binding) → is_there key bs ≡ true → slice_set bs (place key bs) (binding key target) ≡ put key target bs
put_old key target [] n = absurd (true≢false (sym n))
put_old key target (b ∷ bs) n = by_test (is_below b.key key)
    (λ e. ap (λ i. slice_set (b ∷ bs) i (binding key target)) (place_low key b bs e) ∙ ap (λ (z : List Binding). b ∷ z) (put_old key target bs (sym (there_low key b bs e) ∙ n)) ∙ sym (put_low key target b bs e))
    (λ e. ap (λ i. slice_set (b ∷ bs) i (binding key target)) (place_high key b bs e)
    ∙ sym (put_high key target b bs e ∙ if_true (bytes_eq b.key key) (binding key target ∷ bs) (binding key target ∷ b ∷ bs) (sym (there_high key b bs e) ∙ n)))

-- a key is taken out at its place
pub out_is : (key : List ℕ) (bs : List Binding) → Rises bs → is_there key bs ≡ true → remove bs (place key bs) ≡ out key bs
out_is key [] r n = absurd (true≢false (sym n))
out_is key (b ∷ bs) r n = by_test (is_below b.key key)
    (λ e. ap (remove (b ∷ bs)) (place_low key b bs e) ∙ ap (λ (z : List Binding). b ∷ z) (out_is key bs r.1 (sym (there_low key b bs e) ∙ n))
    ∙ sym (if_false (bytes_eq b.key key) (out key bs) (b ∷ out key bs) (below_differs b.key key e)))
    (λ e. ap (remove (b ∷ bs)) (place_high key b bs e) ∙ sym (if_true (bytes_eq b.key key) (out key bs) (b ∷ out key bs) (sym (there_high key b bs e) ∙ n) ∙ kept_above key bs (later_above key b bs r.0 e)))

-- ---- the next key

next_low : (key : List ℕ) (b : Binding) (bs : List Binding) → Below b.key key → next_place key (b ∷ bs) ≡ suc (next_place key bs)
next_low key b bs e = by_test (is_there key bs)
    (λ t. if_true (is_there key (b ∷ bs)) (suc (place key (b ∷ bs))) (place key (b ∷ bs)) (there_low key b bs e ∙ t) ∙ ap suc (place_low key b bs e) ∙ sym (ap suc (if_true (is_there key bs) (suc (place key bs)) (place key bs) t)))
    (λ t. if_false (is_there key (b ∷ bs)) (suc (place key (b ∷ bs))) (place key (b ∷ bs)) (there_low key b bs e ∙ t) ∙ place_low key b bs e ∙ sym (ap suc (if_false (is_there key bs) (suc (place key bs)) (place key bs) t)))

above_low : (key : List ℕ) (b : Binding) (bs : List Binding) → is_below key b.key ≡ false → above key (b ∷ bs) ≡ above key bs
above_low key b bs e = if_false (is_below key b.key) (Some b.key) (above key bs) e

-- the first key above a text is at its place, or after it where the text itself is there
pub above_is : (key : List ℕ) (bs : List Binding) → Rises bs → above key bs ≡ option_map key_of (slice_get bs (next_place key bs))
above_is key [] r = refl
above_is key (b ∷ bs) r = by_test (is_below b.key key)
    (λ e. above_low key b bs (not_back b.key key e) ∙ above_is key bs r.1 ∙ ap (λ i. option_map key_of (slice_get (b ∷ bs) i)) (sym (next_low key b bs e)))
    (λ e. by_test (bytes_eq b.key key)
    (λ s. above_low key b bs (subst (λ (k : List ℕ). is_below k b.key ≡ false) (same_key b.key key s) (not_itself b.key)) ∙ first_above key bs (later_above key b bs r.0 e)
    ∙ ap (λ i. option_map key_of (slice_get (b ∷ bs) i)) (sym (if_true (is_there key (b ∷ bs)) (suc (place key (b ∷ bs))) (place key (b ∷ bs)) (there_high key b bs e ∙ s) ∙ ap suc (place_high key b bs e))))
    (λ d. if_true (is_below key b.key) (Some b.key) (above key bs) (else_above b.key key e d)
    ∙ ap (λ i. option_map key_of (slice_get (b ∷ bs) i)) (sym (if_false (is_there key (b ∷ bs)) (suc (place key (b ∷ bs))) (place key (b ∷ bs)) (there_high key b bs e ∙ d) ∙ place_high key b bs e))))

plus_one : (n : ℕ) → n + 1 ≡ suc n
plus_one n = omega arith

pub next_there : (key : List ℕ) (bs : List Binding) (i : ℕ) (o : Option Binding) → Rises bs → i ≡ place key bs → true ≡ has key bs → o ≡ slice_get bs (i + 1) → option_map key_of o ≡ above key bs
next_there key bs i o r p t l = ap (option_map key_of) (l ∙ ap (slice_get bs) (ap (λ (z : ℕ). z + 1) p ∙ plus_one (place key bs) ∙ sym (if_true (is_there key bs) (suc (place key bs)) (place key bs) (sym (has_is key bs r) ∙ sym t)))) ∙ sym (above_is key bs r)

pub next_absent : (key : List ℕ) (bs : List Binding) (i : ℕ) (o : Option Binding) → Rises bs → i ≡ place key bs → false ≡ has key bs → o ≡ slice_get bs i → option_map key_of o ≡ above key bs
next_absent key bs i o r p t l = ap (option_map key_of) (l ∙ ap (slice_get bs) (p ∙ sym (if_false (is_there key bs) (suc (place key bs)) (place key bs) (sym (has_is key bs r) ∙ sym t)))) ∙ sym (above_is key bs r)

-- where a key is there, its place is one of the list's
pub place_le : (key : List ℕ) (bs : List Binding) → place key bs ≤ length bs
place_le key [] = omega arith
place_le key (b ∷ bs) = by_test (is_below b.key key)
    (λ e. let l = place_le key bs in let p = place_low key b bs e in omega arith)
    (λ e. let p = place_high key b bs e in omega arith)

pub there_within : (key : List ℕ) (bs : List Binding) → is_there key bs ≡ true → place key bs < length bs
there_within key [] n = absurd (true≢false (sym n))
there_within key (b ∷ bs) n = by_test (is_below b.key key)
    (λ e. let l = there_within key bs (sym (there_low key b bs e) ∙ n) in let p = place_low key b bs e in omega arith)
    (λ e. let p = place_high key b bs e in omega arith)
