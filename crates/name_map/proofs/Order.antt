-- The order of keys is total.
use Rattle.std.proofs.Common.{◌≡◌, ℕ, Bool, true, false, List, Ordering, Less, Equal, Greater, is_lt, is_eq, nat_cmp, bytes_eq, ap, sym, refl, ◌∙◌}
use Rattle.std.proofs.lemmas.Bool.{true≢false}
use Rattle.std.specs.Ordering.{ordering_reverse}
use Rattle.std.specs.Cmp.{tied_itself}
use Rattle.std.specs.Cmp.Lexicographic.{slice_cmp, nat_list_cmp_total, texts_ties, bytes_decides}
use Rattle.name_map.specs.Keys.{is_below, Below}

less_is : (r : Ordering) → is_lt r ≡ true → r ≡ Less
less_is Less e = refl
less_is Equal e = absurd (true≢false (sym e))
less_is Greater e = absurd (true≢false (sym e))

turned_back : (r : Ordering) → is_lt r ≡ true → is_lt (ordering_reverse r) ≡ false
turned_back Less e = refl
turned_back Equal e = absurd (true≢false (sym e))
turned_back Greater e = absurd (true≢false (sym e))

third : (r : Ordering) → is_lt r ≡ false → is_eq r ≡ false → is_lt (ordering_reverse r) ≡ true
third Less e f = absurd (true≢false e)
third Equal e f = absurd (true≢false f)
third Greater e f = refl

less_no_tie : (r : Ordering) → is_lt r ≡ true → is_eq r ≡ false
less_no_tie Less e = refl
less_no_tie Equal e = absurd (true≢false (sym e))
less_no_tie Greater e = refl

reverse_no_tie : (r : Ordering) → is_lt r ≡ true → is_eq (ordering_reverse r) ≡ false
reverse_no_tie Less e = refl
reverse_no_tie Equal e = absurd (true≢false (sym e))
reverse_no_tie Greater e = refl

pub below_trans : (a b c : List ℕ) → Below a b → Below b c → Below a c
below_trans a b c h k = ap is_lt (nat_list_cmp_total.trans a b c (less_is (slice_cmp nat_cmp a b) h) (less_is (slice_cmp nat_cmp b c) k))

pub not_itself : (a : List ℕ) → is_below a a ≡ false
not_itself a = ap is_lt (tied_itself nat_list_cmp_total a)

pub not_back : (a b : List ℕ) → Below a b → is_below b a ≡ false
not_back a b h = ap is_lt (nat_list_cmp_total.antisymm b a) ∙ turned_back (slice_cmp nat_cmp a b) h

pub else_above : (a b : List ℕ) → is_below a b ≡ false → bytes_eq a b ≡ false → Below b a
else_above a b h k = ap is_lt (nat_list_cmp_total.antisymm b a) ∙ third (slice_cmp nat_cmp a b) h (sym (texts_ties a b) ∙ k)

pub below_differs : (a b : List ℕ) → Below a b → bytes_eq a b ≡ false
below_differs a b h = texts_ties a b ∙ less_no_tie (slice_cmp nat_cmp a b) h

pub above_differs : (a b : List ℕ) → Below b a → bytes_eq a b ≡ false
above_differs a b h = texts_ties a b ∙ ap is_eq (nat_list_cmp_total.antisymm a b) ∙ reverse_no_tie (slice_cmp nat_cmp b a) h

pub same_key : (a b : List ℕ) → bytes_eq a b ≡ true → a ≡ b
same_key a b e = (bytes_decides a b).0 e

pub key_itself : (a : List ℕ) → bytes_eq a a ≡ true
key_itself a = (bytes_decides a a).1 refl
