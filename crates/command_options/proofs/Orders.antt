-- Options that change places, and options that are used twice.
use Rattle.std.proofs.Common.{◌≡◌, ◌∙◌, ◌⊎◌, inl, inr, ℕ, Bool, true, false, true≢false, not, ◌&&◌, ◌||◌, List, [], ◌∷◌, ◌++◌, Option, Some, None, is_some, option_map, if◌then◌else◌, refl, sym, ap, ap₂, subst, bytes_eq}
use Rattle.std.proofs.lemmas.Bool.{and_parts, or_left, or_parts, or_right}
use Rattle.std.proofs.lemmas.Slice.Eq.{bytes_eq-Decides}
use Rattle.std.specs.List.{list_all}
use Rattle.command_options.specs.declared.item.Kind.{Kind}
use Rattle.command_options.specs.declared.item.Kind.TheVariants.{Valued, Switch}
use Rattle.command_options.specs.Items.{Item, Text}
use Rattle.command_options.specs.Words.{plain, named, form_of, is_dashed, has_no_stray_dash}
use Rattle.command_options.specs.Uses.{Use, Met, whole, waits, refused, met, met_idle, met_kind, met_named, met_waiting, then_uses, uses, option_named, is_option, has_use, has_repeat, fits, fitting, reading}
use Rattle.command_options.specs.Given.{given}
use Rattle.command_options.specs.Whole.{HasKind, IsWhole}
use Rattle.command_options.proofs.Walks.{found_passes, same_bytes, other_way, not_true}

cases : (b : Bool) → (b ≡ true) ⊎ (b ≡ false)
cases true = inl refl
cases false = inr refl

-- ---- one option

abbrev kind_or : Option Kind → Kind
kind_or None = Switch
kind_or (Some k) = k

-- the item of a name, where it is of a kind
met_as : (items : List Item) (name : Text) (k : Kind) (value : Option Text) (p : ℕ) → HasKind items name k → met_named (option_named items name) value p ≡ met_kind k name value p
met_as items name k value p has = go (option_named items name) refl
  where
    go : (found : Option Item) → option_named items name ≡ found → met_named (option_named items name) value p ≡ met_kind k name value p
    go None e = absurd (true≢false (sym (ap is_some (sym (ap (option_map (λ i. i.kind)) e) ∙ has))))
    go (Some i) e =
        let kind : Some i.kind ≡ Some k = sym (ap (option_map (λ i. i.kind)) e) ∙ has in
        let own = (and_parts (is_option i.kind) (bytes_eq i.name name) (found_passes (λ i. is_option i.kind && bytes_eq i.name name) items i e)).1 in
        ap (λ o. met_named o value p) e ∙ ap₂ (λ o n. met_kind (kind_or o) n value p) kind ((bytes_eq-Decides i.name name).0 own)

idle_as : (items : List Item) (word : Text) (words : List Text) (p : ℕ) (name : Text) (k : Kind) (value : Option Text) → form_of word ≡ named name value → HasKind items name k
    → uses items (word ∷ words) p None ≡ then_uses (met_kind k name value p) (uses items words)
unfolding uses
idle_as items word words p name k value form has =
    ap (λ f. then_uses (met_idle items p f word) (uses items words)) form ∙ ap (λ m. then_uses m (uses items words)) (met_as items name k value p has)

value_as : (items : List Item) (word : Text) (words : List Text) (p : ℕ) (name : Text) → form_of word ≡ plain
    → uses items (word ∷ words) p (Some name) ≡ option_map (λ us. (name, Some word) ∷ us) (uses items words p None)
unfolding uses
value_as items word words p name form = ap (λ f. then_uses (met_waiting name p f word) (uses items words)) form

-- an option adds its use
adds : (items : List Item) (a : List Text) (u : Use) (words : List Text) (p : ℕ) → IsWhole items a u → uses items (a ++ words) p None ≡ option_map (λ us. u ∷ us) (uses items words p None)
adds items [] u words p is = absurd is
adds items (word ∷ []) (name, Some value) words p is = idle_as items word words p name Valued (Some value) is.0 is.1
adds items (word ∷ []) (name, None) words p is = idle_as items word words p name Switch None is.0 is.1
adds items (word ∷ next ∷ []) (name, Some value) words p is =
    idle_as items word (next ∷ words) p name Valued None is.0 is.3 ∙ value_as items next words p name is.1
    ∙ ap (λ v. option_map (λ us. (name, Some v) ∷ us) (uses items words p None)) is.2
adds items (word ∷ next ∷ []) (name, None) words p is = absurd is
adds items (_ ∷ _ ∷ _ ∷ _) u words p is = absurd is

-- its first word is no value of another option
no_value : (items : List Item) (word : Text) (words : List Text) (p : ℕ) (waiting name : Text) (value : Option Text) → form_of word ≡ named name value
    → uses items (word ∷ words) p (Some waiting) ≡ None
unfolding uses
no_value items word words p waiting name value form = ap (λ f. then_uses (met_waiting waiting p f word) (uses items words)) form

refuses : (items : List Item) (a : List Text) (u : Use) (words : List Text) (p : ℕ) (waiting : Text) → IsWhole items a u → uses items (a ++ words) p (Some waiting) ≡ None
refuses items [] u words p waiting is = absurd is
refuses items (word ∷ []) (name, Some value) words p waiting is = no_value items word words p waiting name (Some value) is.0
refuses items (word ∷ []) (name, None) words p waiting is = no_value items word words p waiting name None is.0
refuses items (word ∷ next ∷ []) (name, Some value) words p waiting is = no_value items word (next ∷ words) p waiting name None is.0
refuses items (word ∷ next ∷ []) (name, None) words p waiting is = absurd is
refuses items (_ ∷ _ ∷ _ ∷ _) u words p waiting is = absurd is

-- ---- twice

-- the uses have this property, where there are some
abbrev none_or : (List Use → Bool) → Option (List Use) → Bool
none_or test None = true
none_or test (Some us) = test us

use_more : (name : Text) (u : Use) (o : Option (List Use)) → none_or (has_use name) o ≡ true → none_or (has_use name) (option_map (λ us. u ∷ us) o) ≡ true
use_more name u None e = refl
use_more name u (Some us) e = or_right (bytes_eq u.0 name) _ e

repeat_more : (u : Use) (o : Option (List Use)) → none_or has_repeat o ≡ true → none_or has_repeat (option_map (λ us. u ∷ us) o) ≡ true
repeat_more u None e = refl
repeat_more u (Some us) e = or_right (has_use u.0 us) _ e

use_first : (u : Use) (o : Option (List Use)) → none_or (has_use u.0) (option_map (λ us. u ∷ us) o) ≡ true
use_first u None = refl
use_first u (Some us) = or_left _ _ (same_bytes u.0)

repeat_first : (u : Use) (o : Option (List Use)) → none_or (has_use u.0) o ≡ true → none_or has_repeat (option_map (λ us. u ∷ us) o) ≡ true
repeat_first u None e = refl
repeat_first u (Some us) e = or_left _ _ e

used_step : (v : Use) (m : Met) (next : ℕ → Option Text → Option (List Use)) → ((q : ℕ) (w : Option Text) → none_or (has_use v.0) (next q w) ≡ true)
    → none_or (has_use v.0) (then_uses m next) ≡ true
used_step v (whole u q) next all = use_more v.0 u (next q None) (all q None)
used_step v (waits name q) next all = all q (Some name)
used_step v refused next all = refl

used_there : (items : List Item) (before b after : List Text) (v : Use) (p : ℕ) (waiting : Option Text) → IsWhole items b v
    → none_or (has_use v.0) (uses items (before ++ (b ++ after)) p waiting) ≡ true
unfolding uses
used_there items [] b after v p None is = ap (none_or (has_use v.0)) (adds items b v after p is) ∙ use_first v (uses items after p None)
used_there items [] b after v p (Some name) is = ap (none_or (has_use v.0)) (refuses items b v after p name is)
used_there items (word ∷ before) b after v p waiting is =
    used_step v (met items p waiting word) (uses items (before ++ (b ++ after))) (λ q w. used_there items before b after v q w is)

repeat_step : (m : Met) (next : ℕ → Option Text → Option (List Use)) → ((q : ℕ) (w : Option Text) → none_or has_repeat (next q w) ≡ true) → none_or has_repeat (then_uses m next) ≡ true
repeat_step (whole u q) next all = repeat_more u (next q None) (all q None)
repeat_step (waits name q) next all = all q (Some name)
repeat_step refused next all = refl

repeats_there : (items : List Item) (before a between b after : List Text) (u v : Use) (p : ℕ) (waiting : Option Text) → IsWhole items a u → IsWhole items b v → u.0 ≡ v.0
    → none_or has_repeat (uses items (before ++ (a ++ (between ++ (b ++ after)))) p waiting) ≡ true
unfolding uses
repeats_there items [] a between b after u v p None ha hb same =
    ap (none_or has_repeat) (adds items a u (between ++ (b ++ after)) p ha)
    ∙ repeat_first u (uses items (between ++ (b ++ after)) p None) (subst (λ n. none_or (has_use n) (uses items (between ++ (b ++ after)) p None) ≡ true) (sym same) (used_there items between b after v p None hb))
repeats_there items [] a between b after u v p (Some name) ha hb same = ap (none_or has_repeat) (refuses items a u (between ++ (b ++ after)) p name ha)
repeats_there items (word ∷ before) a between b after u v p waiting ha hb same =
    repeat_step (met items p waiting word) (uses items (before ++ (a ++ (between ++ (b ++ after)))))
    (λ q w. repeats_there items before a between b after u v q w ha hb same)

no_fit : (items : List Item) (o : Option (List Use)) → none_or has_repeat o ≡ true → fitting items o ≡ None
no_fit items None e = refl
no_fit items (Some us) e = rw e refl

pub twice : (items : List Item) (before a between b after : List Text) (u v : Use) → IsWhole items a u → IsWhole items b v → u.0 ≡ v.0
    → reading items (before ++ (a ++ (between ++ (b ++ after)))) ≡ None
unfolding reading
twice items before a between b after u v ha hb same = go (has_no_stray_dash (before ++ (a ++ (between ++ (b ++ after)))))
  where
    go : (dry : Bool) → (if dry then fitting items (uses items (before ++ (a ++ (between ++ (b ++ after)))) 1 None) else None) ≡ None
    go true = no_fit items (uses items (before ++ (a ++ (between ++ (b ++ after)))) 1 None) (repeats_there items before a between b after u v 1 None ha hb same)
    go false = refl

-- ---- places

-- the same uses, but that two next to each other have changed places; or none
record Changed (u v : Use) (xs ys : List Use) : Type 0 where
  front : List Use
  back : List Use
  one : xs ≡ front ++ u ∷ v ∷ back
  other : ys ≡ front ++ v ∷ u ∷ back

abbrev Change : Use → Use → Option (List Use) → Option (List Use) → Type 0
Change u v None None = Unit {0}
Change u v (Some xs) (Some ys) = Changed u v xs ys
Change u v None (Some ys) = ⊥
Change u v (Some xs) None = ⊥

change_more : (w u v : Use) (a b : Option (List Use)) → Change u v a b → Change u v (option_map (λ us. w ∷ us) a) (option_map (λ us. w ∷ us) b)
change_more w u v None None is = tt
change_more w u v (Some xs) (Some ys) is = record { front = w ∷ is.front; back = is.back; one = ap (λ us. w ∷ us) is.one; other = ap (λ us. w ∷ us) is.other }
change_more w u v None (Some ys) is = is
change_more w u v (Some xs) None is = is

change_here : (u v : Use) (o : Option (List Use)) → Change u v (option_map (λ us. u ∷ us) (option_map (λ us. v ∷ us) o)) (option_map (λ us. v ∷ us) (option_map (λ us. u ∷ us) o))
change_here u v None = tt
change_here u v (Some us) = record { front = []; back = us; one = refl; other = refl }

both : (u v : Use) (a b a' b' : Option (List Use)) → a' ≡ a → b' ≡ b → Change u v a b → Change u v a' b'
both u v a b a' b' ea eb is = subst (λ x. Change u v x b') (sym ea) (subst (λ y. Change u v a y) (sym eb) is)

change_step : (u v : Use) (m : Met) (one other : ℕ → Option Text → Option (List Use)) → ((q : ℕ) (w : Option Text) → Change u v (one q w) (other q w))
    → Change u v (then_uses m one) (then_uses m other)
change_step u v (whole x q) one other all = change_more x u v (one q None) (other q None) (all q None)
change_step u v (waits name q) one other all = all q (Some name)
change_step u v refused one other all = tt

changes : (items : List Item) (before a b after : List Text) (u v : Use) (p : ℕ) (waiting : Option Text) → IsWhole items a u → IsWhole items b v
    → Change u v (uses items (before ++ (a ++ (b ++ after))) p waiting) (uses items (before ++ (b ++ (a ++ after))) p waiting)
unfolding uses
changes items [] a b after u v p None ha hb =
    both u v _ _ _ _ (adds items a u (b ++ after) p ha ∙ ap (option_map (λ us. u ∷ us)) (adds items b v after p hb))
    (adds items b v (a ++ after) p hb ∙ ap (option_map (λ us. v ∷ us)) (adds items a u after p ha)) (change_here u v (uses items after p None))
changes items [] a b after u v p (Some name) ha hb = both u v None None _ _ (refuses items a u (b ++ after) p name ha) (refuses items b v (a ++ after) p name hb) tt
changes items (word ∷ before) a b after u v p waiting ha hb =
    change_step u v (met items p waiting word) (uses items (before ++ (a ++ (b ++ after)))) (uses items (before ++ (b ++ (a ++ after))))
    (λ q w. changes items before a b after u v q w ha hb)

-- the dashes

and_swap : (a b c : Bool) → (a && (b && c)) ≡ (b && (a && c))
and_swap true true c = refl
and_swap true false c = refl
and_swap false true c = refl
and_swap false false c = refl

and_assoc : (a b c : Bool) → ((a && b) && c) ≡ (a && (b && c))
and_assoc true b c = refl
and_assoc false b c = refl

dry_more : (a b : List Text) → has_no_stray_dash (a ++ b) ≡ (has_no_stray_dash a && has_no_stray_dash b)
unfolding has_no_stray_dash
dry_more [] b = refl
dry_more (word ∷ a) b = ap (λ x. not (is_dashed (form_of word)) && x) (dry_more a b) ∙ sym (and_assoc (not (is_dashed (form_of word))) _ _)

dry_three : (a b c : List Text) → has_no_stray_dash (a ++ (b ++ c)) ≡ (has_no_stray_dash a && (has_no_stray_dash b && has_no_stray_dash c))
dry_three a b c = dry_more a (b ++ c) ∙ ap (λ x. has_no_stray_dash a && x) (dry_more b c)

dry_same : (before a b after : List Text) → has_no_stray_dash (before ++ (a ++ (b ++ after))) ≡ has_no_stray_dash (before ++ (b ++ (a ++ after)))
dry_same before a b after =
    dry_more before (a ++ (b ++ after))
    ∙ ap (λ x. has_no_stray_dash before && x) (dry_three a b after ∙ and_swap (has_no_stray_dash a) (has_no_stray_dash b) (has_no_stray_dash after) ∙ sym (dry_three b a after)) ∙ sym (dry_more before (b ++ (a ++ after)))

-- the uses

or_swap : (a b c : Bool) → (a || (b || c)) ≡ (b || (a || c))
or_swap true true c = refl
or_swap true false c = refl
or_swap false true c = refl
or_swap false false c = refl

bytes_both : (x y : Text) → bytes_eq x y ≡ bytes_eq y x
bytes_both x y = elim (cases (bytes_eq x y)) [
  | inl h ↦ h ∙ sym (other_way x y h)
  | inr h ↦ elim (cases (bytes_eq y x)) [
    | inl k ↦ absurd (true≢false (sym (other_way y x k) ∙ h))
    | inr k ↦ h ∙ sym k
  ]
]

has_same : (name : Text) (front : List Use) (u v : Use) (back : List Use) → has_use name (front ++ u ∷ v ∷ back) ≡ has_use name (front ++ v ∷ u ∷ back)
has_same name [] u v back = or_swap (bytes_eq u.0 name) (bytes_eq v.0 name) (has_use name back)
has_same name (x ∷ front) u v back = ap (λ b. bytes_eq x.0 name || b) (has_same name front u v back)

shuffle : (e x y z : Bool) → ((e || x) || (y || z)) ≡ ((e || y) || (x || z))
shuffle true x y z = refl
shuffle false true true z = refl
shuffle false true false z = refl
shuffle false false true z = refl
shuffle false false false z = refl

repeat_same : (front : List Use) (u v : Use) (back : List Use) → has_repeat (front ++ u ∷ v ∷ back) ≡ has_repeat (front ++ v ∷ u ∷ back)
repeat_same [] u v back =
    shuffle (bytes_eq v.0 u.0) (has_use u.0 back) (has_use v.0 back) (has_repeat back)
    ∙ ap (λ e. (e || has_use v.0 back) || (has_use u.0 back || has_repeat back)) (bytes_both v.0 u.0)
repeat_same (x ∷ front) u v back = ap₂ (λ a b. a || b) (has_same x.0 front u v back) (repeat_same front u v back)

due_same : (items : List Item) (xs ys : List Use) → ((name : Text) → has_use name xs ≡ has_use name ys)
    → list_all (λ i. not i.is_due || has_use i.name xs) items ≡ list_all (λ i. not i.is_due || has_use i.name ys) items
due_same [] xs ys same = refl
due_same (i ∷ items) xs ys same = ap₂ (λ a b. (not i.is_due || a) && b) (same i.name) (due_same items xs ys same)

fits_same : (items : List Item) (front : List Use) (u v : Use) (back : List Use) → fits items (front ++ u ∷ v ∷ back) ≡ fits items (front ++ v ∷ u ∷ back)
fits_same items front u v back =
    ap₂ (λ a b. not a && b) (repeat_same front u v back) (due_same items (front ++ u ∷ v ∷ back) (front ++ v ∷ u ∷ back) (λ name. has_same name front u v back))

-- where the two have different names, each name is given the same
given_same : (name : Text) (front : List Use) (u v : Use) (back : List Use) → has_repeat (front ++ u ∷ v ∷ back) ≡ false
    → given (front ++ u ∷ v ∷ back) name ≡ given (front ++ v ∷ u ∷ back) name
unfolding given
given_same name [] u v back once = elim (cases (bytes_eq u.0 name)) [
  | inl h ↦ elim (cases (bytes_eq v.0 name)) [
    | inl k ↦ absurd (true≢false (sym (or_left _ _ (or_left _ _ (clash h k))) ∙ once))
    | inr k ↦ rw (h, k) refl
  ]
  | inr h ↦ elim (cases (bytes_eq v.0 name)) [ inl k ↦ rw (h, k) refl | inr k ↦ rw (h, k) refl ]
]
  where
    clash : bytes_eq u.0 name ≡ true → bytes_eq v.0 name ≡ true → bytes_eq v.0 u.0 ≡ true
    clash h k = (bytes_eq-Decides v.0 u.0).1 ((bytes_eq-Decides v.0 name).0 k ∙ sym ((bytes_eq-Decides u.0 name).0 h))
given_same name (x ∷ front) u v back once =
    let rest = (or_parts (has_use x.0 (front ++ u ∷ v ∷ back)) (has_repeat (front ++ u ∷ v ∷ back)) once).1 in
    elim (cases (bytes_eq x.0 name)) [ inl h ↦ rw h refl | inr h ↦ rw h (given_same name front u v back rest) ]

fit_same : (items : List Item) (u v : Use) (a b : Option (List Use)) → Change u v a b → option_map given (fitting items a) ≡ option_map given (fitting items b)
fit_same items u v None None is = refl
fit_same items u v None (Some ys) is = absurd is
fit_same items u v (Some xs) None is = absurd is
fit_same items u v (Some xs) (Some ys) is =
    ap (λ us. option_map given (fitting items (Some us))) is.one ∙ go (fits items (is.front ++ u ∷ v ∷ is.back)) refl
    ∙ sym (ap (λ us. option_map given (fitting items (Some us))) is.other)
  where
    go : (f : Bool) → fits items (is.front ++ u ∷ v ∷ is.back) ≡ f
        → option_map given (fitting items (Some (is.front ++ u ∷ v ∷ is.back))) ≡ option_map given (fitting items (Some (is.front ++ v ∷ u ∷ is.back)))
    go true e =
        let e' = sym (fits_same items is.front u v is.back) ∙ e in
        let once = not_true (has_repeat (is.front ++ u ∷ v ∷ is.back)) (and_parts _ _ e).0 in
        rw (e, e') (λ i. Some (λ name. given_same name is.front u v is.back once i))
    go false e = let e' = sym (fits_same items is.front u v is.back) ∙ e in rw (e, e') refl

abbrev pick : Bool → Option (List Use) → Option (Text → Option Text)
pick dry o = option_map given (if dry then o else None)

pick_same : (dry : Bool) (a b : Option (List Use)) → option_map given a ≡ option_map given b → pick dry a ≡ pick dry b
pick_same true a b e = e
pick_same false a b e = refl

pub order : (items : List Item) (before a b after : List Text) (u v : Use) → IsWhole items a u → IsWhole items b v
    → option_map given (reading items (before ++ (a ++ (b ++ after)))) ≡ option_map given (reading items (before ++ (b ++ (a ++ after))))
unfolding reading
order items before a b after u v ha hb =
    ap (λ dry. pick dry (fitting items (uses items (before ++ (a ++ (b ++ after))) 1 None))) (dry_same before a b after)
    ∙ pick_same (has_no_stray_dash (before ++ (b ++ (a ++ after)))) _ _
    (fit_same items u v (uses items (before ++ (a ++ (b ++ after))) 1 None) (uses items (before ++ (b ++ (a ++ after))) 1 None) (changes items before a b after u v 1 None ha hb))
