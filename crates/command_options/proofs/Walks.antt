-- clap's walk over the words is the reading of the words.
use Rattle.std.proofs.Common.{◌∙◌, ◌≡◌, ◌⊎◌, inl, inr, arith, ◌↔◌, ◌<◌, eqb-true, ltb-true, drop, append-nil, append_assoc, true≢false, Bool, true, false, not, ◌&&◌, ◌||◌, ◌==◌, ◌+◌, ℕ, List, [], ◌∷◌, ◌++◌, map, min, Option, Some, None, is_some, IfSome, nat_lt, fold, refl, sym, ap, ap₂, subst, codes, cond, find, option_map, if◌then◌else◌, bytes_eq}
use Rattle.clap.specs.Lexer.{long_of, short_of, usize_max}
use Rattle.std.specs.Option.{option_map_or, unwrap_or}
use Rattle.std.proofs.lemmas.Bool.{and_left, and_from, or_parts, and_parts, or_left, or_right, or_from}
use Rattle.std.proofs.lemmas.List.{map-append}
use Rattle.clap.specs.declared.parser.matches.ValueSource.TheVariants.{CommandLine, DefaultValue}
use Rattle.clap.specs.Walk.{rows_after, nothing_held, Held, default_rows, reading_by, at_row, without, with_values, more_values, has_long, is_append, action_of, Row, Rule, Walk, arg_by_long, arg_by_id, arg_by_index, idle, option, most_values, settled, settled_rows, takes_values, takes_several, used, walked, has_row, finished, with_default, walk, walk_from}
use Rattle.std.specs.List.{list_all, list_any}
use Rattle.std.proofs.lemmas.Slice.Eq.{bytes_eq-Decides}
use Rattle.clap.specs.declared.error.kind.ErrorKind.TheVariants.{MissingRequiredArgument}
use Rattle.clap.specs.Takes.{is_given}
use Rattle.clap.specs.Facts.{unwrap_or_range, explicit_source}
use Rattle.clap.specs.Simple.{Shape}
use Rattle.clap.specs.Kinds.{Kinds, or_else}
use Rattle.clap.specs.Faults.{built_fault, turn_fault, use_fault, settle_fault, fault_of, walk_fault, level_fault, default_fault, defaults_fault, check_fault}
use Rattle.clap.specs.declared.builder.value_parser.Reading.TheVariants as reading
use Rattle.clap.proofs.FaultLemmas.{leaf_fault}
use Rattle.clap.specs.Simple.{App, built, matches_of, names_of}
use Rattle.command_options.specs.declared.item.Kind.{Kind}
use Rattle.command_options.specs.declared.item.Kind.TheVariants.{Valued, Switch, Positional}
use Rattle.command_options.specs.Items.{Item, Text, are_distinct, has_name, is_lawful, are_numbered, is_numbered, number_after}
use Rattle.command_options.specs.Words.{Form, plain, named, dashed, form_of, dash_form, long_form, is_dashed, has_no_stray_dash}
use Rattle.command_options.specs.Uses.{Use, uses, met_positional, met_idle, met_waiting, met_kind, met_named, then_uses, option_named, item_at, is_option, is_positional, has_use, has_repeat, fits}
use Rattle.command_options.specs.Given.{given}
use Rattle.command_options.specs.Clap.{built_app, item_rule, index_by, built_shape}
use Rattle.command_options.specs.Found.{given_rows}

cases : (b : Bool) → (b ≡ true) ⊎ (b ≡ false)
cases true = inl refl
cases false = inr refl

no_more : (ks : Kinds) → or_else ks [] ≡ ks
no_more [] = refl
no_more (k ∷ ks) = refl

pub not_true : (b : Bool) → not b ≡ true → b ≡ false
not_true true e = sym e
not_true false e = refl

-- ---- words

abbrev dashes : Text
dashes = 45 ∷ 45 ∷ []

abbrev IsSeen : Text → Form → Type 0
IsSeen word plain = (bytes_eq word dashes ≡ false) × (long_of word ≡ None) × (short_of word ≡ None)
IsSeen word (named name value) = (bytes_eq word dashes ≡ false) × (long_of word ≡ Some (name, value))
IsSeen word dashed = Unit {0}

seen_long : (a b : ℕ) (rest : Text) → (a == 45) ≡ true → (b == 45) ≡ true → IsSeen (a ∷ b ∷ rest) (long_form rest)
seen_long a b [] ha hb = tt
seen_long a b (x ∷ rest) ha hb = rw (ha, hb) (refl, refl)

seen_dash : (a : ℕ) (rest : Text) → (a == 45) ≡ true → IsSeen (a ∷ rest) (dash_form rest)
seen_dash a [] ha = tt
seen_dash a (b ∷ rest) ha = elim (cases (b == 45)) [
  | inl hb ↦ rw hb (seen_long a b rest ha hb)
  | inr hb ↦ rw hb tt
]

seen_plain : (a : ℕ) (rest : Text) → (a == 45) ≡ false → IsSeen (a ∷ rest) plain
seen_plain a rest ha = (rw ha refl, rw ha refl, rw ha refl)

seen : (word : Text) → IsSeen word (form_of word)
seen [] = (refl, refl, refl)
seen (a ∷ rest) = elim (cases (a == 45)) [
  | inl ha ↦ rw ha (seen_dash a rest ha)
  | inr ha ↦ rw ha (seen_plain a rest ha)
]

-- ---- faults as tests

passes : Kinds → Bool
passes [] = true
passes (k ∷ ks) = false

passes_none : (ks : Kinds) → passes ks ≡ true → ks ≡ []
unfolding passes
passes_none [] e = refl
passes_none (k ∷ ks) e = absurd (true≢false (sym e))

none_passes : (ks : Kinds) → ks ≡ [] → passes ks ≡ true
unfolding passes
none_passes ks e = rw e refl

passes_both : (a b : Kinds) → passes (or_else a b) ≡ (passes a && passes b)
unfolding passes
passes_both [] b = refl
passes_both (k ∷ ks) b = refl

-- ---- one use

abbrev values_of : Option Text → List Text
values_of None = []
values_of (Some v) = v ∷ []

abbrev takes_by : Kind → Bool
takes_by Switch = false
takes_by _ = true

-- a use passes where the item was not used before
use_by : (k : Kind) (name : Text) (due : Bool) (value : Option Text) (rows : List Row) → takes_by k ≡ is_some value
    → passes (use_fault false (item_rule (record { name = name; kind = k; is_due = due })) (values_of value) rows) ≡ not (has_row name rows)
unfolding passes
use_by Valued name due (Some v) rows e = elim (cases (has_row name rows)) [ inl h ↦ rw h refl | inr h ↦ rw h refl ]
use_by (Positional n) name due (Some v) rows e = elim (cases (has_row name rows)) [ inl h ↦ rw h refl | inr h ↦ rw h refl ]
use_by Switch name due None rows e = elim (cases (has_row name rows)) [ inl h ↦ rw h refl | inr h ↦ rw h refl ]
use_by Valued name due None rows e = absurd (true≢false e)
use_by (Positional n) name due None rows e = absurd (true≢false e)
use_by Switch name due (Some v) rows e = absurd (true≢false (sym e))

use_passes : (i : Item) (value : Option Text) (rows : List Row) → takes_by i.kind ≡ is_some value → passes (use_fault false (item_rule i) (values_of value) rows) ≡ not (has_row i.name rows)
use_passes i value rows e = use_by i.kind i.name i.is_due value rows e

-- ---- rows

value_texts : Option Text → List Text
value_texts None = codes "true" ∷ []
value_texts (Some v) = v ∷ []

row_of_use : Use → Row
row_of_use u = record { id = u.0; values = value_texts u.1; count = None; source = Some CommandLine; reading = reading.AsWritten }

rows_of : List Use → List Row
rows_of us = map row_of_use us

rows_have : (name : Text) (us : List Use) → has_row name (rows_of us) ≡ has_use name us
unfolding rows_of row_of_use
rows_have name [] = refl
rows_have name (u ∷ us) = ap (λ b. bytes_eq u.0 name || b) (rows_have name us)

at_none : (name : Text) (change : Row → List Row) (missing rows : List Row) → has_row name rows ≡ false → at_row name change missing rows ≡ rows ++ missing
at_none name change missing [] h = refl
at_none name change missing (r ∷ rs) h = let both = or_parts (bytes_eq r.id name) (has_row name rs) h in rw both.0 (ap (λ xs. r ∷ xs) (at_none name change missing rs both.1))

-- a use of what was not used before is one more row
with_row : (name : Text) (vs : List Text) (rows : List Row) → has_row name rows ≡ false
    → with_values name reading.AsWritten CommandLine vs (without name rows) ≡ rows ++ record { id = name; values = vs; count = None; source = Some CommandLine; reading = reading.AsWritten } ∷ []
with_row name vs rows h =
    let gone : without name rows ≡ rows = at_none name (λ _. []) [] rows h ∙ append-nil rows in
    ap (with_values name reading.AsWritten CommandLine vs) gone ∙ at_none name (more_values CommandLine vs) _ rows h

used_by : (k : Kind) (name : Text) (due : Bool) (value : Option Text) (rows : List Row) → takes_by k ≡ is_some value → has_row name rows ≡ false
    → used (item_rule (record { name = name; kind = k; is_due = due })) (values_of value) rows ≡ rows ++ row_of_use (name, value) ∷ []
unfolding row_of_use value_texts
used_by Valued name due (Some v) rows e h = with_row name (v ∷ []) rows h
used_by (Positional n) name due (Some v) rows e h = with_row name (v ∷ []) rows h
used_by Switch name due None rows e h = with_row name (codes "true" ∷ []) rows h
used_by Valued name due None rows e h = absurd (true≢false e)
used_by (Positional n) name due None rows e h = absurd (true≢false e)
used_by Switch name due (Some v) rows e h = absurd (true≢false (sym e))

rows_more : (us vs : List Use) → rows_of (us ++ vs) ≡ rows_of us ++ rows_of vs
unfolding rows_of
rows_more us vs = map-append row_of_use us vs

use_rows : (i : Item) (value : Option Text) (us : List Use) → takes_by i.kind ≡ is_some value → has_use i.name us ≡ false
    → used (item_rule i) (values_of value) (rows_of us) ≡ rows_of (us ++ (i.name, value) ∷ [])
unfolding rows_of
use_rows i value us e h = used_by i.kind i.name i.is_due value (rows_of us) e (rows_have i.name us ∙ h) ∙ sym (rows_more us ((i.name, value) ∷ []))

-- ---- items and rules

find_items : (p : Rule → Bool) (q : Item → Bool) (items : List Item) → ((i : Item) → p (item_rule i) ≡ q i) → find p (map item_rule items) ≡ option_map item_rule (find q items)
find_items p q [] same = refl
find_items p q (i ∷ items) same = elim (cases (q i)) [
  | inl h ↦ let hp = same i ∙ h in rw (hp, h) refl
  | inr h ↦ let hp = same i ∙ h in rw (hp, h) (find_items p q items same)
]

or_false : (b : Bool) → (b || false) ≡ b
or_false true = refl
or_false false = refl

long_same : (k : Kind) (name wanted : Text) (due : Bool)
    → (not (is_some (item_rule (record { name = name; kind = k; is_due = due })).index) && has_long (item_rule (record { name = name; kind = k; is_due = due })) wanted) ≡ (is_option k && bytes_eq name wanted)
long_same Valued name wanted due = or_false (bytes_eq name wanted)
long_same Switch name wanted due = or_false (bytes_eq name wanted)
long_same (Positional n) name wanted due = refl

positional_same : (k : Kind) (p : ℕ) → option_map_or (λ n. n == p) (index_by k) false ≡ is_positional p k
positional_same Valued p = refl
positional_same Switch p = refl
positional_same (Positional n) p = refl

by_long : (items : List Item) (name : Text) → arg_by_long (map item_rule items) name ≡ option_map item_rule (option_named items name)
by_long items name = find_items _ _ items (λ i. long_same i.kind i.name name i.is_due)

by_index : (items : List Item) (p : ℕ) → arg_by_index (map item_rule items) p ≡ option_map item_rule (item_at items p)
by_index items p = find_items _ _ items (λ i. positional_same i.kind p)

by_id : (items : List Item) (name : Text) → arg_by_id (map item_rule items) name ≡ option_map item_rule (find (λ i. bytes_eq i.name name) items)
by_id items name = find_items (λ a. bytes_eq a.id name) (λ i. bytes_eq i.name name) items (λ i. refl)

-- ---- the end: defaults, and what is due

default_by : (k : Kind) (name : Text) (due : Bool) (rows : List Row) → passes (default_fault rows (item_rule (record { name = name; kind = k; is_due = due }))) ≡ true
unfolding passes
default_by Valued name due rows = elim (cases (has_row name rows)) [ inl h ↦ rw h refl | inr h ↦ rw h refl ]
default_by Switch name due rows = elim (cases (has_row name rows)) [ inl h ↦ rw h refl | inr h ↦ rw h refl ]
default_by (Positional n) name due rows = elim (cases (has_row name rows)) [ inl h ↦ rw h refl | inr h ↦ rw h refl ]

defaults_pass : (items : List Item) (rows : List Row) → passes (defaults_fault rows (map item_rule items)) ≡ true
unfolding defaults_fault passes
defaults_pass [] rows = refl
defaults_pass (i ∷ items) rows =
    passes_both _ _ ∙ ap (λ b. b && passes (defaults_fault (with_default rows (item_rule i)) (map item_rule items))) (default_by i.kind i.name i.is_due rows)
    ∙ defaults_pass items (with_default rows (item_rule i))

given_more : (name : Text) (rows : List Row) (r : Row) → explicit_source r.source ≡ false → is_given name (rows ++ r ∷ []) ≡ is_given name rows
given_more name [] r by = elim (cases (bytes_eq r.id name)) [ inl h ↦ rw (h, by) refl | inr h ↦ rw h refl ]
given_more name (x ∷ rows) r by = elim (cases (bytes_eq x.id name)) [ inl h ↦ rw h refl | inr h ↦ rw h (given_more name rows r by) ]

given_default : (name : Text) (rows : List Row) (a : Rule) (values : List Text) → has_row a.id rows ≡ false → is_given name (default_rows a.id (reading_by a) values rows) ≡ is_given name rows
given_default name rows a [] h = refl
given_default name rows a (v ∷ vs) h = ap (is_given name) (at_none a.id (more_values DefaultValue (v ∷ vs)) _ rows h) ∙ given_more name rows _ refl

given_kept : (name : Text) (rows : List Row) (a : Rule) → is_given name (with_default rows a) ≡ is_given name rows
given_kept name rows a = elim (cases (has_row a.id rows)) [ inl h ↦ rw h refl | inr h ↦ rw h (given_default name rows a a.defaults h) ]

given_at_end : (name : Text) (c : List Rule) (rows : List Row) → is_given name (fold with_default rows c) ≡ is_given name rows
given_at_end name [] rows = refl
given_at_end name (a ∷ c) rows = given_at_end name c (with_default rows a) ∙ given_kept name rows a

given_is : (name : Text) (us : List Use) → is_given name (rows_of us) ≡ has_use name us
unfolding rows_of row_of_use
given_is name [] = refl
given_is name (u ∷ us) = elim (cases (bytes_eq u.0 name)) [ inl h ↦ rw h refl | inr h ↦ rw h (given_is name us) ]

abbrev due_there : List Item → List Use → Bool
due_there items us = list_all (λ i. not i.is_due || has_use i.name us) items

morgan : (a b c : Bool) → b ≡ c → not (a && not b) ≡ (not a || c)
morgan true true c e = e
morgan true false c e = e
morgan false b c e = refl

not_or : (a b : Bool) → not (a || b) ≡ (not a && not b)
not_or true b = refl
not_or false b = refl

due_is : (items : List Item) (us : List Use) (rows : List Row) → ((name : Text) → is_given name rows ≡ has_use name us)
    → not (list_any (λ a. a.required && not (is_given a.id rows)) (map item_rule items)) ≡ due_there items us
due_is [] us rows same = refl
due_is (i ∷ items) us rows same = not_or _ _ ∙ ap₂ (λ x y. x && y) (morgan i.is_due _ _ (same i.name)) (due_is items us rows same)

check_passes : (b : Bool) → passes (cond b (MissingRequiredArgument ∷ []) []) ≡ not b
unfolding passes
check_passes true = refl
check_passes false = refl

-- ---- the uses fit

abbrev pub fits_all : List Item → Option (List Use) → Bool
fits_all items None = false
fits_all items (Some us) = fits items us

-- the uses of the words fit
abbrev pub is_read : List Item → List Text → Bool
is_read items words = fits_all items (uses items words 1 None)

-- ---- repeats

pub same_bytes : (x : Text) → bytes_eq x x ≡ true
same_bytes x = (bytes_eq-Decides x x).1 refl

pub other_way : (x y : Text) → bytes_eq x y ≡ true → bytes_eq y x ≡ true
other_way x y e = (bytes_eq-Decides y x).1 (sym ((bytes_eq-Decides x y).0 e))

not_other_way : (x y : Text) → bytes_eq x y ≡ false → bytes_eq y x ≡ false
not_other_way x y e = elim (cases (bytes_eq y x)) [
  | inl h ↦ absurd (true≢false (sym (other_way y x h) ∙ e))
  | inr h ↦ h
]

pub has_more : (name : Text) (us vs : List Use) → has_use name (us ++ vs) ≡ (has_use name us || has_use name vs)
has_more name [] vs = refl
has_more name (u ∷ us) vs = elim (cases (bytes_eq u.0 name)) [ inl h ↦ rw h refl | inr h ↦ rw h (has_more name us vs) ]

-- a second use makes a repeat
repeats : (us : List Use) (u : Use) (vs : List Use) → has_use u.0 us ≡ true → has_repeat (us ++ u ∷ vs) ≡ true
repeats [] u vs h = absurd (true≢false (sym h))
repeats (x ∷ us) u vs h = elim (cases (bytes_eq x.0 u.0)) [
  | inl e ↦ or_left _ _ (has_more x.0 us (u ∷ vs) ∙ or_right (has_use x.0 us) _ (or_left _ _ (other_way x.0 u.0 e)))
  | inr e ↦ or_right (has_use x.0 (us ++ u ∷ vs)) _ (repeats us u vs (sym (rw e refl) ∙ h))
]

-- a first use makes none
no_repeat : (us : List Use) (u : Use) → has_repeat us ≡ false → has_use u.0 us ≡ false → has_repeat (us ++ u ∷ []) ≡ false
no_repeat [] u none fresh = refl
no_repeat (x ∷ us) u none fresh =
    let old = or_parts (has_use x.0 us) (has_repeat us) none in
    let new = or_parts (bytes_eq x.0 u.0) (has_use u.0 us) fresh in
    or_from _ _ (has_more x.0 us (u ∷ []) ∙ or_from _ _ old.0 (or_from _ _ (not_other_way x.0 u.0 new.0) refl)) (no_repeat us u old.1 new.1)

-- ---- the items of a command

-- no two items have one name, and the plain words have small numbers
abbrev has_small_number : Kind → Bool
has_small_number (Positional n) = nat_lt n 100
has_small_number _ = true

abbrev pub is_sound : List Item → Bool
is_sound items = are_distinct items && list_all (λ i. has_small_number i.kind) items

numbered_small : (n : ℕ) (items : List Item) → are_numbered n items ≡ true → list_all (λ i. has_small_number i.kind) items ≡ true
numbered_small n [] e = refl
numbered_small n (i ∷ items) e =
    let parts = and_parts (is_numbered n i.kind) (are_numbered (number_after n i.kind) items) e in
    and_from (has_small_number i.kind) _ (one i.kind parts.0) (numbered_small (number_after n i.kind) items parts.1)
  where
    one : (k : Kind) → is_numbered n k ≡ true → has_small_number k ≡ true
    one Valued e = refl
    one Switch e = refl
    one (Positional k) e = (and_parts (k == n) (nat_lt k 100) e).1

pub sound : (items : List Item) → is_lawful items ≡ true → is_sound items ≡ true
sound items lawful =
    let parts = and_parts (are_distinct items) (are_numbered 1 items) lawful in
    and_from (are_distinct items) _ parts.0 (numbered_small 1 items parts.1)

pub found_passes : {A : Type 0} (q : A → Bool) (xs : List A) (x : A) → find q xs ≡ Some x → q x ≡ true
found_passes q [] x e = absurd (true≢false (sym (ap is_some e)))
found_passes q (y ∷ xs) x e = elim (cases (q y)) [
  | inl h ↦ let same : Some y ≡ Some x = sym (rw h refl) ∙ e in subst (λ o. unwrap_or (option_map q o) true ≡ true) same h
  | inr h ↦ found_passes q xs x (sym (rw h refl) ∙ e)
]

found_has : (q : Item → Bool) (items : List Item) (i : Item) → find q items ≡ Some i → has_name i.name items ≡ true
found_has q [] i e = absurd (true≢false (sym (ap is_some e)))
found_has q (y ∷ items) i e = elim (cases (q y)) [
  | inl h ↦ let same : Some y ≡ Some i = sym (rw h refl) ∙ e in or_left _ _ (subst (λ o. bytes_eq y.name (unwrap_or (option_map (λ j. j.name) o) []) ≡ true) same (same_bytes y.name))
  | inr h ↦ or_right _ _ (found_has q items i (sym (rw h refl) ∙ e))
]

-- what is found in any way is found by its name
found_by_name : (q : Item → Bool) (items : List Item) (i : Item) → are_distinct items ≡ true → find q items ≡ Some i → find (λ j. bytes_eq j.name i.name) items ≡ Some i
found_by_name q [] i lawful e = absurd (true≢false (sym (ap is_some e)))
found_by_name q (y ∷ items) i lawful e = elim (cases (q y)) [
  | inl h ↦ let same : Some y ≡ Some i = sym (rw h refl) ∙ e in
      let own : find (λ j. bytes_eq j.name y.name) (y ∷ items) ≡ Some y = rw (same_bytes y.name) refl in
      subst (λ o. find (λ j. bytes_eq j.name (unwrap_or (option_map (λ k. k.name) o) [])) (y ∷ items) ≡ o) same own
  | inr h ↦ let later : find q items ≡ Some i = sym (rw h refl) ∙ e in
      let both = and_parts (not (has_name y.name items)) (are_distinct items) lawful in
      elim (cases (bytes_eq y.name i.name)) [
        | inl same ↦ absurd (true≢false (sym (subst (λ n. has_name n items ≡ true) (sym ((bytes_eq-Decides y.name i.name).0 same)) (found_has q items i later)) ∙ not_true _ both.0))
        | inr other ↦ rw other (found_by_name q items i both.1 later)
      ]
]

all_found : (t q : Item → Bool) (items : List Item) (i : Item) → list_all t items ≡ true → find q items ≡ Some i → t i ≡ true
all_found t q [] i all e = absurd (true≢false (sym (ap is_some e)))
all_found t q (y ∷ items) i all e = elim (cases (q y)) [
  | inl h ↦ let same : Some y ≡ Some i = sym (rw h refl) ∙ e in subst (λ o. unwrap_or (option_map t o) true ≡ true) same (and_parts (t y) (list_all t items) all).0
  | inr h ↦ all_found t q items i (and_parts (t y) (list_all t items) all).1 (sym (rw h refl) ∙ e)
]

positional_takes : (k : Kind) (p : ℕ) → is_positional p k ≡ true → takes_by k ≡ true
positional_takes (Positional n) p e = refl
positional_takes Valued p e = absurd (true≢false (sym e))
positional_takes Switch p e = absurd (true≢false (sym e))

small_number : (k : Kind) (p : ℕ) → is_positional p k ≡ true → has_small_number k ≡ true → min (p + 1) usize_max ≡ p + 1
small_number Valued p e small = absurd (true≢false (sym e))
small_number Switch p e small = absurd (true≢false (sym e))
small_number (Positional n) p e small =
    let same : n ≡ p = eqb-true n p e in
    let low : n < 100 = ltb-true n 100 small in
    omega arith

-- ---- what clap makes of one word

module _ (shape_name : Text) (items : List Item) where
  abbrev shape : Shape
  shape = built_shape shape_name items

  abbrev rules : List Rule
  rules = map item_rule items

  ok : Walk → Text → Bool
  ok w word = passes (turn_fault shape [] w word)

  step : Walk → Text → Walk
  step w word = walked rules [] w word

  -- between two words, where this one may still be settled
  between : List Row → Option (Text × List Text) → ℕ → Walk
  between rows pend p = record { held = record { rows = rows; pending = pend; skip = 0 }; waiting = idle; position = p; is_trailing = false; stopped = None }

  -- an option waits for its value
  awaiting : List Row → Text → ℕ → Walk
  awaiting rows id p = record { held = record { rows = rows; pending = Some (id, []); skip = 0 }; waiting = option id; position = p; is_trailing = false; stopped = None }

  settles : List Row → Option (Text × List Text) → Bool
  settles rows pend = passes (settle_fault rules false (record { rows = rows; pending = pend; skip = 0 }))

  unknown_ok : (rows : List Row) (pend : Option (Text × List Text)) (p : ℕ) (word name : Text) (value : Option Text) → IsSeen word (named name value) → arg_by_long rules name ≡ None
      → ok (between rows pend p) word ≡ false
  unfolding ok between passes
  unknown_ok rows pend p word name value s found = rw (s.0, s.1, found) refl

  excess_ok : (a : Rule) (rows : List Row) (pend : Option (Text × List Text)) (p : ℕ) (word name v : Text) → IsSeen word (named name (Some v)) → arg_by_long rules name ≡ Some a → takes_values a ≡ false
      → ok (between rows pend p) word ≡ false
  unfolding ok between passes
  excess_ok a rows pend p word name v s found takes = rw (s.0, s.1, found, takes) refl

  joined_ok : (a : Rule) (rows : List Row) (pend : Option (Text × List Text)) (p : ℕ) (word name v : Text) → IsSeen word (named name (Some v)) → arg_by_long rules name ≡ Some a → takes_values a ≡ true
      → ok (between rows pend p) word ≡ (settles rows pend && passes (use_fault false a (v ∷ []) (settled_rows rules pend rows)))
  unfolding ok between settles
  joined_ok a rows pend p word name v s found takes = rw (s.0, s.1, found, takes) (ap passes (no_more _) ∙ passes_both _ _)

  joined_step : (a : Rule) (rows : List Row) (pend : Option (Text × List Text)) (p : ℕ) (word name v : Text) → IsSeen word (named name (Some v)) → arg_by_long rules name ≡ Some a → takes_values a ≡ true
      → step (between rows pend p) word ≡ between (used a (v ∷ []) (settled_rows rules pend rows)) None p
  unfolding step between walked
  joined_step a rows pend p word name v s found takes = rw (s.0, s.1, found, takes) refl

  name_ok : (a : Rule) (rows : List Row) (pend : Option (Text × List Text)) (p : ℕ) (word name : Text) → IsSeen word (named name None) → arg_by_long rules name ≡ Some a → takes_values a ≡ true
      → ok (between rows pend p) word ≡ settles rows pend
  unfolding ok between settles
  name_ok a rows pend p word name s found takes = rw (s.0, s.1, found, takes) (ap passes (no_more _))

  name_step : (a : Rule) (rows : List Row) (pend : Option (Text × List Text)) (p : ℕ) (word name : Text) → IsSeen word (named name None) → arg_by_long rules name ≡ Some a → takes_values a ≡ true
      → step (between rows pend p) word ≡ awaiting (settled_rows rules pend rows) a.id p
  unfolding step between awaiting walked
  name_step a rows pend p word name s found takes = rw (s.0, s.1, found, takes) refl

  switch_ok : (a : Rule) (rows : List Row) (pend : Option (Text × List Text)) (p : ℕ) (word name : Text) → IsSeen word (named name None) → arg_by_long rules name ≡ Some a → takes_values a ≡ false
      → ok (between rows pend p) word ≡ (settles rows pend && passes (use_fault false a [] (settled_rows rules pend rows)))
  unfolding ok between settles
  switch_ok a rows pend p word name s found takes = rw (s.0, s.1, found, takes) (ap passes (no_more _) ∙ passes_both _ _)

  switch_step : (a : Rule) (rows : List Row) (pend : Option (Text × List Text)) (p : ℕ) (word name : Text) → IsSeen word (named name None) → arg_by_long rules name ≡ Some a → takes_values a ≡ false
      → step (between rows pend p) word ≡ between (used a [] (settled_rows rules pend rows)) None p
  unfolding step between walked
  switch_step a rows pend p word name s found takes = rw (s.0, s.1, found, takes) refl

  stray_ok : (rows : List Row) (pend : Option (Text × List Text)) (p : ℕ) (word : Text) → IsSeen word plain → arg_by_index rules p ≡ None → ok (between rows pend p) word ≡ false
  unfolding ok between passes
  stray_ok rows pend p word s found = rw (s.0, s.1, s.2, found) refl

  -- a positional that takes one value
  abbrev OneValue : Rule → Type 0
  OneValue a = (takes_several a ≡ false) × (is_append (action_of a) ≡ false) × (a.trailing_var_arg ≡ false)

  and_false : (b : Bool) → (b && false) ≡ false
  and_false true = refl
  and_false false = refl

  positional_ok : (a : Rule) (rows : List Row) (pend : Option (Text × List Text)) (p : ℕ) (word : Text) → IsSeen word plain → arg_by_index rules p ≡ Some a → takes_several a ≡ false
      → ok (between rows pend p) word ≡ settles rows pend
  unfolding ok between settles
  positional_ok a rows pend p word s found one = rw (s.0, s.1, s.2, found, one, and_false _) refl

  positional_step : (a : Rule) (rows : List Row) (pend : Option (Text × List Text)) (p : ℕ) (word : Text) → IsSeen word plain → arg_by_index rules p ≡ Some a → OneValue a
      → step (between rows pend p) word ≡ between (settled_rows rules pend rows) (Some (a.id, word ∷ [])) (min (p + 1) usize_max)
  unfolding step between walked
  positional_step a rows pend p word s found one = rw (s.0, s.1, s.2, found, one.0, one.1, one.2, and_false _) refl

  value_ok : (id : Text) (rows : List Row) (p : ℕ) (word : Text) → IsSeen word plain → ok (awaiting rows id p) word ≡ true
  unfolding ok awaiting passes
  value_ok id rows p word s = rw (s.0, s.1, s.2) refl

  value_step : (a : Rule) (rows : List Row) (p : ℕ) (word : Text) → IsSeen word plain → arg_by_id rules a.id ≡ Some a → bytes_eq a.id a.id ≡ true → most_values a ≡ 1
      → step (awaiting rows a.id p) word ≡ between rows (Some (a.id, word ∷ [])) p
  unfolding step awaiting between walked
  value_step a rows p word s found same one = rw (s.0, s.1, s.2, found, same, one) refl

  -- a word with dashes where a value is awaited
  settle_waiting : (a : Rule) (rows : List Row) → arg_by_id rules a.id ≡ Some a → most_values a ≡ 1 → (unwrap_or_range a.range).start_inclusive ≡ 1
      → passes (settle_fault rules false (record { rows = rows; pending = Some (a.id, []); skip = 0 })) ≡ false
  unfolding passes
  settle_waiting a rows found most least = rw (found, most, least) refl

  waiting_named : (id : Text) (rows : List Row) (p : ℕ) (word name : Text) (value : Option Text) → IsSeen word (named name value)
      → passes (settle_fault rules false (record { rows = rows; pending = Some (id, []); skip = 0 })) ≡ false
      → ok (awaiting rows id p) word ≡ false
  unfolding ok awaiting passes
  waiting_named id rows p word name value s none = go (arg_by_long rules name) refl value refl
    where
      go : (found : Option Rule) → arg_by_long rules name ≡ found → (v : Option Text) → value ≡ v → ok (awaiting rows id p) word ≡ false
      go None found v is = rw (s.0, s.1, found) refl
      go (Some a) found None is = elim (cases (takes_values a)) [
        | inl t ↦ rw (s.0, s.1, found, is, t) (ap passes (no_more _) ∙ none)
        | inr t ↦ rw (s.0, s.1, found, is, t) (ap passes (no_more _) ∙ passes_both _ _ ∙ ap (λ b. b && passes (use_fault false a [] (settled_rows rules (Some (id, [])) rows))) none)
      ]
      go (Some a) found (Some v) is = elim (cases (takes_values a)) [
        | inl t ↦ rw (s.0, s.1, found, is, t) (ap passes (no_more _) ∙ passes_both _ _ ∙ ap (λ b. b && passes (use_fault false a (v ∷ []) (settled_rows rules (Some (id, [])) rows))) none)
        | inr t ↦ rw (s.0, s.1, found, is, t) refl
      ]

  -- ---- the end of the words

  end_fault : Held → Kinds
  end_fault h = or_else (settle_fault rules false h) (or_else (defaults_fault (settled rules h).rows rules) (check_fault shape (finished rules h) false))

  -- the words from here on pass, and the end after them
  pass : Walk → List Text → Bool
  pass w [] = passes (end_fault w.held)
  pass w (word ∷ words) = ok w word && pass (step w word) words

  and_assoc : (a b c : Bool) → ((a && b) && c) ≡ (a && (b && c))
  and_assoc true b c = refl
  and_assoc false b c = refl

  pass_is : (w : Walk) (words : List Text) → passes (or_else (walk_fault shape [] w words) (end_fault (fold (walked rules []) w words).held)) ≡ pass w words
  unfolding pass walk_fault ok step
  pass_is w [] = refl
  pass_is w (word ∷ words) =
      passes_both _ _ ∙ ap (λ b. b && passes (end_fault (fold (walked rules []) (walked rules [] w word) words).held)) (passes_both _ _)
      ∙ and_assoc (passes (turn_fault shape [] w word)) _ _
      ∙ ap (λ b. passes (turn_fault shape [] w word) && b) (sym (passes_both _ _) ∙ pass_is (walked rules [] w word) words)

  -- ---- what is pending may be settled first

  abbrev first_settled : List Row → Option (Text × List Text) → ℕ → List Text → Type 0
  first_settled rows pend p words = pass (between rows pend p) words ≡ (settles rows pend && pass (between (settled_rows rules pend rows) None p) words)

  both_fail : (rows rows2 : List Row) (pend : Option (Text × List Text)) (p : ℕ) (word : Text) (words : List Text) → ok (between rows pend p) word ≡ false
      → ok (between rows2 None p) word ≡ false → (b : Bool) → (ok (between rows pend p) word && pass (step (between rows pend p) word) words)
      ≡ (b && (ok (between rows2 None p) word && pass (step (between rows2 None p) word) words))
  both_fail rows rows2 pend p word words one two b = rw (one, two) (sym (and_false b))

  none_settles : (rows : List Row) → settles rows None ≡ true
  unfolding settles passes
  none_settles rows = refl

  end_first : (rows : List Row) (pend : Option (Text × List Text)) (p : ℕ)
      → passes (end_fault (between rows pend p).held) ≡ (settles rows pend && passes (end_fault (between (settled_rows rules pend rows) None p).held))
  unfolding end_fault between settles
  end_first rows pend p = passes_both _ _

  abbrev turns_alike : List Row → Option (Text × List Text) → ℕ → Text → List Text → Type 0
  turns_alike rows pend p word words =
      (ok (between rows pend p) word && pass (step (between rows pend p) word) words)
      ≡ (settles rows pend && (ok (between (settled_rows rules pend rows) None p) word && pass (step (between (settled_rows rules pend rows) None p) word) words))

  long_first : (rows : List Row) (pend : Option (Text × List Text)) (p : ℕ) (word : Text) (words : List Text) (name : Text) (value : Option Text) → IsSeen word (named name value)
      → (found : Option Rule) → arg_by_long rules name ≡ found → (t : Bool) → unwrap_or (option_map takes_values found) true ≡ t → turns_alike rows pend p word words
  long_first rows pend p word words name value s None found t is =
      let more = settled_rows rules pend rows in both_fail rows more pend p word words (unknown_ok rows pend p word name value s found) (unknown_ok more None p word name value s found) (settles rows pend)
  long_first rows pend p word words name (Some v) s (Some a) found true takes =
      let more = settled_rows rules pend rows in
      rw (joined_ok a rows pend p word name v s found takes, joined_ok a more None p word name v s found takes, joined_step a rows pend p word name v s found takes, joined_step a more None p word name v s found takes, none_settles more)
      (and_assoc (settles rows pend) _ _)
  long_first rows pend p word words name (Some v) s (Some a) found false takes =
      let more = settled_rows rules pend rows in
      both_fail rows more pend p word words (excess_ok a rows pend p word name v s found takes) (excess_ok a more None p word name v s found takes) (settles rows pend)
  long_first rows pend p word words name None s (Some a) found true takes =
      let more = settled_rows rules pend rows in
      rw (name_ok a rows pend p word name s found takes, name_ok a more None p word name s found takes, name_step a rows pend p word name s found takes, name_step a more None p word name s found takes, none_settles more) refl
  long_first rows pend p word words name None s (Some a) found false takes =
      let more = settled_rows rules pend rows in
      rw (switch_ok a rows pend p word name s found takes, switch_ok a more None p word name s found takes, switch_step a rows pend p word name s found takes, switch_step a more None p word name s found takes, none_settles more)
      (and_assoc (settles rows pend) _ _)

  one_value : (k : Kind) (name : Text) (due : Bool) → OneValue (item_rule (record { name = name; kind = k; is_due = due }))
  one_value Valued name due = (refl, refl, refl)
  one_value Switch name due = (refl, refl, refl)
  one_value (Positional n) name due = (refl, refl, refl)

  plain_first : (rows : List Row) (pend : Option (Text × List Text)) (p : ℕ) (word : Text) (words : List Text) → IsSeen word plain
      → (at : Option Item) → item_at items p ≡ at → turns_alike rows pend p word words
  plain_first rows pend p word words s None at =
      let more = settled_rows rules pend rows in
      let found = by_index items p ∙ ap (option_map item_rule) at in
      both_fail rows more pend p word words (stray_ok rows pend p word s found) (stray_ok more None p word s found) (settles rows pend)
  plain_first rows pend p word words s (Some i) at =
      let more = settled_rows rules pend rows in
      let found = by_index items p ∙ ap (option_map item_rule) at in
      let one = one_value i.kind i.name i.is_due in
      rw (positional_ok (item_rule i) rows pend p word s found one.0, positional_ok (item_rule i) more None p word s found one.0, positional_step (item_rule i) rows pend p word s found one, positional_step (item_rule i) more None p word s found one, none_settles more) refl

  form_first : (rows : List Row) (pend : Option (Text × List Text)) (p : ℕ) (word : Text) (words : List Text) (f : Form) → form_of word ≡ f → is_dashed f ≡ false → turns_alike rows pend p word words
  form_first rows pend p word words plain is dry = plain_first rows pend p word words (subst (IsSeen word) is (seen word)) (item_at items p) refl
  form_first rows pend p word words (named name value) is dry =
      long_first rows pend p word words name value (subst (IsSeen word) is (seen word)) (arg_by_long rules name) refl (unwrap_or (option_map takes_values (arg_by_long rules name)) true) refl
  form_first rows pend p word words dashed is dry = absurd (true≢false dry)

  settle_first : (rows : List Row) (pend : Option (Text × List Text)) (p : ℕ) (words : List Text) → has_no_stray_dash words ≡ true → first_settled rows pend p words
  unfolding pass has_no_stray_dash
  settle_first rows pend p [] dry = end_first rows pend p
  settle_first rows pend p (word ∷ words) dry = form_first rows pend p word words (form_of word) refl (not_true (is_dashed (form_of word)) (and_parts _ _ dry).0)

  end_is : (us : List Use) (p : ℕ) → passes (end_fault (between (rows_of us) None p).held) ≡ due_there items us
  unfolding end_fault between
  end_is us p =
      passes_both _ _ ∙ ap (λ b. b && passes (check_fault shape (finished rules (record { rows = rows_of us; pending = None; skip = 0 })) false)) (defaults_pass items (rows_of us))
      ∙ check_passes _ ∙ due_is items us _ (λ name. given_at_end name rules (rows_of us) ∙ given_is name us)

  -- ---- the walk is the reading

  abbrev judged : List Use → Option (List Use) → Bool
  judged us o = fits_all items (option_map (λ vs. us ++ vs) o)

  next_case : (u : Use) (us : List Use) (o : Option (List Use)) (x b : Bool) → has_use u.0 us ≡ b → (b ≡ false → x ≡ judged (us ++ u ∷ []) o) → (not b && x) ≡ judged us (option_map (λ vs. u ∷ vs) o)
  next_case u us None x true has more = refl
  next_case u us (Some vs) x true has more = sym (ap (λ r. not r && due_there items (us ++ u ∷ vs)) (repeats us u vs has))
  next_case u us None x false has more = more refl
  next_case u us (Some vs) x false has more = more refl ∙ ap (fits items) (append_assoc us (u ∷ []) vs)

  -- one use more: a second one of an item is refused
  next : (u : Use) (us : List Use) (o : Option (List Use)) (x : Bool) → (has_use u.0 us ≡ false → x ≡ judged (us ++ u ∷ []) o) → (not (has_use u.0 us) && x) ≡ judged us (option_map (λ vs. u ∷ vs) o)
  next u us o x more = next_case u us o x (has_use u.0 us) refl more

  rule_found : (q : Item → Bool) (i : Item) → is_sound items ≡ true → find q items ≡ Some i → arg_by_id rules i.name ≡ Some (item_rule i)
  rule_found q i lawful e = by_id items i.name ∙ ap (option_map item_rule) (found_by_name q items i (and_parts (are_distinct items) _ lawful).0 e)

  pend_settles : (i : Item) (v : Text) (us : List Use) → arg_by_id rules i.name ≡ Some (item_rule i) → takes_by i.kind ≡ true → settles (rows_of us) (Some (i.name, v ∷ [])) ≡ not (has_use i.name us)
  unfolding settles
  pend_settles i v us found takes = rw found (use_passes i (Some v) (rows_of us) takes) ∙ ap not (rows_have i.name us)

  pend_rows : (i : Item) (v : Text) (us : List Use) → arg_by_id rules i.name ≡ Some (item_rule i) → takes_by i.kind ≡ true → has_use i.name us ≡ false
      → settled_rows rules (Some (i.name, v ∷ [])) (rows_of us) ≡ rows_of (us ++ (i.name, Some v) ∷ [])
  pend_rows i v us found takes fresh = rw found (use_rows i (Some v) us takes fresh)

  abbrev Idle : List Text → Type 0
  Idle words = (us : List Use) (p : ℕ) → has_repeat us ≡ false → pass (between (rows_of us) None p) words ≡ judged us (uses items words p None)

  abbrev Wait : List Text → Type 0
  Wait words = (us : List Use) (p : ℕ) (i : Item) → arg_by_id rules i.name ≡ Some (item_rule i) → i.kind ≡ Valued → has_repeat us ≡ false
      → pass (awaiting (rows_of us) i.name p) words ≡ judged us (uses items words p (Some i.name))

  -- after a value that may still be settled
  after_value : (words : List Text) → has_no_stray_dash words ≡ true → Idle words → (us : List Use) (p : ℕ) (i : Item) (v : Text) → arg_by_id rules i.name ≡ Some (item_rule i) → takes_by i.kind ≡ true
      → has_repeat us ≡ false → pass (between (rows_of us) (Some (i.name, v ∷ [])) p) words ≡ judged us (option_map (λ vs. (i.name, Some v) ∷ vs) (uses items words p None))
  after_value words dry ih us p i v found takes none =
      settle_first (rows_of us) (Some (i.name, v ∷ [])) p words dry
      ∙ ap (λ b. b && pass (between (settled_rows rules (Some (i.name, v ∷ [])) (rows_of us)) None p) words) (pend_settles i v us found takes)
      ∙ next (i.name, Some v) us (uses items words p None) _ (λ fresh. ap (λ r. pass (between r None p) words) (pend_rows i v us found takes fresh)
      ∙ ih (us ++ (i.name, Some v) ∷ []) p (no_repeat us (i.name, Some v) none fresh))

  after_use : (words : List Text) → Idle words → (us : List Use) (p : ℕ) (i : Item) (value : Option Text) → takes_by i.kind ≡ is_some value → has_repeat us ≡ false
      → (passes (use_fault false (item_rule i) (values_of value) (rows_of us)) && pass (between (used (item_rule i) (values_of value) (rows_of us)) None p) words)
      ≡ judged us (option_map (λ vs. (i.name, value) ∷ vs) (uses items words p None))
  after_use words ih us p i value takes none =
      ap (λ b. b && pass (between (used (item_rule i) (values_of value) (rows_of us)) None p) words) (use_passes i value (rows_of us) takes ∙ ap not (rows_have i.name us))
      ∙ next (i.name, value) us (uses items words p None) _ (λ fresh. ap (λ r. pass (between r None p) words) (use_rows i value us takes fresh)
      ∙ ih (us ++ (i.name, value) ∷ []) p (no_repeat us (i.name, value) none fresh))

  takes_valued : (i : Item) → i.kind ≡ Valued → (takes_by i.kind ≡ true) × (takes_values (item_rule i) ≡ true) × (most_values (item_rule i) ≡ 1) × ((unwrap_or_range (item_rule i).range).start_inclusive ≡ 1)
  takes_valued i e = (rw e refl, rw e refl, rw e refl, rw e refl)

  takes_switch : (i : Item) → i.kind ≡ Switch → (takes_by i.kind ≡ false) × (takes_values (item_rule i) ≡ false)
  takes_switch i e = (rw e refl, rw e refl)

  -- a word `--name` or `--name=value` where no value is awaited
  named_case : (word : Text) (words : List Text) → Idle words → Wait words → (us : List Use) (p : ℕ) (name : Text) (value : Option Text) → has_repeat us ≡ false → IsSeen word (named name value)
      → (found : Option Item) → arg_by_long rules name ≡ option_map item_rule found → IfSome found (λ i. arg_by_id rules i.name ≡ Some (item_rule i)) → (k : Kind) → unwrap_or (option_map (λ i. i.kind) found) Valued ≡ k
      → IfSome found (λ i. is_option i.kind ≡ true)
      → (ok (between (rows_of us) None p) word && pass (step (between (rows_of us) None p) word) words) ≡ judged us (then_uses (met_named found value p) (uses items words))
  named_case word words ih wait us p name value none s None long found k kind opt = rw (unknown_ok (rows_of us) None p word name value s long) refl
  named_case word words ih wait us p name None none s (Some i) long found Valued kind opt =
      let t = takes_valued i kind in
      rw (name_ok (item_rule i) (rows_of us) None p word name s long t.1, name_step (item_rule i) (rows_of us) None p word name s long t.1, none_settles (rows_of us), kind) (wait us p i found kind none)
  named_case word words ih wait us p name (Some v) none s (Some i) long found Valued kind opt =
      let t = takes_valued i kind in
      rw (joined_ok (item_rule i) (rows_of us) None p word name v s long t.1, joined_step (item_rule i) (rows_of us) None p word name v s long t.1, none_settles (rows_of us)) (after_use words ih us p i (Some v) t.0 none
      ∙ sym (ap (λ k. judged us (then_uses (met_kind k i.name (Some v) p) (uses items words))) kind))
  named_case word words ih wait us p name None none s (Some i) long found Switch kind opt =
      let t = takes_switch i kind in
      rw (switch_ok (item_rule i) (rows_of us) None p word name s long t.1, switch_step (item_rule i) (rows_of us) None p word name s long t.1, none_settles (rows_of us)) (after_use words ih us p i None t.0 none
      ∙ sym (ap (λ k. judged us (then_uses (met_kind k i.name None p) (uses items words))) kind))
  named_case word words ih wait us p name (Some v) none s (Some i) long found Switch kind opt =
      let t = takes_switch i kind in
      rw (excess_ok (item_rule i) (rows_of us) None p word name v s long t.1, kind) refl
  named_case word words ih wait us p name value none s (Some i) long found (Positional n) kind opt = absurd (true≢false (sym opt ∙ ap is_option kind))

  -- a plain word where no value is awaited
  positional_case : (word : Text) (words : List Text) → is_sound items ≡ true → has_no_stray_dash words ≡ true → Idle words → (us : List Use) (p : ℕ) → has_repeat us ≡ false → IsSeen word plain
      → (at : Option Item) → item_at items p ≡ at
      → (ok (between (rows_of us) None p) word && pass (step (between (rows_of us) None p) word) words) ≡ judged us (then_uses (met_positional at word p) (uses items words))
  positional_case word words lawful dry ih us p none s None at =
      rw (stray_ok (rows_of us) None p word s (by_index items p ∙ ap (option_map item_rule) at)) refl
  positional_case word words lawful dry ih us p none s (Some i) at =
      let found = by_index items p ∙ ap (option_map item_rule) at in
      let one = one_value i.kind i.name i.is_due in
      let is = found_passes (λ j. is_positional p j.kind) items i at in
      let small = small_number i.kind p is (all_found (λ j. has_small_number j.kind) (λ j. is_positional p j.kind) items i (and_parts (are_distinct items) _ lawful).1 at) in
      rw (positional_ok (item_rule i) (rows_of us) None p word s found one.0, positional_step (item_rule i) (rows_of us) None p word s found one, none_settles (rows_of us), small)
      (after_value words dry ih us (p + 1) i word (rule_found (λ j. is_positional p j.kind) i lawful at) (positional_takes i.kind p is) none)

  idle_form : (word : Text) (words : List Text) → is_sound items ≡ true → has_no_stray_dash words ≡ true → Idle words → Wait words → (us : List Use) (p : ℕ) → has_repeat us ≡ false
      → (f : Form) → form_of word ≡ f → is_dashed f ≡ false
      → (ok (between (rows_of us) None p) word && pass (step (between (rows_of us) None p) word) words) ≡ judged us (then_uses (met_idle items p f word) (uses items words))
  idle_form word words lawful dry ih wait us p none plain is undashed = positional_case word words lawful dry ih us p none (subst (IsSeen word) is (seen word)) (item_at items p) refl
  idle_form word words lawful dry ih wait us p none dashed is undashed = absurd (true≢false undashed)
  idle_form word words lawful dry ih wait us p none (named name value) is undashed =
      let found = option_named items name in
      named_case word words ih wait us p name value none (subst (IsSeen word) is (seen word)) found (by_long items name) (by_name found refl) (unwrap_or (option_map (λ i. i.kind) found) Valued) refl (is_one found refl)
    where
      test : Item → Bool
      test i = is_option i.kind && bytes_eq i.name name

      by_name : (found : Option Item) → option_named items name ≡ found → IfSome found (λ i. arg_by_id rules i.name ≡ Some (item_rule i))
      by_name None e = tt
      by_name (Some i) e = rule_found (λ i. is_option i.kind && bytes_eq i.name name) i lawful e

      is_one : (found : Option Item) → option_named items name ≡ found → IfSome found (λ i. is_option i.kind ≡ true)
      is_one None e = tt
      is_one (Some i) e = (and_parts (is_option i.kind) (bytes_eq i.name name) (found_passes (λ i. is_option i.kind && bytes_eq i.name name) items i e)).0

  wait_form : (word : Text) (words : List Text) → has_no_stray_dash words ≡ true → Idle words → (us : List Use) (p : ℕ) (i : Item) → arg_by_id rules i.name ≡ Some (item_rule i) → i.kind ≡ Valued → has_repeat us ≡ false
      → (f : Form) → form_of word ≡ f → is_dashed f ≡ false
      → (ok (awaiting (rows_of us) i.name p) word && pass (step (awaiting (rows_of us) i.name p) word) words) ≡ judged us (then_uses (met_waiting i.name p f word) (uses items words))
  wait_form word words dry ih us p i found kind none plain is undashed =
      let s = subst (IsSeen word) is (seen word) in
      let t = takes_valued i kind in
      rw (value_ok i.name (rows_of us) p word s, value_step (item_rule i) (rows_of us) p word s found (same_bytes i.name) t.2) (after_value words dry ih us p i word found t.0 none)
  wait_form word words dry ih us p i found kind none (named name value) is undashed =
      let t = takes_valued i kind in
      rw (waiting_named i.name (rows_of us) p word name value (subst (IsSeen word) is (seen word)) (settle_waiting (item_rule i) (rows_of us) found t.2 t.3)) refl
  wait_form word words dry ih us p i found kind none dashed is undashed = absurd (true≢false undashed)

  wait_end : (us : List Use) (p : ℕ) (i : Item) → arg_by_id rules i.name ≡ Some (item_rule i) → i.kind ≡ Valued → passes (end_fault (awaiting (rows_of us) i.name p).held) ≡ false
  unfolding end_fault awaiting
  wait_end us p i found kind =
      let t = takes_valued i kind in
      passes_both _ _ ∙ and_left _ _ (settle_waiting (item_rule i) (rows_of us) found t.2 t.3)

  walks : (words : List Text) → is_sound items ≡ true → has_no_stray_dash words ≡ true → Idle words × Wait words
  unfolding pass uses has_no_stray_dash
  walks [] lawful dry = (
    (λ us p none. end_is us p ∙ sym (ap (λ r. not r && due_there items us) none) ∙ sym (ap (fits items) (append-nil us))),
    (λ us p i found kind none. wait_end us p i found kind),
  )
  walks (word ∷ words) lawful dry =
      let parts = and_parts (not (is_dashed (form_of word))) (has_no_stray_dash words) dry in
      let later = walks words lawful parts.1 in
      let undashed = not_true (is_dashed (form_of word)) parts.0 in (
        (λ us p none. idle_form word words lawful parts.1 later.0 later.1 us p none (form_of word) refl undashed),
        (λ us p i found kind none. wait_form word words parts.1 later.0 us p i found kind none (form_of word) refl undashed),
      )

  from_nothing : (o : Option (List Use)) → judged [] o ≡ fits_all items o
  from_nothing None = refl
  from_nothing (Some us) = refl

  level_pass : (words : List Text) → passes (level_fault shape [] nothing_held words false []) ≡ pass (walk_from nothing_held) words
  unfolding end_fault
  level_pass words = pass_is (walk_from nothing_held) words

  start : (words : List Text) → pass (walk_from nothing_held) words ≡ pass (between (rows_of []) None 1) words
  unfolding between rows_of
  start words = refl

  level_is : (words : List Text) → is_sound items ≡ true → has_no_stray_dash words ≡ true → passes (level_fault shape [] nothing_held words false []) ≡ is_read items words
  level_is words lawful dry = level_pass words ∙ start words ∙ (walks words lawful dry).0 [] 1 refl ∙ from_nothing (uses items words 1 None)

  -- ---- the rows at the end

  rows_at : Walk → List Text → List Row
  rows_at w [] = (settled rules w.held).rows
  rows_at w (word ∷ words) = rows_at (step w word) words

  rows_at_is : (w : Walk) (words : List Text) → (settled rules (fold (walked rules []) w words).held).rows ≡ rows_at w words
  unfolding rows_at step
  rows_at_is w [] = refl
  rows_at_is w (word ∷ words) = rows_at_is (walked rules [] w word) words

  some_parts : (u : Use) (o : Option (List Use)) (vs : List Use) → option_map (λ us. u ∷ us) o ≡ Some vs → (ws : List Use) × (o ≡ Some ws) × (u ∷ ws ≡ vs)
  some_parts u None vs e = absurd (true≢false (sym (ap is_some e)))
  some_parts u (Some ws) vs e = (ws, refl, ap (λ o. unwrap_or o []) e)

  first_use : (us : List Use) (u : Use) (vs : List Use) → has_repeat (us ++ u ∷ vs) ≡ false → has_use u.0 us ≡ false
  first_use us u vs e = elim (cases (has_use u.0 us)) [
    | inl h ↦ absurd (true≢false (sym (repeats us u vs h) ∙ e))
    | inr h ↦ h
  ]

  abbrev IdleRows : List Text → Type 0
  IdleRows words = (rows : List Row) (pend : Option (Text × List Text)) (us : List Use) (p : ℕ) (vs : List Use) → settled_rows rules pend rows ≡ rows_of us → uses items words p None ≡ Some vs
      → has_repeat (us ++ vs) ≡ false → rows_at (between rows pend p) words ≡ rows_of (us ++ vs)

  abbrev WaitRows : List Text → Type 0
  WaitRows words = (rows : List Row) (us : List Use) (p : ℕ) (i : Item) (vs : List Use) → arg_by_id rules i.name ≡ Some (item_rule i) → i.kind ≡ Valued → rows ≡ rows_of us → uses items words p (Some i.name) ≡ Some vs
      → has_repeat (us ++ vs) ≡ false → rows_at (awaiting rows i.name p) words ≡ rows_of (us ++ vs)

  -- after a use whose value may still be settled, or is
  more_rows : (words : List Text) → IdleRows words → (rows : List Row) (pend : Option (Text × List Text)) (us : List Use) (p : ℕ) (u : Use) (vs : List Use)
      → (has_use u.0 us ≡ false → settled_rows rules pend rows ≡ rows_of (us ++ u ∷ [])) → option_map (λ ws. u ∷ ws) (uses items words p None) ≡ Some vs → has_repeat (us ++ vs) ≡ false
      → rows_at (between rows pend p) words ≡ rows_of (us ++ vs)
  more_rows words ih rows pend us p u vs then_rows read none =
      let parts = some_parts u (uses items words p None) vs read in
      let whole : has_repeat (us ++ u ∷ parts.0) ≡ false = subst (λ ws. has_repeat (us ++ ws) ≡ false) (sym parts.2) none in
      let apart = append_assoc us (u ∷ []) parts.0 in
      ih rows pend (us ++ u ∷ []) p parts.0 (then_rows (first_use us u parts.0 whole)) parts.1 (subst (λ ws. has_repeat ws ≡ false) (sym apart) whole)
      ∙ ap rows_of (apart ∙ ap (λ ws. us ++ ws) parts.2)

  held_at : (rows : List Row) (pend : Option (Text × List Text)) (p : ℕ) → (settled rules (between rows pend p).held).rows ≡ settled_rows rules pend rows
  unfolding between
  held_at rows pend p = refl

  nothing_read : {A : Type 0} (vs : List Use) → None ≡ Some vs → A
  nothing_read vs e = absurd (true≢false (sym (ap is_some e)))

  value_rows : (i : Item) (v : Text) (rows : List Row) (us : List Use) → arg_by_id rules i.name ≡ Some (item_rule i) → takes_by i.kind ≡ true → rows ≡ rows_of us → has_use i.name us ≡ false
      → settled_rows rules (Some (i.name, v ∷ [])) rows ≡ rows_of (us ++ (i.name, Some v) ∷ [])
  value_rows i v rows us found takes same fresh = ap (settled_rows rules (Some (i.name, v ∷ []))) same ∙ pend_rows i v us found takes fresh

  named_rows : (word : Text) (words : List Text) → IdleRows words → WaitRows words → (rows : List Row) (pend : Option (Text × List Text)) (us : List Use) (p : ℕ) (vs : List Use) → settled_rows rules pend rows ≡ rows_of us
      → (name : Text) (value : Option Text) → IsSeen word (named name value) → (found : Option Item) → arg_by_long rules name ≡ option_map item_rule found
      → IfSome found (λ i. arg_by_id rules i.name ≡ Some (item_rule i)) → (k : Kind) → unwrap_or (option_map (λ i. i.kind) found) Valued ≡ k
      → then_uses (met_named found value p) (uses items words) ≡ Some vs → has_repeat (us ++ vs) ≡ false → rows_at (step (between rows pend p) word) words ≡ rows_of (us ++ vs)
  named_rows word words ih wait rows pend us p vs same name value s None long found k kind read none = nothing_read vs read
  named_rows word words ih wait rows pend us p vs same name None s (Some i) long found Valued kind read none =
      let t = takes_valued i kind in
      rw (name_step (item_rule i) rows pend p word name s long t.1) (wait (settled_rows rules pend rows) us p i vs found kind same (sym (ap (λ k. then_uses (met_kind k i.name None p) (uses items words)) kind) ∙ read) none)
  named_rows word words ih wait rows pend us p vs same name (Some v) s (Some i) long found Valued kind read none =
      let t = takes_valued i kind in
      rw (joined_step (item_rule i) rows pend p word name v s long t.1)
      (more_rows words ih (used (item_rule i) (v ∷ []) (settled_rows rules pend rows)) None us p (i.name, Some v) vs (λ fresh. ap (used (item_rule i) (v ∷ [])) same ∙ use_rows i (Some v) us t.0 fresh)
      (sym (ap (λ k. then_uses (met_kind k i.name (Some v) p) (uses items words)) kind) ∙ read) none)
  named_rows word words ih wait rows pend us p vs same name None s (Some i) long found Switch kind read none =
      let t = takes_switch i kind in
      rw (switch_step (item_rule i) rows pend p word name s long t.1)
      (more_rows words ih (used (item_rule i) [] (settled_rows rules pend rows)) None us p (i.name, None) vs (λ fresh. ap (used (item_rule i) []) same ∙ use_rows i None us t.0 fresh)
      (sym (ap (λ k. then_uses (met_kind k i.name None p) (uses items words)) kind) ∙ read) none)
  named_rows word words ih wait rows pend us p vs same name (Some v) s (Some i) long found Switch kind read none =
      nothing_read vs (sym (ap (λ k. then_uses (met_kind k i.name (Some v) p) (uses items words)) kind) ∙ read)
  named_rows word words ih wait rows pend us p vs same name value s (Some i) long found (Positional n) kind read none =
      nothing_read vs (sym (ap (λ k. then_uses (met_kind k i.name value p) (uses items words)) kind) ∙ read)

  positional_rows : (word : Text) (words : List Text) → is_sound items ≡ true → IdleRows words → (rows : List Row) (pend : Option (Text × List Text)) (us : List Use) (p : ℕ) (vs : List Use) → settled_rows rules pend rows ≡ rows_of us
      → IsSeen word plain → (at : Option Item) → item_at items p ≡ at → then_uses (met_positional at word p) (uses items words) ≡ Some vs → has_repeat (us ++ vs) ≡ false
      → rows_at (step (between rows pend p) word) words ≡ rows_of (us ++ vs)
  positional_rows word words lawful ih rows pend us p vs same s None at read none = nothing_read vs read
  positional_rows word words lawful ih rows pend us p vs same s (Some i) at read none =
      let found = by_index items p ∙ ap (option_map item_rule) at in
      let one = one_value i.kind i.name i.is_due in
      let is = found_passes (λ j. is_positional p j.kind) items i at in
      let small = small_number i.kind p is (all_found (λ j. has_small_number j.kind) (λ j. is_positional p j.kind) items i (and_parts (are_distinct items) _ lawful).1 at) in
      rw (positional_step (item_rule i) rows pend p word s found one, small)
      (more_rows words ih (settled_rows rules pend rows) (Some (i.name, word ∷ [])) us (p + 1) (i.name, Some word) vs
      (λ fresh. value_rows i word (settled_rows rules pend rows) us (rule_found (λ j. is_positional p j.kind) i lawful at) (positional_takes i.kind p is) same fresh) read none)

  idle_rows : (word : Text) (words : List Text) → is_sound items ≡ true → IdleRows words → WaitRows words → (rows : List Row) (pend : Option (Text × List Text)) (us : List Use) (p : ℕ) (vs : List Use)
      → settled_rows rules pend rows ≡ rows_of us → (f : Form) → form_of word ≡ f → then_uses (met_idle items p f word) (uses items words) ≡ Some vs → has_repeat (us ++ vs) ≡ false
      → rows_at (step (between rows pend p) word) words ≡ rows_of (us ++ vs)
  idle_rows word words lawful ih wait rows pend us p vs same plain is read none = positional_rows word words lawful ih rows pend us p vs same (subst (IsSeen word) is (seen word)) (item_at items p) refl read none
  idle_rows word words lawful ih wait rows pend us p vs same dashed is read none = nothing_read vs read
  idle_rows word words lawful ih wait rows pend us p vs same (named name value) is read none =
      named_rows word words ih wait rows pend us p vs same name value (subst (IsSeen word) is (seen word)) (option_named items name) (by_long items name) (by_name (option_named items name) refl)
      (unwrap_or (option_map (λ i. i.kind) (option_named items name)) Valued) refl read none
    where
      by_name : (found : Option Item) → option_named items name ≡ found → IfSome found (λ i. arg_by_id rules i.name ≡ Some (item_rule i))
      by_name None e = tt
      by_name (Some i) e = rule_found (λ i. is_option i.kind && bytes_eq i.name name) i lawful e

  wait_rows : (word : Text) (words : List Text) → IdleRows words → (rows : List Row) (us : List Use) (p : ℕ) (i : Item) (vs : List Use) → arg_by_id rules i.name ≡ Some (item_rule i) → i.kind ≡ Valued → rows ≡ rows_of us
      → (f : Form) → form_of word ≡ f → then_uses (met_waiting i.name p f word) (uses items words) ≡ Some vs → has_repeat (us ++ vs) ≡ false → rows_at (step (awaiting rows i.name p) word) words ≡ rows_of (us ++ vs)
  wait_rows word words ih rows us p i vs found kind same (named name value) is read none = nothing_read vs read
  wait_rows word words ih rows us p i vs found kind same dashed is read none = nothing_read vs read
  wait_rows word words ih rows us p i vs found kind same plain is read none =
      let t = takes_valued i kind in
      rw (value_step (item_rule i) rows p word (subst (IsSeen word) is (seen word)) found (same_bytes i.name) t.2)
      (more_rows words ih rows (Some (i.name, word ∷ [])) us p (i.name, Some word) vs (λ fresh. value_rows i word rows us found t.0 same fresh) read none)

  rows_walk : (words : List Text) → is_sound items ≡ true → IdleRows words × WaitRows words
  unfolding rows_at uses
  rows_walk [] lawful = (
    (λ rows pend us p vs same read none. nothing_left rows pend us p vs same read),
    (λ rows us p i vs found kind same read none. nothing_read vs read),
  )
    where
      nothing_left : (rows : List Row) (pend : Option (Text × List Text)) (us : List Use) (p : ℕ) (vs : List Use) → settled_rows rules pend rows ≡ rows_of us → Some [] ≡ Some vs
          → (settled rules (between rows pend p).held).rows ≡ rows_of (us ++ vs)
      nothing_left rows pend us p vs same read = held_at rows pend p ∙ same ∙ ap rows_of (sym (append-nil us) ∙ ap (λ ws. us ++ ws) (ap (λ o. unwrap_or o []) read))
  rows_walk (word ∷ words) lawful =
      let later = rows_walk words lawful in (
        (λ rows pend us p vs same read none. idle_rows word words lawful later.0 later.1 rows pend us p vs same (form_of word) refl read none),
        (λ rows us p i vs found kind same read none. wait_rows word words later.0 rows us p i vs found kind same (form_of word) refl read none),
      )

  -- the rows of words that have a reading, before the defaults
  read_rows : (words : List Text) (us : List Use) → is_sound items ≡ true → uses items words 1 None ≡ Some us → has_repeat us ≡ false
      → (settled rules (walk rules [] nothing_held words).held).rows ≡ rows_of us
  unfolding between rows_of
  read_rows words us lawful read none = rows_at_is (walk_from nothing_held) words ∙ (rows_walk words lawful).0 [] None [] 1 us refl read none

-- ---- what is given at the end

given_is_text : (us : List Use) (name : Text) → given_rows (rows_of us) name ≡ given us name
unfolding rows_of row_of_use value_texts given
given_is_text [] name = refl
given_is_text ((own, None) ∷ us) name = elim (cases (bytes_eq own name)) [ inl h ↦ rw h refl | inr h ↦ rw h (given_is_text us name) ]
given_is_text ((own, Some v) ∷ us) name = elim (cases (bytes_eq own name)) [ inl h ↦ rw h refl | inr h ↦ rw h (given_is_text us name) ]

-- a row that is a default gives nothing
row_more : (name : Text) (rows : List Row) (r : Row) → explicit_source r.source ≡ false → given_rows (rows ++ r ∷ []) name ≡ given_rows rows name
row_more name [] r by = elim (cases (bytes_eq r.id name)) [ inl h ↦ rw (h, by) refl | inr h ↦ rw h refl ]
row_more name (x ∷ rows) r by = elim (cases (bytes_eq x.id name)) [ inl h ↦ rw h refl | inr h ↦ rw h (row_more name rows r by) ]

default_more : (name : Text) (rows : List Row) (a : Rule) (values : List Text) → has_row a.id rows ≡ false
    → given_rows (default_rows a.id (reading_by a) values rows) name ≡ given_rows rows name
default_more name rows a [] h = refl
default_more name rows a (v ∷ vs) h = ap (λ rs. given_rows rs name) (at_none a.id (more_values DefaultValue (v ∷ vs)) _ rows h) ∙ row_more name rows _ refl

with_default_same : (name : Text) (rows : List Row) (a : Rule) → given_rows (with_default rows a) name ≡ given_rows rows name
with_default_same name rows a = elim (cases (has_row a.id rows)) [ inl h ↦ rw h refl | inr h ↦ rw h (default_more name rows a a.defaults h) ]

defaults_same : (name : Text) (c : List Rule) (rows : List Row) → given_rows (fold with_default rows c) name ≡ given_rows rows name
defaults_same name [] rows = refl
defaults_same name (a ∷ c) rows = defaults_same name c (with_default rows a) ∙ with_default_same name rows a

-- clap takes the words exactly where they have a reading
pub reads_so : (app : App) (name : Text) (items : List Item) (words : List Text) → built app ≡ built_app name items → app.top.no_binary_name ≡ true → is_sound items ≡ true → has_no_stray_dash words ≡ true
    → (fault_of app words ≡ []) ↔ (is_read items words ≡ true)
reads_so app name items words same alone lawful dry = (
  (λ none. sym so ∙ none_passes (fault_of app words) none),
  (λ read. passes_none (fault_of app words) (so ∙ read)),
)
  where
    so : passes (fault_of app words) ≡ is_read items words
    so = ap passes ((λ i. built_fault (same i) nothing_held (if alone i then words else drop 1 words)) ∙ leaf_fault (built_app name items) nothing_held words refl) ∙ level_is name items words lawful dry

-- where the words have a reading, the rows that clap gives are those of the uses, and the defaults
rows_so : (app : App) (name : Text) (items : List Item) (words : List Text) (us : List Use) → built app ≡ built_app name items → app.top.no_binary_name ≡ true → is_sound items ≡ true
    → uses items words 1 None ≡ Some us → has_repeat us ≡ false → matches_of app words ≡ fold with_default (rows_of us) (map item_rule items)
rows_so app name items words us same alone lawful read none =
    (λ i. rows_after (same i).top.rules (names_of (same i)) (if alone i then words else drop 1 words))
    ∙ ap (λ rows. fold with_default rows (map item_rule items)) (read_rows name items words us lawful read none)

-- where the words have a reading, its matches give what the reading gives
pub value_so : (app : App) (name : Text) (items : List Item) (words : List Text) (us : List Use) (wanted : Text) → built app ≡ built_app name items → app.top.no_binary_name ≡ true → is_sound items ≡ true
    → uses items words 1 None ≡ Some us → has_repeat us ≡ false → given_rows (matches_of app words) wanted ≡ given us wanted
value_so app name items words us wanted same alone lawful read none =
    ap (λ rows. given_rows rows wanted) (rows_so app name items words us same alone lawful read none) ∙ defaults_same wanted (map item_rule items) (rows_of us) ∙ given_is_text us wanted
