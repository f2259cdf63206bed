-- What `clap` builds of a command that is made of a list of items.
use Rattle.std.proofs.Common.{◌≡◌, ◌∙◌, ◌+◌, ◌<◌, ◌==◌, ◌&&◌, ◌∷◌, ℕ, Bool, true, false, not, List, [], map, nat_lt, length, take, get_or, refl, sym, ap, ap₂, arith, eqb-true, ltb-true}
use Rattle.std.proofs.lemmas.Bool.{and_from, and_parts, or_from}
use Rattle.std.proofs.lemmas.List.{map-append, take_more}
use Rattle.std.specs.List.{list_all, list_any}
use Rattle.clap.specs.Walk.{Rule, is_early_multiple}
use Rattle.clap.specs.Simple.{App, built, filled, filled_from, index_after, is_ready, is_ready_leaf, with_index, with_rule}
use Rattle.clap.specs.Faults.{is_free_app, is_simple_and_free}
use Rattle.command_options.specs.declared.item.Kind.{Kind}
use Rattle.command_options.specs.declared.item.Kind.TheVariants.{Valued, Switch, Positional}
use Rattle.command_options.specs.declared.item.Item.{Item as CodeItem}
use Rattle.command_options.specs.Items.{Item, Text, are_numbered, is_numbered, item_of, items_of, number_after}
use Rattle.command_options.specs.Clap.{app_name, built_app, item_rule, made_app, made_rule}

-- ---- numbers

one_number : (k : Kind) (name : Text) (due : Bool) (n : ℕ) → is_numbered n k ≡ true
    → with_index n (filled (made_rule (record { name = name; kind = k; is_due = due }))) ≡ item_rule (record { name = name; kind = k; is_due = due })
one_number Valued name due n e = refl
one_number Switch name due n e = refl
one_number (Positional k) name due n e =
    let same : k ≡ n = eqb-true k n (and_parts (k == n) (nat_lt k 100) e).0 in
    ap (λ m. item_rule (record { name = name; kind = Positional m; is_due = due })) (sym same)

next_number : (k : Kind) (name : Text) (due : Bool) (n : ℕ) → is_numbered n k ≡ true
    → index_after n (filled (made_rule (record { name = name; kind = k; is_due = due }))) ≡ number_after n k
next_number Valued name due n e = refl
next_number Switch name due n e = refl
next_number (Positional k) name due n e =
    let parts = and_parts (k == n) (nat_lt k 100) e in
    let same : k ≡ n = eqb-true k n parts.0 in
    let low : k < 100 = ltb-true k 100 parts.1 in
    omega arith

all_numbers : (n : ℕ) (items : List Item) → are_numbered n items ≡ true → filled_from n (map made_rule items) ≡ map item_rule items
all_numbers n [] e = refl
all_numbers n (i ∷ items) e =
    let parts = and_parts (is_numbered n i.kind) (are_numbered (number_after n i.kind) items) e in
    ap₂ (λ r rs. r ∷ rs) (one_number i.kind i.name i.is_due n parts.0)
    (ap (λ m. filled_from m (map made_rule items)) (next_number i.kind i.name i.is_due n parts.0) ∙ all_numbers (number_after n i.kind) items parts.1)

pub built_is : (items : List Item) → are_numbered 1 items ≡ true → built (made_app items) ≡ built_app app_name items
built_is items e = ap (λ rules. record { top = record (built_app app_name items).top { rules = rules }; subs = [] }) (all_numbers 1 items e)

-- ---- the command is simple

each_made : (items : List Item) → list_all (λ (a : Rule). a.is_simple) (map made_rule items) ≡ true
each_made [] = refl
each_made (i ∷ items) = each_made items

each_built : (items : List Item) → list_all (λ (a : Rule). a.is_simple) (map item_rule items) ≡ true
each_built [] = refl
each_built (i ∷ items) = each_built items

each_free : (items : List Item) → list_all (λ (a : Rule). a.is_free) (map item_rule items) ≡ true
each_free [] = refl
each_free (i ∷ items) = each_free items

one_single : (k : Kind) (name : Text) (due : Bool) (n : ℕ) → is_early_multiple n (item_rule (record { name = name; kind = k; is_due = due })) ≡ false
one_single Valued name due n = refl
one_single Switch name due n = refl
one_single (Positional k) name due n = refl

each_single : (n : ℕ) (items : List Item) → list_any (is_early_multiple n) (map item_rule items) ≡ false
each_single n [] = refl
each_single n (i ∷ items) = or_from _ _ (one_single i.kind i.name i.is_due n) (each_single n items)

abbrev judged : List Item → App → Bool
judged items b =
    (((list_all (λ (a : Rule). a.is_simple) (map made_rule items)) && true) && (is_ready b.top && list_all is_ready_leaf b.subs)) && is_free_app b

judged_built : (items : List Item) → judged items (built_app app_name items) ≡ true
judged_built items =
    and_from _ _ (and_from _ _ (and_from _ _ (each_made items) refl) (and_from _ _ (and_from _ _ (each_built items) (ap not (each_single _ items))) refl))
    (and_from _ _ (each_free items) refl)

pub simple_is : (items : List Item) → are_numbered 1 items ≡ true → is_simple_and_free (made_app items) ≡ true
simple_is items e = ap (judged items) (built_is items e) ∙ judged_built items

-- ---- one argument after the other

pub made_more : (items : List CodeItem) (k : ℕ) (d : CodeItem) → k < length items
    → with_rule (made_app (items_of (take k items))) (made_rule (item_of (get_or items k d))) ≡ made_app (items_of (take (k + 1) items))
made_more items k d low =
    ap (λ rules. record { top = record (made_app []).top { rules = rules }; subs = [] })
    (sym (ap (λ xs. map made_rule (items_of xs)) (take_more items k d low) ∙ ap (map made_rule) (map-append item_of (take k items) (get_or items k d ∷ []))
    ∙ map-append made_rule (items_of (take k items)) (item_of (get_or items k d) ∷ [])))
