-- Rows of a transform, one by one.
use Rattle.std.proofs.Common.{◌≡◌, ◌≢◌, ℕ, zero, suc, ◌+◌, ◌-◌, ◌<◌, ◌≤◌, Bool, true, false, not, ◌&&◌, ◌||◌, nat_le, List, [], ◌∷◌, length, get_or, map, take, drop, Option, Some, None, refl, sym, ap, subst, ◌∙◌, arith}
use Rattle.std.specs.Prelude.{option_map, unwrap_or}
use Rattle.std.specs.List.{All, AllPairs, Contains, find, list_any}
use Rattle.std.proofs.lemmas.Bool.Decides.{nat_tests}
use Rattle.std.proofs.lemmas.List.{drop_all, drop_more, length-drop, take_all}
use Rattle.std.proofs.lemmas.List.Elements.{All-tail}
use Rattle.orb_base.specs.Apart.{are_apart, overlap}
use Rattle.orb_base.specs.Span.{Span, Holds}
use Rattle.orb_base.specs.declared.priority_model.PriorityModel.TheVariants.{ClientPropagated, ServerDeclared}
use Rattle.priority_models.specs.Laws.{BothHold, KeepsWithoutRows, OneRowCounts, RowsCountByBands}
use Rattle.priority_models.specs.Transforms.{AreRows, bands, holds, inbound, mandated, mapped}
use Rattle.priority_models.specs.declared.transform.TransformRow.{TransformRow}

-- rows that are none may be those of a transform
pub no_rows : AreRows []
unfolding are_apart
no_rows = record { few = omega arith; apart = refl }

-- a transform with rows maps
pub some_rows : (rows : List TransformRow) (p : ℕ) → (rows ≡ [] → ⊥) → inbound rows p ≡ mapped rows p
some_rows [] p some = absurd (some refl)
some_rows (row ∷ rows) p some = refl

-- ---- the loop over pairs

-- the rows after one, as a slice of the list has them
behind_all : (rows : List TransformRow) (at : ℕ) → take (length rows - (at + 1)) (drop (at + 1) rows) ≡ drop (at + 1) rows
behind_all rows at = take_all (length rows - (at + 1)) (drop (at + 1) rows) (omega (arith, length-drop (at + 1) rows))

pub apart_stops : (rows : List TransformRow) (at : ℕ) (d : TransformRow) → at < length rows
    → list_any (overlap (get_or rows at d).band) (bands (take (length rows - (at + 1)) (drop (at + 1) rows))) ≡ true
    → are_apart (bands (drop at rows)) ≡ false
unfolding are_apart
apart_stops rows at d h some = rw (drop_more rows at d h, rw (behind_all rows at) at some) refl

pub apart_goes : (rows : List TransformRow) (at : ℕ) (d : TransformRow) → at < length rows
    → list_any (overlap (get_or rows at d).band) (bands (take (length rows - (at + 1)) (drop (at + 1) rows))) ≡ false
    → are_apart (bands (drop at rows)) ≡ are_apart (bands (drop (at + 1) rows))
unfolding are_apart
apart_goes rows at d h none = rw (drop_more rows at d h, rw (behind_all rows at) at none) refl

pub apart_of_none : (rows : List TransformRow) (at : ℕ) → length rows ≤ at → are_apart (bands (drop at rows)) ≡ true
unfolding are_apart
apart_of_none rows at past = let none : drop at rows ≡ [] = drop_all at rows past in rw none refl

-- ---- tests

or_false : (a b : Bool) → (a || b) ≡ false → (a ≡ false) × (b ≡ false)
or_false true b h = absurd (cc)
or_false false b h = (refl, h)

and_true : (a b : Bool) → (a && b) ≡ true → (a ≡ true) × (b ≡ true)
and_true true b h = (refl, h)
and_true false b h = absurd (cc)

not_true : (a : Bool) → not a ≡ true → a ≡ false
not_true true h = absurd (cc)
not_true false h = refl

holds_true : (band : Span) (p : ℕ) → Holds band p → holds band p ≡ true
holds_true band p h = grind (arith, nat_tests)

holds_of : (band : Span) (p : ℕ) → holds band p ≡ true → Holds band p
holds_of band p h = (grind (arith, nat_tests), grind (arith, nat_tests))

not_by : (band : Span) (p : ℕ) (b : Bool) → holds band p ≡ b → (Holds band p → ⊥) → b ≡ false
not_by band p true is none = absurd (none (holds_of band p is))
not_by band p false is none = refl

holds_false : (band : Span) (p : ℕ) → (Holds band p → ⊥) → holds band p ≡ false
holds_false band p none = not_by band p (holds band p) refl none

-- bands that share no priority don't both hold one
no_share : (a b : Span) (p : ℕ) → overlap a b ≡ false → Holds a p → Holds b p → ⊥
no_share a b p apart h k = grind (arith, nat_tests)

-- ---- one row at most holds a priority

first_apart : (row : TransformRow) (rows : List TransformRow) (p : ℕ) → list_any (overlap row.band) (bands rows) ≡ false
    → (k : ℕ) (d : TransformRow) → k < length rows → BothHold p row (get_or rows k d) → ⊥
first_apart row [] p none k d h both = absurd (omega arith)
first_apart row (other ∷ rows) p none zero d h both =
    no_share row.band other.band p (or_false (overlap row.band other.band) (list_any (overlap row.band) (bands rows)) none).0 both.0 both.1
first_apart row (other ∷ rows) p none (suc k) d h both =
    first_apart row rows p (or_false (overlap row.band other.band) (list_any (overlap row.band) (bands rows)) none).1 k d (omega arith) both

record Parted (row : TransformRow) (rows : List TransformRow) : Type 0 where
  first : list_any (overlap row.band) (bands rows) ≡ false
  rest : are_apart (bands rows) ≡ true

parted : (row : TransformRow) (rows : List TransformRow) → are_apart (bands (row ∷ rows)) ≡ true → Parted row rows
unfolding are_apart
parted row rows apart =
    let parts = and_true (not (list_any (overlap row.band) (bands rows))) (are_apart (bands rows)) apart in
    record { first = not_true (list_any (overlap row.band) (bands rows)) parts.0; rest = parts.1 }

apart_pairs : (rows : List TransformRow) (p : ℕ) → are_apart (bands rows) ≡ true → (i j : ℕ) (d : TransformRow) → i < j → j < length rows
    → BothHold p (get_or rows i d) (get_or rows j d) → ⊥
apart_pairs [] p apart i j d less within both = absurd (omega arith)
apart_pairs (row ∷ rows) p apart i zero d less within both = absurd (omega arith)
apart_pairs (row ∷ rows) p apart zero (suc j) d less within both = first_apart row rows p (parted row rows apart).first j d (omega arith) both
apart_pairs (row ∷ rows) p apart (suc i) (suc j) d less within both =
    apart_pairs rows p (parted row rows apart).rest i j d (omega arith) (omega arith) both

-- ---- the row that holds a priority counts

mapped_at : (rows : List TransformRow) (p : ℕ) → are_apart (bands rows) ≡ true → (k : ℕ) (d : TransformRow) → k < length rows
    → Holds (get_or rows k d).band p → mapped rows p ≡ Some (get_or rows k d).to
mapped_at [] p apart k d h held = absurd (omega arith)
mapped_at (row ∷ rows) p apart zero d h held = rw (holds_true row.band p held) refl
mapped_at (row ∷ rows) p apart (suc k) d h held =
    let parts = parted row rows apart in
    let other : holds row.band p ≡ false = holds_false row.band p (λ here. first_apart row rows p parts.first k d (omega arith) (here, held)) in
    rw other (mapped_at rows p parts.rest k d (omega arith) held)

counts_at : (rows : List TransformRow) (p : ℕ) → are_apart (bands rows) ≡ true → (k : ℕ) (d : TransformRow) → k < length rows
    → Holds (get_or rows k d).band p → inbound rows p ≡ Some (get_or rows k d).to
counts_at [] p apart k d h held = absurd (omega arith)
counts_at (row ∷ rows) p apart k d h held = mapped_at (row ∷ rows) p apart k d h held

counts_in : (rows : List TransformRow) (p : ℕ) → are_apart (bands rows) ≡ true → (row : TransformRow) → Contains rows row
    → Holds row.band p → inbound rows p ≡ Some row.to
counts_in rows p apart row (k, within, at) held =
    counts_at rows p apart k row within (subst (λ (r : TransformRow). Holds r.band p) (sym at) held) ∙ ap (λ (r : TransformRow). Some r.to) at

none_mapped : (rows : List TransformRow) (p : ℕ) → All (λ row. Holds row.band p → ⊥) rows → mapped rows p ≡ None
none_mapped [] p none = refl
none_mapped (row ∷ rows) p none =
    let here : holds row.band p ≡ false = holds_false row.band p (none 0 row (omega arith)) in
    rw here (none_mapped rows p (All-tail (λ r. Holds r.band p → ⊥) row rows none))

pub counts_by_bands : RowsCountByBands
counts_by_bands rows p apart = record {
  one = apart_pairs rows p apart;
  counts = counts_in rows p apart;
  none = λ some none. some_rows rows p some ∙ none_mapped rows p none;
}

-- ---- without rows

kept : (server : ℕ) (sent : Option ℕ) → mandated ClientPropagated server [] sent ≡ Some (unwrap_or sent server)
kept server None = refl
kept server (Some p) = refl

pub keeps : KeepsWithoutRows
keeps = record { sent = kept; declared = λ server rows sent. refl }
