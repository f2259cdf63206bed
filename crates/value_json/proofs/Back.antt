-- What is printed of a value reads back as that value.
use Rattle.std.proofs.Common.{◌≡◌, ◌∙◌, ℕ, ℤ, pos, zero, suc, ◌+◌, ◌==◌, ◌&&◌, Bool, true, true≢false, not, List, [], ◌∷◌, length, Option, Some, None, refl, sym, ap, arith, is_some, bytes_eq, chars, codes}
use Rattle.std.specs.Prelude.{nat_lt}
use Rattle.std.specs.List.{list_any}
use Rattle.std.specs.Int.{w32, from_bool}
use Rattle.cdr_core.specs.Field as core
use Rattle.cdr_core.specs.Field.{string_fields}
use Rattle.std.specs.Ordering.{int_eq}
use Rattle.std.proofs.lemmas.Bool.{and_parts, not-true, eq-eqb}
use Rattle.std.proofs.lemmas.Str.{chars-encodes}
use lib.Utf8.{scalars}
use Rattle.serde_json.specs.Data as json
use Rattle.serde_json.specs.Data.{Data, Members as JsonMembers, no_members as no_json, member as json_member, put}
use Rattle.serde_json.specs.Events.{items_len, members_len}
use Rattle.serde_json.specs.Find.{get_member}
use Rattle.serde_json.proofs.Views.{get_member-put}
use Rattle.cdr_values.specs.Choice.{choose, nth_kind, kind_at}
use Rattle.cdr_values.specs.Lawful.{differ, member_names, has_member, is_lawful_scalar, is_lawful, are_lawful, cases_are_lawful, all_labels, has_one_default, is_tag}
use Rattle.cdr_values.specs.Reading.{value_at}
use Rattle.cdr_values.specs.Spelling.{lowest, limit, width_of, ranged, number_field, one_field, behind, is_text, is_count, tag_field, fields_of, fields_each, fields_members, fields_chosen}
use Rattle.cdr_values.specs.Trees.{Scalar, boolean, char, unsigned, signed, enumeration, Kind, scalar, words, sequence, array, structure, union, Members, no_members, member, Cases, no_cases, case, Value, truth, number, letter, text, items, chosen, label, Values, no_values, value, values_of, list_of, values_len}
use Rattle.cdr_values.proofs.Members.{bit_back}
use Rattle.value_json.specs.Laws.{has_bytes, have_bytes, ReadsBack}
use Rattle.value_json.specs.Meant.{meant, meant_members, meant_choice, each_in, with_member, without_member}
use Rattle.value_json.specs.Numerals.{number_in, number_data}
use Rattle.value_json.specs.Shown.{shown, shown_each, shown_members, shown_chosen}
use Rattle.value_json.specs.Texts.{are_bytes, text_of}
use Rattle.value_json.proofs.Fields.{if_some, ranged_some, one_some, behind_some, both_some}
use Rattle.value_json.proofs.MembersBack.{members_count, absent_none, kept}
use Rattle.value_json.proofs.NumbersBack.{small_scalar, numeral_back}

-- ---- strings

bytes_scalars : (cs : List ℕ) → are_bytes cs ≡ true → scalars cs ≡ true
bytes_scalars [] h = refl
bytes_scalars (c ∷ cs) h = let parts = and_parts (nat_lt c 256) _ h in rw (small_scalar c parts.0) (bytes_scalars cs parts.1)

pub text_back : (bytes : List ℕ) → are_bytes bytes ≡ true → chars (text_of bytes) ≡ bytes
text_back bytes h = chars-encodes bytes (bytes_scalars bytes h)

-- ---- lists

values_back : (vs : Values) → values_of (list_of vs) ≡ vs
values_back no_values = refl
values_back (value v vs) = ap (value v) (values_back vs)

shown_len : (vs : Values) (k : Kind) → items_len (shown_each vs k) ≡ values_len vs
shown_len no_values k = refl
shown_len (value v vs) k = ap suc (shown_len vs k)

-- ---- unions

-- a union by its number, with a member of a type, where one is chosen
abbrev pub chosen_by : Option Kind → ℤ → JsonMembers → Option Value
chosen_by None z os = without_member z os
chosen_by (Some k) z os = with_member z (meant k) os

pub choice_is : (cs : Cases) (o : Option ℕ) (z : ℤ) (os : JsonMembers) → meant_choice cs o z os ≡ chosen_by (kind_at o cs) z os
unfolding meant_choice
choice_is cs None z os = refl
choice_is no_cases (Some i) z os = refl
choice_is (case labels is_default name k cs) (Some zero) z os = refl
choice_is (case labels is_default name k cs) (Some (suc i)) z os = choice_is cs (Some i) z os

abbrev lawful_choice : Option Kind → Bool
lawful_choice None = true
lawful_choice (Some k) = is_lawful k

nth_lawful : (i : ℕ) (cs : Cases) → cases_are_lawful cs ≡ true → lawful_choice (nth_kind i cs) ≡ true
nth_lawful i no_cases h = refl
nth_lawful zero (case labels is_default name k cs) h = (and_parts (is_lawful k) _ h).0
nth_lawful (suc i) (case labels is_default name k cs) h = nth_lawful i cs (and_parts (is_lawful k) _ h).1

at_lawful : (o : Option ℕ) (cs : Cases) → cases_are_lawful cs ≡ true → lawful_choice (kind_at o cs) ≡ true
at_lawful None cs h = refl
at_lawful (Some i) cs h = nth_lawful i cs h

tag_back : (d : Kind) (z : ℤ) → is_lawful d ≡ true → is_some (tag_field d z) ≡ true → number_in d (number_data d z) ≡ Some z
unfolding number_in
tag_back (scalar s) z l h = numeral_back s z l (ranged_some (lowest s) (limit s) (width_of s) z h)
tag_back (words bound) z l h = absurd (true≢false (sym h))
tag_back (sequence k bound) z l h = absurd (true≢false (sym h))
tag_back (array k n) z l h = absurd (true≢false (sym h))
tag_back (structure name ms) z l h = absurd (true≢false (sym h))
tag_back (union name d cs) z l h = absurd (true≢false (sym h))

no_union : (name : List ℕ) (d : Kind) (cs : Cases) (z : ℤ) (os : JsonMembers) (v : Value) (t : Data) → get_member (codes "case") os ≡ Some t → number_in d t ≡ Some z
    → chosen_by (kind_at (choose z cs) cs) z os ≡ Some v → meant (union name d cs) (json.object os) ≡ Some v
unfolding meant
no_union name d cs z os v t found tag h = rw (found, tag, choice_is cs (choose z cs) z os) h

-- ---- values that are numbers

number_of_scalar : (s : Scalar) (z : ℤ) (v : Value) → is_lawful_scalar s ≡ true → is_some (ranged (lowest s) (limit s) (width_of s) z) ≡ true → value_at s z ≡ v
    → meant (scalar s) (number_data (scalar s) z) ≡ Some v
unfolding meant
number_of_scalar s z v l h e = rw (numeral_back s z l (ranged_some (lowest s) (limit s) (width_of s) z h)) (ap Some e)

-- ---- any value

mutual
  unfolding meant

  back : (v : Value) (k : Kind) → is_lawful k ≡ true → has_bytes v ≡ true → is_some (fields_of v k) ≡ true → meant k (shown v k) ≡ Some v
  back (truth b) (scalar boolean) l t h = number_of_scalar boolean (pos (from_bool b)) (truth b) l (one_some (number_field boolean (pos (from_bool b))) h) (ap truth (bit_back b))
  back (truth b) k l t h = absurd (true≢false (sym h))
  back (number z) (scalar (unsigned s)) l t h = number_of_scalar (unsigned s) z (number z) l (one_some (number_field (unsigned s) z) h) refl
  back (number z) (scalar (signed s)) l t h = number_of_scalar (signed s) z (number z) l (one_some (number_field (signed s) z) h) refl
  back (number z) k l t h = absurd (true≢false (sym h))
  back (letter c) (scalar char) l t h = number_of_scalar char (pos c) (letter c) l (one_some (number_field char (pos c)) h) refl
  back (letter c) k l t h = absurd (true≢false (sym h))
  back (label n) (scalar (enumeration name labels)) l t h = number_of_scalar (enumeration name labels) (pos n) (label n) l (one_some (number_field (enumeration name labels) (pos n)) h) refl
  back (label n) k l t h = absurd (true≢false (sym h))
  back (text bytes) (words bound) l t h = rw (text_back bytes t, t, (if_some (is_text bound bytes) (Some (string_fields bytes)) h).0) refl
  back (text bytes) k l t h = absurd (true≢false (sym h))
  back (items vs) (sequence k bound) l t h =
      let parts = if_some (is_count bound (values_len vs)) (behind (core.number w32 (values_len vs) ∷ []) (fields_each vs k)) h in
      rw (shown_len vs k, parts.0, back_each vs k l t (behind_some (core.number w32 (values_len vs) ∷ []) (fields_each vs k) parts.1), values_back vs) refl
  back (items vs) (array k n) l t h =
      let parts = if_some (values_len vs == n) (fields_each vs k) h in
      rw (shown_len vs k, parts.0, back_each vs k (and_parts (not (n == 0)) _ l).1 t parts.1, values_back vs) refl
  back (items vs) (structure name ms) l t h =
      let lawful = and_parts (differ bytes_eq (member_names ms)) _ (and_parts (has_member ms) _ l).1 in
      let end : length (member_names ms) + 0 ≡ length (member_names ms) = omega arith in
      let count : members_len (shown_members vs ms no_json) ≡ length (member_names ms) = members_count vs ms no_json h lawful.0 (absent_none ms) ∙ end in
      rw (count, eq-eqb (length (member_names ms)) (length (member_names ms)) refl, back_members vs ms no_json lawful.0 lawful.1 t h, values_back vs) refl
  back (items vs) k l t h = absurd (true≢false (sym h))
  back (chosen z vs) (union name d cs) l t h =
      let o = kind_at (choose z cs) cs in
      let parts = both_some (one_field (tag_field d z)) (fields_chosen vs (kind_at (choose z cs) cs)) h in
      let tag = and_parts (is_tag d && is_lawful d) _ l in
      let cases = and_parts (has_one_default cs) _ (and_parts (differ int_eq (all_labels cs)) _ tag.1).1 in
      no_union name d cs z (json_member (codes "case") (number_data d z) (shown_chosen vs o)) (chosen z vs) (number_data d z) refl
      (tag_back d z (and_parts (is_tag d) _ tag.0).1 (one_some (tag_field d z) parts.0)) (back_chosen vs o z (number_data d z) (at_lawful (choose z cs) cs cases.1) t parts.1)
  back (chosen z vs) k l t h = absurd (true≢false (sym h))

  back_each : (vs : Values) (k : Kind) → is_lawful k ≡ true → have_bytes vs ≡ true → is_some (fields_each vs k) ≡ true → each_in (meant k) (shown_each vs k) ≡ Some (list_of vs)
  back_each no_values k l t h = refl
  back_each (value v vs) k l t h =
      let parts = both_some (fields_of v k) (fields_each vs k) h in
      let bytes = and_parts (has_bytes v) _ t in
      rw (back v k l bytes.0 parts.0, back_each vs k l bytes.1 parts.1) refl

  back_members : (vs : Values) (ms : Members) (os : JsonMembers) → differ bytes_eq (member_names ms) ≡ true → are_lawful ms ≡ true → have_bytes vs ≡ true
      → is_some (fields_members vs ms) ≡ true → meant_members ms (shown_members vs ms os) ≡ Some (list_of vs)
  back_members no_values no_members os d l t h = refl
  back_members no_values (member name k ms) os d l t h = absurd (true≢false (sym h))
  back_members (value v vs) no_members os d l t h = absurd (true≢false (sym h))
  back_members (value v vs) (member name k ms) os d l t h =
      let parts = both_some (fields_of v k) (fields_members vs ms) h in
      let bytes = and_parts (has_bytes v) _ t in
      let names = and_parts (not (list_any (λ y. bytes_eq y name) (member_names ms))) _ d in
      let lawful = and_parts (is_lawful k) _ l in
      let os' = put (text_of name) (shown v k) os in
      let found : get_member (text_of name) (shown_members vs ms os') ≡ Some (shown v k) =
      kept vs ms os' name (not-true _ names.0) ∙ get_member-put (text_of name) (shown v k) os in
      rw (found, back v k lawful.0 bytes.0 parts.0, back_members vs ms os' names.1 lawful.1 bytes.1 parts.1) refl

  back_chosen : (vs : Values) (o : Option Kind) (z : ℤ) (t : Data) → lawful_choice o ≡ true → have_bytes vs ≡ true → is_some (fields_chosen vs o) ≡ true
      → chosen_by o z (json_member (codes "case") t (shown_chosen vs o)) ≡ Some (chosen z vs)
  back_chosen no_values None z t l b h = refl
  back_chosen no_values (Some k) z t l b h = absurd (true≢false (sym h))
  back_chosen (value v no_values) None z t l b h = absurd (true≢false (sym h))
  back_chosen (value v no_values) (Some k) z t l b h = rw (back v k l (and_parts (has_bytes v) _ b).0 h) refl
  back_chosen (value v (value w vs)) o z t l b h = absurd (true≢false (sym h))

pub reads_back : ReadsBack
reads_back k v l t h = back v k l t h
