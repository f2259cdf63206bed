-- Which value of a type JSON means, if any: own profile.
use Rattle.std.specs.Prelude.{ℕ, ℤ, zero, suc, ◌==◌, Bool, List, [], ◌∷◌, codes, length, if◌then◌else◌, Option, Some, None, option_map, option_and_then}
use Rattle.serde_json.specs.Data.{Data, Items, no_items, item}
use Rattle.serde_json.specs.Data as json
use Rattle.serde_json.specs.Events.{items_len, members_len}
use Rattle.serde_json.specs.Find.{get_member, as_array, as_object}
use Rattle.cdr_values.specs.Choice.{choose}
use Rattle.cdr_values.specs.Lawful.{member_names}
use Rattle.cdr_values.specs.Reading.{value_at}
use Rattle.cdr_values.specs.Spelling.{is_text, is_count}
use Rattle.cdr_values.specs.Trees.{Kind, scalar, words, sequence, array, structure, union, Members, no_members, member, Cases, no_cases, case, Value, text, items, chosen, no_values, value, values_of}
use Rattle.value_json.specs.Numerals.{numeral_in, number_in}
use Rattle.value_json.specs.Texts.{where_so, codes_in, text_of}

-- a string of a bound, by its bytes
abbrev pub bounded : ℕ → List ℕ → Option Value
bounded bound bytes = option_map text (where_so (is_text bound) bytes)

-- one and more, where all are there
abbrev pub with_first : {A : Type 0} → Option A → Option (List A) → Option (List A)
with_first None more = None
with_first (Some x) more = option_map (λ xs. x ∷ xs) more

-- what each item means
abbrev pub each_in : (Data → Option Value) → Items → Option (List Value)
each_in one no_items = Some []
each_in one (item d ds) = with_first (one d) (each_in one ds)

-- elements or members as one value
abbrev pub as_items : Option (List Value) → Option Value
as_items = option_map (λ vs. items (values_of vs))

-- the items of an array that has as many as are allowed
abbrev pub array_of : (ℕ → Bool) → Data → Option Items
array_of allowed d = option_and_then (where_so (λ ds. allowed (items_len ds))) (as_array d)

-- a sequence or an array
abbrev pub array_in : (Data → Option Value) → (ℕ → Bool) → Data → Option Value
array_in one allowed d = as_items (option_and_then (each_in one) (array_of allowed d))

-- the members of an object that has so many
abbrev pub object_of : ℕ → Data → Option json.Members
object_of n d = option_and_then (where_so (λ os. members_len os == n)) (as_object d)

-- a union without a member: `case` is the only key
abbrev pub without_member : ℤ → json.Members → Option Value
without_member z os = if members_len os == 1 then Some (chosen z no_values) else None

-- a union with a member: `case` and `value` are the only keys
abbrev pub with_member : ℤ → (Data → Option Value) → json.Members → Option Value
with_member z one os =
    if members_len os == 2 then option_map (λ v. chosen z (value v no_values)) (option_and_then one (get_member (codes "value") os))
    else None

-- what is done with the number that `case` means
abbrev pub then_choice : (ℤ → json.Members → Option Value) → (Data → Option ℤ) → json.Members → Option Value
then_choice more tag os = option_and_then (λ z. more z os) (option_and_then tag (get_member (codes "case") os))

-- a value of a type
unfoldable mutual
  pub meant : Kind → Data → Option Value
  meant (scalar s) d = option_map (value_at s) (numeral_in s d)
  meant (words bound) d = option_and_then (bounded bound) (codes_in d)
  meant (sequence k bound) d = array_in (meant k) (is_count bound) d
  meant (array k n) d = array_in (meant k) (λ m. m == n) d
  meant (structure name ms) d = as_items (option_and_then (meant_members ms) (object_of (length (member_names ms)) d))
  meant (union name t cs) d = option_and_then (then_choice (λ z. meant_choice cs (choose z cs) z) (number_in t)) (as_object d)

  -- the members of a struct, each found by its name
  pub meant_members : Members → json.Members → Option (List Value)
  meant_members no_members os = Some []
  meant_members (member name k ms) os = with_first (option_and_then (meant k) (get_member (text_of name) os)) (meant_members ms os)

  -- a union by its number, with the member of the case at an index, where one is chosen
  pub meant_choice : Cases → Option ℕ → ℤ → json.Members → Option Value
  meant_choice cs None z os = without_member z os
  meant_choice no_cases (Some i) z os = without_member z os
  meant_choice (case labels is_default name k cs) (Some zero) z os = with_member z (meant k) os
  meant_choice (case labels is_default name k cs) (Some (suc i)) z os = meant_choice cs (Some i) z os
