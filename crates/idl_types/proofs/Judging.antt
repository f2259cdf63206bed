-- The test of a declaration, by its parts.
use Rattle.std.proofs.Common.{◌≡◌, ℕ, ◌+◌, Bool, true, false, not, ◌&&◌, List, Some, None, inl, inr, sym, ap, ◌∙◌, arith}
use Rattle.std.specs.Prelude.{nat_le, if◌then◌else◌, Vec}
use Rattle.std.specs.List.{list_any}
use Rattle.std.specs.Str.{bytes_eq, str_eq_ignore_ascii_case, str_to_ascii_lowercase}
use Rattle.std.specs.declared.alloc.Global.{Global}
use Rattle.std.proofs.lemmas.Bool.{and_left, and_right, and_from, or_left, not_from_false, not_from_true, le-leb, lt-leb, cases_Bool}
use Rattle.idl_types.specs.Things.{Thing, id_of}
use Rattle.idl_types.specs.Counting.{thing_leaves}
use Rattle.idl_types.specs.Budget.{left}
use Rattle.idl_types.specs.Sound.{is_built_in, is_sound_thing, is_reserved, is_own, counted_leaves, file_leaves, most_file_leaves}
use Rattle.idl_types.specs.Declaring.{is_new, is_derived_in, may_declare}
use Rattle.idl_types.specs.Entries.{Entry, entry_thing, entry_things, AreFolded}
use Rattle.orb_base.proofs.Places.{any_map}
use Rattle.idl_types.proofs.Budgets.{enough, short}

-- the parts of the test
abbrev pub judged : Bool → Bool → Bool → Bool → Bool → Bool → Bool
judged r s b n o c = not r && ((s && b) && ((n && o) && c))

in_front : (r s b n o c : Bool) → r ≡ true → false ≡ judged r s b n o c
in_front r s b n o c e = sym (and_left (not r) ((s && b) && ((n && o) && c)) (not_from_true r e))

no_base : (r s b n o c : Bool) → b ≡ false → false ≡ judged r s b n o c
no_base r s b n o c e = sym (and_right (not r) ((s && b) && ((n && o) && c)) (and_left (s && b) ((n && o) && c) (and_right s b e)))

not_new : (r s b n o c : Bool) → n ≡ false → false ≡ judged r s b n o c
not_new r s b n o c e = sym (and_right (not r) ((s && b) && ((n && o) && c)) (and_right (s && b) ((n && o) && c) (and_left (n && o) c (and_left n o e))))

no_room : (r s b n o c : Bool) → c ≡ false → false ≡ judged r s b n o c
no_room r s b n o c e = sym (and_right (not r) ((s && b) && ((n && o) && c)) (and_right (s && b) ((n && o) && c) (and_right (n && o) c e)))

by_soundness : (r s b n o c : Bool) → r ≡ false → b ≡ true → n ≡ true → o ≡ true → c ≡ true → s ≡ judged r s b n o c
by_soundness r s b n o c er eb en eo ec = elim (cases_Bool s) [
  | inl t ↦ t ∙ sym (and_from (not r) ((s && b) && ((n && o) && c)) (not_from_false r er) (and_from (s && b) ((n && o) && c) (and_from s b t eb) (and_from (n && o) c (and_from n o en eo) ec)))
  | inr f ↦ f ∙ sym (and_right (not r) ((s && b) && ((n && o) && c)) (and_left (s && b) ((n && o) && c) (and_left s b f)))
]

module _ (ts : List Thing) (t : Thing) where
  abbrev room : Bool
  room = nat_le (file_leaves ts + counted_leaves t) most_file_leaves

  pub says_reserved : is_reserved (id_of t) ≡ true → false ≡ may_declare ts t
  says_reserved e = in_front (is_reserved (id_of t)) (is_sound_thing t) (is_derived_in ts t) (is_new ts t) (is_own t) room e

  pub says_underived : is_derived_in ts t ≡ false → false ≡ may_declare ts t
  says_underived e = no_base (is_reserved (id_of t)) (is_sound_thing t) (is_derived_in ts t) (is_new ts t) (is_own t) room e

  pub says_known : is_new ts t ≡ false → false ≡ may_declare ts t
  says_known e = not_new (is_reserved (id_of t)) (is_sound_thing t) (is_derived_in ts t) (is_new ts t) (is_own t) room e

  all_counted : is_reserved (id_of t) ≡ false → counted_leaves t ≡ thing_leaves t
  all_counted e = ap (λ (b : Bool). if b then 0 else thing_leaves t) e

  pub says_large : (budget : ℕ) → is_reserved (id_of t) ≡ false → left budget (thing_leaves t) ≡ None → budget + file_leaves ts ≡ 1048576 → false ≡ may_declare ts t
  says_large budget e none all =
      no_room (is_reserved (id_of t)) (is_sound_thing t) (is_derived_in ts t) (is_new ts t) (is_own t) room
      (lt-leb (file_leaves ts + counted_leaves t) most_file_leaves (omega (arith, all, short budget (thing_leaves t) none, all_counted e)))

  pub says_sound : (budget rest : ℕ) → is_reserved (id_of t) ≡ false → is_derived_in ts t ≡ true → is_new ts t ≡ true → left budget (thing_leaves t) ≡ Some rest
      → budget + file_leaves ts ≡ 1048576 → is_sound_thing t ≡ may_declare ts t
  says_sound budget rest er eb en some all =
      let h = enough budget (thing_leaves t) rest some in
      by_soundness (is_reserved (id_of t)) (is_sound_thing t) (is_derived_in ts t) (is_new ts t) (is_own t) room er eb en
      (or_left (not (is_reserved (id_of t))) (is_built_in (id_of t)) (not_from_false (is_reserved (id_of t)) er))
      (le-leb (file_leaves ts + counted_leaves t) most_file_leaves (omega (arith, all, h.0, all_counted er)))

  -- what is left after a declaration
  pub spent : (budget rest : ℕ) → is_reserved (id_of t) ≡ false → left budget (thing_leaves t) ≡ Some rest → budget + file_leaves ts ≡ 1048576 → rest + (file_leaves ts + counted_leaves t) ≡ 1048576
  spent budget rest er some all = let h = enough budget (thing_leaves t) rest some in omega (arith, all, h.0, h.1, all_counted er)

-- the ids in lower case tell whether one is new
pub new_by_case : (low : List ℕ) (ns : List (Vec ℕ Global)) (es : List Entry) (t : Thing) → low ≡ str_to_ascii_lowercase (id_of t) → AreFolded ns es
    → list_any (λ (n : Vec ℕ Global). bytes_eq low n.items) ns ≡ list_any (λ u. str_eq_ignore_ascii_case (id_of t) (id_of u)) (entry_things es)
new_by_case low ns es t is folded =
    ap (λ (l : List ℕ). list_any (λ (n : Vec ℕ Global). bytes_eq l n.items) ns) is
    ∙ sym (any_map (bytes_eq (str_to_ascii_lowercase (id_of t))) (λ (n : Vec ℕ Global). n.items) ns)
    ∙ ap (λ (xs : List (List ℕ)). list_any (bytes_eq (str_to_ascii_lowercase (id_of t))) xs) folded
    ∙ any_map (bytes_eq (str_to_ascii_lowercase (id_of t))) (λ e. str_to_ascii_lowercase (id_of (entry_thing e))) es
    ∙ sym (any_map (λ u. str_eq_ignore_ascii_case (id_of t) (id_of u)) entry_thing es)
