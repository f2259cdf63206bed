-- What a repository takes as one more thing.
use Rattle.std.specs.Prelude.{◌≡◌, ◌≤◌, ◌+◌, ◌&&◌, true, not, nat_le, Bool, List, None}
use Rattle.std.specs.List.{list_any, list_all}
use Rattle.std.specs.Str.{str_eq_ignore_ascii_case}
use Rattle.idl_types.specs.Things.{Thing, id_of}
use Rattle.idl_types.specs.Finding.{place_named}
use Rattle.idl_types.specs.Inherited.{inherits_in}
use Rattle.idl_types.specs.Sound.{is_sound_thing, is_reserved, is_own, has_bases_in, counted_leaves, file_leaves, most_file_leaves}

-- whether no thing has the id of this one, case aside
abbrev pub is_new : List Thing → Thing → Bool
is_new ts t = not (list_any (λ u. str_eq_ignore_ascii_case (id_of t) (id_of u)) ts)

-- whether a thing's bases are interfaces among the things, and its operations begin with what they give
abbrev pub is_derived_in : List Thing → Thing → Bool
is_derived_in ts t = has_bases_in ts t && inherits_in ts t

-- whether the things go on keeping what they keep with this one after them
abbrev pub may_hold : List Thing → Thing → Bool
may_hold ts t = (is_sound_thing t && is_derived_in ts t) && ((is_new ts t && is_own t) && nat_le (file_leaves ts + counted_leaves t) most_file_leaves)

-- whether a file may declare this one after the things: they go on keeping what they keep, and it isn't in the built-in module
abbrev pub may_declare : List Thing → Thing → Bool
may_declare ts t = not (is_reserved (id_of t)) && may_hold ts t

-- a built-in thing, which counts no leaves, and which things may hold that don't have its id and are their own
pub record IsAdded (t : Thing) : Type 0 where
  pub free : counted_leaves t ≡ 0
  pub may : (ts : List Thing) → place_named ts (id_of t) ≡ None → list_all is_own ts ≡ true → file_leaves ts ≤ most_file_leaves → may_hold ts t ≡ true
