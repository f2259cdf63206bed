-- The names that a text declares have no NUL.
use Rattle.std.proofs.Common.{◌≡◌, ℕ, Bool, false, List, Option, Some, refl, ap, ◌∙◌}
use Rattle.std.specs.Prelude.{◌==◌, slice_get}
use Rattle.std.specs.List.{list_any}
use Rattle.std.specs.Option.{option_map}
use Rattle.std.proofs.lemmas.Option.{slice_get-map}
use Rattle.idl_scopes.specs.Table.{Declared, Table}
use Rattle.idl_names.specs.State.{Built}
use Rattle.idl_names.specs.Whole.{Declares}
use Rattle.idl_reader.proofs.NameTokens.{name_lacks}
use Rattle.idl_reader.proofs.Standing.{orderly_text}
use Rattle.idl_reader.proofs.Tables.{known}

-- a byte is 0
abbrev pub has_nul : List ℕ → Bool
has_nul z = list_any (λ b. b == 0) z

-- no name in a table has a NUL
abbrev pub IsClean : Table → Type 0
IsClean t = (i : ℕ) (d : Declared) → slice_get t.declared i ≡ Some d → has_nul d.name ≡ false

-- so it is of the names that a text declares
pub names_clean : (text : List ℕ) (new : Built) → Declares text new → IsClean new.scopes
names_clean text new w i d e =
    name_lacks 0 refl d.name
    ((orderly_text text new w).names.plain i (known d) (slice_get-map known new.scopes.declared i ∙ ap (λ (o : Option Declared). option_map known o) e))
