-- The names of each scope are apart, since each text leaves its scopes in order.
use Rattle.std.proofs.Common.{◌≡◌, ℕ, List, Option, Some, ap, ◌∙◌}
use Rattle.std.specs.Prelude.{slice_get}
use Rattle.std.specs.Option.{option_map}
use Rattle.std.proofs.lemmas.Option.{slice_get-map}
use Rattle.idl_scopes.specs.Table.{Declared}
use Rattle.idl_reader.proofs.Tables.{known, known_in}
use Rattle.idl_reader.proofs.Standing.{orderly_text}
use Rattle.idl_laws.specs.Apart.{NamesAreApart, OrbIsFree}

-- what is known of a declaration that is there
pub known_there : (ds : List Declared) (i : ℕ) (d : Declared) → slice_get ds i ≡ Some d → slice_get (known_in ds) i ≡ Some (known d)
known_there ds i d e = slice_get-map known ds i ∙ ap (λ (x : Option Declared). option_map known x) e

pub names_apart : NamesAreApart
names_apart text new w i j d e p q same alike =
    let ds = new.scopes.declared in
    (orderly_text text new w).names.apart i j (known d) (known e) (known_there ds i d p) (known_there ds j e q) same alike

pub orb_free : OrbIsFree
orb_free text new w i d p file alike = (orderly_text text new w).free i (known d) (known_there new.scopes.declared i d p) file alike
