-- A declaration that becomes another, seen as data.
use Rattle.std.proofs.Common.{◌≡◌, ℕ, List, map, set, Some, option_map, slice_get, sym, ap, ◌∙◌}
use Rattle.std.proofs.lemmas.Option.{slice_get-map}
use Rattle.std.proofs.lemmas.List.{map-set}
use Rattle.idl_scopes.specs.Declaring.{finished_in}
use Rattle.idl_scopes.specs.Declarations.{declared_of, sort_of}
use Rattle.idl_scopes.specs.declared.declared.Declared.{Declared}
use Rattle.idl_scopes.specs.declared.sort.Sort.{Sort}

pub finishes : (ds : List Declared) (i : ℕ) (d : Declared) (sort : Sort) → slice_get ds i ≡ Some d
    → map declared_of (set ds i (record d { sort = sort })) ≡ finished_in (map declared_of ds) i (sort_of sort) (slice_get (map declared_of ds) i)
finishes ds i d sort is =
    map-set declared_of ds i (record d { sort = sort }) ∙ sym (ap (finished_in (map declared_of ds) i (sort_of sort)) (slice_get-map declared_of ds i ∙ ap (option_map declared_of) is))
