-- A thing that becomes another, seen as data.
use Rattle.std.proofs.Common.{◌≡◌, ◌≤◌, ℕ, zero, suc, List, [], ◌∷◌, map, set, length, Some, option_map, slice_get, refl, sym, ap, ◌∙◌, arith}
use Rattle.std.proofs.lemmas.List.{map-set, length-map}
use Rattle.std.proofs.lemmas.Option.{slice_get-map}
use Rattle.idl_names.specs.State as t
use Rattle.idl_names.specs.Changes.{thing_in}
use Rattle.idl_names.specs.Interfaces.{and_operation}
use Rattle.idl_names.specs.Views.{thing_of}
use Rattle.idl_names.specs.declared.state.Thing.{Thing}

set_past : {X : Type 0} (xs : List X) (i : ℕ) (x : X) → length xs ≤ i → set xs i x ≡ xs
set_past [] zero x h = refl
set_past [] (suc i) x h = refl
set_past (y ∷ ys) zero x h = absurd (omega arith)
set_past (y ∷ ys) (suc i) x h = ap (λ zs. y ∷ zs) (set_past ys i x (omega arith))

-- a thing becomes another
pub becomes : (things : List Thing) (i : ℕ) (thing : Thing) → map thing_of (set things i thing) ≡ set (map thing_of things) i (thing_of thing)
becomes things i thing = map-set thing_of things i thing

-- after the last one nothing does
pub stays : (things : List Thing) (i : ℕ) (thing : t.Thing) → length things ≤ i → map thing_of things ≡ set (map thing_of things) i thing
stays things i thing h =
    let e : length (map thing_of things) ≡ length things = length-map things thing_of in
    sym (set_past (map thing_of things) i thing (omega arith))

-- an interface has one operation more
pub gains : (things : List Thing) (i at : ℕ) (old new : Thing) → slice_get things i ≡ Some old → thing_of new ≡ and_operation at (thing_of old)
    → map thing_of (set things i new) ≡ set (map thing_of things) i (and_operation at (thing_in (slice_get (map thing_of things) i)))
gains things i at old new is next =
    becomes things i new ∙ ap (set (map thing_of things) i) next
    ∙ sym (ap (λ o. set (map thing_of things) i (and_operation at (thing_in o))) (slice_get-map thing_of things i ∙ ap (option_map thing_of) is))
