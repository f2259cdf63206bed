-- Walks along the objects of a setup.
use Rattle.std.proofs.Common.{◌≡◌, ℕ, zero, suc, ◌+◌, ◌<◌, Bool, true, false, cond, List, [], ◌∷◌, length, drop, Option, Some, None, refl, sym, ap, ◌∙◌}
use Rattle.std.specs.Prelude.{slice_get}
use Rattle.std.specs.List.{position_from}
use Rattle.std.proofs.lemmas.List.{drop_more}
use Rattle.std.proofs.lemmas.Option.{get_or_from_slice_get, slice_get_within}
use Rattle.adapter_policies.specs.SetupData.{SetupData}
use Rattle.adapter_policies.specs.declared.object_spec.ObjectSpec.{ObjectSpec}
use Rattle.dynamic_servants.specs.Outcome.{Served}
use Rattle.setup_servants.specs.Serving.{is_unserved}

-- what is left of a list begins with what is there
pub left_some : {X : Type 0} (xs : List X) (n : ℕ) (x : X) → slice_get xs n ≡ Some x → drop n xs ≡ x ∷ drop (n + 1) xs
left_some xs n x at =
    drop_more xs n x (slice_get_within xs n x at) ∙ ap (λ y. y ∷ drop (n + 1) xs) (get_or_from_slice_get xs n x x at)

-- nothing is left after the end
pub left_none : {X : Type 0} (xs : List X) (n : ℕ) → slice_get xs n ≡ None → drop n xs ≡ []
left_none [] zero none = refl
left_none [] (suc n) none = refl
left_none (x ∷ xs) zero none = absurd (cc)
left_none (x ∷ xs) (suc n) none = left_none xs n none

-- the object of a number is there
pub object_there : (setup : SetupData) (n : ℕ) (o : ObjectSpec) → slice_get setup.objects n ≡ Some o → n < length setup.objects
object_there setup n o at = slice_get_within setup.objects n o at

-- the search at an object, by whether it is the one
here : (p : ObjectSpec → Bool) (n : ℕ) (o : ObjectSpec) (rest : List ObjectSpec) (b : Bool) → p o ≡ b
    → position_from p n (o ∷ rest) ≡ cond b (Some n) (position_from p (n + 1) rest)
here p n o rest b is = ap (λ t. cond t (Some n) (position_from p (n + 1) rest)) is

-- an object that is served is passed over
pub passed_over : (served : Served) (setup : SetupData) (n : ℕ) (o : ObjectSpec) (found : Option ℕ) → slice_get setup.objects n ≡ Some o
    → is_unserved served o ≡ false → position_from (is_unserved served) n (drop n setup.objects) ≡ found
    → position_from (is_unserved served) (n + 1) (drop (n + 1) setup.objects) ≡ found
passed_over served setup n o found at is so_far =
    sym (here (is_unserved served) n o (drop (n + 1) setup.objects) false is)
    ∙ ap (position_from (is_unserved served) n) (sym (left_some setup.objects n o at)) ∙ so_far

-- an object that isn't served is found
pub found_there : (served : Served) (setup : SetupData) (n : ℕ) (o : ObjectSpec) (found : Option ℕ) → slice_get setup.objects n ≡ Some o
    → is_unserved served o ≡ true → position_from (is_unserved served) n (drop n setup.objects) ≡ found → Some n ≡ found
found_there served setup n o found at is so_far =
    sym (here (is_unserved served) n o (drop (n + 1) setup.objects) true is)
    ∙ ap (position_from (is_unserved served) n) (sym (left_some setup.objects n o at)) ∙ so_far

-- after the last object none is found
pub none_there : (served : Served) (setup : SetupData) (n : ℕ) (found : Option ℕ) → slice_get setup.objects n ≡ None
    → position_from (is_unserved served) n (drop n setup.objects) ≡ found → None ≡ found
none_there served setup n found at so_far = ap (position_from (is_unserved served) n) (sym (left_none setup.objects n at)) ∙ so_far
