-- Lists of values and the trees that hold them.
use Rattle.std.proofs.Common.{◌≡◌, List, [], ◌∷◌, refl, ap}
use Rattle.cdr_values.specs.Trees.{Value, values_of, list_of}

pub list_of_values : (vs : List Value) → list_of (values_of vs) ≡ vs
list_of_values [] = refl
list_of_values (v ∷ vs) = ap (λ ws. v ∷ ws) (list_of_values vs)
