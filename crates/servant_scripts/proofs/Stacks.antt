-- The newest of a stack, seen as a tree.
use Rattle.std.proofs.Common.{◌≡◌, List, [], ◌∷◌, map, refl}
use Rattle.idl_tokens.specs.Stream.{first_or, rest_of}

pub first_map : {X Y : Type 0} (f : X → Y) (xs : List X) (d : X) → f (first_or xs d) ≡ first_or (map f xs) (f d)
first_map f [] d = refl
first_map f (x ∷ xs) d = refl

pub rest_map : {X Y : Type 0} (f : X → Y) (xs : List X) → map f (rest_of xs) ≡ rest_of (map f xs)
rest_map f [] = refl
rest_map f (x ∷ xs) = refl
