-- A list of what tables mean, where the meaning is a function.
use Rattle.std.proofs.Common.{◌≡◌, List, [], ◌∷◌, map, Vec, Global, Result, Ok, Err, IfOk, refl}
use Rattle.toml.specs.Data.{Members}
use Rattle.config_tables.specs.declared.fault.SetupError.{SetupError}
use Rattle.config_tables.specs.Means.{EachMeans}

pub each_of : {E : Type 0} (f : Members → E) (ms : List Members) (xs : List E) → EachMeans (λ m x. x ≡ f m) ms xs → xs ≡ map f ms
each_of f [] [] h = refl
each_of f [] (x ∷ xs) h = absurd h
each_of f (m ∷ ms) [] h = absurd h
each_of f (m ∷ ms) (x ∷ xs) h = rw (h.0, each_of f ms xs h.1)

pub each_ok : {E : Type 0} (f : Members → E) (ms : List Members) (r : Result (Vec E Global) SetupError)
    → IfOk r (λ es. EachMeans (λ m x. x ≡ f m) ms es.items) → IfOk r (λ es. es.items ≡ map f ms)
each_ok f ms (Ok es) h = each_of f ms es.items h
each_ok f ms (Err e) h = tt
