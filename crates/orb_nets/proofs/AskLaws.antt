-- Lemmas on what a net was asked.
use Rattle.std.proofs.Common.{◌≡◌, ℕ, List, [], ◌∷◌, ◌++◌, length, refl, ap, arith}
use Rattle.orb_nets.specs.Nets.{Ask}
use Rattle.orb_nets.specs.Asks.{asks}
use Rattle.orb_nets.specs.declared.wanted.Wanted.{Wanted}

-- one call more is after the others
pub asks_more : (hosts : List (List ℕ)) (wanted : List Wanted) (host : List ℕ) (w : Wanted) → length hosts ≡ length wanted →
    asks (hosts ++ host ∷ []) (wanted ++ w ∷ []) ≡ asks hosts wanted ++ record { host = host; port = w.port; slots = w.slots } ∷ []
asks_more [] [] host w even = refl
asks_more [] (v ∷ wanted) host w even = absurd (omega (arith, even))
asks_more (h ∷ hosts) [] host w even = absurd (omega (arith, even))
asks_more (h ∷ hosts) (v ∷ wanted) host w even =
    ap (λ (rest : List Ask). record { host = h; port = v.port; slots = v.slots } ∷ rest) (asks_more hosts wanted host w (omega (arith, even)))
