-- What a net was asked, from the hosts and from what else each call wanted.
use Rattle.std.specs.Prelude.{ℕ, List, [], ◌∷◌}
use Rattle.orb_nets.specs.Nets.{Ask}
use Rattle.orb_nets.specs.declared.wanted.Wanted.{Wanted}

-- each host with what was wanted of it
abbrev pub asks : List (List ℕ) → List Wanted → List Ask
asks [] wanted = []
asks (host ∷ hosts) [] = []
asks (host ∷ hosts) (w ∷ wanted) = record { host = host; port = w.port; slots = w.slots } ∷ asks hosts wanted
