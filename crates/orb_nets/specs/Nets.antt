-- What a net means. What it was asked and what it reaches are given as options: None where it doesn't tell them.
use Rattle.std.specs.Prelude.{◌≡◌, ◌≤◌, ◌<◌, ℕ, List, [], ◌∷◌, ◌++◌, Option, length, take, drop, option_map, Result, Ok, Err, slice_index_or}
use Rattle.orb_base.specs.Outside.{Rose}
use Rattle.orb_base.specs.Room.{Room}
use Rattle.orb_base.specs.Links.{AcceptorState}
use Rattle.orb_nets.specs.declared.net_fault.NetFault.{NetFault}
use Rattle.orb_nets.specs.declared.net_fault.NetFault.TheVariants.{Failed, NoMemory}

-- what one call asked: the host and the port, and of a listen the number of slots and of the links of each at most
pub record Ask : Type 0 where
  pub host : List ℕ
  pub port : ℕ
  pub slots : Option (ℕ × ℕ)

-- what a net tells at one moment: what its calls asked, in order, the links of each slot still to open, the links still to
-- connect, and how many calls failed
pub record NetState (I O : Type 0) : Type 0 where
  pub asked : Option (List Ask)
  pub slots : Option (List (List (I × O)))
  pub peers : Option (List (I × O))
  pub faults : ℕ

module _ {I O : Type 0} where
  -- the call is after those asked before
  abbrev pub Asks : Ask → NetState I O → NetState I O → Type 0
  Asks ask old new = new.asked ≡ option_map (λ before. before ++ ask ∷ []) old.asked

  -- an acceptor as it is handed out: the first so many links of the slot of this number, from which nothing was accepted;
  -- a slot after those that are given has none
  abbrev pub opened : ℕ → ℕ → Option (List (List (I × O))) → AcceptorState I O
  opened each nth slots = record {
    links = option_map (λ told. take each (slice_index_or told nth [])) slots;
    faults = 0;
    ends = 0;
  }

  -- so many acceptors, one for each of the next slots
  abbrev pub Opens : {A : Type 0} → (A → AcceptorState I O) → ℕ → ℕ → Option (List (List (I × O))) → List A → Type 0
  Opens {A} state n each slots all =
      (length all ≡ n) × ((nth : ℕ) (d : A) → nth < n → state (slice_index_or all nth d) ≡ opened each nth slots)

  -- a listen opens as many slots as it was asked for, which are then no longer to open, or none
  abbrev pub Listens : {A : Type 0} → (A → AcceptorState I O) → ℕ → ℕ → Result (Room A) NetFault → NetState I O → NetState I O → Type 0
  Listens state n each (Ok all) old new =
      Opens state n each old.slots all.items × (new.slots ≡ option_map (λ told. drop n told) old.slots)
  Listens state n each (Err _) old new = new.slots ≡ old.slots

  -- a connect hands out the first of the links to connect, or none
  abbrev pub Connects : Result (I × O) NetFault → NetState I O → NetState I O → Type 0
  Connects (Ok link) old new = old.peers ≡ option_map (λ rest. link ∷ rest) new.peers
  Connects (Err _) old new = new.peers ≡ old.peers

  -- a failed call raises the count of faults, and no other answer moves it
  abbrev pub CountsNetFault : {R : Type 0} → Result R NetFault → NetState I O → NetState I O → Type 0
  CountsNetFault (Ok _) old new = new.faults ≡ old.faults
  CountsNetFault (Err Failed) old new = (old.faults ≤ new.faults) × Rose old.faults new.faults
  CountsNetFault (Err NoMemory) old new = new.faults ≡ old.faults
