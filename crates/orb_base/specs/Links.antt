-- What a place that accepts links means. Links are given as an option: None where it doesn't tell them.
use Rattle.std.specs.Prelude.{◌≡◌, ◌≤◌, ℕ, List, [], ◌∷◌, Option, IfSome, option_map}
use Rattle.orb_base.specs.Outside.{SourceState, SinkState, IsNewSource, IsNewSink, Rose}
use Rattle.orb_base.specs.declared.accepted.Accepted.{Accepted}
use Rattle.orb_base.specs.declared.accepted.Accepted.TheVariants.{Link, Done, Failed}

-- what it tells at one moment: the links still to come, how many accepts failed, and how many answered that none is left
pub record AcceptorState (I O : Type 0) : Type 0 where
  pub links : Option (List (I × O))
  pub faults : ℕ
  pub ends : ℕ

module _ {I O : Type 0} where
  -- an accept hands out the first of the links; it is done where none is left
  abbrev pub Accepts : Accepted I O → AcceptorState I O → AcceptorState I O → Type 0
  Accepts (Link i o) old new = old.links ≡ option_map (λ rest. (i, o) ∷ rest) new.links
  Accepts Done old new = IfSome old.links (λ links. links ≡ []) × (new.links ≡ old.links)
  Accepts Failed old new = new.links ≡ old.links

  -- a failed accept raises the count of faults, and no other answer moves it
  abbrev pub CountsAcceptFault : Accepted I O → AcceptorState I O → AcceptorState I O → Type 0
  CountsAcceptFault (Link i o) old new = new.faults ≡ old.faults
  CountsAcceptFault Done old new = new.faults ≡ old.faults
  CountsAcceptFault Failed old new = (old.faults ≤ new.faults) × Rose old.faults new.faults

  -- an accept that is done raises the count of ends, and no other answer moves it
  abbrev pub CountsDone : Accepted I O → AcceptorState I O → AcceptorState I O → Type 0
  CountsDone (Link i o) old new = new.ends ≡ old.ends
  CountsDone Done old new = (old.ends ≤ new.ends) × Rose old.ends new.ends
  CountsDone Failed old new = new.ends ≡ old.ends

  -- of a link that is handed out nothing was asked
  abbrev pub GivesNew : (I → SourceState) → (O → SinkState) → Accepted I O → Type 0
  GivesNew source sink (Link i o) = IsNewSource (source i) × IsNewSink (sink o)
  GivesNew source sink Done = Unit {0}
  GivesNew source sink Failed = Unit {0}
