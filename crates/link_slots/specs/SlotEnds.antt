-- How a slot comes out: own profile.
use Rattle.std.specs.Prelude.{◌≡◌, ◌<◌, ◌≤◌, ℕ, Bool, true, false, [], IfSome}
use Rattle.orb_base.specs.Links.{AcceptorState}
use Rattle.orb_base.specs.Outside.{Rose}
use Rattle.link_slots.specs.declared.slot_end.SlotEnd.{SlotEnd}
use Rattle.link_slots.specs.declared.slot_end.SlotEnd.TheVariants.{Done, Served, Closed, AcceptFault}

module _ {I O : Type 0} where
  -- no accept answered that none is left
  abbrev pub NoneDone : AcceptorState I O → AcceptorState I O → Type 0
  NoneDone old new = new.ends ≡ old.ends

  -- no accept failed
  abbrev pub NoneFailed : AcceptorState I O → AcceptorState I O → Type 0
  NoneFailed old new = new.faults ≡ old.faults

  -- the cause of an end, beside how many links may be served, how many were, and whether the last one closed the slot: the
  -- acceptor answered that none is left; or all were served that may be; or the last one closed it; or an accept failed
  abbrev pub HasCause : SlotEnd → ℕ → ℕ → Bool → AcceptorState I O → AcceptorState I O → Type 0
  HasCause Done most count closed old new =
      (count < most) × (closed ≡ false) × Rose old.ends new.ends × NoneFailed old new × IfSome new.links (λ links. links ≡ [])
  HasCause Served most count closed old new = (count ≡ most) × (closed ≡ false) × NoneDone old new × NoneFailed old new
  HasCause Closed most count closed old new = (count ≤ most) × (closed ≡ true) × NoneDone old new × NoneFailed old new
  HasCause AcceptFault most count closed old new = (count < most) × (closed ≡ false) × NoneDone old new × Rose old.faults new.faults
