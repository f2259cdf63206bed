-- What a slot of a name service begins with, and what it leaves: own profile.
use Rattle.link_slots.specs.declared.slot.SlotJob.{SlotJob}
use Rattle.link_slots.specs.declared.slot.SlotDone.{SlotDone}
use Rattle.halls.specs.declared.host.LinkLog.{LinkLog}
use Rattle.names_hall.specs.Hands.{Hand}

-- a slot that invokes by its hand, and keeps what its connections leave
abbrev pub NamesJob : Type 0 → Type 0 → Type 0 → Type 0
NamesJob A I O = SlotJob A Hand (LinkLog I O)

-- what it left
abbrev pub NamesDone : Type 0 → Type 0 → Type 0 → Type 0
NamesDone A I O = SlotDone A Hand (LinkLog I O)
