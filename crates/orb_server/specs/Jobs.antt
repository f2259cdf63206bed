-- What a slot of the pool begins with, and what it leaves: own profile.
use Rattle.lane_pool.specs.Pass.{Pass}
use Rattle.link_slots.specs.declared.slot.SlotJob.{SlotJob}
use Rattle.link_slots.specs.declared.slot.SlotDone.{SlotDone}
use Rattle.orb_server.specs.declared.run.ConnLog.{ConnLog}

-- a slot that serves by its pass, and keeps what its connections leave
abbrev pub PoolJob : Type 0 → Type 0 → Type 0 → Type 0
PoolJob A I O = SlotJob A Pass (ConnLog I O)

-- what it left
abbrev pub PoolDone : Type 0 → Type 0 → Type 0 → Type 0
PoolDone A I O = SlotDone A Pass (ConnLog I O)
