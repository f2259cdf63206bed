-- Slots in memory.
use Rattle.std.specs.Prelude.{List, map}
use Rattle.orb_base.specs.MemLinks.{pairs}
use Rattle.orb_base.specs.declared.mem_sink.MemSink.{MemSink}
use Rattle.orb_base.specs.declared.mem_source.MemSource.{MemSource}
use Rattle.orb_nets.specs.declared.mem_slot.MemSlot.{MemSlot}

-- the links of each slot
abbrev pub slot_pairs : List MemSlot → List (List (MemSource × MemSink))
slot_pairs slots = map (λ slot. pairs slot.links) slots
