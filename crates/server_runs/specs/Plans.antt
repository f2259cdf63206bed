-- Which run of a server is followed by another: own profile.
use Rattle.std.specs.Prelude.{ℕ, ◌-◌, ◌&&◌, Bool, true, false, nat_lt, List}
use Rattle.std.specs.List.{list_any}
use Rattle.link_slots.specs.declared.slot_end.SlotEnd.{SlotEnd}
use Rattle.link_slots.specs.declared.slot_end.SlotEnd.TheVariants as slot
use Rattle.server_runs.specs.declared.serve_end.ServeEnd.{ServeEnd}
use Rattle.server_runs.specs.declared.serve_end.ServeEnd.TheVariants.{Done, NetFault, WriteFault, NoMemory}
use Rattle.server_runs.specs.declared.run_plan.RunPlan.{RunPlan}

-- the plan of the runs after the first
abbrev pub after_one : RunPlan → RunPlan
after_one plan = record plan { runs = plan.runs - 1 }

-- links may be left to the slot: it served as many as it may in a run, or its last connection closed it
abbrev pub may_go_on : SlotEnd → Bool
may_go_on slot.Done = false
may_go_on slot.Served = true
may_go_on slot.Closed = true
may_go_on slot.AcceptFault = false

-- another run follows one that came out so, where at most so many are made, that one included: its lines were written whole, one more
-- may be made, and links may be left to one of its slots
abbrev pub goes_on : ServeEnd → ℕ → List SlotEnd → Bool
goes_on Done left ends = nat_lt 1 left && list_any may_go_on ends
goes_on NetFault left ends = false
goes_on WriteFault left ends = false
goes_on NoMemory left ends = false
