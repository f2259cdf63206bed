-- Which run is followed by another.
use Rattle.std.proofs.Common.{◌≡◌, ◌<◌, ℕ, true, true≢false, List, refl, sym, ltb-true}
use Rattle.std.specs.Prelude.{nat_lt}
use Rattle.std.specs.List.{list_any}
use Rattle.std.proofs.lemmas.Bool.{and_parts}
use Rattle.link_slots.specs.declared.slot_end.SlotEnd.{SlotEnd}
use Rattle.server_runs.specs.Plans.{goes_on, may_go_on}
use Rattle.server_runs.specs.declared.serve_end.ServeEnd.{ServeEnd}
use Rattle.server_runs.specs.declared.serve_end.ServeEnd.TheVariants.{Done, NetFault, WriteFault, NoMemory}

-- another run follows only where one more may be made
pub goes_more : (wrote : ServeEnd) (left : ℕ) (ends : List SlotEnd) → goes_on wrote left ends ≡ true → 1 < left
goes_more Done left ends e = ltb-true 1 left (and_parts (nat_lt 1 left) (list_any may_go_on ends) e).0
goes_more NetFault left ends e = absurd (true≢false (sym e))
goes_more WriteFault left ends e = absurd (true≢false (sym e))
goes_more NoMemory left ends e = absurd (true≢false (sym e))

-- and where the lines were written whole
pub goes_done : (wrote : ServeEnd) (left : ℕ) (ends : List SlotEnd) → goes_on wrote left ends ≡ true → wrote ≡ Done
goes_done Done left ends e = refl
goes_done NetFault left ends e = absurd (true≢false (sym e))
goes_done WriteFault left ends e = absurd (true≢false (sym e))
goes_done NoMemory left ends e = absurd (true≢false (sym e))
