-- What all slots left, taken apart.
use Rattle.std.specs.Prelude.{List, map}
use Rattle.std.specs.List.{flat_map}
use Rattle.lane_pool.specs.Pass.{Pass}
use Rattle.orb_server.specs.Jobs.{PoolDone}
use Rattle.orb_server.specs.declared.run.ConnLog.{ConnLog}
use Rattle.link_slots.specs.declared.slot_end.SlotEnd.{SlotEnd}

module _ {A I O : Type 0} where
  -- the passes
  abbrev pub passes_of : List (PoolDone A I O) → List Pass
  passes_of done = map {B = Pass} (λ (d : PoolDone A I O). d.place) done

  -- the acceptors
  abbrev pub given_back : List (PoolDone A I O) → List A
  given_back done = map {B = A} (λ (d : PoolDone A I O). d.acceptor) done

  -- what the connections left, in order of the slots
  abbrev pub conns_of : List (PoolDone A I O) → List (ConnLog I O)
  conns_of done = flat_map {A = ConnLog I O} (λ (d : PoolDone A I O). d.logs.items) done

  -- how the slots came out
  abbrev pub ends_of : List (PoolDone A I O) → List SlotEnd
  ends_of done = map {B = SlotEnd} (λ (d : PoolDone A I O). d.end) done
