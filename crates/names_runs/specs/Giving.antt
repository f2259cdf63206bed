-- What all slots left, taken apart.
use Rattle.std.specs.Prelude.{List, map}
use Rattle.std.specs.List.{flat_map}
use Rattle.link_slots.specs.declared.slot_end.SlotEnd.{SlotEnd}
use Rattle.halls.specs.declared.host.LinkLog.{LinkLog}
use Rattle.names_hall.specs.Hands.{Hand}
use Rattle.names_runs.specs.Jobs.{NamesDone}

module _ {A I O : Type 0} where
  -- the hands
  abbrev pub hands_of : List (NamesDone A I O) → List Hand
  hands_of done = map {B = Hand} (λ (d : NamesDone A I O). d.place) done

  -- the acceptors
  abbrev pub given_back : List (NamesDone A I O) → List A
  given_back done = map {B = A} (λ (d : NamesDone A I O). d.acceptor) done

  -- what the connections left, in order of the slots
  abbrev pub conns_of : List (NamesDone A I O) → List (LinkLog I O)
  conns_of done = flat_map {A = LinkLog I O} (λ (d : NamesDone A I O). d.logs.items) done

  -- how the slots came out
  abbrev pub ends_of : List (NamesDone A I O) → List SlotEnd
  ends_of done = map {B = SlotEnd} (λ (d : NamesDone A I O). d.end) done
