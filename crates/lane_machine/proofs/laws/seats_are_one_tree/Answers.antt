-- The numbers of slots, workers and writing sides differ.
use Rattle.lane_machine.specs.SeatHeirs.{one_parent_of, never_first_of}
use Rattle.lane_machine.proofs.laws.seats_are_one_tree.Goals as goal

pub returns : goal.returns
returns c = record { one_parent = one_parent_of; never_first = never_first_of }
