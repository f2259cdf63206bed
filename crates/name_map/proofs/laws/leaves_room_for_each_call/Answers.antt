use Rattle.name_map.proofs.Room.{has_room_for}
use Rattle.name_map.proofs.laws.leaves_room_for_each_call.Goals as goal

pub returns : goal.returns
returns c = has_room_for
