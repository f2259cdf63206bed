use Rattle.idl_reader.proofs.RoomLeft as laws
use Rattle.idl_reader.proofs.laws.texts_leave_room.Goals as goal

pub returns : goal.returns
returns c = laws.texts_leave_room
