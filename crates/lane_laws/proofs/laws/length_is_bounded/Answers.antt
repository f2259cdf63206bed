-- Each caller has few marks, and each heard call few entries.
use Rattle.lane_laws.proofs.Room.{lengths, has_room}
use Rattle.lane_laws.proofs.laws.length_is_bounded.Goals as goal

pub returns : goal.returns
returns c = record {
  length = λ s h o l. (lengths s h o l).length;
  calls = λ s h o l. (lengths s h o l).calls;
  room = λ s h n call o l f fit. has_room s h n call o l f fit;
}
