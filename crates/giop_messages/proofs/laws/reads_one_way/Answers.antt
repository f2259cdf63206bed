use Rattle.giop_messages.proofs.OneReading.{reads_one_way}
use Rattle.giop_messages.proofs.laws.reads_one_way.Goals as goal

pub returns : goal.returns
returns c = reads_one_way
