use Rattle.halls.specs.OneWay.{means_one_thing}
use Rattle.halls.proofs.laws.messages_mean_one_thing_in_halls.Goals as goal

pub returns : goal.returns
returns c = means_one_thing
