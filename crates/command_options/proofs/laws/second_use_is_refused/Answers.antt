use Rattle.command_options.proofs.Orders.{twice}
use Rattle.command_options.proofs.laws.second_use_is_refused.Goals as goal

pub returns : goal.returns
returns c = λ items before a between b after u v ha hb same. twice items before a between b after u v ha hb same
