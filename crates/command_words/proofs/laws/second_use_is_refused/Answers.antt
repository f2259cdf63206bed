use Rattle.command_words.proofs.Orders.{twice}
use Rattle.command_words.proofs.laws.second_use_is_refused.Goals as goal

pub returns : goal.returns
returns c = λ name command before a between b after u v is ha hb same. twice name command before a between b after u v is ha hb same
