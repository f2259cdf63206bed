use Rattle.command_words.proofs.Orders.{order}
use Rattle.command_words.proofs.laws.order_is_free.Goals as goal

pub returns : goal.returns
returns c = λ name command before a b after u v is ha hb. order name command before a b after u v is ha hb
