use Rattle.command_options.proofs.Orders.{order}
use Rattle.command_options.proofs.laws.order_is_free.Goals as goal

pub returns : goal.returns
returns c = λ items before a b after u v ha hb. order items before a b after u v ha hb
