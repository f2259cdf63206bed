use Rattle.client_calls.proofs.OneResult.{one_result}
use Rattle.client_calls.proofs.laws.bytes_and_end_give_one_result.Goals as goal

pub returns : goal.returns
returns c = one_result
