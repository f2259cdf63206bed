use Rattle.std.proofs.Common.{Some}
use Rattle.adapter_policies.specs.Index.{Keeps}
use Rattle.adapter_policies.proofs.Keyed.{updated}
use Rattle.adapter_policies.proofs.index.put_number.Goals as goal

pub returns : goal.returns
unfolding Keeps
returns c = updated c.args.key.items c.args.numbers.now c.insert.new.self (Some c.args.n) c.in_ok-insert.ensures.updates
