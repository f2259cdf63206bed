use Rattle.std.proofs.Common.{arith}
use Rattle.load_runs.proofs.input.see_bytes.Goals as goal

pub returns : goal.returns
returns c = λ i. omega (arith, c.type_inv.bytes i)
