use Rattle.trace_runs.proofs.Lifting.{without_run}
use Rattle.trace_runs.proofs.laws.texts_go_on_afresh.Goals as goal

pub returns : goal.returns
returns c = λ t w after is alone n begins. without_run t w after is alone n begins
