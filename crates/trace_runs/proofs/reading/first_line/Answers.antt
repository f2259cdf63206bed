use Rattle.trace_runs.proofs.FirstFaults.{is_cut}
use Rattle.trace_runs.proofs.reading.first_line.Goals as goal

pub returns : goal.returns
returns c =
    is_cut c.args.text.now c.in_ok-n.n c.split_at.result.0.now c.split_at.result.1.now c.split_at-2.result.1.now
    c.in_ok-n.ensures.at c.split_at.ensures.front c.split_at.ensures.back c.split_at-2.ensures.back
