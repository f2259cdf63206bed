use Rattle.trace_runs.proofs.Summed.{summed_up}
use Rattle.trace_runs.proofs.summaries.summary_of.Goals as goal

pub returns : goal.returns
returns c =
    summed_up c.args.lines.now (record {
      calls = c.count.result;
      run = c.count-2.result;
      lent = c.count-3.result;
      kept = c.count-4.result;
      full = c.count-5.result;
      removed = c.count-6.result;
      connections = c.count-7.result;
    }) c.count.ensures c.count-2.ensures c.count-3.ensures c.count-4.ensures c.count-5.ensures c.count-6.ensures c.count-7.ensures
