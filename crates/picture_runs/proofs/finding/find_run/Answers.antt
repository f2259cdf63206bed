-- One run after another.
use Rattle.std.proofs.Common.{refl}
use Rattle.picture_runs.proofs.Looking.{one_more, lacking, at_fault}
use Rattle.picture_runs.proofs.finding.find_run.Goals as goal

pub loop-rest-preserved : goal.loop-rest-preserved
loop-rest-preserved c =
    let reads = rw c.in-Run.is at c.in_ok-run.ensures in
    one_more c.args.text.now c.loop-rest.rest.now c.split_at.result.1.now c.args.wanted c.loop-rest.n c.loop-rest.kept c.keep.new.kept c.in-Run.run' c.in-Run.len
    c.loop-rest.invariant reads c.keep.ensures c.split_at.ensures.back

pub returns-in-Lacking-clause-finds : goal.returns-in-Lacking-clause-finds
returns-in-Lacking-clause-finds c =
    let reads = rw c.in-Lacking.is at c.in_ok-run.ensures in
    lacking c.args.text.now c.loop-rest.rest.now c.args.wanted c.loop-rest.n c.loop-rest.kept _ c.in-Lacking.n c.loop-rest.invariant refl reads

pub returns-in-AtFault-clause-finds : goal.returns-in-AtFault-clause-finds
returns-in-AtFault-clause-finds c =
    let reads = rw c.in-AtFault.is at c.in_ok-run.ensures in
    at_fault c.args.text.now c.loop-rest.rest.now c.args.wanted c.loop-rest.n c.loop-rest.kept _ _ c.in-AtFault.n c.loop-rest.invariant refl reads
