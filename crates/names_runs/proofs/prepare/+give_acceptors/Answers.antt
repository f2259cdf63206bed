use Rattle.std.proofs.Common.{length}
use Rattle.names_runs.proofs.Starting.{starts_last, jobs_more}
use Rattle.names_runs.proofs.prepare.+give_acceptors.Goals as goal

pub returns-in-Some-pop-clause-jobs : goal.returns-in-Some-pop-clause-jobs
returns-in-Some-pop-clause-jobs g t c =
    let start = starts_last c.args.setup.now c.args.map.now c.args.starts.items c.pop.new.self.items c.in-Some.field-0 c.requires.starts c.in-Some.ensures.items in
    jobs_more c.args.setup.now c.args.map.now (length c.pop.new.self.items) c.give_acceptors-jobs.result.items _ c.in-Some-pop.acceptor c.in-Some.field-0
    c.give_acceptors-jobs.ensures.jobs c.give_acceptors-jobs.ensures.all start c.push_reserved.ensures.items
