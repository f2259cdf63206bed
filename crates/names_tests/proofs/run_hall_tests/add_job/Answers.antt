use Rattle.std.proofs.Common.{sym, subst}
use Rattle.std.specs.List.{All}
use Rattle.std.proofs.lemmas.List.Elements.{All-push}
use Rattle.halls.specs.Served.{IsJob}
use Rattle.names_tests.proofs.run_hall_tests.add_job.Goals as goal

pub returns-clause-kept : goal.returns-clause-kept
returns-clause-kept c =
    subst (All (IsJob (λ t. Unit {0}) 2)) (sym c.push_reserved.ensures.items)
    (All-push (IsJob (λ t. Unit {0}) 2) c.args.jobs.now.items c.args.job c.requires.kept c.requires.job)
