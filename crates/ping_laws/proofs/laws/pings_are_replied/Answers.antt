use Rattle.ping_laws.proofs.RepliedLaws.{pings_replied, ping_runs_at_100, meets_no_limit}
use Rattle.ping_laws.proofs.laws.pings_are_replied.Goals as goal

pub returns-clause-replied : goal.returns-clause-replied
returns-clause-replied c = pings_replied

pub returns-clause-unlimited : goal.returns-clause-unlimited
returns-clause-unlimited c = meets_no_limit

pub returns-clause-level : goal.returns-clause-level
returns-clause-level c = ping_runs_at_100
