use Rattle.std.proofs.Common.{rules, ◌≤◌, length}
use Rattle.std.specs.Vec.{vec_capacity}
use Rattle.names_runs.proofs.Starting.{fresh_last, starts_more}
use Rattle.names_runs.proofs.prepare.+make_starts.Goals as goal

pub returns-in-Ok-clause-starts : goal.returns-in-Ok-clause-starts
returns-in-Ok-clause-starts g t c =
    let r = fresh_last c.args.map.now c.args.hands.items c.pop.new.self.items c.in-Some.hand c.requires.hands c.in-Some.ensures.items in
    let room : c.args.setup.now.per_slot ≤ vec_capacity c.in-Ok.logs = search rules in
    starts_more c.args.setup.now c.args.map.now (length c.pop.new.self.items) c.in_ok-starts-in-Some.starts.items _ _ c.in_ok-starts-in-Some.ensures.starts c.in_ok-starts-in-Some.ensures.all
    r c.in-Ok.ensures.items room c.push_reserved.ensures.items
