use Rattle.std.proofs.Common.{◌≡◌, ◌+◌, length, ap, ◌∙◌, arith}
use Rattle.std.proofs.lemmas.List.{length-append}
use Rattle.names_runs.specs.Giving.{conns_of}
use Rattle.names_runs.proofs.Giving.{conns_more}
use Rattle.names_runs.proofs.give.+take_apart.Goals as goal

pub put_after-requires-clause-conns : goal.put_after-requires-clause-conns
put_after-requires-clause-conns g t c =
    let all : length (conns_of c.args.done.items) ≡ length (conns_of c.pop.new.self.items) + length c.in-Some.last.logs.items
    = ap length (conns_more c.args.done.items c.pop.new.self.items c.in-Some.last c.in-Some.ensures.items) ∙ length-append (conns_of c.pop.new.self.items) c.in-Some.last.logs.items in
    let held : length c.take_apart.result.conns.items ≡ length (conns_of c.pop.new.self.items) = ap length c.take_apart.ensures.conns.0 in
    omega (arith, all, held, c.requires.room.2, c.take_apart.ensures.conns.1)
