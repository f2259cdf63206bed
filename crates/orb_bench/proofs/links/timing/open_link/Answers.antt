-- The seats of an open link are its callers', the writer's and the reader's.
use Rattle.std.proofs.Common.{sym, ◌∙◌}
use Rattle.mux_runs.proofs.WholeRuns.{told_apart}
use Rattle.orb_bench.proofs.links.timing.open_link.Goals as goal

pub returns : goal.returns
returns c =
    told_apart c.args.callers c.in_ok-opened.opened.shared.cell c.in_ok-opened.opened.root c.in_ok-opened.opened.seats.items c.pop.new.self.items c.pop-2.new.self.items c.in-Some.reader c.in-Some-pop.writer
    c.in_ok-opened.ensures (sym c.into_vec-seats.ensures ∙ c.in-Some.ensures.items) c.in-Some-pop.ensures.items
