-- The low end of the first row is the least priority.
use Rattle.std.proofs.Common.{ap, ◌∙◌}
use Rattle.std.proofs.lemmas.Int.{to_z-of_z}
use Rattle.priority_maps.specs.Search.{first_low}
use Rattle.priority_maps.proofs.Lows.{least_low}
use Rattle.priority_maps.proofs.table.Table.to_corba.Goals as goal

pub returns : goal.returns
returns c =
    let facts = c.first_low.ensures in
    let same = ap (λ n. first_low n c.args.self.now) (to_z-of_z _ _ c.ranges.n) in
    rw (facts.low ∙ same) (least_low c.args.self.now c.args.n facts.rises facts.bands)
