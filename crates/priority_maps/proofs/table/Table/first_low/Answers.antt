-- What the tree has is what the rows have.
use Rattle.std.proofs.Common.{ap, ◌∙◌}
use Rattle.std.proofs.lemmas.Int.{to_z-of_z}
use Rattle.priority_maps.specs.Search.{first_low}
use Rattle.priority_maps.proofs.table.Table.first_low.Goals as goal

pub returns-clause-low : goal.returns-clause-low
returns-clause-low c =
    let same = ap (λ n. first_low n c.self.inside.rows.items) (to_z-of_z _ _ c.ranges.n) in
    rw (← c.self.view_is) (c.copied.ensures ∙ c.get.ensures.value ∙ c.self.invariant.2 _ ∙ same)
