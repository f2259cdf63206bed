-- The standard library's search by halving, read for rows.
use Rattle.std.proofs.Common.{◌≡◌, rules, nat_lt, sym, subst}
use Rattle.std.proofs.lemmas.List.Sorted.{IsPartitionPoint-from_clause}
use Rattle.priority_maps.specs.Rows.{Rises, HasBands}
use Rattle.priority_maps.specs.Search.{IsFirstAbove}
use Rattle.priority_maps.proofs.Halving.{first_from_point, parted}
use Rattle.priority_maps.proofs.table.Table.first_above.Goals as goal

pub returns-clause-first : goal.returns-clause-first
returns-clause-first c =
    let same : c.as_slice.result.now ≡ c.self.inside.rows.items = c.as_slice.ensures in
    let up : Rises c.as_slice.result.now = subst Rises (sym same) c.self.invariant.0 in
    let ends : HasBands c.as_slice.result.now = subst HasBands (sym same) c.self.invariant.1 in
    let point = IsPartitionPoint-from_clause (λ row. nat_lt row.band.high c.args.p) _ _ c.partition_point.ensures.partitioned (parted _ c.args.p up ends) (λ a r q k. search rules) in
    let first = first_from_point c.as_slice.result.now c.args.p c.partition_point.result point in
    rw (← c.self.view_is) (subst (λ rows. IsFirstAbove rows c.args.p c.partition_point.result) same first)
