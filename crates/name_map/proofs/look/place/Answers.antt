use Rattle.std.proofs.Common.{rules}
use Rattle.std.proofs.lemmas.List.Sorted.{IsPartitionPoint-from_clause}
use Rattle.name_map.specs.Keys.{is_below}
use Rattle.name_map.proofs.Placing.{parted, place_is}
use Rattle.name_map.proofs.look.place.Goals as goal

pub returns-clause-value : goal.returns-clause-value
returns-clause-value c =
    let point = IsPartitionPoint-from_clause (λ b. is_below b.key c.args.key.now) _ _ c.partition_point.ensures.partitioned
    (parted c.args.key.now c.args.bindings.now c.requires) (λ a r q k. search rules) in
    place_is c.args.key.now c.args.bindings.now c.partition_point.result c.partition_point.ensures.bound point
