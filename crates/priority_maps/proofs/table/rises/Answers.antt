-- The standard library's test of neighbours, read for rows.
use Rattle.std.proofs.Common.{rules, nat_lt}
use Rattle.std.proofs.lemmas.List.Sorted.{answers_always}
use Rattle.priority_maps.proofs.Rising.{rising_iff}
use Rattle.priority_maps.proofs.table.rises.Goals as goal

pub returns : goal.returns
returns c =
    rising_iff c.args.rows.now c.is_sorted_by.result
    (c.is_sorted_by.ensures.cases (λ row next. nat_lt row.band.high next.band.low) (answers_always _ _ _ (λ f a r next called. search rules)))
