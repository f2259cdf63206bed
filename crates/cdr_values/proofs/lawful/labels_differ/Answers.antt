use Rattle.cdr_values.proofs.Endings.{front_of}
use Rattle.cdr_values.proofs.LawfulLoops.{branch_stop, branch_step}
use Rattle.cdr_values.proofs.lawful.labels_differ.Goals as goal

pub returns-then-not-are_fresh : goal.returns-then-not-are_fresh
returns-then-not-are_fresh c =
    branch_stop c.case-item.result c.as_slice.result.now c.loop-rest.rest.now _ c.are_fresh.result _ c.as_slice.ensures
    (front_of c.loop-rest.rest.now c.case-item.result _ c.in-len1-up.len_at_least c.case-item.is) c.are_fresh.ensures c.if-not-are_fresh.true c.loop-rest.invariant

pub loop-rest-preserved : goal.loop-rest-preserved
loop-rest-preserved c =
    branch_step c.case-item.result c.as_slice.result.now c.loop-rest.rest.now _ c.are_fresh.result _ c.as_slice.ensures
    (front_of c.loop-rest.rest.now c.case-item.result _ c.in-len1-up.len_at_least c.case-item.is) c.are_fresh.ensures c.if-not-are_fresh.false c.loop-rest.invariant
