use Rattle.service_contexts.proofs.FirstPolicies.{found_start, found_more, found_cut, found_all, policy_found, policy_bad}
use Rattle.service_contexts.proofs.publishing.find_policy.Goals as goal

pub loop-init : goal.loop-init
loop-init c = found_start c.args.wanted c.args.count c.args.reader.now

pub returns : goal.returns
returns c = found_all c.args.wanted c.args.count c.loop.counter c.args.reader.now c.loop.reader _ c.loop-test.false
    c.loop.invariant

pub returns-in-Err : goal.returns-in-Err
returns-in-Err c =
    found_cut c.args.wanted c.args.count c.loop.counter c.args.reader.now c.loop.reader _ c.in-Err.field-0 c.loop-test.true
    (policy_bad c.loop.reader c.in-Err.field-0 c.in-Err.ensures.exact.0) c.loop.invariant

pub loop-preserved : goal.loop-preserved
loop-preserved c =
    found_more c.args.wanted c.args.count c.loop.counter c.args.reader.now c.loop.reader c.take_item.new.self _ _ _
    c.loop-test.true
    (policy_found c.loop.reader c.take_item.new.self (c.in-Ok.kind, c.in-Ok.value.now) c.in-Ok.ensures.exact)
    c.first_value-found.ensures c.loop.invariant
