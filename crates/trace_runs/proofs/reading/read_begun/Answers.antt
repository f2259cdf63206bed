-- One line after another.
use Rattle.std.proofs.Common.{◌≡◌, subst}
use Rattle.trace_runs.specs.Reading.{TakesLine}
use Rattle.trace_runs.specs.declared.step.Step.TheVariants.{Goes, Ends, Refused}
use Rattle.trace_runs.proofs.RunsRead.{goes_on, ends_parts, refused, lacking}
use Rattle.trace_runs.proofs.reading.read_begun.Goals as goal

pub loop-cut-preserved : goal.loop-cut-preserved
loop-cut-preserved c =
    let e = c.in-Goes.is in
    let same : c.in_ok-take_line.field-0 ≡ Goes = cc in
    goes_on c.args.text.now c.loop-cut.rest.now c.loop-cut.run c.take_line.new.self c.in-Some.cut c.loop-cut.invariant.1 c.in-Some.ensures
    (subst (TakesLine c.loop-cut.run c.in-Some.cut.line.now c.take_line.new.self) same c.in_ok-take_line.ensures)

pub finish_run-requires-clause-parts : goal.finish_run-requires-clause-parts
finish_run-requires-clause-parts c =
    let e = c.in-Ends.is in
    let same : c.in_ok-take_line.field-0 ≡ Ends = cc in
    ends_parts c.args.text.now c.loop-cut.rest.now c.loop-cut.run c.take_line.new.self c.in-Some.cut c.loop-cut.invariant.1 c.in-Some.ensures
    (subst (TakesLine c.loop-cut.run c.in-Some.cut.line.now c.take_line.new.self) same c.in_ok-take_line.ensures)

pub returns-in-Refused : goal.returns-in-Refused
returns-in-Refused c =
    let e = c.in-Refused.is in
    let same : c.in_ok-take_line.field-0 ≡ Refused = cc in
    refused c.args.text.now c.loop-cut.rest.now c.loop-cut.run c.take_line.new.self c.in-Some.cut c.loop-cut.invariant.0 c.loop-cut.invariant.1 c.in-Some.ensures
    (subst (TakesLine c.loop-cut.run c.in-Some.cut.line.now c.take_line.new.self) same c.in_ok-take_line.ensures)

pub returns : goal.returns
returns c =
    lacking c.args.text.now c.loop-cut.rest.now c.loop-cut.run c.loop-cut.invariant.0 c.loop-cut.invariant.1 c.in_default.ensures
