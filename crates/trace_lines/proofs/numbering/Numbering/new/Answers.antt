use Rattle.std.proofs.Common.{◌-◌, ◌∙◌, arith}
use Rattle.trace_lines.proofs.Numbered.{none_after, none_counted, one_before, one_counted, enough_before, counted}
use Rattle.trace_lines.proofs.numbering.Numbering.new.Goals as goal

pub loop-i-init : goal.loop-i-init
loop-i-init c =
    let n = none_counted c.args.history.now in
    record {
      within = omega arith;
      counted = c.count_offers-count.ensures ∙ counted c.args.history.now;
      sums = omega arith;
      numbered = none_after c.new-first.result c.args.history.now c.count_offers-count.result c.new-first.ensures.empty;
    }

pub number_entry-requires : goal.number_entry-requires
number_entry-requires c =
    enough_before (c.loop-i.i - 1) c.loop-i.i c.loop-i.next c.count_offers-count.result c.args.history.now c.index-history-i.result
    (omega arith) (omega arith) c.index-history-i.is c.loop-i.invariant.counted c.loop-i.invariant.sums

pub loop-i-preserved : goal.loop-i-preserved
loop-i-preserved c = record {
  within = omega arith;
  counted = c.loop-i.invariant.counted;
  sums = one_counted (c.loop-i.i - 1) c.loop-i.i c.loop-i.next c.in_ok-next.next c.count_offers-count.result c.args.history.now c.index-history-i.result
      c.loop-i.first c.number_entry.new.numbers (omega arith) (omega arith) c.index-history-i.is c.loop-i.invariant.sums c.in_ok-next.ensures;
  numbered = one_before (c.loop-i.i - 1) c.loop-i.i c.loop-i.next c.in_ok-next.next c.count_offers-count.result c.args.history.now c.index-history-i.result
      c.loop-i.first c.number_entry.new.numbers (omega arith) (omega arith) c.index-history-i.is c.loop-i.invariant.numbered c.in_ok-next.ensures;
}
