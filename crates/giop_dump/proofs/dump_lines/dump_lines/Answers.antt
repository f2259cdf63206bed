use Rattle.std.proofs.Common.{sym, ◌∙◌, arith}
use Rattle.giop_dump.proofs.DumpLaws.{so_far_start, so_far_more, so_far_refused, so_far_all, none_of}
use Rattle.giop_dump.proofs.dump_lines.dump_lines.Goals as goal

pub loop-whole-init : goal.loop-whole-init
loop-whole-init c = so_far_start c.args.messages.now _ c.new-text.ensures.bytes

pub returns-then-is_some : goal.returns-then-is_some
returns-then-is_some c =
    let h = so_far_refused c.loop-whole.whole-index c.args.messages.now _ _ c.whole-item.result c.in_ok-refusal.refusal c.loop-whole.invariant (omega arith) c.whole-item.is c.in_ok-refusal.ensures.refusal (sym c.if-is_some.true ∙ c.is_some.ensures) c.in_ok-refusal.ensures.text in
    record { text = h.text_is; refusal = h.refusal_is }

pub loop-whole-preserved : goal.loop-whole-preserved
loop-whole-preserved c =
    so_far_more c.loop-whole.whole-index c.args.messages.now _ _ c.whole-item.result c.loop-whole.invariant (omega arith) c.whole-item.is (none_of c.in_ok-refusal.refusal _ (sym c.if-is_some.false ∙ c.is_some.ensures) c.in_ok-refusal.ensures.refusal) c.in_ok-refusal.ensures.text

pub returns : goal.returns
returns c =
    let h = so_far_all c.loop-whole.whole-index c.args.messages.now _ c.loop-whole.invariant (omega arith) in
    record { text = h.text_is; refusal = h.refusal_is }
