use Rattle.std.proofs.Common.{◌+◌, drop, sym, ap, ◌∙◌}
use Rattle.std.proofs.lemmas.List.{at_drop_more}
use Rattle.idl_names.specs.Sizes.{array_levels}
use Rattle.idl_names.proofs.sizes.array_levels.Goals as goal

pub loop-len-preserved : goal.loop-len-preserved
loop-len-preserved c =
    let lengths = c.args.lengths.now in
    let i = c.loop-len._len-index in
    ap (array_levels (drop (i + 1) lengths)) c.plus-total.ensures
    ∙ sym (at_drop_more (λ ls. array_levels ls c.loop-len.total) lengths i 0 c.loop-len-test.true) ∙ c.loop-len.invariant
