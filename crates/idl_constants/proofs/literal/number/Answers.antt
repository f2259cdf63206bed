use Rattle.std.proofs.Common.{◌≤◌, ◌+◌, ◌^◌, min, arith, ◌∙◌}
use Rattle.idl_constants.specs.Literals.{base_of}
use Rattle.idl_constants.proofs.Capped.{capped_next, base_positive}
use Rattle.idl_constants.proofs.literal.number.Goals as goal

pub loop-c-preserved : goal.loop-c-preserved
loop-c-preserved c =
    record {
      within = omega arith;
      so_far = capped_next (base_of c.args.base) c.loop-c.n c.min-n.result (2 ^ 64) _ c.args.digits.now c.loop-c.c-index (base_positive c.args.base) c.loop-c-test.true
          (c.min-n.ensures ∙ (λ j. min (c.times.ensures.value j + (c.from.ensures ∙ c.digit.ensures) j) (2 ^ 64))) c.loop-c.invariant.so_far;
    }
