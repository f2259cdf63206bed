use Rattle.std.proofs.Common.{◌+◌, ◌-◌, ◌^◌, lit≤, min, arith, ℕ, ◌∙◌, ap}
use Rattle.std.specs.List.{slice_index_or}
use Rattle.servant_scripts.proofs.Capped.{capped_next, saturated}
use Rattle.servant_scripts.proofs.literal.number.Goals as goal

pub loop-c-preserved : goal.loop-c-preserved
loop-c-preserved c =
    let d : ℕ = slice_index_or c.args.digits.now c.loop-c.c-index 0 - 48 in
    record {
      within = omega arith;
      so_far = capped_next c.loop-c.n c.min-n.result (2 ^ 127) _ c.args.digits.now c.loop-c.c-index c.loop-c-test.true
          (saturated c.loop-c.n d (2 ^ 127) (2 ^ 128 - 1) c.saturating_mul.result c.saturating_add.result c.min-n.result (lit≤ tt) c.saturating_mul.ensures
          (c.saturating_add.ensures ∙ ap (λ (z : ℕ). min (c.saturating_mul.result + z) (2 ^ 128 - 1)) (c.from.ensures ∙ c.saturating_sub.ensures)) c.min-n.ensures)
          c.loop-c.invariant.so_far;
    }
