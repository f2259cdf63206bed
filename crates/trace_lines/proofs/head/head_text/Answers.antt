use Rattle.std.proofs.Common.{◌≡◌, ℕ, List, ◌++◌, string_bytes, ap, ◌∙◌}
use Rattle.std.specs.List.{flat_map}
use Rattle.orb_base.specs.Pool.{Pool}
use Rattle.orb_base.specs.declared.lane_spec.LaneSpec.{LaneSpec}
use Rattle.trace_lines.specs.Texts.{pool_text, lane_text}
use Rattle.trace_lines.proofs.head.head_text.Goals as goal

pub returns : goal.returns
returns c =
    let lanes : c.as_slice.result.now ≡ c.args.pool.now.lanes = c.as_slice.ensures ∙ ap (λ (p : Pool). p.lanes) c.pool.view_is in
    let first : string_bytes c.add_pool.new.text ≡ pool_text c.args.pool.now c.args.slots c.args.per_slot =
    c.in_ok-add_pool.ensures ∙ ap (λ (x : List ℕ). x ++ pool_text c.args.pool.now c.args.slots c.args.per_slot) c.new-text.ensures.bytes in
    c.in_ok-add_lanes.ensures ∙ ap (λ (x : List ℕ). x ++ flat_map lane_text c.as_slice.result.now) first
    ∙ ap (λ (ls : List LaneSpec). pool_text c.args.pool.now c.args.slots c.args.per_slot ++ flat_map lane_text ls) lanes
