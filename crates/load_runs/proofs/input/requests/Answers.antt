use Rattle.std.proofs.Common.{◌≡◌, ℕ, List, ◌∙◌, subst, arith}
use Rattle.cdr_core.specs.Cursor.{AreBytes}
use Rattle.load_runs.proofs.Made.{nothing_made, next_made, uncut_so, puts_so}
use Rattle.load_runs.proofs.input.requests.Goals as goal

pub loop-i-init : goal.loop-i-init
loop-i-init c = nothing_made _ _ c.new-input.result.items c.new-input.ensures

pub put_sent-requires : goal.put_sent-requires
put_sent-requires c =
    let view = c.message.view_is in
    let made = c.in_ok-spell.ensures in
    let told = c.as_slice-in-loop-i.ensures in
    let here : c.as_slice-in-loop-i.result.now ≡ c.spell.new.into.items = cc in
    uncut_so (record { object = c.args.object.now; model = c.args.model }) c.args.pool.now c.args.plan.now.seed c.loop-i.i c.sent_level-level.result
    c.in_ok-pattern.pattern.before.items c.in_ok-pattern.pattern.after.items c.as_slice-in-loop-i.result.now c.requires c.in_ok-pattern.ensures c.sent_level-level.ensures (here ∙ made)

pub loop-i-preserved : goal.loop-i-preserved
loop-i-preserved c =
    let view = c.message.view_is in
    let before = c.input.view_is in
    let after = c.input-in-loop-i.view_is in
    let made = c.in_ok-spell.ensures in
    let told = c.as_slice-in-loop-i.ensures in
    let told_first = c.as_slice.ensures in
    let reserved = c.reserve_others.ensures in
    let here : c.as_slice-in-loop-i.result.now ≡ c.spell.new.into.items = cc in
    let both : c.as_slice.result.now ≡ c.as_slice-in-loop-i.result.now = cc in
    let are : AreBytes c.as_slice-in-loop-i.result.now = subst (λ (x : List ℕ). AreBytes x) both c.see_bytes.ensures in
    let same : c.reserve_others.new.input.items ≡ c.put_sent.new.into.items = cc in
    let puts = puts_so c.args.plan.now.fragment (record { object = c.args.object.now; model = c.args.model }) c.args.pool.now c.args.plan.now.seed c.loop-i.i c.sent_level-level.result
    c.in_ok-pattern.pattern.before.items c.in_ok-pattern.pattern.after.items c.as_slice-in-loop-i.result.now c.loop-i.input.items c.put_sent.new.into.items c.requires
    c.in_ok-pattern.ensures c.sent_level-level.ensures (here ∙ made) (omega (arith, c.requests-count.ensures.few, c.loop-i-test.true)) are c.in_ok-put_sent.ensures in
    next_made c.args.plan.now.fragment (record { object = c.args.object.now; model = c.args.model }) c.args.pool.now c.args.plan.now.seed c.loop-i.i c.sent_level-level.result
    c.loop-i.input.items c.put_sent.new.into.items c.reserve_others.new.input.items c.requires c.sent_level-level.ensures same c.loop-i.invariant puts
