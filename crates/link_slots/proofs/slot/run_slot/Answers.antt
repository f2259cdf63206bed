use Rattle.std.proofs.Common.{◌≡◌, ℕ, ◌+◌, ◌<◌, ◌≤◌, ◌∷◌, [], length, length-append, ap, subst, sym, refl, ◌∙◌, arith}
use Rattle.link_slots.proofs.Serving.{goes_first, goes_further, comes_closed}
use Rattle.link_slots.specs.Slots.{SlotRan}
use Rattle.link_slots.proofs.slot.run_slot.Goals as goal

pub loop-nth-init : goal.loop-nth-init
loop-nth-init g c = (
  goes_first g.A.In.Source.state g.A.Out.Sink.state g.A.Acceptor.state _ _ c.args.host.now.most
      c.args.job.place (g.A.Acceptor.state c.args.job.acceptor) c.args.job.logs.items c.requires.first c.requires.job.empty,
  ap length c.requires.job.empty,
  c.requires.job.room,
)

pub returns-then-closes : goal.returns-then-closes
returns-then-closes g c =
    let t = c.loop-nth-test.true in
    let few : c.loop-nth.nth < c.args.host.now.most = omega (arith, t, c.loop-nth.auto.nth-end) in record {
      ran = subst (λ r. SlotRan g.A.Acceptor.state (goal.F-post g c.args.host.now.serve) c.args.host.now.most c.args.job r) (sym c.left.ensures) (
          comes_closed g.A.In.Source.state g.A.Out.Sink.state g.A.Acceptor.state _ _ c.args.host.now.most
          c.args.job c.loop-nth.place (g.A.Acceptor.state c.loop-nth.acceptor) c.loop-nth.nth c.in-Link.source c.in-Link.sink c.loop-nth.logs.items c.serve-served.result _
          c.loop-nth.invariant.0 c.in-Link.ensures.links c.in-Link.ensures.fault c.in-Link.ensures.end c.loop-nth.invariant.1 c.serve-served.ensures
          c.if-closes.true few refl c.push_reserved.ensures.items refl);
    }

pub loop-nth-preserved : goal.loop-nth-preserved
loop-nth-preserved g c =
    let more : length c.push_reserved.new.self.items ≡ length c.loop-nth.logs.items + 1 = ap length c.push_reserved.ensures.items ∙ length-append c.loop-nth.logs.items (c.serve-served.result.log ∷ []) in (
      goes_further g.A.In.Source.state g.A.Out.Sink.state g.A.Acceptor.state _ _ c.args.host.now.most
          c.args.job.place c.loop-nth.place (g.A.Acceptor.state c.args.job.acceptor) (g.A.Acceptor.state c.loop-nth.acceptor) (g.A.Acceptor.state c.accept.new.self)
          c.loop-nth.nth c.in-Link.source c.in-Link.sink c.loop-nth.logs.items c.push_reserved.new.self.items c.serve-served.result
          c.requires.next c.loop-nth.invariant.0 c.in-Link.ensures.links c.in-Link.ensures.fault c.in-Link.ensures.end c.loop-nth.invariant.1 c.serve-served.ensures c.if-closes.false
          c.push_reserved.ensures.items,
      more ∙ ap (λ (k : ℕ). k + 1) c.loop-nth.invariant.1,
      subst (λ (k : ℕ). c.args.host.now.most ≤ k) (sym c.push_reserved.ensures.capacity) c.loop-nth.invariant.2,
    )
