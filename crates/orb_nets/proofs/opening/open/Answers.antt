-- The next slot is the first after those that are open.
use Rattle.std.proofs.Common.{◌≡◌, ◌+◌, [], ◌∷◌, ◌++◌, Some, take, drop, slice_index_or, ap, ◌∙◌, arith}
use Rattle.orb_base.specs.MemLinks.{pairs}
use Rattle.orb_nets.specs.MemNets.{slot_pairs}
use Rattle.orb_nets.specs.Nets.{Opens, opened}
use Rattle.orb_nets.proofs.OpenLaws.{opens_more, first_behind, drop_one_more}
use Rattle.orb_nets.proofs.opening.open.Goals as goal

pub loop-nth-preserved : goal.loop-nth-preserved
loop-nth-preserved g c =
    let all = slot_pairs c.args.slots.now in
    let n = c.loop-nth._nth in
    let links : pairs c.next_slot.result.links ≡ slice_index_or all n [] =
    c.next_slot.ensures.first ∙ ap (λ slots. slice_index_or slots 0 []) c.loop-nth.invariant.1 ∙ first_behind all n in
    let new : g.A.Acceptor.state c.of_slot.result ≡ opened c.args.each n (Some all) =
    c.of_slot.ensures ∙ ap (λ xs. record { links = Some (take c.args.each xs); faults = 0; ends = 0 }) links in
    let more : Opens g.A.Acceptor.state (n + 1) c.args.each (Some all) (c.loop-nth.all.items ++ c.of_slot.result ∷ []) =
    opens_more g.A.Acceptor.state n c.args.each all c.loop-nth.all.items c.of_slot.result c.loop-nth.invariant.0 new in (
      rw c.push_reserved.ensures.items more,
      c.next_slot.ensures.rest ∙ ap (λ slots. drop 1 slots) c.loop-nth.invariant.1 ∙ drop_one_more all n,
      omega (arith, c.push_reserved.ensures.capacity, c.loop-nth.invariant.2),
    )
