-- One more request is better than the best, or not.
use Rattle.std.proofs.Common.{◌≡◌, ◌<◌, Some, length, refl, sym, ◌∙◌, arith}
use Rattle.std.specs.Prelude.{slice_get}
use Rattle.std.proofs.lemmas.Option.{slice_get_read}
use Rattle.request_buffer.proofs.Searching.{best_found, best_missed, best_end}
use Rattle.request_buffer.proofs.queue.Queue.earliest.Goals as goal
use Rattle.request_buffer.proofs.queue.Queue.earliest.Goals.{then-is_sought, else-is_sought}

pub loop-at-preserved : goal.loop-at-preserved
loop-at-preserved c =
    let items = c.self.inside.inner.items in
    let within : c.loop-at.at < length items = omega arith in
    let there : slice_get items c.loop-at.at ≡ Some c.index-request.result.now = slice_get_read items (length items) c.loop-at.at c.index-request.result.now refl within c.index-request.ensures in
    elim c.if-is_sought.branch [
      | then-is_sought w ↦ rw (w.best-is, w.better.ensures) (best_found c.args.sought items c.loop-at.at c.index-request.result.now c.loop-at.best w.found_at.result there (sym c.is_sought.ensures ∙ w.if-is_sought.true) w.found_at.ensures c.loop-at.invariant)
      | else-is_sought w ↦ rw w.best-is (best_missed c.args.sought items c.loop-at.at c.index-request.result.now c.loop-at.best there (sym c.is_sought.ensures ∙ w.if-is_sought.false) c.loop-at.invariant)
    ]

pub returns : goal.returns
returns c =
    rw (← c.self.view_is) (best_end c.args.sought c.self.inside.inner.items c.loop-at.at c.loop-at.best (omega arith) c.loop-at.invariant)
