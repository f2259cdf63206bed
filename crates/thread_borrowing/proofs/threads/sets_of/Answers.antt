-- Each thread goes into the set of its lane.
use Rattle.std.proofs.Common.{◌≡◌, ◌<◌, length, Some, refl, ◌∙◌, arith}
use Rattle.std.specs.Prelude.{slice_get}
use Rattle.std.proofs.lemmas.Option.{slice_get_read}
use Rattle.orb_base.specs.declared.limits.TheConstants.{MAX_LANES}
use Rattle.thread_borrowing.proofs.SetLaws.{sets_start, get_replicate}
use Rattle.thread_borrowing.proofs.MarkLaws.{sets_more}
use Rattle.thread_borrowing.proofs.threads.sets_of.Goals as goal

pub loop-number-init : goal.loop-number-init
loop-number-init c = sets_start c.empty-sets.result _ c.empty-sets.ensures refl (λ lane z g. get_replicate MAX_LANES lane c.empty-sets.result z g)

pub loop-number-preserved : goal.loop-number-preserved
loop-number-preserved c =
    let threads = c.args.threads.now in
    let number = c.loop-number.number in
    let x = c.index-threads-number.result in
    let lane = c.from-lane.result in
    let there : slice_get threads number ≡ Some x = slice_get_read threads (length threads) number x refl c.loop-number-test.true c.index-threads-number.is in
    let of_lane : lane ≡ x.lane = c.from-lane.ensures ∙ c.lane.ensures in
    let low : lane < MAX_LANES = let p = (c.requires.placed.each number x there).in_pool in omega arith in
    sets_more threads c.loop-number.sets number lane x c.standing.result _ there of_lane low (c.requires.idle.each number x there) c.standing.ensures c.put.ensures c.loop-number.invariant
