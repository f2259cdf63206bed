-- A pool that can be opened has few threads, which have no task.
use Rattle.std.proofs.Common.{ap, sym, ◌∙◌, subst}
use Rattle.orb_base.specs.Pool.{Pool}
use Rattle.thread_borrowing.specs.ThreadList.{pool_threads}
use Rattle.thread_borrowing.specs.Masks.{ArePlaced, AreIdle}
use Rattle.thread_borrowing.proofs.Growing.{few_threads}
use Rattle.thread_borrowing.proofs.MarkLaws.{pool_placed, pool_idle}
use Rattle.thread_borrowing.proofs.threads.Threads.new.Goals as goal

pub sets_of-sets-requires-clause-few : goal.sets_of-sets-requires-clause-few
sets_of-sets-requires-clause-few c =
    let lanes = c.as_slice.ensures ∙ ap (λ (p : Pool). p.lanes) c.pool.view_is in
    let all = c.as_slice-2.ensures.value ∙ c.into_vec-threads.ensures ∙ c.in_ok-all_threads.ensures in
    few_threads c.args.pool.now _ _ c.requires.well_formed lanes all

pub sets_of-sets-requires-clause-placed : goal.sets_of-sets-requires-clause-placed
sets_of-sets-requires-clause-placed c =
    let lanes = c.as_slice.ensures ∙ ap (λ (p : Pool). p.lanes) c.pool.view_is in
    let all = c.as_slice-2.ensures.value ∙ c.into_vec-threads.ensures ∙ c.in_ok-all_threads.ensures in
    subst ArePlaced (sym (all ∙ ap (pool_threads 0) lanes)) (pool_placed c.args.pool.now.lanes c.requires.well_formed.lanes.few)

pub sets_of-sets-requires-clause-idle : goal.sets_of-sets-requires-clause-idle
sets_of-sets-requires-clause-idle c =
    let lanes = c.as_slice.ensures ∙ ap (λ (p : Pool). p.lanes) c.pool.view_is in
    let all = c.as_slice-2.ensures.value ∙ c.into_vec-threads.ensures ∙ c.in_ok-all_threads.ensures in
    subst AreIdle (sym (all ∙ ap (pool_threads 0) lanes)) (pool_idle c.args.pool.now.lanes c.requires.well_formed.lanes.few)

pub invariant_of-result : goal.invariant_of-result
invariant_of-result c =
    let lanes = c.as_slice.ensures ∙ ap (λ (p : Pool). p.lanes) c.pool.view_is in
    let all = c.into_vec-threads.ensures ∙ c.in_ok-all_threads.ensures in
    record {
      few = few_threads c.args.pool.now _ _ c.requires.well_formed lanes all;
      placed = subst ArePlaced (sym (all ∙ ap (pool_threads 0) lanes)) (pool_placed c.args.pool.now.lanes c.requires.well_formed.lanes.few);
      sets_of = rw c.as_slice-2.ensures.value at c.sets_of-sets.ensures;
    }
