use Rattle.std.proofs.Common.{◌≡◌, List, ◌++◌, length, subst, sym, rules}
use Rattle.turn_cell.specs.Seats.{CellView}
use Rattle.lane_machine.specs.State.{State}
use Rattle.orb_base.specs.Pool.{Pool as Lanes}
use Rattle.lane_pool.specs.Pass.{Pass, Sitting}
use Rattle.lane_pool.specs.Passes.{AreFrom, IsOpen}
use Rattle.lane_pool.specs.Turns.{AllRest, AllIdle}
use Rattle.lane_pool.specs.Returning.{left_by, AllBack}
use Rattle.lane_pool.specs.Returned.{AllHome, AllAlone, AllSlotsOut, AllWorkersOut}
use Rattle.lane_pool.proofs.Openings.{flat_lane}
use Rattle.lane_pool.proofs.Sending.{slots_out, workers_out}
use Rattle.lane_pool.proofs.Returned.{run_back}
use Rattle.machine_tests.proofs.lane_pool_tests.storm.storm.Goals as goal

slots_as : (cell : CellView State) (opened items : List Pass) → AllRest cell 0 opened → AreFrom cell 1 0 opened → items ≡ opened → AllSlotsOut cell 0 items
slots_as cell opened items r a e = subst (AllSlotsOut cell 0) (sym e) (slots_out cell opened r a)

workers_as : (cell : CellView State) (opened items : List Pass) → AllIdle cell 0 opened → AreFrom cell 9 0 opened → items ≡ opened → AllWorkersOut cell 9 items
workers_as cell opened items r a e = subst (AllWorkersOut cell 9) (sym e) (workers_out cell 9 opened r a)

back_as : (cell : CellView State) (pool : Lanes) (root : Sitting) (readers workers homes alones slots others : List Pass) → IsOpen pool 8 2 cell root readers workers
    → AllHome cell 0 homes → length homes ≡ length readers → AllAlone cell 9 alones → length alones ≡ length workers → slots ≡ homes → others ≡ alones → AllBack root (left_by slots ++ left_by others)
back_as cell pool root readers workers homes alones slots others o a n b m e f =
    subst (λ (xs : List Pass). AllBack root (left_by xs ++ left_by others)) (sym e) (subst (λ (ys : List Pass). AllBack root (left_by homes ++ left_by ys)) (sym f)
    (run_back cell 8 2 pool root readers workers homes alones o a n b m))

pub run_all-workers-requires-clause-slots : goal.run_all-workers-requires-clause-slots
run_all-workers-requires-clause-slots g c κs within = slots_as c.args.all.pool.cell c.args.all.slots.items c.into_vec.result.items c.requires.slots c.requires.opened.slots_are (search rules)

pub run_all-workers-requires-clause-workers : goal.run_all-workers-requires-clause-workers
run_all-workers-requires-clause-workers g c κs within = workers_as c.args.all.pool.cell c.args.all.workers.items c.into_vec-2.result.items c.requires.workers c.requires.opened.workers_are (search rules)

pub run_all-workers-requires-clause-lane : goal.run_all-workers-requires-clause-lane
run_all-workers-requires-clause-lane g c κs within = flat_lane 8 2 c.args.all.pool.cell c.args.spec.now c.args.all.root c.args.all.slots.items c.args.all.workers.items c.requires.opened c.requires.well_formed c.requires.flat

pub close-requires-clause-whole : goal.close-requires-clause-whole
close-requires-clause-whole g c = back_as c.args.all.pool.cell c.args.spec.now c.args.all.root c.args.all.slots.items c.args.all.workers.items c.run_all-workers.result.1.items c.run_all-workers.result.0.items
    c.from_vec.result.items c.from_vec-2.result.items c.requires.opened c.run_all-workers.ensures.slots.0 (search rules) c.run_all-workers.ensures.workers.0 (search rules) (search rules) (search rules)
