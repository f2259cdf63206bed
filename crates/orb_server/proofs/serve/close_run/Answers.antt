use Rattle.std.proofs.Common.{◌+◌, length, ◌∙◌}
use Rattle.std.proofs.lemmas.List.{length-map}
use Rattle.thread_borrowing.specs.ThreadList.{pool_threads}
use Rattle.orb_server.specs.Giving.{passes_of}
use Rattle.orb_server.proofs.Closing.{closing_in, closing_back, lawful, all_slots, all_workers, all_alone, runs_once, own_lanes, own_admitted, left_as}
use Rattle.orb_server.proofs.serve.close_run.Goals as goal

pub close-history-requires-clause-passes : goal.close-history-requires-clause-passes
close-history-requires-clause-passes g c = closing_in c.args.pool.cell (c.args.setup.now.slots + 1) c.from_vec-homes.result.items c.from_vec-alones.result.items (passes_of c.args.staff.slots.items) c.args.staff.workers.items
    (c.from_vec-homes.ensures ∙ c.take_apart-passes.ensures.passes.0) c.from_vec-alones.ensures c.requires.home.0
    (all_alone c.args.setup.now (g.S.Serving.outcome c.args.servants.now) c.args.pool.cell (c.args.setup.now.slots + 1) c.args.staff.workers.items c.requires.workers.0)

pub close-history-requires-clause-whole : goal.close-history-requires-clause-whole
close-history-requires-clause-whole g c = closing_back c.args.setup.now c.args.pool.cell c.args.root (length (pool_threads 0 c.args.setup.now.pool.lanes)) c.from_vec-homes.result.items c.from_vec-alones.result.items
    (passes_of c.args.staff.slots.items) c.args.staff.workers.items (c.from_vec-homes.ensures ∙ c.take_apart-passes.ensures.passes.0) c.from_vec-alones.ensures c.requires.root c.requires.home.0
    (length-map c.args.staff.slots.items _ ∙ c.requires.home.1)
    (all_alone c.args.setup.now (g.S.Serving.outcome c.args.servants.now) c.args.pool.cell (c.args.setup.now.slots + 1) c.args.staff.workers.items c.requires.workers.0) c.requires.workers.1

pub returns-clause-lawful : goal.returns-clause-lawful
returns-clause-lawful g c = lawful c.args.setup.now c.args.pool.cell c.args.root _ c.close-history.result.items c.requires.opened c.close-history.ensures.history

pub returns-clause-slots : goal.returns-clause-slots
returns-clause-slots g c = λ before done. all_slots g.A.Acceptor.state g.A.In.Source.state g.A.Out.Sink.state c.args.setup.now c.args.pool.cell c.close-history.result.items c.args.staff.workers.items _ before
    c.take_apart-passes.result.acceptors.items c.args.staff.slots.items c.from_vec-conns.result.items c.from_vec-slots.result.items
    c.close-history.ensures.history.calls
    (left_as c.from_vec-homes.result.items c.from_vec-alones.result.items (passes_of c.args.staff.slots.items) c.args.staff.workers.items (c.from_vec-homes.ensures ∙ c.take_apart-passes.ensures.passes.0) c.from_vec-alones.ensures)
    done c.requires.home.1 c.take_apart-passes.ensures.acceptors.0 (c.from_vec-conns.ensures ∙ c.take_apart-passes.ensures.conns.0) (c.from_vec-slots.ensures ∙ c.take_apart-passes.ensures.ends.0)

pub returns-clause-workers : goal.returns-clause-workers
returns-clause-workers g c = all_workers c.args.setup.now (g.S.Serving.outcome c.args.servants.now) c.args.pool.cell c.close-history.result.items (passes_of c.args.staff.slots.items) c.args.staff.workers.items _
    c.close-history.ensures.history.calls
    (left_as c.from_vec-homes.result.items c.from_vec-alones.result.items (passes_of c.args.staff.slots.items) c.args.staff.workers.items (c.from_vec-homes.ensures ∙ c.take_apart-passes.ensures.passes.0) c.from_vec-alones.ensures)
    c.requires.workers.0 c.requires.workers.1

pub returns-clause-once : goal.returns-clause-once
returns-clause-once g c = runs_once c.args.setup.now (g.S.Serving.outcome c.args.servants.now) c.args.pool.cell c.args.root _ c.close-history.result.items c.requires.opened c.close-history.ensures.history
    (all_workers c.args.setup.now (g.S.Serving.outcome c.args.servants.now) c.args.pool.cell c.close-history.result.items (passes_of c.args.staff.slots.items) c.args.staff.workers.items _
    c.close-history.ensures.history.calls
    (left_as c.from_vec-homes.result.items c.from_vec-alones.result.items (passes_of c.args.staff.slots.items) c.args.staff.workers.items (c.from_vec-homes.ensures ∙ c.take_apart-passes.ensures.passes.0) c.from_vec-alones.ensures)
    c.requires.workers.0 c.requires.workers.1)
    c.all_is_done.ensures c.each_in_one_place.ensures.place c.each_in_one_place.ensures.taken c.each_in_one_place.ensures.once

pub returns-clause-lanes : goal.returns-clause-lanes
returns-clause-lanes g c = own_lanes c.args.setup.now c.args.pool.cell c.args.root _ c.close-history.result.items c.requires.opened c.close-history.ensures.history

pub returns-clause-admitted : goal.returns-clause-admitted
returns-clause-admitted g c = own_admitted c.args.setup.now c.args.pool.cell c.args.root _ c.close-history.result.items c.requires.opened c.close-history.ensures.history
