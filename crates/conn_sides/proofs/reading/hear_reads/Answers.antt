-- Each read, and the one with which the reading side comes out.
use Rattle.std.proofs.Common.{◌+◌, ◌≤◌, ◌∙◌, refl, sym, ap, subst, arith}
use Rattle.std.proofs.lemmas.Grind.{common_steps}
use Rattle.orb_base.specs.Pool.{IsWellFormed}
use Rattle.adapter_policies.specs.SetupData.{SetupData}
use Rattle.conn_engine.proofs.Taken.{took_piece}
use Rattle.conn_sides.proofs.ReadRuns.{read_start, conn_now, read_more, stops_with, reads_with, stops_at_end, stops_at_fault, stops_full}
use Rattle.conn_sides.proofs.reading.hear_reads.Goals as goal

pub loop-taken-init : goal.loop-taken-init
loop-taken-init g c =
    read_start c.args.pool.now.cell c.args.setup.now c.args.hearing c.args.pass.now (g.I.Source.state c.args.source.now) c.requires.new c.requires.listens c.requires.unheard

pub hear_piece-requires-clause-conn : goal.hear_piece-requires-clause-conn
hear_piece-requires-clause-conn g c = conn_now _ _ _ _ _ _ _ _ c.loop-taken.invariant

pub hear_piece-requires-clause-well_formed : goal.hear_piece-requires-clause-well_formed
hear_piece-requires-clause-well_formed g c = subst (λ (s : SetupData). IsWellFormed s.pool) (sym c.loop-taken.invariant.setup_is) c.requires.well_formed

pub hear_piece-requires-clause-pool : goal.hear_piece-requires-clause-pool
hear_piece-requires-clause-pool g c = c.requires.pool ∙ ap (λ (s : SetupData). s.pool) (sym c.loop-taken.invariant.setup_is)

pub loop-taken-preserved : goal.loop-taken-preserved
loop-taken-preserved g c =
    let few : (c.in-Bytes.n ≤ 4096) × (c.in-Bytes.n + c.loop-taken.taken ≤ 67108864) = (grind (arith, common_steps, c.in-Bytes.ensures.bytes.1, c.read.auto.into), grind (arith, common_steps, c.in-Bytes.ensures.bytes.1, c.read.auto.into)) in
    let took = took_piece c.loop-taken.hearing.framer.fed c.loop-taken.taken c.in-Bytes.n (g.I.Source.state c.args.source.now) (g.I.Source.state c.loop-taken.source) (g.I.Source.state c.read.new.self) c.read.new.into _ _
    c.loop-taken.invariant.gave c.loop-taken.invariant.count_is c.loop-taken.invariant.reads c.loop-taken.invariant.no_end c.in-Bytes.ensures.bytes.1 few.0 few.1 c.in-Bytes.ensures.bytes.2 c.in-Bytes.ensures.bytes.3 refl c.in-Bytes.ensures.fault c.in-Bytes.ensures.end in
    read_more c.args.pool.now.cell c.args.setup.now c.loop-taken.hearing c.hear_piece.new.hearing c.loop-taken.taken (c.loop-taken.taken + c.in-Bytes.n)
    c.args.pass.now c.loop-taken.pass c.hear_piece.new.pass (g.I.Source.state c.args.source.now) (g.I.Source.state c.loop-taken.source) (g.I.Source.state c.read.new.self) _
    c.loop-taken.invariant took c.in-None.ensures

pub returns-in-Some-clause-hears : goal.returns-in-Some-clause-hears
returns-in-Some-clause-hears g c =
    let few : (c.in-Bytes.n ≤ 4096) × (c.in-Bytes.n + c.loop-taken.taken ≤ 67108864) = (grind (arith, common_steps, c.in-Bytes.ensures.bytes.1, c.read.auto.into), grind (arith, common_steps, c.in-Bytes.ensures.bytes.1, c.read.auto.into)) in
    let took = took_piece c.loop-taken.hearing.framer.fed c.loop-taken.taken c.in-Bytes.n (g.I.Source.state c.args.source.now) (g.I.Source.state c.loop-taken.source) (g.I.Source.state c.read.new.self) c.read.new.into _ _
    c.loop-taken.invariant.gave c.loop-taken.invariant.count_is c.loop-taken.invariant.reads c.loop-taken.invariant.no_end c.in-Bytes.ensures.bytes.1 few.0 few.1 c.in-Bytes.ensures.bytes.2 c.in-Bytes.ensures.bytes.3 refl c.in-Bytes.ensures.fault c.in-Bytes.ensures.end in
    stops_with c.args.pool.now.cell c.args.setup.now c.loop-taken.hearing c.hear_piece.new.hearing c.loop-taken.taken (c.loop-taken.taken + c.in-Bytes.n)
    c.args.pass.now c.loop-taken.pass c.hear_piece.new.pass (g.I.Source.state c.args.source.now) (g.I.Source.state c.loop-taken.source) (g.I.Source.state c.read.new.self) _
    c.loop-taken.invariant took c.in-Some.end c.in-Some.ensures

pub returns-in-Some-clause-reads : goal.returns-in-Some-clause-reads
returns-in-Some-clause-reads g c = reads_with c.args.pool.now.cell _ _ _ _ _ c.in-Some.end c.loop-taken.invariant.listens c.in-Some.ensures

pub returns-in-End-clause-hears : goal.returns-in-End-clause-hears
returns-in-End-clause-hears g c =
    stops_at_end c.args.pool.now.cell c.args.setup.now c.loop-taken.hearing c.loop-taken.taken c.args.pass.now c.loop-taken.pass
    (g.I.Source.state c.args.source.now) (g.I.Source.state c.loop-taken.source) (g.I.Source.state c.read.new.self)
    c.loop-taken.invariant c.at_end.result c.loop-taken-test.true c.at_end.ensures c.in-End.ensures.bytes.1 c.in-End.ensures.bytes.2 c.in-End.ensures.bytes.0 c.in-End.ensures.end.1 c.in-End.ensures.fault

pub returns-in-Failed-clause-hears : goal.returns-in-Failed-clause-hears
returns-in-Failed-clause-hears g c =
    stops_at_fault c.args.pool.now.cell c.args.setup.now c.loop-taken.hearing c.loop-taken.taken c.args.pass.now c.loop-taken.pass
    (g.I.Source.state c.args.source.now) (g.I.Source.state c.loop-taken.source) (g.I.Source.state c.read.new.self)
    c.loop-taken.invariant c.loop-taken-test.true c.in-Failed.ensures.bytes.0 c.in-Failed.ensures.bytes.1 c.in-Failed.ensures.end c.in-Failed.ensures.fault.1

pub returns-clause-hears : goal.returns-clause-hears
returns-clause-hears g c =
    stops_full c.args.pool.now.cell c.args.setup.now c.loop-taken.hearing c.loop-taken.taken c.args.pass.now c.loop-taken.pass
    (g.I.Source.state c.args.source.now) (g.I.Source.state c.loop-taken.source) (g.I.Source.state c.loop-taken.source) c.loop-taken.invariant c.loop-taken-test.false refl
