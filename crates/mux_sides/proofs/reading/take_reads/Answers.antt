-- Each read, and the one with which the reading comes out.
use Rattle.std.proofs.Common.{◌+◌, ◌≤◌, refl, arith}
use Rattle.std.proofs.lemmas.Grind.{common_steps}
use Rattle.mux_sides.proofs.ReadLaws.{took_piece, read_start, read_more, stops_with, stops_at_end, stops_at_fault, stops_full}
use Rattle.mux_sides.proofs.reading.take_reads.Goals as goal

pub loop-taken-init : goal.loop-taken-init
loop-taken-init g c = read_start _ c.args.hearing (g.I.Source.state c.args.source.now) c.args.seat.now c.requires.new c.requires.reads c.requires.loses

pub loop-taken-preserved : goal.loop-taken-preserved
loop-taken-preserved g c =
    let x = c.loop-taken.invariant in
    let few : (c.in-Bytes.n ≤ 4096) × (c.in-Bytes.n + c.loop-taken.taken ≤ 67108864) = (grind (arith, common_steps, c.in-Bytes.ensures.bytes.1, c.read.auto.into), grind (arith, common_steps, c.in-Bytes.ensures.bytes.1, c.read.auto.into)) in
    let got = took_piece c.loop-taken.hearing.framer.fed c.loop-taken.taken c.in-Bytes.n (g.I.Source.state c.args.source.now) (g.I.Source.state c.loop-taken.source) (g.I.Source.state c.read.new.self) c.read.new.into _ _
    x.gave x.taken_is x.reads x.no_end c.in-Bytes.ensures.bytes.1 few.0 few.1 c.in-Bytes.ensures.bytes.2 c.in-Bytes.ensures.bytes.3 refl c.in-Bytes.ensures.fault c.in-Bytes.ensures.end in
    read_more _ c.loop-taken.hearing c.take_piece.new.hearing c.loop-taken.taken (c.loop-taken.taken + c.in-Bytes.n)
    (g.I.Source.state c.args.source.now) (g.I.Source.state c.loop-taken.source) (g.I.Source.state c.read.new.self) _
    (c.loop-taken.seat, c.loop-taken.count) (c.take_piece.new.seat, c.take_piece.new.count) _ x got c.in-None.ensures

pub returns-in-Some : goal.returns-in-Some
returns-in-Some g c =
    let x = c.loop-taken.invariant in
    let few : (c.in-Bytes.n ≤ 4096) × (c.in-Bytes.n + c.loop-taken.taken ≤ 67108864) = (grind (arith, common_steps, c.in-Bytes.ensures.bytes.1, c.read.auto.into), grind (arith, common_steps, c.in-Bytes.ensures.bytes.1, c.read.auto.into)) in
    let got = took_piece c.loop-taken.hearing.framer.fed c.loop-taken.taken c.in-Bytes.n (g.I.Source.state c.args.source.now) (g.I.Source.state c.loop-taken.source) (g.I.Source.state c.read.new.self) c.read.new.into _ _
    x.gave x.taken_is x.reads x.no_end c.in-Bytes.ensures.bytes.1 few.0 few.1 c.in-Bytes.ensures.bytes.2 c.in-Bytes.ensures.bytes.3 refl c.in-Bytes.ensures.fault c.in-Bytes.ensures.end in
    stops_with _ c.loop-taken.hearing c.take_piece.new.hearing c.loop-taken.taken (c.loop-taken.taken + c.in-Bytes.n)
    (g.I.Source.state c.args.source.now) (g.I.Source.state c.loop-taken.source) (g.I.Source.state c.read.new.self) _
    (c.loop-taken.seat, c.loop-taken.count) (c.take_piece.new.seat, c.take_piece.new.count) _ x got c.in-Some.why c.in-Some.ensures

pub returns-in-End : goal.returns-in-End
returns-in-End g c =
    stops_at_end _ c.loop-taken.hearing c.loop-taken.taken c.loop-taken.count (g.I.Source.state c.args.source.now) (g.I.Source.state c.loop-taken.source) (g.I.Source.state c.read.new.self) _ _
    c.loop-taken.invariant c.at_end.result c.why_of.result c.why_of.ensures c.loop-taken-test.true c.at_end.ensures c.in-End.ensures.bytes.1 c.in-End.ensures.bytes.2 c.in-End.ensures.bytes.0 c.in-End.ensures.end.1 c.in-End.ensures.fault

pub returns-in-Failed : goal.returns-in-Failed
returns-in-Failed g c =
    stops_at_fault _ c.loop-taken.hearing c.loop-taken.taken c.loop-taken.count (g.I.Source.state c.args.source.now) (g.I.Source.state c.loop-taken.source) (g.I.Source.state c.read.new.self) _ _
    c.loop-taken.invariant c.loop-taken-test.true c.in-Failed.ensures.bytes.0 c.in-Failed.ensures.bytes.1 c.in-Failed.ensures.end c.in-Failed.ensures.fault.1

pub returns : goal.returns
returns g c =
    stops_full _ c.loop-taken.hearing c.loop-taken.taken c.loop-taken.count (g.I.Source.state c.args.source.now) (g.I.Source.state c.loop-taken.source) (g.I.Source.state c.loop-taken.source) _ _
    c.loop-taken.invariant c.loop-taken-test.false refl
