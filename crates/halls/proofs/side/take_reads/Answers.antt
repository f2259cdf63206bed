-- Each read, and the one with which the reading comes out.
use Rattle.std.proofs.Common.{◌+◌, ◌≤◌, ◌∙◌, refl, arith}
use Rattle.std.proofs.lemmas.Grind.{common_steps}
use Rattle.halls.proofs.Reading.{took_piece, read_start, read_more, stops_with, stops_at_end, stops_at_fault, stops_full}
use Rattle.halls.proofs.Steps.{making}
use Rattle.halls.proofs.side.take_reads.Goals as goal

pub loop-taken-init : goal.loop-taken-init
loop-taken-init g c = record {
  of = c.requires.of;
  so_far = read_start c.args.hearing (g.I.Source.state c.args.source.now) (making (g.H.Hall.held c.args.hand.now) (g.O.Sink.state c.args.sink.now)) c.requires.new;
}

pub take_piece-requires-clause-setup : goal.take_piece-requires-clause-setup
take_piece-requires-clause-setup g c = c.loop-taken.invariant.so_far.setup_is ∙ c.requires.setup

pub loop-taken-preserved : goal.loop-taken-preserved
loop-taken-preserved g c =
    let x = c.loop-taken.invariant.so_far in
    let few : (c.in-Bytes.n ≤ 4096) × (c.in-Bytes.n + c.loop-taken.taken ≤ 67108864) = (grind (arith, common_steps, c.in-Bytes.ensures.bytes.1, c.read.auto.into), grind (arith, common_steps, c.in-Bytes.ensures.bytes.1, c.read.auto.into)) in
    let got = took_piece c.loop-taken.hearing.framer.fed c.loop-taken.taken c.in-Bytes.n (g.I.Source.state c.args.source.now) (g.I.Source.state c.loop-taken.source) (g.I.Source.state c.read.new.self) c.read.new.into _ _
    x.gave x.count_is x.reads x.no_end c.in-Bytes.ensures.bytes.1 few.0 few.1 c.in-Bytes.ensures.bytes.2 c.in-Bytes.ensures.bytes.3 refl c.in-Bytes.ensures.fault c.in-Bytes.ensures.end in
    record {
      of = c.take_piece.ensures.of;
      so_far = read_more _ _ c.loop-taken.hearing c.take_piece.new.hearing c.loop-taken.taken (c.loop-taken.taken + c.in-Bytes.n)
          (g.I.Source.state c.args.source.now) (g.I.Source.state c.loop-taken.source) (g.I.Source.state c.read.new.self) _ _ _ _ x got c.in-None.ensures.takes;
    }

pub returns-in-Some-clause-reads : goal.returns-in-Some-clause-reads
returns-in-Some-clause-reads g c =
    let x = c.loop-taken.invariant.so_far in
    let few : (c.in-Bytes.n ≤ 4096) × (c.in-Bytes.n + c.loop-taken.taken ≤ 67108864) = (grind (arith, common_steps, c.in-Bytes.ensures.bytes.1, c.read.auto.into), grind (arith, common_steps, c.in-Bytes.ensures.bytes.1, c.read.auto.into)) in
    let got = took_piece c.loop-taken.hearing.framer.fed c.loop-taken.taken c.in-Bytes.n (g.I.Source.state c.args.source.now) (g.I.Source.state c.loop-taken.source) (g.I.Source.state c.read.new.self) c.read.new.into _ _
    x.gave x.count_is x.reads x.no_end c.in-Bytes.ensures.bytes.1 few.0 few.1 c.in-Bytes.ensures.bytes.2 c.in-Bytes.ensures.bytes.3 refl c.in-Bytes.ensures.fault c.in-Bytes.ensures.end in
    stops_with _ _ c.loop-taken.hearing c.take_piece.new.hearing c.loop-taken.taken (c.loop-taken.taken + c.in-Bytes.n)
    (g.I.Source.state c.args.source.now) (g.I.Source.state c.loop-taken.source) (g.I.Source.state c.read.new.self) _ _ _ _ x got c.in-Some.end c.in-Some.ensures.takes

pub returns-in-End-clause-reads : goal.returns-in-End-clause-reads
returns-in-End-clause-reads g c =
    stops_at_end _ _ c.loop-taken.hearing c.loop-taken.taken (g.I.Source.state c.args.source.now) (g.I.Source.state c.loop-taken.source) (g.I.Source.state c.read.new.self) _ _
    c.loop-taken.invariant.so_far c.at_end.result c.loop-taken-test.true c.at_end.ensures c.in-End.ensures.bytes.1 c.in-End.ensures.bytes.2 c.in-End.ensures.bytes.0 c.in-End.ensures.end.1 c.in-End.ensures.fault

pub returns-in-Failed-clause-reads : goal.returns-in-Failed-clause-reads
returns-in-Failed-clause-reads g c =
    stops_at_fault _ _ c.loop-taken.hearing c.loop-taken.taken (g.I.Source.state c.args.source.now) (g.I.Source.state c.loop-taken.source) (g.I.Source.state c.read.new.self) _ _
    c.loop-taken.invariant.so_far c.loop-taken-test.true c.in-Failed.ensures.bytes.0 c.in-Failed.ensures.bytes.1 c.in-Failed.ensures.end c.in-Failed.ensures.fault.1

pub returns-clause-reads : goal.returns-clause-reads
returns-clause-reads g c =
    stops_full _ _ c.loop-taken.hearing c.loop-taken.taken (g.I.Source.state c.args.source.now) (g.I.Source.state c.loop-taken.source) (g.I.Source.state c.loop-taken.source) _ _
    c.loop-taken.invariant.so_far c.loop-taken-test.false refl
