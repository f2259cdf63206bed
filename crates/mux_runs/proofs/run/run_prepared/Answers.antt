-- All seats came back, and the history has what each did.
use Rattle.std.proofs.Common.{List, [], ◌∷◌, ◌++◌, sym, ap, ◌∙◌, subst}
use Rattle.shared_link.specs.Link.{Sitting}
use Rattle.mux_sides.specs.declared.calling.CallEnd.{CallEnd}
use Rattle.mux_runs.specs.Callers.{HaveCalled}
use Rattle.mux_runs.specs.Runs.{CallsIn, AreOwn}
use Rattle.mux_runs.specs.declared.jobs.Asking.{Asking}
use Rattle.mux_runs.proofs.WholeRuns.{all_back, has_called, has_sent, has_heard, has_own}
use Rattle.mux_runs.proofs.run.run_prepared.Goals as goal

pub close-history-requires-clause-seats : goal.close-history-requires-clause-seats
close-history-requires-clause-seats g c =
    let called = subst (λ (z : List Asking). HaveCalled c.args.prepared.shared.cell 1 z c.run_sides-sides.result.called.items) c.give_calls-jobs.ensures.asked c.run_sides-sides.ensures.called in
    let is = c.push_reserved-2.ensures.items
    ∙ ap (λ (z : List Sitting). z ++ c.run_sides-sides.result.read.seat ∷ []) (c.push_reserved.ensures.items ∙ ap (λ (z : List Sitting). z ++ c.run_sides-sides.result.written.seat ∷ []) c.take_apart-seats.ensures.seats) in
    (all_back c.args.prepared.shared.cell c.args.prepared.root c.args.prepared.seats.items c.args.prepared.writer c.run_sides-sides.result.written.seat c.args.prepared.reader c.run_sides-sides.result.read.seat
    c.args.calls.items c.run_sides-sides.result.called.items c.push_reserved-2.new.self.items c.run_sides-sides.result.written.end c.run_sides-sides.result.read.why
    (g.O.Sink.state c.args.sink) (g.O.Sink.state c.run_sides-sides.result.written.sink) (g.I.Source.state c.args.source) (g.I.Source.state c.run_sides-sides.result.read.source)
    c.requires.opened called c.run_sides-sides.ensures.written c.run_sides-sides.ensures.read is).0

pub returns-clause-called : goal.returns-clause-called
returns-clause-called g c =
    let called = subst (λ (z : List Asking). HaveCalled c.args.prepared.shared.cell 1 z c.run_sides-sides.result.called.items) c.give_calls-jobs.ensures.asked c.run_sides-sides.ensures.called in
    let is = c.push_reserved-2.ensures.items
    ∙ ap (λ (z : List Sitting). z ++ c.run_sides-sides.result.read.seat ∷ []) (c.push_reserved.ensures.items ∙ ap (λ (z : List Sitting). z ++ c.run_sides-sides.result.written.seat ∷ []) c.take_apart-seats.ensures.seats) in
    subst (λ (z : List CallEnd). CallsIn c.close-history.result.items 1 c.args.calls.items z) (sym (c.from_vec.ensures ∙ c.take_apart-seats.ensures.ends))
    (has_called c.args.prepared.shared.cell c.args.prepared.root c.args.prepared.seats.items c.args.prepared.writer c.run_sides-sides.result.written.seat c.args.prepared.reader c.run_sides-sides.result.read.seat
    c.args.calls.items c.run_sides-sides.result.called.items c.push_reserved-2.new.self.items c.run_sides-sides.result.written.end c.run_sides-sides.result.read.why
    (g.O.Sink.state c.args.sink) (g.O.Sink.state c.run_sides-sides.result.written.sink) (g.I.Source.state c.args.source) (g.I.Source.state c.run_sides-sides.result.read.source)
    c.requires.opened called c.run_sides-sides.ensures.written c.run_sides-sides.ensures.read is c.close-history.result.items c.close-history.ensures)

pub returns-clause-sent : goal.returns-clause-sent
returns-clause-sent g c =
    let called = subst (λ (z : List Asking). HaveCalled c.args.prepared.shared.cell 1 z c.run_sides-sides.result.called.items) c.give_calls-jobs.ensures.asked c.run_sides-sides.ensures.called in
    let is = c.push_reserved-2.ensures.items
    ∙ ap (λ (z : List Sitting). z ++ c.run_sides-sides.result.read.seat ∷ []) (c.push_reserved.ensures.items ∙ ap (λ (z : List Sitting). z ++ c.run_sides-sides.result.written.seat ∷ []) c.take_apart-seats.ensures.seats) in
    has_sent c.args.prepared.shared.cell c.args.prepared.root c.args.prepared.seats.items c.args.prepared.writer c.run_sides-sides.result.written.seat c.args.prepared.reader c.run_sides-sides.result.read.seat
    c.args.calls.items c.run_sides-sides.result.called.items c.push_reserved-2.new.self.items c.run_sides-sides.result.written.end c.run_sides-sides.result.read.why
    (g.O.Sink.state c.args.sink) (g.O.Sink.state c.run_sides-sides.result.written.sink) (g.I.Source.state c.args.source) (g.I.Source.state c.run_sides-sides.result.read.source)
    c.requires.opened called c.run_sides-sides.ensures.written c.run_sides-sides.ensures.read is c.close-history.result.items c.close-history.ensures

pub returns-clause-heard : goal.returns-clause-heard
returns-clause-heard g c =
    let called = subst (λ (z : List Asking). HaveCalled c.args.prepared.shared.cell 1 z c.run_sides-sides.result.called.items) c.give_calls-jobs.ensures.asked c.run_sides-sides.ensures.called in
    let is = c.push_reserved-2.ensures.items
    ∙ ap (λ (z : List Sitting). z ++ c.run_sides-sides.result.read.seat ∷ []) (c.push_reserved.ensures.items ∙ ap (λ (z : List Sitting). z ++ c.run_sides-sides.result.written.seat ∷ []) c.take_apart-seats.ensures.seats) in
    has_heard c.args.prepared.shared.cell c.args.prepared.root c.args.prepared.seats.items c.args.prepared.writer c.run_sides-sides.result.written.seat c.args.prepared.reader c.run_sides-sides.result.read.seat
    c.args.calls.items c.run_sides-sides.result.called.items c.push_reserved-2.new.self.items c.run_sides-sides.result.written.end c.run_sides-sides.result.read.why
    (g.O.Sink.state c.args.sink) (g.O.Sink.state c.run_sides-sides.result.written.sink) (g.I.Source.state c.args.source) (g.I.Source.state c.run_sides-sides.result.read.source)
    c.requires.opened called c.run_sides-sides.ensures.written c.run_sides-sides.ensures.read is c.close-history.result.items c.close-history.ensures

pub returns-clause-own : goal.returns-clause-own
returns-clause-own g c =
    let called = subst (λ (z : List Asking). HaveCalled c.args.prepared.shared.cell 1 z c.run_sides-sides.result.called.items) c.give_calls-jobs.ensures.asked c.run_sides-sides.ensures.called in
    let is = c.push_reserved-2.ensures.items
    ∙ ap (λ (z : List Sitting). z ++ c.run_sides-sides.result.read.seat ∷ []) (c.push_reserved.ensures.items ∙ ap (λ (z : List Sitting). z ++ c.run_sides-sides.result.written.seat ∷ []) c.take_apart-seats.ensures.seats) in
    subst (λ (z : List CallEnd). AreOwn c.close-history.result.items 1 z) (sym (c.from_vec.ensures ∙ c.take_apart-seats.ensures.ends))
    (has_own c.args.prepared.shared.cell c.args.prepared.root c.args.prepared.seats.items c.args.prepared.writer c.run_sides-sides.result.written.seat c.args.prepared.reader c.run_sides-sides.result.read.seat
    c.args.calls.items c.run_sides-sides.result.called.items c.push_reserved-2.new.self.items c.run_sides-sides.result.written.end c.run_sides-sides.result.read.why
    (g.O.Sink.state c.args.sink) (g.O.Sink.state c.run_sides-sides.result.written.sink) (g.I.Source.state c.args.source) (g.I.Source.state c.run_sides-sides.result.read.source)
    c.requires.opened called c.run_sides-sides.ensures.written c.run_sides-sides.ensures.read is c.close-history.result.items c.close-history.ensures)
