use Rattle.std.proofs.Common.{◌∙◌, sym}
use Rattle.std.proofs.lemmas.Result.{err_from_is_err_and}
use Rattle.client_stub.specs.Asking.{asked_of}
use Rattle.client_calls.specs.Replies.{seen}
use Rattle.client_calls.proofs.WholeCalls.{calls_none, calls_bound, calls_refused}
use Rattle.client_calls.proofs.calling.exchange_after.Goals as goal

pub returns-in_err-line : goal.returns-in_err-line
returns-in_err-line g c =
    let p = err_from_is_err_and c.from_residual.result c.from_residual.ensures.1 in
    rw (p.1, p.2) (calls_none (asked_of c.args.asked.now) (g.I.Source.state c.args.source.now) (g.O.Sink.state c.args.sink.now) c.requires.short)

pub returns-in_err-answer : goal.returns-in_err-answer
returns-in_err-answer g c =
    let p = err_from_is_err_and c.from_residual-in_err-answer.result c.from_residual-in_err-answer.ensures.1 in
    rw (p.1, p.2) c.in_err-answer.ensures

pub returns-then-is_bound : goal.returns-then-is_bound
returns-then-is_bound g c =
    let bound = c.in_ok-answer.ensures in
    calls_bound (seen c.ask.result) (asked_of c.args.asked.now) c.args.band c.in_ok-answer.answer c.in_ok-line.line c.bind.new.line (g.I.Source.state c.args.source.now)
    (g.I.Source.state c.bind.new.source) (g.I.Source.state c.ask.new.source) (g.O.Sink.state c.args.sink.now) (g.O.Sink.state c.bind.new.sink) (g.O.Sink.state c.ask.new.sink)
    c.in_ok-line.ensures c.requires.band bound.0 (bound.1 c.args.band c.requires.band) bound.2 (sym c.is_bound.ensures ∙ c.if-is_bound.true) c.ask.ensures

pub returns : goal.returns
returns g c =
    let bound = c.in_ok-answer.ensures in
    calls_refused (seen c.meaning_of.result) (asked_of c.args.asked.now) c.args.band c.in_ok-answer.answer c.in_ok-line.line c.bind.new.line (g.I.Source.state c.args.source.now)
    (g.I.Source.state c.bind.new.source) (g.O.Sink.state c.args.sink.now) (g.O.Sink.state c.bind.new.sink) c.in_ok-line.ensures c.requires.band bound.0
    (bound.1 c.args.band c.requires.band) bound.2 (sym c.is_bound.ensures ∙ c.if-is_bound.false) c.meaning_of.ensures
