use Rattle.std.proofs.lemmas.Result.{err_from_is_err_and}
use Rattle.client_stub.specs.Asking.{asked_of}
use Rattle.client_calls.specs.Replies.{seen}
use Rattle.client_calls.proofs.WholeCalls.{calls_none, calls_unbound}
use Rattle.client_calls.proofs.calling.exchange_alone.Goals as goal

pub returns-in_err-line : goal.returns-in_err-line
returns-in_err-line g c =
    let p = err_from_is_err_and c.from_residual.result c.from_residual.ensures.1 in
    rw (p.1, p.2) (calls_none (asked_of c.args.asked.now) (g.I.Source.state c.args.source.now) (g.O.Sink.state c.args.sink.now) c.requires.short)

pub returns : goal.returns
returns g c =
    calls_unbound (seen c.ask.result) (asked_of c.args.asked.now) c.in_ok-line.line (g.I.Source.state c.args.source.now) (g.I.Source.state c.ask.new.source)
    (g.O.Sink.state c.args.sink.now) (g.O.Sink.state c.ask.new.sink) c.in_ok-line.ensures c.requires.none c.ask.ensures
