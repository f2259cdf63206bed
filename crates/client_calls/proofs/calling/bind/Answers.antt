use Rattle.std.proofs.Common.{ℕ, List, Err, subst}
use Rattle.std.proofs.lemmas.Result.{err_from_is_err_and}
use Rattle.text_streams.specs.Streams.{WroteText}
use Rattle.client_stub.specs.Asking.{asked_of}
use Rattle.client_calls.specs.Steps.{Sends}
use Rattle.client_calls.proofs.WholeCalls.{calls_none, bind_unsent, bind_waits}
use Rattle.client_calls.proofs.calling.bind.Goals as goal

pub returns-in_err-request : goal.returns-in_err-request
returns-in_err-request g c =
    let p = err_from_is_err_and c.from_residual.result c.from_residual.ensures.1 in
    rw (p.1, p.2) (calls_none (asked_of c.args.asked.now) (g.I.Source.state c.args.source.now) (g.O.Sink.state c.args.sink.now) c.requires.short)

pub returns-in_err-send : goal.returns-in_err-send
returns-in_err-send g c =
    let p = err_from_is_err_and c.from_residual-in_err-send.result c.from_residual-in_err-send.ensures.1 in
    let o = g.O.Sink.state c.args.sink.now in
    let o' = g.O.Sink.state c.send.new.sink in
    let sends = subst (λ (bytes : List ℕ). Sends (Err c.in_err-send.field-0.0) bytes o o') c.in_ok-request.ensures c.in_err-send.ensures in
    rw (p.1, p.2) (bind_unsent c.in_err-send.field-0.0 (asked_of c.args.asked.now) c.args.band (g.I.Source.state c.args.source.now) o o' c.requires.band sends)

pub returns : goal.returns
returns g c =
    let o = g.O.Sink.state c.args.sink.now in
    let o' = g.O.Sink.state c.send.new.sink in
    let wrote = subst (λ (bytes : List ℕ). WroteText bytes o o') c.in_ok-request.ensures c.in_ok-send.ensures.0 in
    bind_waits c.await_reply.result (asked_of c.args.asked.now) c.args.band c.args.line.now c.await_reply.new.line (g.I.Source.state c.args.source.now)
    (g.I.Source.state c.await_reply.new.source) o o' c.requires.new c.requires.band wrote c.in_ok-send.ensures.1 c.await_reply.ensures
