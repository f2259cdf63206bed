use Rattle.std.proofs.Common.{◌≡◌, ℕ, List, Some, sym, ap, ◌∙◌}
use Rattle.std.proofs.lemmas.Result.{err_from_is_err_and}
use Rattle.cdr_values.specs.Values.{values_view}
use Rattle.cdr_values.specs.declared.value.IdlValue.{IdlValue}
use Rattle.client_lines.specs.Awaiting.{call_id}
use Rattle.client_lines.specs.Lines.{binds}
use Rattle.client_stub.specs.Asking.{asked_of}
use Rattle.client_stub.specs.Sending.{call_bytes}
use Rattle.client_calls.specs.Replies.{seen}
use Rattle.client_calls.proofs.AfterLines.{asks_none, asks_unsent, asks_oneway, asks_missed, asks_answered}
use Rattle.client_calls.proofs.calling.ask.Goals as goal

pub returns-in_err-request : goal.returns-in_err-request
returns-in_err-request g c =
    let p = err_from_is_err_and c.from_residual.result c.from_residual.ensures.1 in
    rw (p.1, p.2) (asks_none (asked_of c.args.asked.now) c.args.line.now (g.I.Source.state c.args.source.now) (g.O.Sink.state c.args.sink.now) c.requires.heard c.requires.short)

pub returns-in_err-send : goal.returns-in_err-send
returns-in_err-send g c =
    let p = err_from_is_err_and c.from_residual-in_err-send.result c.from_residual-in_err-send.ensures.1 in
    let asked = asked_of c.args.asked.now in
    let id : call_id (binds c.args.line.now) ≡ c.call_id.result = ap call_id c.requires.same ∙ sym c.call_id.ensures in
    let is : call_bytes (call_id (binds c.args.line.now)) asked ≡ Some c.in_ok-request.request.items = ap (λ (n : ℕ). call_bytes n asked) id ∙ c.in_ok-request.ensures in
    rw (p.1, p.2) (asks_unsent c.in_err-send.field-0.0 asked c.args.line.now (g.I.Source.state c.args.source.now) (g.O.Sink.state c.args.sink.now) (g.O.Sink.state c.send.new.sink)
    c.in_ok-request.request.items c.requires.heard is c.in_err-send.ensures)

pub returns-then-oneway : goal.returns-then-oneway
returns-then-oneway g c =
    let asked = asked_of c.args.asked.now in
    let id : call_id (binds c.args.line.now) ≡ c.call_id.result = ap call_id c.requires.same ∙ sym c.call_id.ensures in
    let is : call_bytes (call_id (binds c.args.line.now)) asked ≡ Some c.in_ok-request.request.items = ap (λ (n : ℕ). call_bytes n asked) id ∙ c.in_ok-request.ensures in
    asks_oneway (values_view c.new.result.items) asked c.args.line.now (g.I.Source.state c.args.source.now) (g.O.Sink.state c.args.sink.now) (g.O.Sink.state c.send.new.sink)
    c.in_ok-request.request.items c.requires.heard is c.in_ok-send.ensures.0 c.in_ok-send.ensures.1 c.if-oneway.true (ap (λ (vs : List IdlValue). values_view vs) c.new.ensures)

pub returns-in_err-answer : goal.returns-in_err-answer
returns-in_err-answer g c =
    let p = err_from_is_err_and c.from_residual-in_err-answer.result c.from_residual-in_err-answer.ensures.1 in
    let asked = asked_of c.args.asked.now in
    let id : call_id (binds c.args.line.now) ≡ c.call_id.result = ap call_id c.requires.same ∙ sym c.call_id.ensures in
    let is : call_bytes (call_id (binds c.args.line.now)) asked ≡ Some c.in_ok-request.request.items = ap (λ (n : ℕ). call_bytes n asked) id ∙ c.in_ok-request.ensures in
    rw (p.1, p.2) (asks_missed c.in_err-answer.field-0.0 asked c.args.line.now c.await_reply.new.line (g.I.Source.state c.args.source.now) (g.I.Source.state c.await_reply.new.source)
    (g.O.Sink.state c.args.sink.now) (g.O.Sink.state c.send.new.sink) c.in_ok-request.request.items is c.in_ok-send.ensures.0 c.in_ok-send.ensures.1 c.if-oneway.false c.in_err-answer.ensures)

pub returns : goal.returns
returns g c =
    let asked = asked_of c.args.asked.now in
    let id : call_id (binds c.args.line.now) ≡ c.call_id.result = ap call_id c.requires.same ∙ sym c.call_id.ensures in
    let is : call_bytes (call_id (binds c.args.line.now)) asked ≡ Some c.in_ok-request.request.items = ap (λ (n : ℕ). call_bytes n asked) id ∙ c.in_ok-request.ensures in
    asks_answered (seen c.meaning_of.result) c.in_ok-answer.answer asked c.args.line.now c.await_reply.new.line (g.I.Source.state c.args.source.now) (g.I.Source.state c.await_reply.new.source)
    (g.O.Sink.state c.args.sink.now) (g.O.Sink.state c.send.new.sink) c.in_ok-request.request.items is c.in_ok-send.ensures.0 c.in_ok-send.ensures.1 c.if-oneway.false c.in_ok-answer.ensures
    c.meaning_of.ensures
