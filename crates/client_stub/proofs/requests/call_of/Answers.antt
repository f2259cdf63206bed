use Rattle.std.proofs.Common.{ap, ◌∙◌}
use Rattle.client_stub.specs.Asking.{asked_of}
use Rattle.client_stub.specs.Remotes.{Remote}
use Rattle.client_stub.specs.Requests.{contexts_with, sent}
use Rattle.client_stub.proofs.Sendings.{call_same, call_made}
use Rattle.client_stub.proofs.requests.call_of.Goals as goal

pub returns : goal.returns
returns c =
    let asked = asked_of c.args.asked.now in
    let keyed = c.as_slice.ensures ∙ ap (λ (r : Remote). r.key) c.remote.view_is in
    let carried = c.in_ok-contexts.ensures ∙ ap contexts_with (c.sent.ensures ∙ ap (λ (r : Remote). sent r.model asked.priority) c.remote.view_is) in
    call_made asked c.args.id c.in_ok-body.body.items _ c.request.result c.in_ok-body.ensures
    (call_same asked c.args.id c.flags_of-flags.result c.as_slice.result.now c.in_ok-name.name c.in_ok-contexts.contexts.items c.in_ok-body.body.items c.flags_of-flags.ensures keyed
    c.in_ok-name.ensures carried)
    c.request.ensures
