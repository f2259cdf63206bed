use Rattle.std.proofs.Common.{List, map, ap, ◌∙◌}
use Rattle.cdr_values.specs.Values.{values_view}
use Rattle.idl_types.specs.Views.{param_of}
use Rattle.idl_types.specs.declared.param.Param.{Param}
use Rattle.value_json.specs.Operations.{kinds_in}
use Rattle.client_stub.specs.Asking.{asked_of}
use Rattle.client_stub.specs.Remotes.{Remote}
use Rattle.client_stub.specs.Requests.{sent}
use Rattle.client_stub.proofs.Lengths.{requests}
use Rattle.client_stub.proofs.length.request_len.Goals as goal

pub returns : goal.returns
returns c =
    let a = asked_of c.args.asked.now in
    requests a c.as_slice-key.result.now c.as_slice-3.result.now c.sent-priority.result c.as_slice.result.now c.as_slice-2.result.now c.body_len-body.result c.call_len-call.result
    c.bind_len-bind.result c.longer.result c.may_bind.result c.requires.fits (ap (λ (ps : List Param). kinds_in (map param_of ps)) c.as_slice.ensures)
    (ap values_view c.as_slice-2.ensures) (c.as_slice-key.ensures ∙ ap (λ (r : Remote). r.key) c.remote.view_is) c.as_slice-3.ensures.bytes
    (c.sent-priority.ensures ∙ ap (λ (r : Remote). sent r.model a.priority) c.remote.view_is) c.may_bind.ensures c.body_len-body.ensures c.call_len-call.ensures
    c.bind_len-bind.ensures c.longer.ensures
