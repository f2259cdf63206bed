use Rattle.std.proofs.Common.{◌≡◌, List, map, ap}
use Rattle.cdr_values.specs.Values.{values_view}
use Rattle.idl_types.specs.Views.{param_of}
use Rattle.idl_types.specs.declared.param.Param.{Param}
use Rattle.value_json.specs.Operations.{kinds_in}
use Rattle.client_stub.specs.Asking.{asked_of}
use Rattle.client_stub.proofs.Sendings.{body_made}
use Rattle.client_stub.proofs.requests.body.Goals as goal

pub returns : goal.returns
returns c =
    let bytes = c.finish.ensures in
    let view = c.writer.view_is in
    let same : c.finish.result.items ≡ c.put_arguments.new.into.bytes = cc in
    body_made (asked_of c.args.asked.now) c.as_slice.result.now c.as_slice-2.result.now c.new-writer.result c.put_arguments.new.into c.finish.result.items
    (ap (λ (ps : List Param). kinds_in (map param_of ps)) c.as_slice.ensures) (ap values_view c.as_slice-2.ensures) c.new-writer.ensures c.in_ok-put_arguments.ensures same
