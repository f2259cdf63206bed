use Rattle.std.proofs.Common.{◌≡◌, ℕ, List, [], ◌∷◌, ap, ◌∙◌, subst}
use Rattle.std.specs.Prelude.{IfOk}
use Rattle.orb_base.specs.declared.order.Order.TheVariants.{Big}
use Rattle.service_contexts.specs.declared.contexts.TheConstants.{RANGE_CONTEXT}
use Rattle.giop_messages.specs.Message.{Message, request}
use Rattle.giop_messages.specs.Spelling.{spelled}
use Rattle.client_stub.specs.Asking.{asked_of}
use Rattle.client_stub.specs.Remotes.{Remote}
use Rattle.client_stub.proofs.Sendings.{bind_same, bind_fits}
use Rattle.client_stub.proofs.requests.bind_request.Goals as goal

pub bytes_of-requires : goal.bytes_of-requires
bytes_of-requires c =
    let asked = asked_of c.args.asked.now in
    let keyed = c.as_slice.ensures ∙ ap (λ (r : Remote). r.key) c.remote.view_is in
    let carried = c.in_ok-contexts.ensures ∙ ap (λ (b : List ℕ). record { id = RANGE_CONTEXT; bytes = b } ∷ []) c.range_context.ensures in
    record {
      short = bind_fits asked c.args.id c.args.band (request c.in_ok-request.request) c.requires.short c.requires.band
          (c.in_ok-request.ensures ∙ bind_same asked c.args.id c.args.band c.as_slice.result.now c.in-Ok.name c.in_ok-contexts.contexts.items c.new-2.result.items keyed c.in-Ok.ensures.0
          carried c.new-2.ensures);
    }

pub returns : goal.returns
returns c =
    let asked = asked_of c.args.asked.now in
    let keyed = c.as_slice.ensures ∙ ap (λ (r : Remote). r.key) c.remote.view_is in
    let carried = c.in_ok-contexts.ensures ∙ ap (λ (b : List ℕ). record { id = RANGE_CONTEXT; bytes = b } ∷ []) c.range_context.ensures in
    subst (λ (m : Message). IfOk c.bytes_of.result (λ bytes. bytes.items ≡ spelled Big m))
    (c.in_ok-request.ensures ∙ bind_same asked c.args.id c.args.band c.as_slice.result.now c.in-Ok.name c.in_ok-contexts.contexts.items c.new-2.result.items keyed c.in-Ok.ensures.0 carried
    c.new-2.ensures)
    c.bytes_of.ensures
