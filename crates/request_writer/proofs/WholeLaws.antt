-- Whole messages under an id.
use Rattle.std.proofs.Common.{◌≡◌, ◌≤◌, ◌<◌, ◌^◌, ℕ, [], ◌++◌, length, refl, ap, ◌∙◌, arith}
use Rattle.orb_base.specs.declared.limits.TheConstants.{MAX_MESSAGE}
use Rattle.orb_base.specs.declared.order.Order.TheVariants.{Big}
use Rattle.cdr_core.specs.Field.{fields_end}
use Rattle.cdr_core.specs.Spelling.{fields_bytes}
use Rattle.cdr_core.specs.Writing.{Page, page, written}
use Rattle.cdr_core.proofs.CallerLemmas.{fields_end-is}
use Rattle.giop_messages.specs.Message.{Request, request, cancel}
use Rattle.giop_messages.specs.Spelling.{all_fields, spelled}
use Rattle.giop_messages.proofs.LengthLaws.{length-spelled_message, cancel_len}
use Rattle.request_writer.specs.Naming.{with_id}

-- a request is as long under each id
pub room_within : (id : ℕ) (r : Request) → length (spelled Big (request r)) ≤ MAX_MESSAGE → fields_end 12 (all_fields (request (with_id id r))) < 2 ^ 32
room_within id r short =
    let whole = length-spelled_message Big (request r) in
    let same : fields_end 12 (all_fields (request (with_id id r))) ≡ fields_end 12 (all_fields (request r)) = refl in
    omega arith

pub inner_short : (id : ℕ) (r : Request) → length (spelled Big (request r)) ≤ MAX_MESSAGE → length (fields_bytes Big 12 (all_fields (request (with_id id r)))) ≤ MAX_MESSAGE
inner_short id r short =
    let whole = length-spelled_message Big (request r) in
    let same : fields_end 12 (all_fields (request (with_id id r))) ≡ fields_end 12 (all_fields (request r)) = refl in
    let ends = fields_end-is Big 12 (all_fields (request (with_id id r))) in
    omega arith

-- the fields on an empty page
pub fields_put : (q : Request) (old new : Page) → old ≡ page Big 12 [] → new ≡ written old (all_fields (request q)) → new.bytes ≡ fields_bytes Big 12 (all_fields (request q))
unfolding written
fields_put q old new e puts = ap (λ (p : Page). p.bytes) puts ∙ ap (λ (p : Page). p.bytes ++ fields_bytes p.order p.place (all_fields (request q))) e

pub cancel_short : (id : ℕ) → length (spelled Big (cancel id)) ≤ MAX_MESSAGE
cancel_short id = let len = cancel_len Big id in omega arith
