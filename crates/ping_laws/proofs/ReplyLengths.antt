-- How long the replies without contexts are.
use Rattle.std.proofs.Common.{◌≡◌, ℕ, ◌+◌, ◌≤◌, List, [], ◌∷◌, length, length-append, arith}
use Rattle.orb_base.specs.declared.limits.TheConstants.{MAX_BODY, MAX_MESSAGE}
use Rattle.orb_base.specs.declared.order.Order.{Order}
use Rattle.cdr_core.specs.Field.{number_bytes}
use Rattle.std.specs.Int.{w32}
use Rattle.cdr_core.specs.Spelling.{fields_bytes}
use Rattle.cdr_core.proofs.CallerLemmas.{fields_end-is, length-number_bytes}
use Rattle.giop_messages.specs.Message.{reply}
use Rattle.giop_messages.specs.Spelling.{framed, spelled, all_fields}
use Rattle.item_writer.specs.ItemBytes.{bare}

framed_len : (order : Order) (kind : ℕ) (inner : List ℕ) → length (framed order kind inner) ≡ 12 + length inner
framed_len order kind inner =
    omega (arith, length-append (number_bytes order w32 (length inner)) inner, length-number_bytes order w32 (length inner))

pub reply_short : (order : Order) (id status : ℕ) (body : List ℕ) → length body ≤ MAX_BODY → length (spelled order (reply (bare id status body))) ≤ MAX_MESSAGE
reply_short order id status [] short =
    let fields = all_fields (reply (bare id status [])) in
    omega (arith, framed_len order 1 (fields_bytes order 12 fields), fields_end-is order 12 fields)
reply_short order id status (x ∷ xs) short =
    let fields = all_fields (reply (bare id status (x ∷ xs))) in
    omega (arith, framed_len order 1 (fields_bytes order 12 fields), fields_end-is order 12 fields)
