-- Fields that were put into an empty writer are a body.
use Rattle.std.proofs.Common.{◌≡◌, ℕ, ◌+◌, ◌≤◌, List, [], ◌∷◌, length, length-append, ap, ◌∙◌, arith}
use Rattle.std.specs.Int.{w8, w32}
use Rattle.orb_base.specs.declared.limits.TheConstants.{MAX_BODY}
use Rattle.orb_base.specs.declared.order.Order.{Order}
use Rattle.cdr_core.specs.Field.{Field, number, string_fields, fields_end}
use Rattle.cdr_core.proofs.CallerLemmas.{length-spelled, spelled_zeros}
use Rattle.cdr_core.specs.Writing.{Page, page, written}
use Rattle.name_calls.specs.declared.limits.TheConstants.{BODY_PLACE, MAX_ANSWERED}
use Rattle.name_calls.specs.Bodies.{body}

pub body_written : (order : Order) (start after : Page) (fields : List Field) (items : List ℕ) → start ≡ page order BODY_PLACE [] → after ≡ written start fields → items ≡ after.bytes → items ≡ body order fields
unfolding written
body_written order start after fields items s w i = i ∙ ap (λ (p : Page). p.bytes) (w ∙ ap (λ (p : Page). written p fields) s)

-- ---- how long bodies are

pub length_body : (order : Order) (fields : List Field) → fields_end BODY_PLACE fields ≡ BODY_PLACE + length (body order fields)
length_body order fields = length-spelled order BODY_PLACE fields (body order fields) (spelled_zeros order BODY_PLACE fields)

pub number_short : (order : Order) (n : ℕ) → length (body order (number w32 n ∷ [])) ≤ MAX_BODY
number_short order n = let l = length_body order (number w32 n ∷ []) in omega arith

pub octet_short : (order : Order) (n : ℕ) → length (body order (number w8 n ∷ [])) ≤ MAX_BODY
octet_short order n = let l = length_body order (number w8 n ∷ []) in omega arith

pub text_short : (order : Order) (t : List ℕ) → length t ≤ MAX_ANSWERED → length (body order (string_fields t)) ≤ MAX_BODY
text_short order t le = let l = length_body order (string_fields t) in let a = length-append t (0 ∷ []) in omega arith
