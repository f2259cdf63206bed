-- How many bytes a ping and its answer take, and that the limits of a run have room for them.
use Rattle.std.proofs.Common.{◌≡◌, ℕ, ◌+◌, ◌<◌, ◌≤◌, Bool, false, List, [], ◌++◌, length, drop, sym, ap, ◌∙◌, subst, inl, inr, arith, length-append}
use Rattle.std.specs.Prelude.{◌||◌, nat_lt, codes}
use Rattle.std.specs.Int.{w16, w32}
use Rattle.std.proofs.lemmas.Bool.{lt-leb, le-ltb}
use Rattle.orb_base.specs.Outcomes.{body_len}
use Rattle.orb_base.specs.declared.limits.TheConstants.{MAX_RUN_CALLS, MAX_RUN_BYTES}
use Rattle.orb_base.specs.declared.order.Order.{Order}
use Rattle.orb_base.specs.declared.outcome.Outcome.{Outcome}
use Rattle.orb_base.specs.declared.outcome.Outcome.TheVariants.{Returned}
use Rattle.cdr_core.specs.Alignment.{pad_len}
use Rattle.cdr_core.specs.Field.{Field, fields_end, number_bytes, string_fields}
use Rattle.cdr_core.proofs.CallerLemmas.{length-spelled, length-number_bytes}
use Rattle.giop_messages.specs.Message.{key, request}
use Rattle.giop_messages.specs.Layout.{target_fields, contexts_fields, named_fields}
use Rattle.giop_messages.specs.Reading.{ReadsIn}
use Rattle.lane_machine.specs.Machine.{is_over}
use Rattle.ping_laws.specs.Ping.{ping_request}
use Rattle.ping_laws.specs.PingRun.{IsAnswered}
use Rattle.ping_laws.specs.Setup.{opened}
use Rattle.adapter_policies.specs.BuiltIn.{built_in}
use Rattle.ping_laws.proofs.PipeRuns.{idle}

-- the named fields of a ping end at its byte 48
fields_stop : (id : ℕ) (reserved : List ℕ) → length reserved ≡ 3 → fields_end 12 (named_fields reserved (request (ping_request id (codes "ping")))) ≡ 48
fields_stop id reserved three =
    let behind : List Field = target_fields (key (codes "ping")) ++ string_fields (codes "current") ++ contexts_fields [] in
    ap (λ (n : ℕ). fields_end (17 + n) behind) three

-- a ping is 48 bytes
pub ping_size : (order : Order) (id : ℕ) (bytes : List ℕ) → ReadsIn order (request (ping_request id (codes "ping"))) bytes → length bytes ≡ 48
ping_size order id bytes reads =
    let stop : 12 + length reads.named ≡ 48 = sym (length-spelled order 12 (named_fields reads.reserved (request (ping_request id (codes "ping")))) reads.named reads.fields) ∙ fields_stop id reads.reserved reads.three in
    let none : [] ≡ reads.rest = subst (λ (place : ℕ). [] ≡ drop (pad_len 8 place) reads.rest) stop reads.body in
    let inner = reads.named ++ reads.rest in
    let joined = length-append reads.named reads.rest in
    let headed = length-append (number_bytes order w32 (length inner)) inner in
    omega (arith, stop, ap length reads.parts, joined, headed, length-number_bytes order w32 (length inner), ap length none)

-- its answer is the priority, or when out of memory
pub answer_size : (order : Order) (answer : Outcome) → IsAnswered answer (Returned (number_bytes order w16 100)) → body_len answer ≤ 2
answer_size order answer (inl is) = subst (λ (o : Outcome). body_len o ≤ 2) (sym is) (omega (arith, length-number_bytes order w16 100))
answer_size order answer (inr (is, other)) = subst (λ (o : Outcome). body_len o ≤ 2) (sym is) (omega arith)

-- after fewer calls than a run may hear, and with the bytes that it may take, no limit is met
pub not_over : (c b size : ℕ) → c < MAX_RUN_CALLS → b + size ≤ MAX_RUN_BYTES → is_over (idle (opened built_in) c b) size ≡ false
not_over c b size calls bytes = ap (λ (x : Bool). x || nat_lt MAX_RUN_BYTES (b + size)) (lt-leb MAX_RUN_CALLS c calls) ∙ le-ltb MAX_RUN_BYTES (b + size) bytes
