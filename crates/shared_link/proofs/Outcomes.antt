-- What a seat has seen says the same as the answer.
use Rattle.std.proofs.Common.{◌≡◌, ℕ, [], ◌∷◌, ◌++◌, Option, Some, None, inl, inr, refl, ap, ◌∙◌, subst, eq-eqb}
use Rattle.std.proofs.lemmas.Bool.{cases_Bool}
use Rattle.giop_messages.specs.Message.{Request}
use Rattle.client_mux.specs.declared.heard_reply.HeardReply.{HeardReply}
use Rattle.turn_cell.specs.Seats.{CellView}
use Rattle.turn_cell.specs.Good.{entry}
use Rattle.flat_seats.proofs.Own.{push_own}
use Rattle.client_mux.specs.declared.why.Why.{Why}
use Rattle.client_mux.specs.declared.call.MuxCall.TheVariants.{Start, Await}
use Rattle.client_mux.specs.declared.call.MuxReply.{MuxReply}
use Rattle.client_mux.specs.declared.call.MuxReply.TheVariants as reply
use Rattle.client_mux.specs.declared.call.MuxCall.{MuxCall}
use Rattle.client_mux.specs.Machine.{Mux, One, History}
use Rattle.client_mux.specs.Callers.{starts_as}
use Rattle.client_mux.specs.Exchange.{IsLegal, begun, first_loss, loss_or, reply_after_start}
use Rattle.client_mux.proofs.Either.{or_else}
use Rattle.client_mux.proofs.Losses.{loss_push, gone_is_first}
use Rattle.client_mux.proofs.FirstReply.{own_reply, gone_has_none, after_stays, after_push, after_new}
use Rattle.shared_link.specs.declared.answers.Started.{Started}
use Rattle.shared_link.specs.declared.answers.Started.TheVariants as started
use Rattle.shared_link.specs.declared.answers.Waited.{Waited}
use Rattle.shared_link.specs.declared.answers.Waited.TheVariants as waited
use Rattle.shared_link.specs.Link.{Sitting}
use Rattle.shared_link.specs.Turns.{Makes}
use Rattle.shared_link.specs.Replies.{started_reply, waited_reply, IsBegun, IsOutcome}

-- the entry of the call, after what was seen before it
abbrev before_of : (cell : CellView Mux) (call : MuxCall) (r : MuxReply) (old new : Sitting) → Makes cell call r old new → History
before_of cell call r old new c = old.seen ++ c.3.0

legal_of : (cell : CellView Mux) (call : MuxCall) (r : MuxReply) (old new : Sitting) (c : Makes cell call r old new) → IsLegal cell.terms.opening (before_of cell call r old new c ++ entry old.number call r ∷ [])
legal_of cell call r old new c = subst (IsLegal cell.terms.opening) c.3.1 c.1.0.1

-- who is answered Gone has seen the first loss
gone_seen : (cell : CellView Mux) (call : MuxCall) (why : Why) (old new : Sitting) → Makes cell call (reply.Gone why) old new → first_loss new.seen ≡ Some why
gone_seen cell call why old new c =
    let before = before_of cell call (reply.Gone why) old new c in let e : One = entry old.number call (reply.Gone why) in
    ap first_loss c.3.1 ∙ (loss_push before e
    ∙ ap (λ (z : Option Why). or_else z (loss_or call None)) (gone_is_first cell.terms.opening before [] e why c.1.0.0 (legal_of cell call (reply.Gone why) old new c) refl))

pub start_begins : (cell : CellView Mux) (by : ℕ) (q : Request) (r : Started) (old new : Sitting) → Makes cell (Start by q) (started_reply r) old new → IsBegun new.seen r
start_begins cell by q (started.Id id) old new c =
    ap (begun id) c.3.1 ∙ push_own (λ (y : One). starts_as id y.call y.reply) (before_of cell (Start by q) (reply.Id id) old new c) (entry old.number (Start by q) (reply.Id id)) (eq-eqb id id refl)
start_begins cell by q (started.Gone why) old new c = gone_seen cell (Start by q) why old new c

-- an Await brings no reply
await_none : (id : ℕ) (before : History) (n by k : ℕ) (r : MuxReply) → reply_after_start id before ≡ None → reply_after_start id (before ++ entry n (Await by k) r ∷ []) ≡ None
await_none id before n by k r q = let e : One = entry n (Await by k) r in elim (cases_Bool (begun id before)) [
  | inl t ↦ after_push id before e t ∙ ap (λ (z : Option HeardReply). or_else z None) q
  | inr f ↦ after_new id before e f
]

pub await_gets : (cell : CellView Mux) (by id : ℕ) (r : Waited) (old new : Sitting) → Makes cell (Await by id) (waited_reply r) old new → IsOutcome id new.seen r
await_gets cell by id (waited.Reply v) old new c =
    let before = before_of cell (Await by id) (reply.Reply v) old new c in let e : One = entry old.number (Await by id) (reply.Reply v) in
    ap (reply_after_start id) c.3.1 ∙ after_stays id v before (e ∷ []) (own_reply cell.terms.opening before [] e by id v c.1.0.0 (legal_of cell (Await by id) (reply.Reply v) old new c) refl refl)
await_gets cell by id (waited.Gone why) old new c =
    let before = before_of cell (Await by id) (reply.Gone why) old new c in let e : One = entry old.number (Await by id) (reply.Gone why) in (
      gone_seen cell (Await by id) why old new c,
      ap (reply_after_start id) c.3.1 ∙ await_none id before old.number by id (reply.Gone why)
          (gone_has_none cell.terms.opening before [] e by id why c.1.0.0 (legal_of cell (Await by id) (reply.Gone why) old new c) refl refl),
    )
