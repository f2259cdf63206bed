-- Words that are read as a call with its reply are its words.
use Rattle.std.proofs.Common.{◌≡◌, ℕ, ◌<◌, ◌^◌, suc, zero, List, [], ◌∷◌, ◌++◌, Option, Some, None, refl, sym, ap, subst, ◌∙◌, inl, inr, arith}
use Rattle.std.specs.Prelude.{codes, option_map}
use Rattle.std.specs.Fmt.{decimal}
use Rattle.std.specs.List.{join_with_byte}
use Rattle.std.specs.Str.{bytes_eq}
use Rattle.std.proofs.lemmas.Option.{none-some}
use Rattle.std.proofs.lemmas.Slice.Eq.{bytes_eq-Decides}
use Rattle.orb_base.specs.declared.conn_id.ConnId.{ConnId}
use Rattle.orb_base.specs.declared.due.Due.{Due}
use Rattle.lane_machine.specs.declared.call.How.{How}
use Rattle.trace_lines.specs.Texts.{conn_text, due_number, post_reply_text, cancel_reply_text, task_text, how_text}
use Rattle.trace_lines.specs.declared.trace_line.OfferedRequest.{OfferedRequest}
use Rattle.trace_lines.specs.declared.trace_line.OfferReply.{OfferReply}
use Rattle.trace_lines.specs.declared.trace_line.PostReply.{PostReply}
use Rattle.trace_lines.specs.declared.trace_line.CancelReply.{CancelReply}
use Rattle.trace_lines.specs.declared.trace_line.CollectReply.{CollectReply}
use Rattle.trace_lines.specs.declared.trace_line.Action.{Action}
use Rattle.trace_lines.specs.declared.trace_line.Action.TheVariants as action
use Rattle.trace_reading.specs.declared.actions.Demand.{Demand}
use Rattle.trace_reading.specs.Words.{number_in, parts_in}
use Rattle.trace_reading.specs.Choices.{choice}
use Rattle.trace_reading.specs.ActionReading.{small_in, long_in, conn_from, conn_of, conn_in, due_by, due_in, demand_from, demand_in, request_from, request_in, offer_words, thread_words, offer_reply_in, post_words, cancel_words, task_in, last_words, handed_words, collect_reply_in, how_words, offer_from, post_from, cancel_from, take_from, finish_from, collect_from, end_from, offer_in, post_in, cancel_in, take_in, finish_in, collect_in, end_in, leave_in, verbs, read_by, action_in}
use Rattle.trace_reading.specs.RowWords.{request_words, offer_reply_words, collect_reply_words, action_words, FitsConn, FitsRequest, FitsOfferReply, FitsTask, FitsCollectReply, FitsAction}
use Rattle.trace_reading.proofs.Numerals.{number_was}
use Rattle.trace_reading.proofs.Joins.{parts_was}
use Rattle.trace_reading.proofs.Choices.{ap1, ap2, ap3, ap4, apf, then_parts, choice_was, chosen}
use Rattle.trace_reading.proofs.ActionsBack.{conn_joined}

pub small_was : (n : ℕ) (w : List ℕ) → small_in w ≡ Some n → (w ≡ decimal n) × (n < 2 ^ 8)
small_was n w e = number_was 256 n w (omega arith) e

pub long_was : (n : ℕ) (w : List ℕ) → long_in w ≡ Some n → (w ≡ decimal n) × (n < 2 ^ 32)
long_was n w e = number_was 4294967296 n w (omega arith) e

conn_of_was : (ws : List (List ℕ)) (c : ConnId) → conn_of ws ≡ Some c → (ws ≡ decimal c.slot ∷ decimal c.nth ∷ []) × FitsConn c
conn_of_was (slot ∷ nth ∷ []) c e =
    let h = ap2 conn_from (small_in slot) (small_in nth) c e in
    let m = small_was h.0 slot h.2 in let n = small_was h.1 nth h.3 in
    subst (λ (z : ConnId). (slot ∷ nth ∷ [] ≡ decimal z.slot ∷ decimal z.nth ∷ []) × FitsConn z) h.4 ((λ i. m.0 i ∷ n.0 i ∷ []), (m.1, n.1))
conn_of_was _ c e = absurd (none-some c e)

conn_was : (w : List ℕ) (c : ConnId) → conn_in w ≡ Some c → (w ≡ conn_text c) × FitsConn c
conn_was w c e =
    let h = then_parts conn_of (parts_in 46 w) c e in
    let k = conn_of_was h.0 c h.2 in
    (parts_was 46 w h.0 h.1 ∙ ap (join_with_byte 46) k.0 ∙ conn_joined c, k.1)

due_number_by : (n : ℕ) → n < 3 → due_number (due_by n) ≡ n
due_number_by zero l = refl
due_number_by (suc zero) l = refl
due_number_by (suc (suc zero)) l = refl
due_number_by (suc (suc (suc n))) l = absurd (omega arith)

due_was : (w : List ℕ) (d : Due) → due_in w ≡ Some d → w ≡ decimal (due_number d)
due_was w d e =
    let h = ap1 due_by (number_in 3 w) d e in
    let n = number_was 3 h.0 w (omega arith) h.1 in
    n.0 ∙ ap decimal (sym (due_number_by h.0 n.1) ∙ ap due_number h.2)

-- a request, by its seven words
abbrev WasRequest : List (List ℕ) → OfferedRequest → Type 0
WasRequest ws r = (ws ≡ request_words r) × FitsRequest r

request_was : (conn serial id due priority lane size : List ℕ) (r : OfferedRequest) → request_in conn serial id (demand_in due priority lane size) ≡ Some r
    → WasRequest (conn ∷ serial ∷ id ∷ due ∷ priority ∷ lane ∷ size ∷ []) r
request_was conn serial id due priority lane size r e =
    let q = ap4 request_from (conn_in conn) (long_in serial) (long_in id) (demand_in due priority lane size) r e in
    let d = ap4 demand_from (due_in due) (number_in 32768 priority) (small_in lane) (long_in size) q.3 q.7 in
    let a = conn_was conn q.0 q.4 in let b = long_was q.1 serial q.5 in let c = long_was q.2 id q.6 in
    let x = due_was due d.0 d.4 in let y = number_was 32768 d.1 priority (omega arith) d.5 in
    let z = small_was d.2 lane d.6 in let w = long_was d.3 size d.7 in
    subst (WasRequest (conn ∷ serial ∷ id ∷ due ∷ priority ∷ lane ∷ size ∷ [])) q.8
    (subst (λ (v : Demand). WasRequest (conn ∷ serial ∷ id ∷ due ∷ priority ∷ lane ∷ size ∷ []) (request_from q.0 q.1 q.2 v)) d.8
    ((λ i. a.0 i ∷ b.0 i ∷ c.0 i ∷ x i ∷ y.0 i ∷ z.0 i ∷ w.0 i ∷ []), (a.1, b.1, c.1, y.1, z.1, w.1)))

abbrev WasOfferReply : List (List ℕ) → OfferReply → Type 0
WasOfferReply ws r = (ws ≡ offer_reply_words r) × FitsOfferReply r

offer_reply_was : (ws : List (List ℕ)) (r : OfferReply) → offer_reply_in ws ≡ Some r → WasOfferReply ws r
offer_reply_was (w ∷ []) r e = choice_was (λ v x. WasOfferReply (v ∷ []) x) offer_words ((refl, tt), ((refl, tt), ((refl, tt), tt))) w r e
offer_reply_was (w ∷ t ∷ []) r e =
    let h = apf (choice thread_words w) (small_in t) r e in
    let n = small_was h.1 t h.3 in
    let P : List ℕ → (ℕ → OfferReply) → Type 0 = λ v f. WasOfferReply (v ∷ t ∷ []) (f h.1) in
    subst (WasOfferReply (w ∷ t ∷ [])) h.4
    (choice_was P thread_words (((λ i. codes "run" ∷ n.0 i ∷ []), n.1), (((λ i. codes "lent" ∷ n.0 i ∷ []), n.1), tt)) w h.0 h.2)
offer_reply_was _ r e = absurd (none-some r e)

abbrev WasCollectReply : List (List ℕ) → CollectReply → Type 0
WasCollectReply ws r = (ws ≡ collect_reply_words r) × FitsCollectReply r

collect_reply_was : (ws : List (List ℕ)) (r : CollectReply) → collect_reply_in ws ≡ Some r → WasCollectReply ws r
collect_reply_was (w ∷ []) r e = choice_was (λ v x. WasCollectReply (v ∷ []) x) last_words ((refl, tt), ((refl, tt), ((refl, tt), tt))) w r e
collect_reply_was (w ∷ t ∷ []) r e =
    let h = apf (choice handed_words w) (long_in t) r e in
    let n = long_was h.1 t h.3 in
    let P : List ℕ → (ℕ → CollectReply) → Type 0 = λ v f. WasCollectReply (v ∷ t ∷ []) (f h.1) in
    subst (WasCollectReply (w ∷ t ∷ [])) h.4
    (choice_was P handed_words (
      ((λ i. codes "answered" ∷ n.0 i ∷ []), n.1),
      (
        ((λ i. codes "early" ∷ n.0 i ∷ []), n.1),
        (((λ i. codes "transient" ∷ n.0 i ∷ []), n.1), (((λ i. codes "posted" ∷ n.0 i ∷ []), n.1), tt)),
      ),
    ) w h.0 h.2)
collect_reply_was _ r e = absurd (none-some r e)

post_reply_was : (w : List ℕ) (r : PostReply) → choice post_words w ≡ Some r → w ≡ post_reply_text r
post_reply_was w r e = choice_was (λ v x. v ≡ post_reply_text x) post_words (refl, (refl, tt)) w r e

cancel_reply_was : (w : List ℕ) (r : CancelReply) → choice cancel_words w ≡ Some r → w ≡ cancel_reply_text r
cancel_reply_was w r e = choice_was (λ v x. v ≡ cancel_reply_text x) cancel_words (refl, (refl, (refl, tt))) w r e

how_was : (w : List ℕ) (h : How) → choice how_words w ≡ Some h → w ≡ how_text h
how_was w h e = choice_was (λ v x. v ≡ how_text x) how_words (refl, (refl, (refl, tt))) w h e

task_was : (w : List ℕ) (task : Option ℕ) → task_in w ≡ Some task → (w ≡ task_text task) × FitsTask task
task_was w task e = elim (chosen (bytes_eq w (codes "ended")) None (option_map (λ (k : ℕ). Some k) (long_in w)) task e) [
  | inl h ↦ subst (λ (z : Option ℕ). (w ≡ task_text z) × FitsTask z) h.1 ((bytes_eq-Decides w (codes "ended")).0 h.0, tt)
  | inr h ↦ let k = ap1 (λ (k : ℕ). Some k) (long_in w) task h in
      let n = long_was k.0 w k.1 in
      subst (λ (z : Option ℕ). (w ≡ task_text z) × FitsTask z) k.2 n
]

-- the words after a verb are a call's
abbrev Was : List ℕ → (List (List ℕ) → Option Action) → Type 0
Was verb read = (ws : List (List ℕ)) (a : Action) → read ws ≡ Some a → (verb ∷ ws ≡ action_words a) × FitsAction a

abbrev Words : List (List ℕ) → Action → Type 0
Words ws a = (ws ≡ action_words a) × FitsAction a

offer_was : Was (codes "offer") offer_in
offer_was (conn ∷ serial ∷ id ∷ due ∷ priority ∷ lane ∷ size ∷ reply) a e =
    let h = ap2 offer_from (request_in conn serial id (demand_in due priority lane size)) (offer_reply_in reply) a e in
    let q = request_was conn serial id due priority lane size h.0 h.2 in
    let r = offer_reply_was reply h.1 h.3 in
    subst (Words (codes "offer" ∷ conn ∷ serial ∷ id ∷ due ∷ priority ∷ lane ∷ size ∷ reply)) h.4 ((λ i. codes "offer" ∷ (q.0 i ++ r.0 i)), (q.1, r.1))
offer_was _ a e = absurd (none-some a e)

post_was : Was (codes "post") post_in
post_was (conn ∷ id ∷ reply ∷ []) a e =
    let h = ap3 post_from (conn_in conn) (long_in id) (choice post_words reply) a e in
    let c = conn_was conn h.0 h.3 in let n = long_was h.1 id h.4 in let r = post_reply_was reply h.2 h.5 in
    subst (Words (codes "post" ∷ conn ∷ id ∷ reply ∷ [])) h.6 ((λ i. codes "post" ∷ c.0 i ∷ n.0 i ∷ r i ∷ []), (c.1, n.1))
post_was _ a e = absurd (none-some a e)

cancel_was : Was (codes "cancel") cancel_in
cancel_was (conn ∷ id ∷ reply ∷ []) a e =
    let h = ap3 cancel_from (conn_in conn) (long_in id) (choice cancel_words reply) a e in
    let c = conn_was conn h.0 h.3 in let n = long_was h.1 id h.4 in let r = cancel_reply_was reply h.2 h.5 in
    subst (Words (codes "cancel" ∷ conn ∷ id ∷ reply ∷ [])) h.6 ((λ i. codes "cancel" ∷ c.0 i ∷ n.0 i ∷ r i ∷ []), (c.1, n.1))
cancel_was _ a e = absurd (none-some a e)

take_was : Was (codes "take") take_in
take_was (thread ∷ task ∷ []) a e =
    let h = ap2 take_from (small_in thread) (task_in task) a e in
    let n = small_was h.0 thread h.2 in let m = task_was task h.1 h.3 in
    subst (Words (codes "take" ∷ thread ∷ task ∷ [])) h.4 ((λ i. codes "take" ∷ n.0 i ∷ m.0 i ∷ []), (n.1, m.1))
take_was _ a e = absurd (none-some a e)

finish_was : Was (codes "finish") finish_in
finish_was (thread ∷ request ∷ len ∷ []) a e =
    let h = ap3 finish_from (small_in thread) (long_in request) (long_in len) a e in
    let n = small_was h.0 thread h.3 in let k = long_was h.1 request h.4 in let l = long_was h.2 len h.5 in
    subst (Words (codes "finish" ∷ thread ∷ request ∷ len ∷ [])) h.6 ((λ i. codes "finish" ∷ n.0 i ∷ k.0 i ∷ l.0 i ∷ []), (n.1, k.1, l.1))
finish_was _ a e = absurd (none-some a e)

collect_was : Was (codes "collect") collect_in
collect_was (conn ∷ reply) a e =
    let h = ap2 collect_from (conn_in conn) (collect_reply_in reply) a e in
    let c = conn_was conn h.0 h.2 in let r = collect_reply_was reply h.1 h.3 in
    subst (Words (codes "collect" ∷ conn ∷ reply)) h.4 ((λ i. codes "collect" ∷ c.0 i ∷ r.0 i), (c.1, r.1))
collect_was [] a e = absurd (none-some a e)

end_was : Was (codes "end") end_in
end_was (conn ∷ how ∷ []) a e =
    let h = ap2 end_from (conn_in conn) (choice how_words how) a e in
    let c = conn_was conn h.0 h.2 in let w = how_was how h.1 h.3 in
    subst (Words (codes "end" ∷ conn ∷ how ∷ [])) h.4 ((λ i. codes "end" ∷ c.0 i ∷ w i ∷ []), c.1)
end_was _ a e = absurd (none-some a e)

leave_was : Was (codes "leave") leave_in
leave_was (slot ∷ []) a e =
    let h = ap1 action.Leave (small_in slot) a e in
    let n = small_was h.0 slot h.1 in
    subst (Words (codes "leave" ∷ slot ∷ [])) h.2 ((λ i. codes "leave" ∷ n.0 i ∷ []), n.1)
leave_was _ a e = absurd (none-some a e)

read_parts : (o : Option (List (List ℕ) → Option Action)) (ws : List (List ℕ)) (a : Action) → read_by o ws ≡ Some a
    → (read : List (List ℕ) → Option Action) × (o ≡ Some read) × (read ws ≡ Some a)
read_parts (Some read) ws a e = (read, refl, e)
read_parts None ws a e = absurd (none-some a e)

pub action_was : (verb : List ℕ) (ws : List (List ℕ)) (a : Action) → action_in verb ws ≡ Some a → (verb ∷ ws ≡ action_words a) × FitsAction a
action_was verb ws a e =
    let h = read_parts (choice verbs verb) ws a e in
    choice_was Was verbs (offer_was, (post_was, (cancel_was, (take_was, (finish_was, (collect_was, (end_was, (leave_was, tt)))))))) verb h.0 h.1 ws a h.2
