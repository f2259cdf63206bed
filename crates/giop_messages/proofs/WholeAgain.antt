-- Whole messages that the bytes mean are read.
use Rattle.std.proofs.Common.{◌≡◌, ℕ, ◌+◌, ◌^◌, ◌<◌, ◌≤◌, ◌%◌, false, ltb, List, [], ◌∷◌, ◌++◌, length, drop, Result, Ok, refl, sym, ap, subst, ◌∙◌, arith}
use Rattle.std.specs.Int.{w8, w32}
use Rattle.std.proofs.lemmas.Bool.{le-ltb}
use Rattle.orb_base.specs.declared.order.Order.{Order}
use Rattle.cdr_core.specs.Field.{Field, number, run, string_fields}
use Rattle.cdr_core.specs.Spelling.{IsSpelled}
use Rattle.cdr_core.specs.Cursor.{Cursor, cursor, AreBytes}
use Rattle.cdr_core.specs.Passing.{Spans}
use Rattle.cdr_core.specs.Reading.{number_at}
use Rattle.cdr_core.proofs.CallerLemmas.{spans_split, number_reads, octet_len, long_len}
use Rattle.giop_frames.specs.Messages as Frames
use Rattle.giop_messages.specs.declared.message_fault.MessageFault.{MessageFault}
use Rattle.giop_messages.specs.declared.message.Message as program
use Rattle.giop_messages.specs.Message.{Request, Reply, Locate, Located, Message, request, reply, cancel, locate, located, close, error, kind_of, Fits, FitsRequest, FitsReply, FitsLocate, FitsLocated}
use Rattle.giop_messages.specs.Layout.{target_fields, contexts_fields, named_fields}
use Rattle.giop_messages.specs.Reading.{HasBody, ReadsIn, Reads}
use Rattle.giop_messages.specs.Views.{message_of}
use Rattle.giop_messages.specs.MessageReading.{IsMessage, basic, body_from, status_at, asked_at, request_at, reply_at, cancel_at, locate_at, located_at, as_message, kind_at, message_at}
use Rattle.giop_messages.specs.Answers.{Answers}
use Rattle.giop_messages.proofs.MessageFound.{done}
use Rattle.giop_messages.proofs.Headed.{IsHeaded, headed}
use Rattle.giop_messages.proofs.WholeFound.{behind_header, rest_is}
use Rattle.giop_messages.proofs.OneReading.{heads, behind_heads, flag_order}
use Rattle.giop_messages.proofs.PartsAgain.{contexts_again, text_again, target_again, reserved_again}

long_again : (c d : Cursor) (n : ℕ) → n < 2 ^ 32 → Spans c d (number w32 n ∷ []) → basic (number_at w32 c) ≡ Ok (n, d)
long_again c d n f p = ap basic (number_reads w32 c d n long_len f p)

pub status_again : (c d : Cursor) (n : ℕ) → n ≤ 5 → Spans c d (number w32 n ∷ []) → status_at c ≡ Ok (n, d)
unfolding status_at
status_again c d n f p =
    let few : ltb 5 n ≡ false = le-ltb 5 n f in
    rw (long_again c d n (omega (arith, f)) p, few) refl

asked_again : (c d : Cursor) (octets : List ℕ) (r : Request) → length octets ≡ 3 → FitsRequest r
    → Spans c d (number w32 r.id ∷ number w8 r.flags ∷ run 1 octets ∷ target_fields r.target) → asked_at c ≡ Ok ((r.id, r.flags, r.target), d)
unfolding asked_at
asked_again c d octets r three f p =
    let h = spans_split c d (number w32 r.id ∷ number w8 r.flags ∷ run 1 octets ∷ []) (target_fields r.target) p in
    let k = spans_split c h.middle (number w32 r.id ∷ number w8 r.flags ∷ []) (run 1 octets ∷ []) h.first in
    let l = spans_split c k.middle (number w32 r.id ∷ []) (number w8 r.flags ∷ []) k.first in
    let flags : basic (number_at w8 l.middle) ≡ Ok (r.flags, k.middle) = ap basic (number_reads w8 l.middle k.middle r.flags octet_len f.flags l.others) in
    let three_are = reserved_again k.middle h.middle octets three k.others in
    rw (long_again c l.middle r.id f.id l.first, flags, three_are.1, target_again h.middle d r.target f.target h.others) refl

request_again : (bytes : List ℕ) (c d : Cursor) (octets : List ℕ) (r : Request) → length octets ≡ 3 → FitsRequest r → Spans c d (named_fields octets (request r))
    → r.body ≡ body_from d.place bytes → request_at bytes c ≡ Ok r
unfolding request_at
request_again bytes c d octets r three f p body =
    let first : List Field = number w32 r.id ∷ number w8 r.flags ∷ run 1 octets ∷ target_fields r.target in
    let h = spans_split c d (first ++ string_fields r.operation) (contexts_fields r.contexts) p in
    let k = spans_split c h.middle first (string_fields r.operation) h.first in
    rw (asked_again c k.middle octets r three f k.first, text_again k.middle h.middle r.operation f.operation k.others, contexts_again h.middle d r.contexts f.contexts h.others)
    (ap (λ (b : List ℕ). done {A = Request} (record { id = r.id; flags = r.flags; target = r.target; operation = r.operation; contexts = r.contexts; body = b })) (sym body))

reply_again : (bytes : List ℕ) (c d : Cursor) (r : Reply) → FitsReply r → Spans c d (number w32 r.id ∷ number w32 r.status ∷ contexts_fields r.contexts)
    → r.body ≡ body_from d.place bytes → reply_at bytes c ≡ Ok r
unfolding reply_at
reply_again bytes c d r f p body =
    let h = spans_split c d (number w32 r.id ∷ number w32 r.status ∷ []) (contexts_fields r.contexts) p in
    let k = spans_split c h.middle (number w32 r.id ∷ []) (number w32 r.status ∷ []) h.first in
    rw (long_again c k.middle r.id f.id k.first, status_again k.middle h.middle r.status f.status k.others, contexts_again h.middle d r.contexts f.contexts h.others)
    (ap (λ (b : List ℕ). done {A = Reply} (record { id = r.id; status = r.status; contexts = r.contexts; body = b })) (sym body))

cancel_again : (c d : Cursor) (n : ℕ) → n < 2 ^ 32 → Spans c d (number w32 n ∷ []) → cancel_at c ≡ Ok n
unfolding cancel_at
cancel_again c d n f p = rw (long_again c d n f p) refl

locate_again : (c d : Cursor) (l : Locate) → FitsLocate l → Spans c d (number w32 l.id ∷ target_fields l.target) → locate_at c ≡ Ok l
unfolding locate_at
locate_again c d l f p =
    let h = spans_split c d (number w32 l.id ∷ []) (target_fields l.target) p in
    rw (long_again c h.middle l.id f.id h.first, target_again h.middle d l.target f.target h.others) refl

located_again : (c d : Cursor) (l : Located) → FitsLocated l → Spans c d (number w32 l.id ∷ number w32 l.status ∷ []) → located_at c ≡ Ok l
unfolding located_at
located_again c d l f p =
    let h = spans_split c d (number w32 l.id ∷ []) (number w32 l.status ∷ []) p in
    rw (long_again c h.middle l.id f.id h.first, long_again h.middle d l.status f.status h.others) refl

kind_again : (bytes : List ℕ) (c d : Cursor) (octets : List ℕ) (m : Message) → length octets ≡ 3 → Fits m → Spans c d (named_fields octets m)
    → HasBody m d.place (drop d.place bytes) → kind_at (kind_of m) bytes c ≡ Ok m
unfolding kind_at
kind_again bytes c d octets (request r) three f p body = ap (as_message request) (request_again bytes c d octets r three f p body)
kind_again bytes c d octets (reply r) three f p body = ap (as_message reply) (reply_again bytes c d r f p body)
kind_again bytes c d octets (cancel n) three f p body = ap (as_message cancel) (cancel_again c d n f p)
kind_again bytes c d octets (locate l) three f p body = ap (as_message locate) (locate_again c d l f p)
kind_again bytes c d octets (located l) three f p body = ap (as_message located) (located_again c d l f p)
kind_again bytes c d octets close three f p body = refl
kind_again bytes c d octets error three f p body = refl

pub in_order : (w : Frames.Message) (z : Order) (m : Message) → IsHeaded w → ReadsIn z m w.bytes → message_at w ≡ Ok m
unfolding message_at
in_order w z m i q =
    let behind : List ℕ = q.named ++ q.rest in
    let h = heads w.order z i.flags q.flags w.kind (kind_of m) (length i.behind) (length behind) i.behind behind (sym i.parts ∙ q.parts) in
    let whole : i.behind ≡ behind = behind_heads w.order z (length i.behind) (length behind) i.behind behind h.sized in
    let order : z ≡ w.order = flag_order z w.order (sym q.order_bit ∙ ap (λ (n : ℕ). n % 2) (sym h.flags) ∙ i.order_bit) in
    let c : Cursor = cursor w.order 12 (drop 12 w.bytes) in
    let d : Cursor = cursor w.order (12 + length q.named) q.rest in
    let spelled : IsSpelled w.order 12 (named_fields q.reserved m) q.named = subst (λ (o : Order). IsSpelled o 12 (named_fields q.reserved m) q.named) order q.fields in
    let spans : Spans c d (named_fields q.reserved m) = record { spelling = q.named; parts = behind_header w i ∙ whole; spelled = spelled; order = refl; place = refl } in
    let body : HasBody m d.place (drop d.place w.bytes) = subst (HasBody m d.place) (sym (rest_is w i q.named q.rest whole)) q.body in
    ap (λ (k : ℕ). kind_at k w.bytes c) h.kinds ∙ kind_again w.bytes c d q.reserved m q.three q.fits spans body

pub only_so : (r : Result program.Message MessageFault) (w : Frames.Message) → IsMessage w → AreBytes w.bytes → Answers message_of r (message_at w) → (m : Message) → Reads m w.bytes → Answers message_of r (Ok m)
only_so r w i fits e m p = subst (Answers message_of r) (in_order w p.0 m (headed w i fits) p.1) e
