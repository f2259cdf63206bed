-- A call with its reply is read back from its words.
use Rattle.std.proofs.Common.{◌≡◌, ℕ, ◌<◌, ◌^◌, leb, Bool, true, false, ◌&&◌, List, [], ◌∷◌, ◌++◌, length, Option, Some, None, refl, sym, ap, ◌∙◌, arith, append_assoc, ne_eqb}
use Rattle.std.specs.Prelude.{if◌then◌else◌, codes, option_map}
use Rattle.std.specs.Char.{is_ascii_digit}
use Rattle.std.specs.Fmt.{decimal}
use Rattle.std.specs.List.{list_all, join_with_byte}
use Rattle.std.specs.Option.{option_and_then}
use Rattle.std.specs.Str.{bytes_eq}
use Rattle.std.proofs.lemmas.Bool.{and_parts, leb-true}
use Rattle.std.proofs.lemmas.Fmt.{decimal_nonempty}
use Rattle.orb_base.specs.declared.conn_id.ConnId.{ConnId}
use Rattle.orb_base.specs.declared.due.Due.{Due}
use Rattle.orb_base.specs.declared.due.Due.TheVariants as due
use Rattle.lane_machine.specs.declared.call.How.{How}
use Rattle.lane_machine.specs.declared.call.How.TheVariants as how
use Rattle.trace_lines.specs.Texts.{conn_text, due_number, post_reply_text, cancel_reply_text, task_text, how_text}
use Rattle.trace_lines.specs.declared.trace_line.OfferedRequest.{OfferedRequest}
use Rattle.trace_lines.specs.declared.trace_line.OfferReply.{OfferReply}
use Rattle.trace_lines.specs.declared.trace_line.OfferReply.TheVariants as offer_reply
use Rattle.trace_lines.specs.declared.trace_line.PostReply.{PostReply}
use Rattle.trace_lines.specs.declared.trace_line.PostReply.TheVariants as post_reply
use Rattle.trace_lines.specs.declared.trace_line.CancelReply.{CancelReply}
use Rattle.trace_lines.specs.declared.trace_line.CancelReply.TheVariants as cancel_reply
use Rattle.trace_lines.specs.declared.trace_line.CollectReply.{CollectReply}
use Rattle.trace_lines.specs.declared.trace_line.CollectReply.TheVariants as collect_reply
use Rattle.trace_lines.specs.declared.trace_line.Action.{Action}
use Rattle.trace_lines.specs.declared.trace_line.Action.TheVariants as action
use Rattle.trace_reading.specs.Words.{parts_in}
use Rattle.trace_reading.specs.Choices.{option_ap, choice}
use Rattle.trace_reading.specs.ActionReading.{small_in, long_in, conn_from, conn_of, conn_in, due_by, due_in, demand_from, demand_in, request_from, request_in, offer_reply_in, post_words, cancel_words, task_in, collect_reply_in, how_words, offer_from, post_from, cancel_from, take_from, finish_from, collect_from, end_from, offer_in, action_in}
use Rattle.trace_reading.specs.RowWords.{request_words, offer_reply_words, collect_reply_words, action_words, FitsConn, FitsRequest, FitsOfferReply, FitsTask, FitsCollectReply, FitsAction}
use Rattle.trace_reading.proofs.Numerals.{number_back, decimal_digits}
use Rattle.trace_reading.proofs.Joins.{parts_back, decimal_above}

pub small_back : (n : ℕ) → n < 2 ^ 8 → small_in (decimal n) ≡ Some n
small_back n l = number_back 256 n (omega arith) l

pub long_back : (n : ℕ) → n < 2 ^ 32 → long_in (decimal n) ≡ Some n
long_back n l = number_back 4294967296 n (omega arith) l

-- a connection's text is its numbers with a full stop between them
pub conn_joined : (c : ConnId) → join_with_byte 46 (decimal c.slot ∷ decimal c.nth ∷ []) ≡ conn_text c
conn_joined c = sym (append_assoc (decimal c.slot) (46 ∷ []) (decimal c.nth))

conn_back : (c : ConnId) → FitsConn c → conn_in (conn_text c) ≡ Some c
conn_back c f =
    ap (λ (w : List ℕ). option_and_then conn_of (parts_in 46 w)) (sym (conn_joined c))
    ∙ ap (option_and_then conn_of) (parts_back 46 (decimal c.slot) (decimal c.nth ∷ [])
    (decimal_above 46 c.slot (omega arith) (omega (arith, f.0)), (decimal_above 46 c.nth (omega arith) (omega (arith, f.1)), tt)) (omega arith))
    ∙ (λ i. option_ap (option_map conn_from (small_back c.slot f.0 i)) (small_back c.nth f.1 i))

due_back : (d : Due) → due_in (decimal (due_number d)) ≡ Some d
due_back due.Nothing = ap (option_map due_by) (number_back 3 0 (omega arith) (omega arith))
due_back due.Early = ap (option_map due_by) (number_back 3 1 (omega arith) (omega arith))
due_back due.Late = ap (option_map due_by) (number_back 3 2 (omega arith) (omega arith))

request_back : (r : OfferedRequest) → FitsRequest r
    → request_in (conn_text r.conn) (decimal r.serial) (decimal r.id) (demand_in (decimal (due_number r.due)) (decimal r.priority) (decimal r.lane) (decimal r.size)) ≡ Some r
request_back r f =
    let demand : demand_in (decimal (due_number r.due)) (decimal r.priority) (decimal r.lane) (decimal r.size) ≡ Some (demand_from r.due r.priority r.lane r.size) =
    λ i. option_ap (option_ap (option_ap (option_map demand_from (due_back r.due i)) (number_back 32768 r.priority (omega (arith, f.3)) f.3 i)) (small_back r.lane f.4 i)) (long_back r.size f.5 i) in
    λ i. option_ap (option_ap (option_ap (option_map request_from (conn_back r.conn f.0 i)) (long_back r.serial f.1 i)) (long_back r.id f.2 i)) (demand i)

offer_reply_back : (r : OfferReply) → FitsOfferReply r → offer_reply_in (offer_reply_words r) ≡ Some r
offer_reply_back (offer_reply.Run t) f = ap (option_map offer_reply.Run) (small_back t f)
offer_reply_back (offer_reply.Lent t) f = ap (option_map offer_reply.Lent) (small_back t f)
offer_reply_back offer_reply.Kept f = refl
offer_reply_back offer_reply.Full f = refl
offer_reply_back offer_reply.Closing f = refl

collect_reply_back : (r : CollectReply) → FitsCollectReply r → collect_reply_in (collect_reply_words r) ≡ Some r
collect_reply_back (collect_reply.Answered k) f = ap (option_ap (Some collect_reply.Answered)) (long_back k f)
collect_reply_back (collect_reply.Early k) f = ap (option_ap (Some collect_reply.Early)) (long_back k f)
collect_reply_back (collect_reply.Transient k) f = ap (option_ap (Some collect_reply.Transient)) (long_back k f)
collect_reply_back (collect_reply.Posted id) f = ap (option_ap (Some collect_reply.Posted)) (long_back id f)
collect_reply_back collect_reply.Close f = refl
collect_reply_back collect_reply.Error f = refl
collect_reply_back collect_reply.Done f = refl

post_reply_back : (r : PostReply) → choice post_words (post_reply_text r) ≡ Some r
post_reply_back post_reply.Posted = refl
post_reply_back post_reply.Closing = refl

cancel_reply_back : (r : CancelReply) → choice cancel_words (cancel_reply_text r) ≡ Some r
cancel_reply_back cancel_reply.Removed = refl
cancel_reply_back cancel_reply.Nothing = refl
cancel_reply_back cancel_reply.Closing = refl

how_back : (h : How) → choice how_words (how_text h) ≡ Some h
how_back how.Quiet = refl
how_back how.Bad = refl
how_back how.Shut = refl

-- digits are no word that begins with a letter
not_letter : (w rest : List ℕ) (c : ℕ) → 57 < c → 0 < length w → list_all is_ascii_digit w ≡ true → bytes_eq w (c ∷ rest) ≡ false
not_letter [] rest c l some e = absurd (omega arith)
not_letter (d ∷ ds) rest c l some e =
    let h = and_parts (is_ascii_digit d) (list_all is_ascii_digit ds) e in
    let k = leb-true d 57 (and_parts (leb 48 d) (leb d 57) h.0).1 in
    ap (λ (b : Bool). b && bytes_eq ds rest) (ne_eqb d c (λ z. omega arith))

pub decimal_no_letter : (n : ℕ) (rest : List ℕ) (c : ℕ) → n < 2 ^ 64 → 57 < c → bytes_eq (decimal n) (c ∷ rest) ≡ false
decimal_no_letter n rest c small l = not_letter (decimal n) rest c l (decimal_nonempty n small) (decimal_digits n small)

task_back : (task : Option ℕ) → FitsTask task → task_in (task_text task) ≡ Some task
task_back (Some k) f =
    ap (λ (b : Bool). if b then Some None else option_map (λ (x : ℕ). Some x) (long_in (decimal k))) (decimal_no_letter k (codes "nded") 101 (omega (arith, f)) (omega arith))
    ∙ ap (option_map (λ (x : ℕ). Some x)) (long_back k f)
task_back None f = refl

-- the words of a call after its verb
abbrev pub ReadsBack : List (List ℕ) → Action → Type 0
ReadsBack [] a = ⊥
ReadsBack (verb ∷ words) a = action_in verb words ≡ Some a

offer_back : (r : OfferedRequest) (reply : OfferReply) → FitsRequest r → FitsOfferReply reply → offer_in (request_words r ++ offer_reply_words reply) ≡ Some (action.Offer r reply)
offer_back r reply f g = λ i. option_ap (option_map offer_from (request_back r f i)) (offer_reply_back reply g i)

pub action_back : (a : Action) → FitsAction a → ReadsBack (action_words a) a
action_back (action.Offer request r) f = offer_back request r f.0 f.1
action_back (action.Post conn id r) f = λ i. option_ap (option_ap (option_map post_from (conn_back conn f.0 i)) (long_back id f.1 i)) (post_reply_back r i)
action_back (action.Cancel conn id r) f = λ i. option_ap (option_ap (option_map cancel_from (conn_back conn f.0 i)) (long_back id f.1 i)) (cancel_reply_back r i)
action_back (action.Take t task) f = λ i. option_ap (option_map take_from (small_back t f.0 i)) (task_back task f.1 i)
action_back (action.Finish t k len) f = λ i. option_ap (option_ap (option_map finish_from (small_back t f.0 i)) (long_back k f.1 i)) (long_back len f.2 i)
action_back (action.Collect conn r) f = λ i. option_ap (option_map collect_from (conn_back conn f.0 i)) (collect_reply_back r f.1 i)
action_back (action.End conn h) f = λ i. option_ap (option_map end_from (conn_back conn f i)) (how_back h i)
action_back (action.Leave slot) f = ap (option_map action.Leave) (small_back slot f)
