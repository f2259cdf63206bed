-- A line is read back from its words, and what is read as a line is its words.
use Rattle.std.proofs.Common.{◌≡◌, ℕ, ◌<◌, ◌≤◌, ◌^◌, suc, zero, Bool, true, false, ◌==◌, List, [], ◌∷◌, ◌++◌, length, Option, Some, None, refl, sym, ap, subst, ◌∙◌, arith}
use Rattle.std.specs.Prelude.{if◌then◌else◌, codes, option_map}
use Rattle.std.specs.Fmt.{decimal}
use Rattle.std.specs.List.{join_with_byte}
use Rattle.std.specs.Option.{option_and_then}
use Rattle.std.specs.Str.{bytes_eq}
use Rattle.std.proofs.lemmas.Option.{none-some}
use Rattle.orb_base.specs.declared.conn_id.ConnId.{ConnId}
use Rattle.orb_base.specs.declared.due.Due.{Due}
use Rattle.orb_base.specs.declared.due.Due.TheVariants as due
use Rattle.lane_machine.specs.declared.call.How.{How}
use Rattle.lane_machine.specs.declared.call.How.TheVariants as how
use Rattle.trace_lines.specs.Texts.{flag, conn_text, due_number, post_reply_text, cancel_reply_text, task_text, how_text}
use Rattle.trace_lines.specs.declared.trace_line.OfferReply.{OfferReply}
use Rattle.trace_lines.specs.declared.trace_line.OfferReply.TheVariants as offer_reply
use Rattle.trace_lines.specs.declared.trace_line.PostReply.{PostReply}
use Rattle.trace_lines.specs.declared.trace_line.PostReply.TheVariants as post_reply
use Rattle.trace_lines.specs.declared.trace_line.CancelReply.{CancelReply}
use Rattle.trace_lines.specs.declared.trace_line.CancelReply.TheVariants as cancel_reply
use Rattle.trace_lines.specs.declared.trace_line.CollectReply.{CollectReply}
use Rattle.trace_lines.specs.declared.trace_line.CollectReply.TheVariants as collect_reply
use Rattle.trace_lines.specs.declared.trace_line.Action.{Action}
use Rattle.trace_lines.specs.declared.trace_line.Action.TheVariants as action
use Rattle.trace_lines.specs.declared.trace_line.TraceLine.{TraceLine}
use Rattle.trace_reading.specs.declared.row.Flags.{Flags}
use Rattle.trace_reading.specs.declared.row.Limits.{Limits}
use Rattle.trace_reading.specs.declared.row.Head.{Head}
use Rattle.trace_reading.specs.declared.row.Row.{Row}
use Rattle.trace_reading.specs.declared.row.Row.TheVariants.{Pool, Lane, Entry, Count}
use Rattle.trace_reading.specs.Words.{number_in, flag_in, parts_in}
use Rattle.trace_reading.specs.Choices.{option_ap, choice}
use Rattle.trace_reading.specs.ActionReading.{small_in, long_in, action_in}
use Rattle.trace_reading.specs.RowReading.{flags_from, flags_in, limits_from, limits_in, head_from, head_in, lane_from, lane_in, count_in, entry_from, entry_in, starts, row_by, row_in, row_of, line_in}
use Rattle.trace_reading.specs.RowWords.{offer_reply_words, collect_reply_words, action_words, head_words, row_words, row_line, FitsConn, FitsOfferReply, FitsTask, FitsCollectReply, FitsAction, FitsLine, FitsRow}
use Rattle.trace_reading.proofs.Numerals.{number_back, number_was}
use Rattle.trace_reading.proofs.Joins.{above, AreAbove, above-append, decimal_above, parts_back, parts_was}
use Rattle.trace_reading.proofs.Choices.{ap1, ap2, ap3, ap4, then_parts, choice_was}
use Rattle.trace_reading.proofs.ActionsBack.{small_back, long_back, decimal_no_letter, ReadsBack, action_back}
use Rattle.trace_reading.proofs.ActionsWere.{small_was, long_was, action_was}

-- no word has a blank

conn_above : (c : ConnId) → FitsConn c → above 32 (conn_text c) ≡ true
conn_above c f =
    above-append 32 (decimal c.slot ++ 46 ∷ []) (decimal c.nth)
    (above-append 32 (decimal c.slot) (46 ∷ []) (decimal_above 32 c.slot (omega arith) (omega (arith, f.0))) refl)
    (decimal_above 32 c.nth (omega arith) (omega (arith, f.1)))

number_above : (n : ℕ) → n < 2 ^ 32 → above 32 (decimal n) ≡ true
number_above n l = decimal_above 32 n (omega arith) (omega (arith, l))

due_above : (d : Due) → above 32 (decimal (due_number d)) ≡ true
due_above due.Nothing = number_above 0 (omega arith)
due_above due.Early = number_above 1 (omega arith)
due_above due.Late = number_above 2 (omega arith)

post_reply_above : (r : PostReply) → above 32 (post_reply_text r) ≡ true
post_reply_above post_reply.Posted = refl
post_reply_above post_reply.Closing = refl

cancel_reply_above : (r : CancelReply) → above 32 (cancel_reply_text r) ≡ true
cancel_reply_above cancel_reply.Removed = refl
cancel_reply_above cancel_reply.Nothing = refl
cancel_reply_above cancel_reply.Closing = refl

how_above : (h : How) → above 32 (how_text h) ≡ true
how_above how.Quiet = refl
how_above how.Bad = refl
how_above how.Shut = refl

task_above : (task : Option ℕ) → FitsTask task → above 32 (task_text task) ≡ true
task_above (Some k) f = number_above k f
task_above None f = refl

offer_reply_above : (r : OfferReply) → FitsOfferReply r → AreAbove 32 (offer_reply_words r)
offer_reply_above (offer_reply.Run t) f = (refl, (number_above t (omega (arith, f)), tt))
offer_reply_above (offer_reply.Lent t) f = (refl, (number_above t (omega (arith, f)), tt))
offer_reply_above offer_reply.Kept f = (refl, tt)
offer_reply_above offer_reply.Full f = (refl, tt)
offer_reply_above offer_reply.Closing f = (refl, tt)

collect_reply_above : (r : CollectReply) → FitsCollectReply r → AreAbove 32 (collect_reply_words r)
collect_reply_above (collect_reply.Answered k) f = (refl, (number_above k f, tt))
collect_reply_above (collect_reply.Early k) f = (refl, (number_above k f, tt))
collect_reply_above (collect_reply.Transient k) f = (refl, (number_above k f, tt))
collect_reply_above (collect_reply.Posted id) f = (refl, (number_above id f, tt))
collect_reply_above collect_reply.Close f = (refl, tt)
collect_reply_above collect_reply.Error f = (refl, tt)
collect_reply_above collect_reply.Done f = (refl, tt)

action_above : (a : Action) → FitsAction a → AreAbove 32 (action_words a)
action_above (action.Offer r reply) f = (
  refl,
  (
    conn_above r.conn f.0.0,
    (
      number_above r.serial f.0.1,
      (
        number_above r.id f.0.2,
        (
          due_above r.due,
          (
            number_above r.priority (omega (arith, f.0.3)),
            (number_above r.lane (omega (arith, f.0.4)), (number_above r.size f.0.5, offer_reply_above reply f.1)),
          ),
        ),
      ),
    ),
  ),
)
action_above (action.Post conn id r) f = (refl, (conn_above conn f.0, (number_above id f.1, (post_reply_above r, tt))))
action_above (action.Cancel conn id r) f = (refl, (conn_above conn f.0, (number_above id f.1, (cancel_reply_above r, tt))))
action_above (action.Take t task) f = (refl, (number_above t (omega (arith, f.0)), (task_above task f.1, tt)))
action_above (action.Finish t k len) f = (refl, (number_above t (omega (arith, f.0)), (number_above k f.1, (number_above len f.2, tt))))
action_above (action.Collect conn r) f = (refl, (conn_above conn f.0, collect_reply_above r f.1))
action_above (action.End conn h) f = (refl, (conn_above conn f, (how_above h, tt)))
action_above (action.Leave slot) f = (refl, (number_above slot (omega (arith, f)), tt))

flag_above : (b : Bool) → above 32 (decimal (flag b)) ≡ true
flag_above true = number_above 1 (omega arith)
flag_above false = number_above 0 (omega arith)

pub row_above : (r : Row) → FitsRow r → AreAbove 32 (row_words r)
row_above (Pool h) f = (
  refl,
  (
    flag_above h.flags.laned,
    (
      flag_above h.flags.borrowing,
      (
        flag_above h.flags.buffering,
        (
          number_above h.limits.max_requests f.0.0,
          (
            number_above h.limits.max_bytes f.0.1,
            (
              number_above h.limits.run_calls f.0.2,
              (
                number_above h.limits.run_bytes f.0.3,
                (number_above h.slots (omega (arith, f.1)), (number_above h.per_slot (omega (arith, f.2)), tt)),
              ),
            ),
          ),
        ),
      ),
    ),
  ),
)
row_above (Lane l) f = (refl, (number_above l.priority (omega (arith, f.0)), (number_above l.statics (omega (arith, f.1)), (number_above l.dynamics (omega (arith, f.2)), tt))))
row_above (Entry l) f = (number_above l.caller f.0, action_above l.action f.1)
row_above (Count n) f = (refl, (number_above n f, tt))

-- the words of a call are few, and at least one

few_replies : (r : OfferReply) → length (offer_reply_words r) ≤ 2
few_replies (offer_reply.Run t) = omega arith
few_replies (offer_reply.Lent t) = omega arith
few_replies offer_reply.Kept = omega arith
few_replies offer_reply.Full = omega arith
few_replies offer_reply.Closing = omega arith

few_handed : (r : CollectReply) → length (collect_reply_words r) ≤ 2
few_handed (collect_reply.Answered k) = omega arith
few_handed (collect_reply.Early k) = omega arith
few_handed (collect_reply.Transient k) = omega arith
few_handed (collect_reply.Posted id) = omega arith
few_handed collect_reply.Close = omega arith
few_handed collect_reply.Error = omega arith
few_handed collect_reply.Done = omega arith

few_words : (a : Action) → length (action_words a) ≤ 11
few_words (action.Offer r reply) = omega (arith, few_replies reply)
few_words (action.Post conn id r) = omega arith
few_words (action.Cancel conn id r) = omega arith
few_words (action.Take t task) = omega arith
few_words (action.Finish t k len) = omega arith
few_words (action.Collect conn r) = omega (arith, few_handed r)
few_words (action.End conn h) = omega arith
few_words (action.Leave slot) = omega arith

-- a line of words that are read as this
line_from : (r : Row) (w : List ℕ) (ws : List (List ℕ)) → row_words r ≡ w ∷ ws → FitsRow r → length ws ≤ 11 → row_in w ws ≡ Some r → line_in (row_line r) ≡ Some r
line_from r w ws is f few e =
    let apart : AreAbove 32 (w ∷ ws) = subst (AreAbove 32) is (row_above r f) in
    ap (λ (z : List (List ℕ)). line_in (join_with_byte 32 z)) is
    ∙ ap (option_and_then row_of) (parts_back 32 w ws apart (omega arith))
    ∙ e

flag_back : (b : Bool) → flag_in (decimal (flag b)) ≡ Some b
flag_back true = ap (option_map (λ (n : ℕ). n == 1)) (number_back 2 1 (omega arith) (omega arith))
flag_back false = ap (option_map (λ (n : ℕ). n == 1)) (number_back 2 0 (omega arith) (omega arith))

head_back : (h : Head) → FitsRow (Pool h) → row_of (head_words h) ≡ Some (Pool h)
head_back h f =
    let flags : flags_in (decimal (flag h.flags.laned)) (decimal (flag h.flags.borrowing)) (decimal (flag h.flags.buffering)) ≡ Some h.flags =
    λ i. option_ap (option_ap (option_map flags_from (flag_back h.flags.laned i)) (flag_back h.flags.borrowing i)) (flag_back h.flags.buffering i) in
    let limits : limits_in (decimal h.limits.max_requests) (decimal h.limits.max_bytes) (decimal h.limits.run_calls) (decimal h.limits.run_bytes) ≡ Some h.limits =
    λ i. option_ap (option_ap (option_ap (option_map limits_from (long_back h.limits.max_requests f.0.0 i)) (long_back h.limits.max_bytes f.0.1 i)) (long_back h.limits.run_calls f.0.2 i)) (long_back h.limits.run_bytes f.0.3 i) in
    λ i. option_ap (option_ap (option_ap (option_map head_from (flags i)) (limits i)) (small_back h.slots f.1 i)) (small_back h.per_slot f.2 i)

-- the first word of an entry begins no other line
no_start : (n : ℕ) → n < 2 ^ 64 → choice starts (decimal n) ≡ None
no_start n small =
    ap (λ (b : Bool). if b then Some head_in else if bytes_eq (decimal n) (codes "lane") then Some lane_in else if bytes_eq (decimal n) (codes "entries") then Some count_in else None)
    (decimal_no_letter n (codes "ool") 112 small (omega arith))
    ∙ ap (λ (b : Bool). if b then Some lane_in else if bytes_eq (decimal n) (codes "entries") then Some count_in else None) (decimal_no_letter n (codes "ane") 108 small (omega arith))
    ∙ ap (λ (b : Bool). if b then Some count_in else None) (decimal_no_letter n (codes "ntries") 101 small (omega arith))

entry_of_words : (caller : ℕ) (ws : List (List ℕ)) (a : Action) → caller < 2 ^ 32 → ReadsBack ws a → entry_in (decimal caller) ws ≡ Some (entry_from caller a)
entry_of_words caller [] a l e = absurd e
entry_of_words caller (verb ∷ ws) a l e = λ i. option_ap (option_map entry_from (long_back caller l i)) (e i)

entry_back : (l : TraceLine) → FitsLine l → row_in (decimal l.caller) (action_words l.action) ≡ Some (Entry l)
entry_back l f =
    ap (λ (o : Option (List (List ℕ) → Option Row)). row_by o (decimal l.caller) (action_words l.action)) (no_start l.caller (omega (arith, f.0)))
    ∙ entry_of_words l.caller (action_words l.action) l.action f.0 (action_back l.action f.1)

pub line_back : (r : Row) → FitsRow r → line_in (row_line r) ≡ Some r
line_back (Pool h) f = line_from (Pool h) _ _ refl f (omega arith) (head_back h f)
line_back (Lane l) f = line_from (Lane l) _ _ refl f (omega arith)
    (λ i. option_ap (option_ap (option_map lane_from (number_back 32768 l.priority (omega (arith, f.0)) f.0 i)) (small_back l.statics f.1 i)) (small_back l.dynamics f.2 i))
line_back (Entry l) f = line_from (Entry l) (decimal l.caller) (action_words l.action) refl f (few_words l.action) (entry_back l f)
line_back (Count n) f = line_from (Count n) _ _ refl f (omega arith) (ap (option_map Count) (long_back n f))

-- the other way

abbrev Words : List (List ℕ) → Row → Type 0
Words ws r = (ws ≡ row_words r) × FitsRow r

abbrev Was : List ℕ → (List (List ℕ) → Option Row) → Type 0
Was first read = (ws : List (List ℕ)) (r : Row) → read ws ≡ Some r → Words (first ∷ ws) r

flag_by : (n : ℕ) → n < 2 → flag (n == 1) ≡ n
flag_by zero l = refl
flag_by (suc zero) l = refl
flag_by (suc (suc n)) l = absurd (omega arith)

flag_was : (w : List ℕ) (b : Bool) → flag_in w ≡ Some b → w ≡ decimal (flag b)
flag_was w b e =
    let h = ap1 (λ (n : ℕ). n == 1) (number_in 2 w) b e in
    let n = number_was 2 h.0 w (omega arith) h.1 in
    n.0 ∙ ap decimal (sym (flag_by h.0 n.1) ∙ ap flag h.2)

head_was : Was (codes "pool") head_in
head_was (laned ∷ borrowing ∷ buffering ∷ requests ∷ bytes ∷ calls ∷ run ∷ slots ∷ per_slot ∷ []) r e =
    let h = ap4 head_from (flags_in laned borrowing buffering) (limits_in requests bytes calls run) (small_in slots) (small_in per_slot) r e in
    let a = ap3 flags_from (flag_in laned) (flag_in borrowing) (flag_in buffering) h.0 h.4 in
    let b = ap4 limits_from (long_in requests) (long_in bytes) (long_in calls) (long_in run) h.1 h.5 in
    let x = flag_was laned a.0 a.3 in let y = flag_was borrowing a.1 a.4 in let z = flag_was buffering a.2 a.5 in
    let k = long_was b.0 requests b.4 in let l = long_was b.1 bytes b.5 in let m = long_was b.2 calls b.6 in let n = long_was b.3 run b.7 in
    let s = small_was h.2 slots h.6 in let p = small_was h.3 per_slot h.7 in
    let P = Words (codes "pool" ∷ laned ∷ borrowing ∷ buffering ∷ requests ∷ bytes ∷ calls ∷ run ∷ slots ∷ per_slot ∷ []) in
    subst P h.8 (subst (λ (v : Flags). P (head_from v h.1 h.2 h.3)) a.6 (subst (λ (v : Limits). P (head_from (flags_from a.0 a.1 a.2) v h.2 h.3)) b.8
    ((λ i. codes "pool" ∷ x i ∷ y i ∷ z i ∷ k.0 i ∷ l.0 i ∷ m.0 i ∷ n.0 i ∷ s.0 i ∷ p.0 i ∷ []), ((k.1, l.1, m.1, n.1), s.1, p.1))))
head_was _ r e = absurd (none-some r e)

lane_was : Was (codes "lane") lane_in
lane_was (priority ∷ statics ∷ dynamics ∷ []) r e =
    let h = ap3 lane_from (number_in 32768 priority) (small_in statics) (small_in dynamics) r e in
    let p = number_was 32768 h.0 priority (omega arith) h.3 in let s = small_was h.1 statics h.4 in let d = small_was h.2 dynamics h.5 in
    subst (Words (codes "lane" ∷ priority ∷ statics ∷ dynamics ∷ [])) h.6 ((λ i. codes "lane" ∷ p.0 i ∷ s.0 i ∷ d.0 i ∷ []), (p.1, s.1, d.1))
lane_was _ r e = absurd (none-some r e)

count_was : Was (codes "entries") count_in
count_was (entries ∷ []) r e =
    let h = ap1 Count (long_in entries) r e in
    let n = long_was h.0 entries h.1 in
    subst (Words (codes "entries" ∷ entries ∷ [])) h.2 ((λ i. codes "entries" ∷ n.0 i ∷ []), n.1)
count_was _ r e = absurd (none-some r e)

entry_was : (first : List ℕ) (ws : List (List ℕ)) (r : Row) → entry_in first ws ≡ Some r → Words (first ∷ ws) r
entry_was first (verb ∷ ws) r e =
    let h = ap2 entry_from (long_in first) (action_in verb ws) r e in
    let c = long_was h.0 first h.2 in let a = action_was verb ws h.1 h.3 in
    subst (Words (first ∷ verb ∷ ws)) h.4 ((λ i. c.0 i ∷ a.0 i), (c.1, a.1))
entry_was first [] r e = absurd (none-some r e)

row_by_was : (o : Option (List (List ℕ) → Option Row)) (first : List ℕ) (ws : List (List ℕ)) (r : Row) → choice starts first ≡ o → row_by o first ws ≡ Some r → Words (first ∷ ws) r
row_by_was (Some read) first ws r is e = choice_was Was starts (head_was, (lane_was, (count_was, tt))) first read is ws r e
row_by_was None first ws r is e = entry_was first ws r e

row_of_was : (ws : List (List ℕ)) (r : Row) → row_of ws ≡ Some r → Words ws r
row_of_was (first ∷ ws) r e = row_by_was (choice starts first) first ws r refl e
row_of_was [] r e = absurd (none-some r e)

pub line_was : (text : List ℕ) (r : Row) → line_in text ≡ Some r → (text ≡ row_line r) × FitsRow r
line_was text r e =
    let h = then_parts row_of (parts_in 32 text) r e in
    let k = row_of_was h.0 r h.2 in
    (parts_was 32 text h.0 h.1 ∙ ap (join_with_byte 32) k.0, k.1)
