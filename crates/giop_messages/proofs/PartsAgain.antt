-- The parts that the bytes spell are read.
use Rattle.std.proofs.Common.{◌≡◌, ℕ, ◌+◌, ◌^◌, ◌<◌, false, ltb, List, [], ◌∷◌, ◌++◌, length, Ok, refl, sym, ap, ◌∙◌, arith, lit<}
use Rattle.std.specs.Int.{w8, w16, w32}
use Rattle.std.proofs.lemmas.Bool.{le-ltb}
use Rattle.orb_base.specs.declared.order.Order.{Order}
use Rattle.cdr_core.specs.Alignment.{pad_len}
use Rattle.cdr_core.specs.Field.{number, run, string_fields, octets_fields}
use Rattle.cdr_core.specs.Cursor.{Cursor, cursor}
use Rattle.cdr_core.specs.Passing.{Spans}
use Rattle.cdr_core.specs.Reading.{number_of, number_at, piece_at, string_at}
use Rattle.cdr_core.specs.Lists.{item_of_tagged, tagged_fields, FitsTagged, FitsList}
use Rattle.cdr_core.proofs.CallerLemmas.{spans_split, spelled_run_is, number_reads, octets_reads, string_reads, short_len, long_len, items_are_exact, tagged_lists_are_exact, context_lists_are_exact}
use Rattle.orb_base.specs.Tagged.{Tagged, Context}
use Rattle.giop_messages.specs.Message.{Target, key, profile, addressing, FitsText, FitsTarget, FitContexts}
use Rattle.giop_messages.specs.Layout.{profiles_fields, contexts_fields, target_fields}
use Rattle.giop_messages.specs.MessageReading.{basic, profiles_at, contexts_at, key_at, profile_at, addressing_at, form_at, target_at, reserved_at}
use Rattle.giop_messages.proofs.MessageFound.{done}
use Rattle.giop_messages.proofs.KindFound.{no_pad}

-- ---- lists of items

profiles_again : (c d : Cursor) (s : List Tagged) → FitsList FitsTagged s → Spans c d (profiles_fields s) → profiles_at c ≡ Ok (s, d)
unfolding profiles_at
profiles_again c d s fits p = ap basic (tagged_lists_are_exact.only c d s fits p)

pub contexts_again : (c d : Cursor) (s : List Context) → FitContexts s → Spans c d (contexts_fields s) → contexts_at c ≡ Ok (s, d)
unfolding contexts_at
contexts_again c d s fits p = ap basic (context_lists_are_exact.only c d s fits p)

-- ---- targets

pub text_again : (c d : Cursor) (text : List ℕ) → FitsText text → Spans c d (string_fields text) → basic (string_at c) ≡ Ok (text, d)
text_again c d text f p = ap basic (string_reads c d text f.no_nul f.short p)

key_again : (c d : Cursor) (bytes : List ℕ) → length bytes < 2 ^ 32 → Spans c d (octets_fields bytes) → key_at c ≡ Ok (key bytes, d)
unfolding key_at
key_again c d bytes f p = rw (ap basic (octets_reads c d bytes f p)) refl

profile_again : (c d : Cursor) (t : Tagged) → FitsTagged t → Spans c d (tagged_fields t) → profile_at c ≡ Ok (profile t, d)
unfolding profile_at
profile_again c d t f p = rw (ap basic (items_are_exact.only c d (item_of_tagged t) f p)) refl

addressing_again : (c d : Cursor) (i : ℕ) (id : List ℕ) (s : List Tagged) → FitsTarget (addressing i id s)
    → Spans c d (number w32 i ∷ string_fields id ++ profiles_fields s) → addressing_at c ≡ Ok (addressing i id s, d)
unfolding addressing_at
addressing_again c d i id s f p =
    let h = spans_split c d (number w32 i ∷ string_fields id) (profiles_fields s) p in
    let k = spans_split c h.middle (number w32 i ∷ []) (string_fields id) h.first in
    rw (ap basic (number_reads w32 c k.middle i long_len f.0 k.first), text_again k.middle h.middle id f.1 k.others, profiles_again h.middle d s (f.2, f.3) h.others) refl

pub target_again : (c d : Cursor) (t : Target) → FitsTarget t → Spans c d (target_fields t) → target_at c ≡ Ok (t, d)
unfolding target_at form_at
target_again c d (key bytes) f p =
    let h = spans_split c d (number w16 0 ∷ []) (octets_fields bytes) p in
    rw (ap basic (number_reads w16 c h.middle 0 short_len (lit< tt) h.first)) (key_again h.middle d bytes f h.others)
target_again c d (profile t) f p =
    let h = spans_split c d (number w16 1 ∷ []) (tagged_fields t) p in
    rw (ap basic (number_reads w16 c h.middle 1 short_len (lit< tt) h.first)) (profile_again h.middle d t f h.others)
target_again c d (addressing i id s) f p =
    let h = spans_split c d (number w16 2 ∷ []) (number w32 i ∷ string_fields id ++ profiles_fields s) p in
    rw (ap basic (number_reads w16 c h.middle 2 short_len (lit< tt) h.first)) (addressing_again h.middle d i id s f h.others)

-- ---- reserved octets

octet_again : (order : Order) (place a : ℕ) (rest : List ℕ) → number_at w8 (cursor order place (a ∷ rest)) ≡ Ok (number_of order w8 (a ∷ []), cursor order (place + 1) rest)
unfolding number_at piece_at
octet_again order place a rest =
    let none = no_pad place in
    let long : ltb (length (a ∷ rest)) (pad_len 1 place + 1) ≡ false = le-ltb _ _ (omega (arith, none)) in
    let next : place + pad_len 1 place + 1 ≡ place + 1 = omega (arith, none) in
    rw (long, next, none) refl

three_again : (order : Order) (place : ℕ) (octets rest : List ℕ) → length octets ≡ 3 → (n : ℕ) × (reserved_at (cursor order place (octets ++ rest)) ≡ Ok (n, cursor order (place + 3) rest))
unfolding reserved_at
three_again order place (a ∷ b ∷ e ∷ []) rest three =
    let end : place + 1 + 1 + 1 ≡ place + 3 = omega arith in (
      number_of order w8 (e ∷ []),
      rw (octet_again order place a (b ∷ e ∷ rest), octet_again order (place + 1) b (e ∷ rest), octet_again order (place + 1 + 1) e rest, end) refl,
    )
three_again order place octets rest three = absurd (omega (arith, three))

pub reserved_again : (c d : Cursor) (octets : List ℕ) → length octets ≡ 3 → Spans c d (run 1 octets ∷ []) → (n : ℕ) × (reserved_at c ≡ Ok (n, d))
reserved_again c d octets three p =
    let text : p.spelling ≡ octets = spelled_run_is c.order c.place octets p.spelling p.spelled in
    let rest : c.rest ≡ octets ++ d.rest = p.parts ∙ ap (λ (x : List ℕ). x ++ d.rest) text in
    let h = three_again c.order c.place octets d.rest three in
    let order = p.order in
    let place : d.place ≡ c.place + 3 = omega (arith, p.place, ap length text, three) in
    let end : cursor c.order (c.place + 3) d.rest ≡ d = λ i. record { order = sym order i; place = sym place i; rest = d.rest } in
    (h.0, ap (λ (x : List ℕ). reserved_at (cursor c.order c.place x)) rest ∙ h.1 ∙ ap (λ (e : Cursor). done {A = ℕ × Cursor} (h.0, e)) end)
