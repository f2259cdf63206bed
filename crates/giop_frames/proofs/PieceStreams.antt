-- The stream of the pieces of a message.
use Rattle.std.proofs.Common.{◌≡◌, ℕ, ◌+◌, ◌-◌, ◌%◌, ◌≤◌, ◌==◌, Bool, true, false, cond, List, [], ◌∷◌, ◌++◌, length, Option, Some, None, refl, ap, sym, ◌∙◌, arith, nat_lt}
use Rattle.std.specs.Prelude.{option_to_list, option_map}
use Rattle.orb_base.specs.declared.order.Order.{Order}
use Rattle.orb_base.specs.declared.order.Order.TheVariants.{Big, Little}
use Rattle.giop_frames.specs.declared.fault.FrameCause.{FrameCause}
use Rattle.giop_frames.specs.Pieces.{Piece, order_of, has_more, kind_of, piece_len, id_of, cut}
use Rattle.giop_frames.specs.Messages.{Partial, Message, is_fragment, opens, completed, joined, open_at, sealed}
use Rattle.giop_frames.specs.Stream.{Said, header_cause, same_order, fragment_cause, first_cause, piece_cause, or_else, or_stopped, with_front, rest_with, tail_rest}
use Rattle.giop_frames.specs.Running.{stepped, run, ahead}
use Rattle.giop_frames.specs.Kinds.{is_long_kind, comes_whole}
use Rattle.giop_frames.proofs.Heads.{header_passes, rule_sound}
use Rattle.giop_frames.proofs.Ahead.{ahead_piece}
use Rattle.giop_frames.proofs.Effects.{fragment_opens_none, last_opens_none, fragment_continues, middle_ends, last_ends, step_ends, step_grows}
use Rattle.giop_frames.proofs.Deeds.{completes_none, completes_joined}
use Rattle.giop_frames.proofs.PieceHeads.{IsPieceOf}

-- what a piece without a cause does
pub long_kind : (k : ℕ) → is_long_kind k ≡ true → (comes_whole k ≡ false) × ((k == 7) ≡ false) × (nat_lt 7 k ≡ false) × ((k == 2) ≡ false)
unfolding is_long_kind comes_whole
long_kind k h = (grind arith, grind arith, grind arith, grind arith)

pub lone_passes : (limit : ℕ) (us : List Partial) (p : List ℕ) → header_cause limit p ≡ None → has_more p ≡ false → is_fragment p ≡ false → piece_cause limit us p ≡ None
unfolding is_fragment
lone_passes limit us p h m f = rule_sound limit us p h ∙ rw (m, f) refl

pub first_passes : (limit : ℕ) (p : List ℕ) → header_cause limit p ≡ None → has_more p ≡ true → is_fragment p ≡ false → comes_whole (kind_of p) ≡ false → (length p % 8 == 0) ≡ true → piece_cause limit [] p ≡ None
unfolding is_fragment first_cause
first_passes limit p h m f k e = rule_sound limit [] p h ∙ rw (m, k, e, f) refl

middle_passes : (limit : ℕ) (us : List Partial) (p : List ℕ) → header_cause limit p ≡ None → has_more p ≡ true → is_fragment p ≡ true → comes_whole (kind_of p) ≡ false → (length p % 8 == 0) ≡ true
    → nat_lt (length p) 16 ≡ false → fragment_cause limit (order_of p) (length p) (open_at (id_of p) us) ≡ None → piece_cause limit us p ≡ None
unfolding is_fragment
middle_passes limit us p h m f k e l c = rule_sound limit us p h ∙ rw (m, k, e, f, l, c) refl

last_passes : (limit : ℕ) (us : List Partial) (p : List ℕ) → header_cause limit p ≡ None → has_more p ≡ false → is_fragment p ≡ true
    → nat_lt (length p) 16 ≡ false → fragment_cause limit (order_of p) (length p) (open_at (id_of p) us) ≡ None → piece_cause limit us p ≡ None
unfolding is_fragment
last_passes limit us p h m f l c = rule_sound limit us p h ∙ rw (m, f, l, c) refl

order_same : (o : Order) → same_order o o ≡ true
unfolding same_order
order_same Big = refl
order_same Little = refl

joins_fit : (limit : ℕ) (p : List ℕ) (u : Partial) → order_of p ≡ u.order → nat_lt limit (length u.bytes + (length p - 16)) ≡ false → fragment_cause limit (order_of p) (length p) (Some u) ≡ None
unfolding fragment_cause
joins_fit limit p u o l =
    let s : same_order u.order (order_of p) ≡ true = ap (same_order u.order) o ∙ order_same u.order in rw (s, l) refl

open_one : (id : ℕ) (u : Partial) → (u.id == id) ≡ true → open_at id (u ∷ []) ≡ Some u
open_one id u e = ap (λ (b : Bool). cond b (Some u) None) e

fragment_by : (p : List ℕ) → kind_of p ≡ 7 → is_fragment p ≡ true
unfolding is_fragment
fragment_by p h = grind arith

pub other_by : (p : List ℕ) → (kind_of p == 7) ≡ false → is_fragment p ≡ false
unfolding is_fragment
other_by p h = h

-- a stream that has ended with nothing open
pub empty_ahead : (limit at : ℕ) → (ahead limit [] at [] ≡ record { messages = []; rest = None; bad = None })
unfolding ahead run cut rest_with tail_rest
empty_ahead limit at = refl

-- a piece that breaks no rule
pub goes_by : (limit : ℕ) (us us' : List Partial) (at : ℕ) (p more : List ℕ) (o : Option Message) (said : Said) → 12 ≤ length p → length p ≡ piece_len p
    → header_cause limit p ≡ None → piece_cause limit us p ≡ None → stepped (record { at = at; bytes = p }) us ≡ us'
    → completed us (record { at = at; bytes = p }) ≡ o → ahead limit us' (at + length p) more ≡ said
    → ahead limit us at (p ++ more) ≡ with_front (option_to_list o) said
goes_by limit us us' at p more o said h l hc pc s c a =
    let q : Piece = record { at = at; bytes = p } in
    ahead_piece limit us at p more h l
    ∙ ap (λ (x : Option FrameCause). or_stopped us q (or_else x (piece_cause limit us p)) (ahead limit (stepped q us) (at + length p) more)) hc
    ∙ ap (λ (x : Option FrameCause). or_stopped us q x (ahead limit (stepped q us) (at + length p) more)) pc
    ∙ ap (λ (x : Option Message). with_front (option_to_list x) (ahead limit (stepped q us) (at + length p) more)) c
    ∙ ap (λ (x : List Partial). with_front (option_to_list o) (ahead limit x (at + length p) more)) s
    ∙ ap (with_front (option_to_list o)) a

-- an unfinished message of which these bytes are still to come
pub record IsBehind (message : List ℕ) (limit : ℕ) (u : Partial) (bytes : List ℕ) : Type 0 where
  pub id_is : u.id ≡ id_of message
  pub order_is : u.order ≡ order_of message
  pub header : 12 ≤ length u.bytes
  pub room : length u.bytes + length bytes ≤ limit

seven_header : (limit : ℕ) (message : List ℕ) (more : Bool) (bytes p : List ℕ) → IsPieceOf message more 7 bytes p → length p ≤ limit → header_cause limit p ≡ None
seven_header limit message more bytes p i l =
    header_passes limit p i.magic i.version (ap (λ (k : ℕ). nat_lt 7 k) i.kind_is) (let e : length p ≡ piece_len p = i.size in grind arith)

part_joins : (limit : ℕ) (message : List ℕ) (more : Bool) (u : Partial) (bytes left p : List ℕ) → IsPieceOf message more 7 bytes p → IsBehind message limit u left → length bytes ≤ length left
    → fragment_cause limit (order_of p) (length p) (open_at (id_of p) (u ∷ [])) ≡ None
part_joins limit message more u bytes left p i b l =
    let e : (u.id == id_of p) ≡ true = let e : u.id ≡ id_of p = b.id_is ∙ sym i.id in grind arith in
    let n : length u.bytes + (length p - 16) ≤ limit = omega (arith, i.long, b.room) in
    ap (fragment_cause limit (order_of p) (length p)) (open_one (id_of p) u e)
    ∙ joins_fit limit p u (i.order ∙ sym b.order_is) (grind arith)

seven_short : comes_whole 7 ≡ false
unfolding comes_whole
seven_short = refl

-- what the stream says once the last Fragment is there
abbrev pub ends_with : ℕ → Order → ℕ → List ℕ → Said
ends_with at order kind bytes = record { messages = record { at = at; order = order; kind = kind; bytes = sealed order bytes } ∷ []; rest = None; bad = None }

-- the last Fragment completes the message
pub last_says : (limit at : ℕ) (message : List ℕ) (u : Partial) (bytes p : List ℕ) → IsPieceOf message false 7 bytes p → IsBehind message limit u bytes → length p ≤ limit
    → ahead limit (u ∷ []) at (p ++ []) ≡ ends_with at u.order (kind_of u.bytes) (u.bytes ++ bytes)
last_says limit at message u bytes p i b l =
    let q : Piece = record { at = at; bytes = p } in
    let e : (u.id == id_of p) ≡ true = let e : u.id ≡ id_of p = b.id_is ∙ sym i.id in grind arith in
    let o : opens p ≡ false = last_opens_none p i.bit in
    goes_by limit (u ∷ []) [] at p [] (Some (joined q u)) (record { messages = []; rest = None; bad = None }) (omega (arith, i.long)) i.size
    (seven_header limit message false bytes p i l)
    (last_passes limit (u ∷ []) p (seven_header limit message false bytes p i l) i.bit (fragment_by p i.kind_is) (let k : length p ≡ 16 + length bytes = i.long in grind arith)
    (part_joins limit message false u bytes bytes p i b (omega arith)))
    (step_ends q [] [] u o (last_ends u.id p (fragment_by p i.kind_is) i.bit e) refl refl)
    (completes_joined (u ∷ []) q i.bit (fragment_by p i.kind_is) ∙ ap (λ (x : Option Partial). option_map (joined q) x) (open_one (id_of p) u e))
    (empty_ahead limit (at + length p))
    ∙ ap (λ (x : List ℕ). ends_with at u.order (kind_of u.bytes) (u.bytes ++ x)) i.adds

-- a middle Fragment adds to the message
pub middle_says : (limit at : ℕ) (message : List ℕ) (u : Partial) (bytes left p more : List ℕ) (said : Said) → IsPieceOf message true 7 bytes p → IsBehind message limit u left → length bytes ≤ length left
    → length p ≤ limit → length p % 8 ≡ 0 → ahead limit (record u { bytes = u.bytes ++ bytes } ∷ []) (at + length p) more ≡ said → ahead limit (u ∷ []) at (p ++ more) ≡ said
middle_says limit at message u bytes left p more said i b lt l eight rec =
    let q : Piece = record { at = at; bytes = p } in
    let e : (u.id == id_of p) ≡ true = let e : u.id ≡ id_of p = b.id_is ∙ sym i.id in grind arith in
    let o : opens p ≡ false = fragment_opens_none p (fragment_by p i.kind_is) in
    goes_by limit (u ∷ []) (record u { bytes = u.bytes ++ bytes } ∷ []) at p more None said (omega (arith, i.long)) i.size
    (seven_header limit message true bytes p i l)
    (middle_passes limit (u ∷ []) p (seven_header limit message true bytes p i l) i.bit (fragment_by p i.kind_is) (ap comes_whole i.kind_is ∙ seven_short) (grind arith) (let k : length p ≡ 16 + length bytes = i.long in grind arith)
    (part_joins limit message true u bytes left p i b lt))
    (step_grows q [] [] u o (middle_ends u.id p (fragment_by p i.kind_is) i.bit) (fragment_continues u.id p (fragment_by p i.kind_is) e) refl refl
    ∙ ap (λ (x : List ℕ). record u { bytes = u.bytes ++ x } ∷ []) i.adds)
    (completes_none (u ∷ []) q i.bit)
    rec
