-- A whole piece gives and keeps no more bytes than it has and were kept before.
use Rattle.std.proofs.Common.{◌≡◌, ℕ, ◌+◌, ◌-◌, ◌≤◌, Bool, true, false, cond, not, ◌==◌, List, [], ◌∷◌, ◌++◌, length, take, drop, Option, Some, None, refl, ap, subst, ◌∙◌, arith, filter, length-append, length-drop}
use Rattle.std.specs.Prelude.{option_to_list, option_map, slice_index}
use Rattle.std.specs.Int.{w32}
use Rattle.std.specs.List.{position}
use Rattle.std.proofs.lemmas.List.{length-take-le}
use Rattle.std.proofs.lemmas.List.Sums.{sum_by-cons, sum_by-append}
use Rattle.orb_base.specs.declared.order.Order.{Order}
use Rattle.cdr_core.specs.Field.{number_bytes}
use Rattle.cdr_core.proofs.CallerLemmas.{length-number_bytes}
use Rattle.giop_frames.specs.Pieces.{Piece, order_of, has_more, id_of}
use Rattle.giop_frames.specs.Messages.{Partial, Message, is_fragment, ends, added, open_at, sealed, joined, lone, completed}
use Rattle.giop_frames.specs.Running.{stepped}
use Rattle.giop_frames.specs.Steps.{Found, Placed, IsSound}
use Rattle.giop_frames.specs.Bounds.{AreLong, held, message_bytes}
use Rattle.giop_frames.proofs.Places.{placed}
use Rattle.giop_frames.proofs.Effects.{fragment_opens_none, last_opens_none, opens_first, fragment_continues, middle_ends, last_ends, step_none, step_drops, step_opens, step_grows, step_ends}
use Rattle.giop_frames.proofs.Deeds.{found_open, found_back, completes_none, completes_joined, completes_lone}

held_cons : (u : Partial) (us : List Partial) → held (u ∷ us) ≡ length u.bytes + held us
held_cons u us = sum_by-cons (λ v. length v.bytes) u us

pub around : (front back : List Partial) (u : Partial) → held (front ++ u ∷ back) ≡ held front + (length u.bytes + held back)
around front back u = sum_by-append (λ v. length v.bytes) front (u ∷ back) ∙ ap (λ (n : ℕ). held front + n) (held_cons u back)

drop_one : (u : Partial) (us vs : List Partial) (b : Bool) → held vs ≤ held us → held (cond b (u ∷ vs) vs) ≤ held (u ∷ us)
drop_one u us vs true h = omega (arith, held_cons u vs, held_cons u us, h)
drop_one u us vs false h = omega (arith, held_cons u us, h)

held_filter : (t : Partial → Bool) (us : List Partial) → held (filter t us) ≤ held us
held_filter t [] = omega arith
held_filter t (u ∷ us) = drop_one u us (filter t us) (t u) (held_filter t us)

sealed_len : (order : Order) (bytes : List ℕ) → 12 ≤ length bytes → length (sealed order bytes) ≡ length bytes
unfolding sealed
sealed_len order bytes h =
    let size : List ℕ = number_bytes order w32 (length bytes - 12) in
    let head : List ℕ = (slice_index bytes 6 - 2) ∷ slice_index bytes 7 ∷ size in
    omega (
      arith,
      length-append (take 6 bytes ++ head) (drop 12 bytes),
      length-append (take 6 bytes) head,
      length-take-le 6 bytes (omega arith),
      length-number_bytes order w32 (length bytes - 12),
      length-drop 12 bytes,
    )

long_there : (front back : List Partial) (there : Partial) → AreLong (front ++ there ∷ back) → 12 ≤ length there.bytes
long_there [] back there h = h.0
long_there (u ∷ front) back there h = long_there front back there h.1

-- what is given and kept after a piece, by what it gives and does
flows_as : (p : Piece) (us vs ws : List Partial) (given o : Option Message) → given ≡ o → vs ≡ ws
    → message_bytes (option_to_list o) + held ws ≤ length p.bytes + held us → message_bytes (option_to_list given) + held vs ≤ length p.bytes + held us
flows_as p us vs ws given o e h k =
    omega (arith, ap (λ (x : Option Message). message_bytes (option_to_list x)) e, ap (λ (x : List Partial). held x) h, k)

abbrev Flows : Piece → List Partial → Type 0
Flows p us = message_bytes (option_to_list (completed us p)) + held (stepped p us) ≤ length p.bytes + held us

none_given : (p : Piece) (us : List Partial) (m : Bool) → has_more p.bytes ≡ m → is_fragment p.bytes ≡ true → open_at (id_of p.bytes) us ≡ None → completed us p ≡ None
none_given p us true m f n = completes_none us p m
none_given p us false m f n = completes_joined us p m f ∙ ap (option_map (joined p)) n

-- a Fragment of a message that is open
found_flows : (p : Piece) (us : List Partial) (i : ℕ) (m : Bool) → IsSound us p.bytes → AreLong us → is_fragment p.bytes ≡ true → has_more p.bytes ≡ m → Found (id_of p.bytes) us i → Flows p us
found_flows p us i true s l f m u =
    let back = found_back (id_of p.bytes) i us u s.distinct in
    let step = ap (stepped p) u.parts
    ∙ step_grows p u.front u.back u.there (fragment_opens_none p.bytes f) (middle_ends u.there.id p.bytes f m) (fragment_continues u.there.id p.bytes f u.same) u.before back in
    let grown : Partial = record u.there { bytes = u.there.bytes ++ added p } in
    flows_as p us (stepped p us) (u.front ++ grown ∷ u.back) (completed us p) None (completes_none us p m) step
    (omega (
      arith,
      around u.front u.back grown,
      around u.front u.back u.there,
      ap (λ (x : List Partial). held x) u.parts,
      length-append u.there.bytes (added p),
      length-drop 16 p.bytes,
    ))
found_flows p us i false s l f m u =
    let back = found_back (id_of p.bytes) i us u s.distinct in
    let step = ap (stepped p) u.parts
    ∙ step_ends p u.front u.back u.there (fragment_opens_none p.bytes f) (last_ends u.there.id p.bytes f m u.same) u.before back in
    let long : 12 ≤ length u.there.bytes = long_there u.front u.back u.there (let P : List Partial → Type 0 = λ x. AreLong x in subst P u.parts l) in
    let all : List ℕ = u.there.bytes ++ added p in
    let len : length all ≡ length u.there.bytes + length (added p) = length-append u.there.bytes (added p) in
    flows_as p us (stepped p us) (u.front ++ u.back) (completed us p) (Some (joined p u.there))
    (completes_joined us p m f ∙ ap (option_map (joined p)) (found_open (id_of p.bytes) i us u)) step
    (omega (
      arith,
      sealed_len u.there.order all (omega (arith, len, long)),
      len,
      sum_by-append (λ v. length v.bytes) u.front u.back,
      around u.front u.back u.there,
      ap (λ (x : List Partial). held x) u.parts,
      length-drop 16 p.bytes,
    ))

fragment_flows : (p : Piece) (us : List Partial) (o : Option ℕ) → IsSound us p.bytes → AreLong us → is_fragment p.bytes ≡ true → Placed (id_of p.bytes) us o → Flows p us
fragment_flows p us None s l f n =
    flows_as p us (stepped p us) us (completed us p) None (none_given p us (has_more p.bytes) refl f n) (step_none p us (fragment_opens_none p.bytes f) n) (omega arith)
fragment_flows p us (Some i) s l f u = found_flows p us i (has_more p.bytes) s l f refl u

-- a first piece
first_flows : (p : Piece) (us : List Partial) → IsSound us p.bytes → has_more p.bytes ≡ true → is_fragment p.bytes ≡ false → Flows p us
first_flows p us s m f =
    let o = opens_first p.bytes m f in
    let begun : Partial = record { at = p.at; id = id_of p.bytes; order = order_of p.bytes; bytes = p.bytes } in
    flows_as p us (stepped p us) (us ++ begun ∷ []) (completed us p) None (completes_none us p m) (step_opens p us o (s.no_cancel o)) (omega (arith, around us [] begun))

-- a message of one piece
lone_flows : (p : Piece) (us : List Partial) → has_more p.bytes ≡ false → is_fragment p.bytes ≡ false → Flows p us
lone_flows p us m f =
    flows_as p us (stepped p us) (filter (λ u. not (ends u.id p.bytes)) us) (completed us p) (Some (lone p)) (completes_lone us p m f)
    (step_drops p us (last_opens_none p.bytes m) f) (omega (arith, held_filter (λ u. not (ends u.id p.bytes)) us))

flows_by : (p : Piece) (us : List Partial) (m f : Bool) → IsSound us p.bytes → AreLong us → has_more p.bytes ≡ m → is_fragment p.bytes ≡ f → Flows p us
flows_by p us m true s l hm hf =
    let place : Option ℕ = position (λ u. u.id == id_of p.bytes) us in
    fragment_flows p us place s l hf (placed (id_of p.bytes) us place refl)
flows_by p us true false s l hm hf = first_flows p us s hm hf
flows_by p us false false s l hm hf = lone_flows p us hm hf

pub step_flows : (p : Piece) (us : List Partial) → IsSound us p.bytes → AreLong us → message_bytes (option_to_list (completed us p)) + held (stepped p us) ≤ length p.bytes + held us
step_flows p us s l = flows_by p us (has_more p.bytes) (is_fragment p.bytes) s l refl refl
