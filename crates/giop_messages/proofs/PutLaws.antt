-- Parts put one after the other, and the room that they want.
use Rattle.std.proofs.Common.{◌≡◌, ℕ, suc, ◌+◌, ◌^◌, ◌<◌, ◌≤◌, List, [], ◌∷◌, ◌++◌, length, Result, Ok, Err, OnOk, OnErr, sym, ap, subst, ◌∙◌, ◌-◌, arith, length-append}
use Rattle.std.specs.List.{All, AllByRecursion, flat_map}
use Rattle.std.proofs.lemmas.List.Concat.{flat_map-cons}
use Rattle.std.proofs.lemmas.List.{append-nil}
use Rattle.orb_base.specs.declared.no_memory.NoMemory.{NoMemory}
use Rattle.std.specs.Int.{w32}
use Rattle.orb_base.specs.declared.limits.TheConstants.{MAX_MESSAGE}
use Rattle.orb_base.specs.declared.order.Order.{Order}
use Rattle.cdr_core.specs.Field.{Field, number, field_end, fields_end, string_fields, number_bytes}
use Rattle.cdr_core.specs.Spelling.{fields_bytes}
use Rattle.cdr_core.specs.Writing.{Page, page, written, HasFront, Puts}
use Rattle.cdr_core.proofs.CallerLemmas.{written_none, fields_end-append, puts_then, puts_first, length-number_bytes}
use Rattle.orb_base.specs.Tagged.{Context, Tagged}
use Rattle.giop_messages.specs.Message.{Message, kind_of}
use Rattle.cdr_core.specs.Lists.{tagged_fields, item_of_tagged, context_fields, item_of_context, AreCounted}
use Rattle.giop_messages.specs.Layout.{header_fields, profiles_fields, contexts_fields, body_fields}
use Rattle.giop_messages.specs.Spelling.{all_fields, spelled}
use Rattle.giop_messages.specs.Lengths.{held}
use Rattle.giop_messages.specs.Front.{IsFront}
use Rattle.giop_messages.proofs.LengthLaws.{length-spelled_message}

place_of : (old mid : Page) (a : List Field) → mid ≡ written old a → mid.place ≡ fields_end old.place a
unfolding written
place_of old mid a e = ap (λ (p : Page). p.place) e

end_rises : (place : ℕ) (a : List Field) → place ≤ fields_end place a
end_rises place [] = omega arith
end_rises place (f ∷ a) = omega (arith, end_rises (field_end place f) a)

-- room for the whole is room for its prefix, and for what is after it
pub room_first : (place : ℕ) (a b : List Field) → fields_end place (a ++ b) < 2 ^ 32 → fields_end place a < 2 ^ 32
room_first place a b h =
    let rises : fields_end place a ≤ fields_end (fields_end place a) b = end_rises (fields_end place a) b in
    let both : fields_end place (a ++ b) ≡ fields_end (fields_end place a) b = fields_end-append place a b in
    omega arith

pub room_then : (old mid : Page) (a b : List Field) → mid ≡ written old a → fields_end old.place (a ++ b) < 2 ^ 32 → fields_end mid.place b < 2 ^ 32
room_then old mid a b e h =
    let whole : fields_end mid.place b ≡ fields_end old.place (a ++ b) =
    ap (λ (p : ℕ). fields_end p b) (place_of old mid a e) ∙ sym (fields_end-append old.place a b) in
    subst (λ (n : ℕ). n < 2 ^ 32) (sym whole) h

pub puts_nil : (r : Result (Unit {0}) NoMemory) (old new : Page) (a : List Field) → Puts r old new a → Puts r old new (a ++ [])
puts_nil r old new a puts = let P : List Field → Type 0 = λ fs. Puts r old new fs in subst P (sym (append-nil a)) puts

-- each item takes a place at least, so that few are in little room
pub few_tagged : (place : ℕ) (xs : List Tagged) → length xs + place ≤ fields_end place (flat_map tagged_fields xs)
few_tagged place [] = omega arith
few_tagged place (x ∷ xs) =
    let next = fields_end place (tagged_fields x) in
    omega (arith, few_tagged next xs, fields_end-append place (tagged_fields x) (flat_map tagged_fields xs))

pub few_contexts : (place : ℕ) (xs : List Context) → length xs + place ≤ fields_end place (flat_map context_fields xs)
few_contexts place [] = omega arith
few_contexts place (x ∷ xs) =
    let next = fields_end place (context_fields x) in
    omega (arith, few_contexts next xs, fields_end-append place (context_fields x) (flat_map context_fields xs))

-- room for the whole is room for what is after its prefix
pub room_after : (place : ℕ) (a b : List Field) → fields_end place (a ++ b) < 2 ^ 32 → fields_end (fields_end place a) b < 2 ^ 32
room_after place a b room = subst (λ (n : ℕ). n < 2 ^ 32) (fields_end-append place a b) room

-- what holds of each item that has room holds of all that have
pub each_in_room : {X : Type 0} (P Fit : X → Type 0) (fields : X → List Field) → ((place : ℕ) (x : X) → P x → fields_end place (fields x) < 2 ^ 32 → Fit x)
    → (place : ℕ) (xs : List X) → All P xs → fields_end place (flat_map fields xs) < 2 ^ 32 → AllByRecursion Fit xs
each_in_room P Fit fields one place [] each room = tt
each_in_room P Fit fields one place (x ∷ xs) each room =
    let whole : fields_end place (fields x ++ flat_map fields xs) < 2 ^ 32 = subst (λ (fs : List Field). fields_end place fs < 2 ^ 32) (flat_map-cons fields x xs) room in (
      one place x (each 0 x (omega arith)) (room_first place (fields x) (flat_map fields xs) whole),
      each_in_room P Fit fields one (fields_end place (fields x)) xs (λ k d h. each (suc k) d (omega (arith, h))) (room_after place (fields x) (flat_map fields xs) whole),
    )

-- a list that is spelled in little room is counted
pub profiles_counted : (place : ℕ) (xs : List Tagged) → fields_end place (profiles_fields xs) < 2 ^ 32 → AreCounted item_of_tagged xs
profiles_counted place xs room =
    let count : List Field = number w32 (length xs) ∷ [] in
    let list : fields_end (fields_end place count) (flat_map tagged_fields xs) < 2 ^ 32 = room_after place count (flat_map tagged_fields xs) room in (
      omega (arith, list, few_tagged (fields_end place count) xs),
      each_in_room (λ (x : Tagged). Unit {0}) (λ x. length x.bytes < 2 ^ 32) tagged_fields (λ p x t r. omega (arith, r)) (fields_end place count) xs (λ k d h. tt) list,
    )

pub contexts_counted : (place : ℕ) (xs : List Context) → fields_end place (contexts_fields xs) < 2 ^ 32 → AreCounted item_of_context xs
contexts_counted place xs room =
    let count : List Field = number w32 (length xs) ∷ [] in
    let list : fields_end (fields_end place count) (flat_map context_fields xs) < 2 ^ 32 = room_after place count (flat_map context_fields xs) room in (
      omega (arith, list, few_contexts (fields_end place count) xs),
      each_in_room (λ (x : Context). Unit {0}) (λ x. length x.bytes < 2 ^ 32) context_fields (λ p x t r. omega (arith, r)) (fields_end place count) xs (λ k d h. tt) list,
    )

pub room_between : (old mid : Page) (a b rest : List Field) → mid ≡ written old a → fields_end old.place (a ++ b ++ rest) < 2 ^ 32 → fields_end mid.place b < 2 ^ 32
room_between old mid a b rest e h = room_then old mid a b e (room_first old.place (a ++ b) rest h)

-- a text that is spelled in little room is short
pub text_fits : (place : ℕ) (a : List Field) (text : List ℕ) (rest : List Field) → fields_end place (a ++ string_fields text ++ rest) < 2 ^ 32 → length text + 1 < 2 ^ 32
text_fits place a text rest h =
    let here = fields_end place a in
    let room = room_first place (a ++ string_fields text) rest h in
    omega (arith, room, fields_end-append place a (string_fields text), length-append text (0 ∷ []))

-- an empty body has no fields
pub no_body : (p : Page) (body : List ℕ) → length body ≡ 0 → p ≡ written p (body_fields body)
no_body p [] e = written_none p
no_body p (b ∷ body) e = absurd (omega arith)

-- ---- whole messages

pub length_known : (order : Order) (message : Message) (n : ℕ) → n ≡ held (length (spelled order message)) → length (spelled order message) ≤ MAX_MESSAGE
    → n - 12 ≡ length (fields_bytes order 12 (all_fields message))
length_known order message n e short =
    let inner : List ℕ = fields_bytes order 12 (all_fields message) in
    let size : List ℕ = number_bytes order w32 (length inner) in
    omega (arith, length-append size inner, length-number_bytes order w32 (length inner))

pub length_least : (order : Order) (message : Message) (n : ℕ) → n ≡ held (length (spelled order message)) → 12 ≤ n
length_least order message n e = omega (arith, length-spelled_message order message, end_rises 12 (all_fields message))

spelled_is : (order : Order) (message : Message) (size : ℕ) → size ≡ length (fields_bytes order 12 (all_fields message))
    → fields_bytes order 0 (header_fields order (kind_of message) size ++ all_fields message) ≡ spelled order message
spelled_is order message size e = ap (λ (n : ℕ). fields_bytes order 0 (header_fields order (kind_of message) n ++ all_fields message)) e

empty_end : (order : Order) (old mid : Page) (kind size : ℕ) → old ≡ page order 0 [] → mid ≡ written old (header_fields order kind size) → mid.place ≡ 12
empty_end order old mid kind size e m = place_of old mid (header_fields order kind size) m ∙ ap (λ (p : Page). fields_end p.place (header_fields order kind size)) e

pub message_room : (order : Order) (message : Message) (old mid : Page) (kind size : ℕ) → old ≡ page order 0 [] → mid ≡ written old (header_fields order kind size)
    → length (spelled order message) ≤ MAX_MESSAGE → fields_end mid.place (all_fields message) < 2 ^ 32
message_room order message old mid kind size e m short =
    let same : fields_end mid.place (all_fields message) ≡ length (spelled order message) =
    ap (λ (n : ℕ). fields_end n (all_fields message)) (empty_end order old mid kind size e m) ∙ sym (length-spelled_message order message) in
    omega arith

-- fields put on an empty page are its bytes, or a prefix of them
fields_on_empty : (r : Result (Unit {0}) NoMemory) (order : Order) (old new : Page) (fields : List Field) (whole : List ℕ) → old ≡ page order 0 []
    → fields_bytes order 0 fields ≡ whole → Puts r old new fields → OnOk r (new.bytes ≡ whole) × OnErr r (IsFront new.bytes whole)
unfolding written
fields_on_empty (Ok x) order old new fields whole e is puts =
    (ap (λ (p : Page). p.bytes) puts ∙ ap (λ (p : Page). p.bytes ++ fields_bytes p.order p.place fields) e ∙ is, tt)
fields_on_empty (Err x) order old new fields whole e is puts =
    let front : new.bytes ≡ puts.front = ap (λ (p : Page). p.bytes) puts.page ∙ ap (λ (p : Page). p.bytes ++ puts.front) e in
    let parts : whole ≡ puts.front ++ puts.missing = sym is ∙ ap (λ (p : Page). fields_bytes p.order p.place fields) (sym e) ∙ puts.parts in
    (tt, record { missing = puts.missing; parts = parts ∙ ap (λ (b : List ℕ). b ++ puts.missing) (sym front) })

pub message_put : (r : Result (Unit {0}) NoMemory) (order : Order) (message : Message) (size : ℕ) (old mid new : Page) → old ≡ page order 0 []
    → size ≡ length (fields_bytes order 12 (all_fields message))
    → mid ≡ written old (header_fields order (kind_of message) size) → Puts r mid new (all_fields message)
    → OnOk r (new.bytes ≡ spelled order message) × OnErr r (IsFront new.bytes (spelled order message))
message_put r order message size old mid new e len m puts =
    let head = header_fields order (kind_of message) size in
    fields_on_empty r order old new (head ++ all_fields message) (spelled order message) e (spelled_is order message size len)
    (puts_then r old mid new head (all_fields message) m puts)

pub header_front : (x : NoMemory) (order : Order) (message : Message) (size : ℕ) (old new : Page) → old ≡ page order 0 []
    → size ≡ length (fields_bytes order 12 (all_fields message))
    → HasFront old new (header_fields order (kind_of message) size) → IsFront new.bytes (spelled order message)
header_front x order message size old new e len h =
    let head = header_fields order (kind_of message) size in
    (fields_on_empty (Err x) order old new (head ++ all_fields message) (spelled order message) e (spelled_is order message size len)
    (puts_first old new head (all_fields message) h)).1

-- where nothing was put, that is a prefix
pub nothing_put : (order : Order) (message : Message) (p : Page) → p ≡ page order 0 [] → IsFront p.bytes (spelled order message)
nothing_put order message p e =
    record { missing = spelled order message; parts = ap (λ (q : Page). q.bytes ++ spelled order message) (sym e) }
