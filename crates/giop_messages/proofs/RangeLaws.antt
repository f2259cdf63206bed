-- What the types say of a message makes it fit, where its spelling is short.
use Rattle.std.proofs.Common.{◌≡◌, ℕ, ◌+◌, ◌^◌, ◌<◌, ◌≤◌, List, [], ◌∷◌, ◌++◌, length, get_or, Result, Ok, Err, OnOk, ⊎_elim, sym, subst, ◌∙◌, arith}
use Rattle.std.specs.List.{All, flat_map}
use Rattle.std.specs.Int.{w8, w16, w32}
use Rattle.std.proofs.lemmas.Bool.{cases_lt}
use Rattle.std.proofs.lemmas.List.{get_or_default}
use Rattle.orb_base.specs.declared.limits.TheConstants.{MAX_MESSAGE}
use Rattle.orb_base.specs.declared.no_memory.NoMemory.{NoMemory}
use Rattle.orb_base.specs.declared.order.Order.{Order}
use Rattle.orb_base.specs.Tagged.{Context, Tagged}
use Rattle.cdr_core.specs.Field.{Field, number, run, fields_end, string_fields}
use Rattle.cdr_core.proofs.CallerLemmas.{fields_end-is}
use Rattle.giop_messages.specs.Message.{Target, key, profile, addressing, FitsTarget, FitContexts, Message, request, reply, cancel, locate, located, close, error, HasStatus, Fits}
use Rattle.cdr_core.specs.Lists.{tagged_fields, FitsTagged, context_fields, FitsContext}
use Rattle.giop_messages.specs.Layout.{profiles_fields, target_fields, contexts_fields, body_fields}
use Rattle.giop_messages.specs.Spelling.{all_fields, spelled}
use Rattle.giop_messages.specs.Reading.{ReadsIn}
use Rattle.giop_messages.specs.Ranges.{HasTag, HasId, TargetInRange, InRange}
use Rattle.giop_messages.proofs.LengthLaws.{length-spelled_message}
use Rattle.giop_messages.proofs.PutLaws.{room_first, room_after, each_in_room, few_tagged, few_contexts, text_fits}
use Rattle.giop_messages.proofs.ReadingLaws.{spelled_reads}

-- it holds of the first items
abbrev pub EachTo : {X : Type 0} → (X → Type 0) → ℕ → List X → Type 0
EachTo {X} P n xs = (k : ℕ) (d : X) → k < n → P (get_or xs k d)

pub each_next : {X : Type 0} (P : X → Type 0) (xs : List X) (n : ℕ) (x : X) → n < length xs → x ≡ get_or xs n x → EachTo P n xs → P x → EachTo P (n + 1) xs
each_next {X} P xs n x less is so_far here k d below =
    ⊎_elim (λ lt. so_far k d lt)
    (λ le. let e : k ≡ n = omega arith in rw e (subst P (is ∙ get_or_default xs n x d less) here))
    (cases_lt k n)

-- ---- parts

tagged_fits : (place : ℕ) (t : Tagged) → HasTag t → fields_end place (tagged_fields t) < 2 ^ 32 → FitsTagged t
tagged_fits place t h room = (h, omega (arith, room))

context_fits : (place : ℕ) (c : Context) → HasId c → fields_end place (context_fields c) < 2 ^ 32 → FitsContext c
context_fits place c h room = (h, omega (arith, room))

contexts_fit : (place : ℕ) (xs : List Context) → All HasId xs → fields_end place (contexts_fields xs) < 2 ^ 32 → FitContexts xs
contexts_fit place xs each room =
    let count : List Field = number w32 (length xs) ∷ [] in
    let list : fields_end (fields_end place count) (flat_map context_fields xs) < 2 ^ 32 = room_after place count (flat_map context_fields xs) room in (
      omega (arith, list, few_contexts (fields_end place count) xs),
      each_in_room HasId FitsContext context_fields context_fits (fields_end place count) xs each list,
    )

target_fits : (place : ℕ) (t : Target) → TargetInRange t → fields_end place (target_fields t) < 2 ^ 32 → FitsTarget t
target_fits place (key bytes) h room = omega (arith, room)
target_fits place (profile t) h room = tagged_fits (fields_end place (number w16 1 ∷ [])) t h (room_after place (number w16 1 ∷ []) (tagged_fields t) room)
target_fits place (addressing index type_id profiles) h room =
    let form : List Field = number w16 2 ∷ number w32 index ∷ [] in
    let front : List Field = form ++ string_fields type_id ++ number w32 (length profiles) ∷ [] in
    let list : fields_end (fields_end place front) (flat_map tagged_fields profiles) < 2 ^ 32 = room_after place front (flat_map tagged_fields profiles) room in (
      h.0,
      record { no_nul = h.1; short = text_fits place form type_id (profiles_fields profiles) room },
      omega (arith, list, few_tagged (fields_end place front) profiles),
      each_in_room HasTag FitsTagged tagged_fields tagged_fits (fields_end place front) profiles h.2 list,
    )

-- ---- whole messages

pub message_fits : (m : Message) → InRange m → HasStatus m → fields_end 12 (all_fields m) < 2 ^ 32 → Fits m
message_fits (request r) h s room =
    let head : List Field = number w32 r.id ∷ number w8 r.flags ∷ run 1 (0 ∷ 0 ∷ 0 ∷ []) ∷ [] in
    let target : List Field = target_fields r.target in
    let name : List Field = string_fields r.operation in
    let contexts : List Field = contexts_fields r.contexts in
    let named : fields_end 12 (head ++ target ++ name ++ contexts) < 2 ^ 32 = room_first 12 (head ++ target ++ name ++ contexts) (body_fields r.body) room in
    let both : fields_end 12 (head ++ target) < 2 ^ 32 = room_first 12 (head ++ target) name (room_first 12 (head ++ target ++ name) contexts named) in
    record {
      id = h.0;
      flags = h.1;
      target = target_fits (fields_end 12 head) r.target h.2 (room_after 12 head target both);
      operation = record { no_nul = h.3; short = text_fits 12 (head ++ target) r.operation contexts named };
      contexts = contexts_fit (fields_end 12 (head ++ target ++ name)) r.contexts h.4 (room_after 12 (head ++ target ++ name) contexts named);
    }
message_fits (reply r) h s room =
    let head : List Field = number w32 r.id ∷ number w32 r.status ∷ [] in
    let contexts : List Field = contexts_fields r.contexts in
    let named : fields_end 12 (head ++ contexts) < 2 ^ 32 = room_first 12 (head ++ contexts) (body_fields r.body) room in
    record {
      id = h.0;
      status = s;
      contexts = contexts_fit (fields_end 12 head) r.contexts h.1 (room_after 12 head contexts named);
    }
message_fits (cancel id) h s room = h
message_fits (locate l) h s room =
    let head : List Field = number w32 l.id ∷ [] in
    let target : List Field = target_fields l.target in
    let named : fields_end 12 (head ++ target) < 2 ^ 32 = room_first 12 (head ++ target) [] room in
    record { id = h.0; target = target_fits (fields_end 12 head) l.target h.1 (room_after 12 head target named) }
message_fits (located l) h s room = record { id = h.0; status = h.1 }
message_fits close h s room = tt
message_fits error h s room = tt

-- bytes that spell a message of the program are read as that message
pub reads_put : (r : Result (Unit {0}) NoMemory) (order : Order) (m : Message) (bytes : List ℕ) → InRange m → HasStatus m → length (spelled order m) ≤ MAX_MESSAGE
    → OnOk r (bytes ≡ spelled order m) → OnOk r (ReadsIn order m bytes)
reads_put (Ok x) order m bytes h s short e =
    let room : fields_end 12 (all_fields m) ≤ MAX_MESSAGE = omega (arith, short, length-spelled_message order m) in
    subst (λ (b : List ℕ). ReadsIn order m b) (sym e)
    (spelled_reads order m (message_fits m h s (omega (arith, room))) (omega (arith, room, fields_end-is order 12 (all_fields m))))
reads_put (Err x) order m bytes h s short e = tt
