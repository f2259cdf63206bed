-- Where fields end, in numbers that stand still.
use Rattle.std.proofs.Common.{◌≡◌, ℕ, ◌+◌, ◌-◌, ◌^◌, ◌<◌, ◌≤◌, List, [], ◌∷◌, ◌++◌, length, take, get_or, refl, sym, ap, subst, ◌∙◌, inl, inr, lit<, arith, length-append}
use Rattle.std.proofs.Math.Nat.{eq-or-lt_of_le}
use Rattle.std.proofs.lemmas.List.{append-nil}
use Rattle.std.specs.Int.{w16, w32}
use Rattle.std.specs.List.{flat_map}
use Rattle.orb_base.specs.declared.order.Order.{Order}
use Rattle.cdr_core.specs.Alignment.{pad_len}
use Rattle.cdr_core.specs.Field.{Field, number, run, fields_end, number_bytes}
use Rattle.cdr_core.specs.Spelling.{fields_bytes}
use Rattle.cdr_core.proofs.CallerLemmas.{fields_more, all_of, fields_end-append, fields_end-is, length-number_bytes}
use Rattle.cdr_core.proofs.Spelled.{pad_one}
use Rattle.giop_messages.specs.Message.{Message, Locate, Located, cancel, locate, located, close, error}
use Rattle.giop_messages.specs.Layout.{target_fields}
use Rattle.giop_messages.specs.Spelling.{spelled, all_fields}
use Rattle.giop_messages.specs.Lengths.{held, Ends}

pub ends_then : (a b c : ℕ) (f g : List Field) → Ends a f b → Ends b g c → Ends a (f ++ g) c
ends_then a b c f g p q place from = q (fields_end place f) (p place from) ∙ ap held (sym (fields_end-append place f g))

pub ends_same : (a b : ℕ) (f g : List Field) → f ≡ g → Ends a f b → Ends a g b
ends_same a b f g e p = let P : List Field → Type 0 = λ fs. Ends a fs b in subst P e p

held_more : (a place pa pp n r : ℕ) → (a ≡ place → pa ≡ pp) → a ≡ held place → r ≡ held (a + pa + n) → r ≡ held (place + pp + n)
held_more a place pa pp n r same from e =
    let below : held place ≤ place = omega arith in
    elim (eq-or-lt_of_le below) [ inl h ↦ let q : pa ≡ pp = same (from ∙ h) in omega arith | inr h ↦ omega arith ]

-- bytes after their pad
pub ends_run : (a size n r : ℕ) (bytes : List ℕ) → length bytes ≡ n → r ≡ held (a + pad_len size a + n) → Ends a (run size bytes ∷ []) r
ends_run a size n r bytes len e place from = rw len (held_more a place (pad_len size a) (pad_len size place) n r (ap (λ (p : ℕ). pad_len size p)) from e)

pub ends_u16 : (a r n : ℕ) → r ≡ held (a + pad_len 2 a + 2) → Ends a (number w16 n ∷ []) r
ends_u16 a r n e place from = held_more a place (pad_len 2 a) (pad_len 2 place) 2 r (ap (λ (p : ℕ). pad_len 2 p)) from e

-- a text and its NUL
pub ends_nul : (a r : ℕ) (text : List ℕ) → Ends a (run 1 text ∷ run 1 (0 ∷ []) ∷ []) r → Ends a (run 1 (text ++ 0 ∷ []) ∷ []) r
ends_nul a r text p place from =
    p place from ∙ ap held (omega (arith, length-append text (0 ∷ []), pad_one place, pad_one (place + pad_len 1 place + length text)))

-- one item more
pub ends_next : {X : Type 0} (f : X → List Field) (a b c : ℕ) (xs : List X) (i : ℕ) (x : X) → i < length xs → x ≡ get_or xs i x
    → Ends a (flat_map f (take i xs)) b → Ends b (f x) c → Ends a (flat_map f (take (i + 1) xs)) c
ends_next f a b c xs i x h is p q =
    ends_same a c (flat_map f (take i xs) ++ f x) (flat_map f (take (i + 1) xs)) (sym (fields_more f xs i x h is)) (ends_then a b c (flat_map f (take i xs)) (f x) p q)

pub ends_all : {X : Type 0} (f : X → List Field) (a b : ℕ) (xs : List X) (i : ℕ) → length xs ≤ i → i ≤ length xs
    → Ends a (flat_map f (take i xs)) b → Ends a (flat_map f xs) b
ends_all {X} f a b xs i low high p = ends_same a b (flat_map f (take i xs)) (flat_map f xs) (ap (λ (ys : List X). flat_map f ys) (all_of xs i low high)) p

-- a whole message ends where its fields do
pub length-spelled_message : (order : Order) (message : Message) → length (spelled order message) ≡ fields_end 12 (all_fields message)
length-spelled_message order message =
    let inner : List ℕ = fields_bytes order 12 (all_fields message) in
    let size : List ℕ = number_bytes order w32 (length inner) in
    omega (arith, length-append size inner, length-number_bytes order w32 (length inner), fields_end-is order 12 (all_fields message))

pub length_is : (order : Order) (message : Message) (n : ℕ) → Ends 12 (all_fields message) n → n ≡ held (length (spelled order message))
length_is order message n p = p 12 refl ∙ ap held (sym (length-spelled_message order message))

-- fields of fixed length, from a place that does not stand still
pub ends_known : (a b : ℕ) (f : List Field) → a < 2 ^ 64 - 1 → b ≡ held (fields_end a f) → Ends a f b
ends_known a b f small e place from =
    let same : a ≡ place = omega arith in
    e ∙ ap (λ (p : ℕ). held (fields_end p f)) same

pub cancel_len : (order : Order) (id : ℕ) → 16 ≡ held (length (spelled order (cancel id)))
cancel_len order id = length_is order (cancel id) 16 (ends_known 12 16 (number w32 id ∷ []) (lit< tt) refl)

pub locate_len : (order : Order) (l : Locate) (n : ℕ) → Ends 16 (target_fields l.target) n → n ≡ held (length (spelled order (locate l)))
locate_len order l n p =
    let named : List Field = number w32 l.id ∷ target_fields l.target in
    length_is order (locate l) n (ends_same 12 n named (all_fields (locate l)) (sym (append-nil named))
    (ends_then 12 16 n (number w32 l.id ∷ []) (target_fields l.target) (ends_known 12 16 (number w32 l.id ∷ []) (lit< tt) refl) p))

pub located_len : (order : Order) (l : Located) → 20 ≡ held (length (spelled order (located l)))
located_len order l = length_is order (located l) 20 (ends_known 12 20 (number w32 l.id ∷ number w32 l.status ∷ []) (lit< tt) refl)

pub close_len : (order : Order) → 12 ≡ held (length (spelled order close))
close_len order = length_is order close 12 (ends_known 12 12 [] (lit< tt) refl)

pub error_len : (order : Order) → 12 ≡ held (length (spelled order error))
error_len order = length_is order error 12 (ends_known 12 12 [] (lit< tt) refl)
