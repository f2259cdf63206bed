-- What is read asks of a place only what it is modulo 8: a value is aligned on 8 bytes at most.
use Rattle.std.proofs.Common.{◌≡◌, ℕ, zero, suc, ◌+◌, ◌%◌, Bool, true, false, cond, ltb, eqb, List, [], ◌∷◌, ◌++◌, length, take, drop, Option, Some, None, Ok, Err, refl, sym, subst, arith}
use Rattle.std.specs.Int.{Width, w8, w32, byte_len}
use Rattle.cdr_core.specs.Alignment.{pad_len}
use Rattle.cdr_core.specs.declared.fault.CdrFault.{CdrFault}
use Rattle.cdr_core.specs.Cursor.{Cursor, cursor, Reads, ahead}
use Rattle.cdr_core.specs.Sequence.{◌>>=◌}
use Rattle.cdr_core.specs.Reading.{piece_at, number_at, bool_at, count_at, octets_at, string_at, as_text, text_before_nul}
use Rattle.cdr_values.specs.Trees.{Size, size1, size2, size4, size8, wide, Scalar, boolean, char, unsigned, signed, enumeration, Kind, scalar, words, sequence, array, structure, union, Members, no_members, member, Cases, no_cases, case, Value, text, items, chosen, no_values, value, values_of}
use Rattle.cdr_values.specs.Choice.{choose}
use Rattle.cdr_values.specs.Reading.{as_read, label_at, scalar_at, value_at, tag_at, text_at, bounded_count_at, then_values, times, counted, then_member, read, read_members, read_chosen}

-- the cursor at another place
abbrev pub moved : ℕ → Cursor → Cursor
moved q c = cursor c.order q c.rest

-- both give the same, at places that are the same modulo 8, or neither gives anything
abbrev pub Alike : {A : Type 0} → Reads A → Reads A → Type 0
Alike (Ok x) (Ok y) = (q : ℕ) × (q % 8 ≡ x.1.place % 8) × (y ≡ (x.0, moved q x.1))
Alike (Ok x) (Err f) = ⊥
Alike (Err e) (Ok y) = ⊥
Alike (Err e) (Err f) = Unit {0}

-- a reading that asks of a place only what it is modulo 8
abbrev pub Turns : {A : Type 0} → (Cursor → Reads A) → Type 0
Turns f = (c : Cursor) (q : ℕ) → q % 8 ≡ c.place % 8 → Alike (f c) (f (moved q c))

bound_alike : {A B : Type 0} (r s : Reads A) (f g : A × Cursor → Reads B) → Alike r s
    → ((a : A) (c : Cursor) (q : ℕ) → q % 8 ≡ c.place % 8 → Alike (f (a, c)) (g (a, moved q c))) → Alike (r >>= f) (s >>= g)
bound_alike (Ok x) (Ok y) f g h more = subst (λ z. Alike (f x) (g z)) (sym h.2) (more x.0 x.1 h.0 h.1)
bound_alike (Ok x) (Err e) f g h more = absurd h
bound_alike (Err e) (Ok y) f g h more = absurd h
bound_alike (Err e) (Err k) f g h more = tt

-- ---- numbers

-- as many bytes of pad at places that are the same modulo 8
abbrev SamePad : ℕ → Type 0
SamePad size = (p q : ℕ) → q % 8 ≡ p % 8 → pad_len size q ≡ pad_len size p

pad1 : SamePad 1
pad1 p q e = omega (arith, e)

pad2 : SamePad 2
pad2 p q e = omega (arith, e)

pad4 : SamePad 4
pad4 p q e = omega (arith, e)

pad8 : SamePad 8
pad8 p q e = omega (arith, e)

guarded : {A : Type 0} (b : Bool) (e f : CdrFault) (a : A) (c : Cursor) (q : ℕ) → q % 8 ≡ c.place % 8 → Alike (cond b (Err e) (Ok (a, c))) (cond b (Err f) (Ok (a, moved q c)))
guarded true e f a c q h = tt
guarded false e f a c q h = (q, h, refl)

held : {A : Type 0} (b : Bool) (e f : CdrFault) (a : A) (c : Cursor) (q : ℕ) → q % 8 ≡ c.place % 8 → Alike (cond b (Ok (a, c)) (Err e)) (cond b (Ok (a, moved q c)) (Err f))
held true e f a c q h = (q, h, refl)
held false e f a c q h = tt

piece_turns : (size : ℕ) → SamePad size → Turns (piece_at size)
unfolding piece_at
piece_turns size same c q h =
    let n = pad_len size c.place in
    rw (same c.place q h) (guarded (ltb (length c.rest) (n + size)) _ _ (take size (drop n c.rest)) (ahead size (ahead n c)) (q + n + size) (omega (arith, h)))

number_turns : (w : Width) → SamePad (byte_len w) → Turns (number_at w)
unfolding number_at
number_turns w same c q h = bound_alike (piece_at (byte_len w) c) (piece_at (byte_len w) (moved q c)) _ _ (piece_turns (byte_len w) same c q h) (λ a d p k. (p, k, refl))

bool_turns : Turns bool_at
unfolding bool_at
bool_turns c q h = bound_alike (number_at w8 c) (number_at w8 (moved q c)) _ _ (number_turns w8 pad1 c q h) (λ a d p k. guarded (ltb 1 a) _ _ (eqb a 1) d p k)

count_turns : Turns count_at
unfolding count_at
count_turns c q h = bound_alike (number_at w32 c) (number_at w32 (moved q c)) _ _ (number_turns w32 pad4 c q h) (λ a d p k. guarded (ltb (length d.rest) a) _ _ a d p k)

octets_turn : Turns octets_at
unfolding octets_at
octets_turn c q h = bound_alike (count_at c) (count_at (moved q c)) _ _ (count_turns c q h) (λ a d p k. (p + a, omega (arith, k), refl))

text_alike : (o : Option (List ℕ)) (m n : ℕ) (d : Cursor) (p : ℕ) → p % 8 ≡ d.place % 8 → Alike (as_text m d o) (as_text n (moved p d) o)
text_alike (Some t) m n d p k = (p, k, refl)
text_alike None m n d p k = tt

string_turns : Turns string_at
unfolding string_at
string_turns c q h = bound_alike (octets_at c) (octets_at (moved q c)) _ _ (octets_turn c q h) (λ a d p k. text_alike (text_before_nul a) _ _ d p k)

-- ---- values

as_alike : {A B : Type 0} (f : A → B) (r s : Reads A) → Alike r s → Alike (as_read f r) (as_read f s)
as_alike f r s h = bound_alike r s _ _ h (λ a d p k. (p, k, refl))

label_turns : (len : ℕ) → Turns (label_at len)
unfolding label_at
label_turns len c q h = bound_alike (number_at w32 c) (number_at w32 (moved q c)) _ _ (number_turns w32 pad4 c q h) (λ a d p k. held (ltb a len) _ _ a d p k)

wide_pad : (s : Size) → SamePad (byte_len (wide s))
wide_pad size1 = pad1
wide_pad size2 = pad2
wide_pad size4 = pad4
wide_pad size8 = pad8

scalar_turns : (s : Scalar) → Turns (scalar_at s)
unfolding scalar_at
scalar_turns boolean c q h = as_alike _ (bool_at c) (bool_at (moved q c)) (bool_turns c q h)
scalar_turns char c q h = as_alike _ (number_at w8 c) (number_at w8 (moved q c)) (number_turns w8 pad1 c q h)
scalar_turns (unsigned s) c q h = as_alike _ (number_at (wide s) c) (number_at (wide s) (moved q c)) (number_turns (wide s) (wide_pad s) c q h)
scalar_turns (signed s) c q h = as_alike _ (number_at (wide s) c) (number_at (wide s) (moved q c)) (number_turns (wide s) (wide_pad s) c q h)
scalar_turns (enumeration name labels) c q h = as_alike _ (label_at (length labels) c) (label_at (length labels) (moved q c)) (label_turns (length labels) c q h)

tag_turns : (k : Kind) → Turns (tag_at k)
unfolding tag_at
tag_turns (scalar s) c q h = scalar_turns s c q h
tag_turns (words bound) c q h = tt
tag_turns (sequence k bound) c q h = tt
tag_turns (array k n) c q h = tt
tag_turns (structure name ms) c q h = tt
tag_turns (union name d cs) c q h = tt

bounded_text_turns : (bound : ℕ) → Turns (text_at bound)
unfolding text_at
bounded_text_turns bound c q h = bound_alike (string_at c) (string_at (moved q c)) _ _ (string_turns c q h) (λ a d p k. guarded _ _ _ a d p k)

bounded_count_turns : (bound : ℕ) → Turns (bounded_count_at bound)
unfolding bounded_count_at
bounded_count_turns bound c q h = bound_alike (count_at c) (count_at (moved q c)) _ _ (count_turns c q h) (λ a d p k. guarded _ _ _ a d p k)

times_turn : (one : Cursor → Reads Value) → Turns one → (n : ℕ) → Turns (times one n)
unfolding times
times_turn one turns zero c q h = (q, h, refl)
times_turn one turns (suc n) c q h =
    bound_alike (one c) (one (moved q c)) _ _ (turns c q h)
    (λ a d p k. as_alike (λ vs. (a ∷ []) ++ vs) (times one n d) (times one n (moved p d)) (times_turn one turns n d p k))

mutual
  unfolding read read_members read_chosen

  pub read_turns : (k : Kind) → Turns (read k)
  read_turns (scalar s) c q h = as_alike (value_at s) (scalar_at s c) (scalar_at s (moved q c)) (scalar_turns s c q h)
  read_turns (words bound) c q h = as_alike text (text_at bound c) (text_at bound (moved q c)) (bounded_text_turns bound c q h)
  read_turns (sequence k bound) c q h =
      as_alike (λ vs. items (values_of vs)) (bounded_count_at bound c >>= counted (read k)) (bounded_count_at bound (moved q c) >>= counted (read k))
      (bound_alike (bounded_count_at bound c) (bounded_count_at bound (moved q c)) (counted (read k)) (counted (read k)) (bounded_count_turns bound c q h)
      (λ a d p e. times_turn (read k) (read_turns k) a d p e))
  read_turns (array k n) c q h = as_alike (λ vs. items (values_of vs)) (times (read k) n c) (times (read k) n (moved q c)) (times_turn (read k) (read_turns k) n c q h)
  read_turns (structure name ms) c q h = as_alike (λ vs. items (values_of vs)) (read_members ms c) (read_members ms (moved q c)) (members_turn ms c q h)
  read_turns (union name t cs) c q h =
      bound_alike (tag_at t c) (tag_at t (moved q c)) (then_member cs (read_chosen cs)) (then_member cs (read_chosen cs)) (tag_turns t c q h)
      (λ a d p e. as_alike (chosen a) (read_chosen cs (choose a cs) d) (read_chosen cs (choose a cs) (moved p d)) (chosen_turns cs (choose a cs) d p e))

  members_turn : (ms : Members) → Turns (read_members ms)
  members_turn no_members c q h = (q, h, refl)
  members_turn (member name k ms) c q h =
      bound_alike (read k c) (read k (moved q c)) (then_values (read_members ms)) (then_values (read_members ms)) (read_turns k c q h)
      (λ a d p e. as_alike (λ vs. (a ∷ []) ++ vs) (read_members ms d) (read_members ms (moved p d)) (members_turn ms d p e))

  chosen_turns : (cs : Cases) (i : Option ℕ) → Turns (read_chosen cs i)
  chosen_turns cs None c q h = (q, h, refl)
  chosen_turns no_cases (Some i) c q h = (q, h, refl)
  chosen_turns (case labels is_default name k cs) (Some zero) c q h = as_alike (λ v. value v no_values) (read k c) (read k (moved q c)) (read_turns k c q h)
  chosen_turns (case labels is_default name k cs) (Some (suc i)) c q h = chosen_turns cs (Some i) c q h
