-- Basic values in a row: what is there is read, and what is read is there.
use Rattle.std.proofs.Common.{◌≡◌, ℕ, ◌≤◌, List, [], ◌++◌, length, Ok, refl, sym, ap, subst, ◌∙◌, arith}
use Rattle.std.specs.Int.{Width, w8, w16, w32, byte_len}
use Rattle.std.proofs.lemmas.List.{drop_at}
use Rattle.cdr_core.specs.Field.{Field}
use Rattle.cdr_core.specs.Cursor.{Cursor, AreBytes}
use Rattle.cdr_core.specs.Reading.{number_at, octets_at, string_at}
use Rattle.cdr_core.specs.Basic.{integer, octet_sequence, string, BasicValue, unsigned, truth, octets, text, type_of}
use Rattle.cdr_core.specs.Passing.{Spans, Passes}
use Rattle.cdr_core.specs.FirstFault.{Stands}
use Rattle.cdr_core.proofs.Parts.{AreBytes-drop, number_takes, number_reads}
use Rattle.cdr_core.proofs.Counts.{passes_of, octets_takes, octets_reads}
use Rattle.cdr_core.proofs.Values.{string_takes, string_reads}

pub octet_len : byte_len w8 ≤ 8
octet_len = omega arith

pub short_len : byte_len w16 ≤ 8
short_len = omega arith

pub long_len : byte_len w32 ≤ 8
long_len = omega arith

-- ---- cursors

-- what is after bytes are bytes
pub bytes_behind : (c d : Cursor) (fields : List Field) → AreBytes c.rest → Spans c d fields → AreBytes d.rest
bytes_behind c d fields fits p =
    let there : AreBytes (p.spelling ++ d.rest) = subst AreBytes p.parts fits in
    subst AreBytes (drop_at p.spelling d.rest (length p.spelling) refl)
    (AreBytes-drop (length p.spelling) (p.spelling ++ d.rest) there)

pub nothing : (c : Cursor) → Spans c c []
nothing c = record { spelling = []; parts = refl; spelled = refl; order = refl; place = omega arith }

-- between no fields one is where one was
pub same_cursor : (c d : Cursor) → Spans c d [] → c ≡ d
same_cursor c d p =
    let none : p.spelling ≡ [] = p.spelled in
    let order = sym p.order in
    let place : c.place ≡ d.place = omega (arith, p.place, ap length none) in
    let rest : c.rest ≡ d.rest = p.parts ∙ ap (λ (x : List ℕ). x ++ d.rest) none in
    λ i. record { order = order i; place = place i; rest = rest i }

-- ---- what is read stands there

pub number_stands : (w : Width) (c : Cursor) (x : ℕ × Cursor) → byte_len w ≤ 8 → AreBytes c.rest → number_at w c ≡ Ok x → Stands (integer w) c x.1
number_stands w c x s fits e =
    let t = number_takes w c x s fits e in (unsigned w x.0, refl, passes_of c x.1 (unsigned w x.0) t.fits t.spans)

pub octets_stand : (c : Cursor) (x : List ℕ × Cursor) → AreBytes c.rest → octets_at c ≡ Ok x → Stands octet_sequence c x.1
octets_stand c x fits e = let t = octets_takes c x fits e in (octets x.0, refl, passes_of c x.1 (octets x.0) t.fits t.spans)

pub string_stands : (c : Cursor) (x : List ℕ × Cursor) → AreBytes c.rest → string_at c ≡ Ok x → Stands string c x.1
string_stands c x fits e = (text x.0, refl, string_takes c x fits e)

-- ---- what stands there is read

same_width : (v w : Width) → integer v ≡ integer w → v ≡ w
same_width v w e = cc

number_of_value : (w : Width) (c d : Cursor) (v : BasicValue) → byte_len w ≤ 8 → type_of v ≡ integer w → Passes c d v → (n : ℕ) × (number_at w c ≡ Ok (n, d))
number_of_value w c d (unsigned u n) s e p =
    let q : Passes c d (unsigned w n) = subst (λ (x : Width). Passes c d (unsigned x n)) (same_width u w e) p in
    (n, number_reads w c d n s q.fits q.spans)
number_of_value w c d (truth b) s e p = absurd cc
number_of_value w c d (octets b) s e p = absurd cc
number_of_value w c d (text b) s e p = absurd cc

pub number_there : (w : Width) (c d : Cursor) → byte_len w ≤ 8 → Stands (integer w) c d → (n : ℕ) × (number_at w c ≡ Ok (n, d))
number_there w c d s h = number_of_value w c d h.0 s h.1 h.2

octets_of_value : (c d : Cursor) (v : BasicValue) → type_of v ≡ octet_sequence → Passes c d v → (x : List ℕ) × (octets_at c ≡ Ok (x, d))
octets_of_value c d (octets x) e p = (x, octets_reads c d x p.fits p.spans)
octets_of_value c d (unsigned u n) e p = absurd cc
octets_of_value c d (truth b) e p = absurd cc
octets_of_value c d (text b) e p = absurd cc

pub octets_there : (c d : Cursor) → Stands octet_sequence c d → (x : List ℕ) × (octets_at c ≡ Ok (x, d))
octets_there c d h = octets_of_value c d h.0 h.1 h.2

string_of_value : (c d : Cursor) (v : BasicValue) → type_of v ≡ string → Passes c d v → (x : List ℕ) × (string_at c ≡ Ok (x, d))
string_of_value c d (text x) e p = (x, string_reads c d x p.fits.0 p.fits.1 p.spans)
string_of_value c d (unsigned u n) e p = absurd cc
string_of_value c d (truth b) e p = absurd cc
string_of_value c d (octets b) e p = absurd cc

pub string_there : (c d : Cursor) → Stands string c d → (x : List ℕ) × (string_at c ≡ Ok (x, d))
string_there c d h = string_of_value c d h.0 h.1 h.2
