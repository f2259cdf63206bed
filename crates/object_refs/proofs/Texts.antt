-- Stringified references: what is read is what the text means, and what it means is read.
use Rattle.std.proofs.Common.{◌≡◌, ℕ, ◌+◌, ◌<◌, true, List, ◌++◌, length, take, drop, map}
use Rattle.std.proofs.Common.{Result, Ok, Err, inl, inr, refl, sym, ap, ◌∙◌, arith}
use Rattle.std.specs.Char.{to_ascii_lowercase}
use Rattle.std.specs.Str.{bytes_eq}
use Rattle.std.proofs.lemmas.List.{take-append-drop, take_at, drop_at, length-map}
use Rattle.std.proofs.lemmas.Slice.Eq.{bytes_eq-Decides}
use Rattle.cdr_core.specs.Cursor.{AreBytes}
use Rattle.hex.specs.Hex.{decode_of}
use Rattle.hex.specs.declared.error.FromHexError.{FromHexError}
use Rattle.hex.specs.declared.error.FromHexError.TheVariants.{InvalidHexCharacter}
use Rattle.hex.proofs.HexLemmas.{decode_of-ok, decode_of-err}
use Rattle.object_refs.specs.Reference.{Reference}
use Rattle.object_refs.specs.References.{lower_prefix, IsReference, digits_of, decoded, reference_in, reference_of}
use Rattle.object_refs.specs.Laws.{IsExactly}
use Rattle.cdr_core.proofs.CallerLemmas.{ok_is, bind_ok}
use Rattle.object_refs.proofs.Steps.{passed}
use Rattle.object_refs.proofs.Wholes.{encapsulated_exact}

pub decoded_ok : (len : ℕ) (r : Result (List ℕ) FromHexError) (bytes : List ℕ) → decoded len r ≡ Ok bytes → r ≡ Ok bytes
decoded_ok len (Ok b) bytes e = let h : b ≡ bytes = ok_is b bytes e in rw h refl
decoded_ok len (Err f) bytes e = absurd cc

-- the index of a bad digit is below the number of digits
pub bad_within : (digits : List ℕ) (digit index : ℕ) → decode_of digits ≡ Err (InvalidHexCharacter digit index)
    → index < length digits
bad_within digits digit index e =
    elim (decode_of-err digits (InvalidHexCharacter digit index) e) [
      | inl odd ↦ let h = odd.1 in absurd cc
      | inr bad ↦ let h = bad.1 in let is : index ≡ 0 + bad.0 = cc in omega (arith, is, bad.2)
    ]

pub reference_found : (text : List ℕ) (r : Reference) → reference_of text ≡ Ok r → IsReference r text
unfolding reference_of digits_of
reference_found text r e =
    let digits = bind_ok (digits_of text) _ r e in
    let bytes = bind_ok (decoded (length text) (decode_of digits.0)) _ r digits.2 in
    let g = passed (bytes_eq (map to_ascii_lowercase (take 4 text)) lower_prefix) (drop 4 text) digits.0 _ digits.1 in
    let prefix : map to_ascii_lowercase (take 4 text) ≡ lower_prefix = (bytes_eq-Decides _ _).0 g.0 in
    let read = decoded_ok (length text) (decode_of digits.0) bytes.0 bytes.1 in
    let small : AreBytes bytes.0 = (decode_of-ok digits.0 bytes.0 read).3 in
    record {
      prefix = take 4 text;
      digits = digits.0;
      bytes = bytes.0;
      parts = sym (take-append-drop 4 text) ∙ ap (λ (x : List ℕ). take 4 text ++ x) g.1;
      is_ior = prefix;
      decoded = read;
      encapsulated = (encapsulated_exact bytes.0 small r).0 bytes.2;
    }

pub reference_again : (text : List ℕ) (r : Reference) → IsReference r text → reference_of text ≡ Ok r
unfolding reference_of digits_of
reference_again text r h =
    let len : length h.prefix ≡ 4 = sym (length-map h.prefix to_ascii_lowercase) ∙ ap length h.is_ior in
    let front : take 4 text ≡ h.prefix = ap (take 4) h.parts ∙ take_at h.prefix h.digits 4 len in
    let rest : drop 4 text ≡ h.digits = ap (drop 4) h.parts ∙ drop_at h.prefix h.digits 4 len in
    let same : bytes_eq (map to_ascii_lowercase h.prefix) lower_prefix ≡ true = (bytes_eq-Decides _ _).1 h.is_ior in
    let small : AreBytes h.bytes = (decode_of-ok h.digits h.bytes h.decoded).3 in
    let read : reference_in h.bytes ≡ Ok r = (encapsulated_exact h.bytes small r).1 h.encapsulated in
    rw (front, rest, same, h.decoded) read

pub references_exact : (text : List ℕ) → IsExactly (reference_of text) (λ r. IsReference r text)
references_exact text r = (λ e. reference_found text r e, λ h. reference_again text r h)
