-- Texts: a fault that is given is the first one, and the first one is given.
use Rattle.std.proofs.Common.{◌≡◌, ℕ, ◌+◌, ◌-◌, ◌<◌, ◌%◌, true, false, cond, eqb, List, ◌∷◌, ◌++◌, length, take, drop, map, get_or}
use Rattle.std.proofs.Common.{Option, Some, None, Result, Ok, Err, ◌⊎◌, inl, inr, refl, sym, ap, subst, ◌∙◌, arith}
use Rattle.std.specs.Char.{to_ascii_lowercase}
use Rattle.std.specs.List.{AllPass}
use Rattle.std.specs.Str.{bytes_eq}
use Rattle.std.proofs.lemmas.Bool.{cases_Bool, cases_lt, eqb-true}
use Rattle.std.proofs.lemmas.List.{take-append-drop, take_at, drop_at, length-map, length-take, get_or-take}
use Rattle.std.proofs.lemmas.Slice.Eq.{bytes_eq-Decides}
use Rattle.cdr_core.specs.Cursor.{AreBytes}
use Rattle.cdr_core.proofs.CallerLemmas.{bind_err, ok_is}
use Rattle.hex.specs.Hex.{decode_of, is_hex_digit}
use Rattle.hex.specs.declared.error.FromHexError.{FromHexError}
use Rattle.hex.specs.declared.error.FromHexError.TheVariants.{InvalidHexCharacter, OddLength}
use Rattle.hex.proofs.HexLemmas.{decode_of-ok, decode_of-err, decode_of-odd}
use Rattle.percent_encoding.specs.Percent.{percent_decode}
use Rattle.object_refs.specs.declared.fault.RefFault.{RefFault}
use Rattle.object_refs.specs.declared.fault.RefCause.{RefCause}
use Rattle.object_refs.specs.declared.fault.RefCause.TheVariants.{NoPrefix, OddHex, BadHex, BadVersion, BadHost, BadPort, BadEscape}
use Rattle.object_refs.specs.Reference.{Reference, Location}
use Rattle.object_refs.specs.References.{lower_prefix, digits_of, digits_fault, decoded, reference_in, reference_of}
use Rattle.object_refs.specs.Locations.{version_part, colon, slash, is_escaped}
use Rattle.object_refs.specs.LocationReading.{part, behind, behind_protocol, host_of, port_of, port_at, key_of, location_of}
use Rattle.object_refs.specs.Laws.{RefusesExactly}
use Rattle.object_refs.specs.Reading.{Read, fault}
use Rattle.object_refs.specs.RefusingTexts.{IsPrefixed, HasBadDigit, RefusesDigits, RefusesReference, IsUrl, Hosts, Ports}
use Rattle.object_refs.specs.RefusingTexts.{place_in, RefusesBehind, RefusesLocation}
use Rattle.object_refs.proofs.Steps.{passed, failed, none_of, some_none}
use Rattle.object_refs.proofs.Firsts.{behind_found, behind_again}
use Rattle.object_refs.proofs.Located.{part_ok, protocol_found, protocol_again, host_found, host_again, port_of_found, port_of_again}
use Rattle.object_refs.proofs.Texts.{decoded_ok}
use Rattle.object_refs.proofs.Refused.{reference_refused, reference_refuses}

abbrev err : {A : Type 0} → RefFault → Read A
err f = Err f

-- ---- stringified references

prefixed : (text digits : List ℕ) → digits_of text ≡ Ok digits → IsPrefixed text digits
unfolding digits_of
prefixed text digits e =
    let g = passed (bytes_eq (map to_ascii_lowercase (take 4 text)) lower_prefix) (drop 4 text) digits _ e in
    record {
      prefix = take 4 text;
      parts = sym (take-append-drop 4 text) ∙ ap (λ (x : List ℕ). take 4 text ++ x) g.1;
      is_ior = (bytes_eq-Decides _ _).0 g.0;
    }

prefix_read : (text digits : List ℕ) → IsPrefixed text digits → digits_of text ≡ Ok digits
unfolding digits_of
prefix_read text digits h =
    let len : length h.prefix ≡ 4 = sym (length-map h.prefix to_ascii_lowercase) ∙ ap length h.is_ior in
    let front : take 4 text ≡ h.prefix = ap (take 4) h.parts ∙ take_at h.prefix digits 4 len in
    let rest : drop 4 text ≡ digits = ap (drop 4) h.parts ∙ drop_at h.prefix digits 4 len in
    let same : bytes_eq (map to_ascii_lowercase h.prefix) lower_prefix ≡ true = (bytes_eq-Decides _ _).1 h.is_ior in
    rw (front, rest, same) refl

unprefixed : (text : List ℕ) (f : RefFault) → digits_of text ≡ Err f → ((digits : List ℕ) → ¬ IsPrefixed text digits) × (f ≡ fault NoPrefix 0)
unfolding digits_of
unprefixed text f e =
    let g = failed (bytes_eq (map to_ascii_lowercase (take 4 text)) lower_prefix) (drop 4 text) (fault NoPrefix 0) f e in
    (λ digits h. refuted text digits f e (prefix_read text digits h), g.1)
  where
    refuted : (text digits : List ℕ) (f : RefFault) → digits_of text ≡ Err f → digits_of text ≡ Ok digits → ⊥
    refuted text digits f e h = absurd cc

no_prefix : (text : List ℕ) (r : Read (List ℕ)) → ((digits : List ℕ) → r ≡ Ok digits → ⊥) → ((f : RefFault) → r ≡ Err f → f ≡ fault NoPrefix 0)
    → r ≡ Err (fault NoPrefix 0)
no_prefix text (Ok x) never is = absurd (never x refl)
no_prefix text (Err f) never is = ap err (is f refl)

-- no bad digit is before a first one
none_earlier : (digits : List ℕ) (i j : ℕ) → HasBadDigit digits i → HasBadDigit digits j → i < j → ⊥
none_earlier digits i j h k lt =
    let short : i < length (take j digits) = omega (arith, length-take j digits, h.within, k.within, lt) in
    let good : is_hex_digit (get_or (take j digits) i 0) ≡ true = k.before i 0 short in
    let there : is_hex_digit (get_or digits i 0) ≡ true = rw (get_or-take j digits i 0 lt) at good in
    let bad : is_hex_digit (get_or digits i 0) ≡ false = h.bad in
    absurd cc

-- two first bad digits are one
one_bad : (digits : List ℕ) (i j : ℕ) → HasBadDigit digits i → HasBadDigit digits j → i ≡ j
one_bad digits i j h k =
    elim (cases_lt i j) [
      | inl lt ↦ absurd (none_earlier digits i j h k lt)
      | inr le ↦ elim (cases_lt j i) [ inl lt ↦ absurd (none_earlier digits j i k h lt) | inr ge ↦ omega arith ]
    ]

cases_odd : (n : ℕ) → (n % 2 ≡ 1) ⊎ (n % 2 ≡ 0)
cases_odd n = elim (cases_lt (n % 2) 1) [ inl lt ↦ inr (omega arith) | inr le ↦ inl (omega arith) ]

is_even : (digits : List ℕ) (x : FromHexError) (k : ℕ) → decode_of digits ≡ Err x → x ≡ InvalidHexCharacter (get_or digits k 0) (0 + k) → length digits % 2 ≡ 0
is_even digits x k is named =
    elim (cases_odd (length digits)) [
      | inl odd ↦ let other = decode_of-odd digits odd in absurd cc
      | inr even ↦ even
    ]

same_fault : (f g : RefFault) → err {A = List ℕ} f ≡ Err g → g ≡ f
same_fault f g e = cc

decoded_refused : (len : ℕ) (digits : List ℕ) (r : Result (List ℕ) FromHexError) (f : RefFault) → decode_of digits ≡ r → decoded len r ≡ Err f → RefusesDigits len digits f
decoded_refused len digits (Ok bytes) f is e = absurd cc
decoded_refused len digits (Err x) f is e =
    elim (decode_of-err digits x is) [
      | inl odd ↦ inl (odd.0, same_fault (digits_fault len x) f e ∙ ap (digits_fault len) odd.1)
      | inr bad ↦
          let even : length digits % 2 ≡ 0 = is_even digits x bad.0 is bad.1 in
          inr (inl (
            even,
            bad.0,
            record { within = bad.2; bad = bad.3; before = bad.4 },
            same_fault (digits_fault len x) f e ∙ ap (digits_fault len) bad.1 ∙ ap (λ (n : ℕ). fault BadHex (n + 4)) (omega arith),
          ))
    ]

bad_told : (len : ℕ) (digits : List ℕ) (index : ℕ) (r : Result (List ℕ) FromHexError) → decode_of digits ≡ r → length digits % 2 ≡ 0 → HasBadDigit digits index
    → decoded len r ≡ Err (fault BadHex (index + 4))
bad_told len digits index (Ok bytes) is even h =
    let all = (decode_of-ok digits bytes is).1 in
    let good : is_hex_digit (get_or digits index 0) ≡ true = all index 0 h.within in
    let bad : is_hex_digit (get_or digits index 0) ≡ false = h.bad in
    absurd cc
bad_told len digits index (Err x) is even h =
    elim (decode_of-err digits x is) [
      | inl odd ↦ let no = odd.0 in absurd (omega (arith, even, no))
      | inr bad ↦
          let same : bad.0 ≡ index = one_bad digits bad.0 index (record { within = bad.2; bad = bad.3; before = bad.4 }) h in
          ap (λ (y : FromHexError). err (digits_fault len y)) bad.1 ∙ ap (λ (n : ℕ). err (fault BadHex (n + 4))) (omega (arith, same))
    ]

pub reference_text_refused : (text : List ℕ) (f : RefFault) → reference_of text ≡ Err f → RefusesReference text f
unfolding reference_of
reference_text_refused text f e =
    elim (bind_err (digits_of text) _ f e) [
      | inl a ↦ inl (unprefixed text f a)
      | inr a ↦
          let p = prefixed text a.0 a.1 in
          elim (bind_err (decoded (length text) (decode_of a.0)) _ f a.2) [
            | inl b ↦ inr (a.0, p, decoded_refused (length text) a.0 (decode_of a.0) f refl b)
            | inr b ↦
                let read = decoded_ok (length text) (decode_of a.0) b.0 b.1 in
                let small : AreBytes b.0 = (decode_of-ok a.0 b.0 read).3 in
                inr (a.0, p, inr (inr (b.0, read, reference_refused b.0 f small b.2)))
          ]
    ]

pub reference_text_told : (text : List ℕ) (f : RefFault) → RefusesReference text f → reference_of text ≡ Err f
unfolding reference_of
reference_text_told text f (inl (never, is)) =
    rw (no_prefix text (digits_of text) (λ digits e. never digits (prefixed text digits e)) (λ g e. (unprefixed text g e).1)) (ap err (sym is))
reference_text_told text f (inr (digits, p, inl (odd, is))) =
    rw (prefix_read text digits p, decode_of-odd digits odd) (ap err (sym is))
reference_text_told text f (inr (digits, p, inr (inl (even, index, bad, is)))) =
    rw (prefix_read text digits p, bad_told (length text) digits index (decode_of digits) refl even bad) (ap err (sym is))
reference_text_told text f (inr (digits, p, inr (inr (bytes, read, h)))) =
    rw (prefix_read text digits p, read) (reference_refuses bytes f h)

pub references_refuse : (text : List ℕ) → RefusesExactly (reference_of text) (RefusesReference text)
references_refuse text f = (λ e. reference_text_refused text f e, λ h. reference_text_told text f h)

-- ---- object URLs

part_err : {A : Type 0} (cause : RefCause) (text rest : List ℕ) (o : Option A) (f : RefFault) → part cause text rest o ≡ Err f
    → (o ≡ None) × (f ≡ fault cause (place_in text rest))
part_err cause text rest (Some x) f e = absurd cc
part_err cause text rest None f e = (refl, cc)

url_read : (text rest : List ℕ) → IsUrl text rest → behind_protocol text ≡ Some rest
url_read text rest h = rw h.2 (protocol_again h.0 rest h.1)

hosts_read : (address : List ℕ) (x : List ℕ × ℕ × List ℕ) → Hosts address x → host_of address ≡ Some x
hosts_read address x h = rw h.2 (host_again x.0 x.1 x.2 h.0 h.1)

ports_read : (rest : List ℕ) (x : ℕ × List ℕ) → Ports rest x → port_of rest ≡ Some x
ports_read rest x h = rw h.2 (port_of_again h.0 x.1 x.0 h.1)

no_key : (text : List ℕ) → key_of text ≡ None → is_escaped text ≡ false
unfolding key_of
no_key text e = elim (cases_Bool (is_escaped text)) [ inl is ↦ absurd (let none = rw is at e in cc) | inr not ↦ not ]

key_none : (text : List ℕ) → is_escaped text ≡ false → key_of text ≡ None
unfolding key_of
key_none text e = rw e refl

-- what is after the host and the port
behind_refused : (text : List ℕ) (end : ℕ) (rest : List ℕ) (f : RefFault) → (end ≡ colon) ⊎ (end ≡ slash)
    → (port_at text end rest ≡ Err f) ⊎ ((x : ℕ × List ℕ) × (port_at text end rest ≡ Ok x) × (part BadEscape text x.1 (key_of x.1) ≡ Err f))
    → RefusesBehind text end rest f
unfolding port_at
behind_refused text end rest f (inl is) (inl e) =
    let p = part_err BadPort text rest (port_of rest) f (rw is at e) in
    inl (is, λ x h. some_none (port_of rest) x p.0 (ports_read rest x h), p.1)
behind_refused text end rest f (inl is) (inr (x, e, h)) =
    let port = port_of_found rest x (part_ok BadPort text rest (port_of rest) x (rw is at e)) in
    let k = part_err BadEscape text x.1 (key_of x.1) f h in
    inr (inl (is, x, port, no_key x.1 k.0, k.1))
behind_refused text end rest f (inr is) (inl e) = let no = rw is at e in absurd cc
behind_refused text end rest f (inr is) (inr (x, e, h)) =
    let there : (2809, rest) ≡ x = ok_is (2809, rest) x (rw is at e) in
    let same : rest ≡ x.1 = ap (λ (y : ℕ × List ℕ). y.1) there in
    let k = part_err BadEscape text x.1 (key_of x.1) f h in
    inr (inr (is, ap is_escaped same ∙ no_key x.1 k.0, k.1 ∙ ap (λ (r : List ℕ). fault BadEscape (place_in text r)) (sym same)))

pub location_refused : (text : List ℕ) (f : RefFault) → location_of text ≡ Err f → RefusesLocation text f
unfolding location_of
location_refused text f e =
    elim (bind_err (part NoPrefix text text (behind_protocol text)) _ f e) [
      | inl a ↦
          let p = part_err NoPrefix text text (behind_protocol text) f a in
          inl (λ rest h. some_none (behind_protocol text) rest p.0 (url_read text rest h), p.1 ∙ ap (fault NoPrefix) (omega arith))
      | inr a ↦
          let url : IsUrl text a.0 = protocol_found text a.0 (part_ok NoPrefix text text (behind_protocol text) a.0 a.1) in
          elim (bind_err (part BadVersion text a.0 (behind version_part a.0)) _ f a.2) [
            | inl b ↦
                let p = part_err BadVersion text a.0 (behind version_part a.0) f b in
                inr (a.0, url, inl (λ address h. some_none (behind version_part a.0) address p.0 (rw h (behind_again version_part address)), p.1))
            | inr b ↦
                let version = behind_found version_part a.0 b.0 (part_ok BadVersion text a.0 (behind version_part a.0) b.0 b.1) in
                elim (bind_err (part BadHost text b.0 (host_of b.0)) _ f b.2) [
                  | inl h ↦
                      let p = part_err BadHost text b.0 (host_of b.0) f h in
                      inr (a.0, url, inr (b.0, version, inl (λ x k. some_none (host_of b.0) x p.0 (hosts_read b.0 x k), p.1)))
                  | inr h ↦
                      let found = host_found b.0 h.0 (part_ok BadHost text b.0 (host_of b.0) h.0 h.1) in
                      let hosts : Hosts b.0 h.0 = (found.host, found.end, found.parts) in
                      let rest : (port_at text h.0.1 h.0.2 ≡ Err f)
                      ⊎ ((x : ℕ × List ℕ) × (port_at text h.0.1 h.0.2 ≡ Ok x) × (part BadEscape text x.1 (key_of x.1) ≡ Err f)) =
                      elim (bind_err (port_at text h.0.1 h.0.2) _ f h.2) [
                        | inl k ↦ inl k
                        | inr k ↦ elim (bind_err (part BadEscape text k.0.1 (key_of k.0.1)) _ f k.2) [
                          | inl m ↦ inr (k.0, k.1, m)
                          | inr m ↦ let no = m.2 in absurd cc
                        ]
                      ] in
                      inr (a.0, url, inr (b.0, version, inr (h.0, hosts, behind_refused text h.0.1 h.0.2 f found.end rest)))
                ]
          ]
    ]

pub location_told : (text : List ℕ) (f : RefFault) → RefusesLocation text f → location_of text ≡ Err f
unfolding location_of port_at
location_told text f (inl (never, is)) =
    rw (none_of (behind_protocol text) (λ rest e. never rest (protocol_found text rest e)))
    (ap (λ (n : ℕ). err (fault NoPrefix n)) (omega arith) ∙ ap err (sym is))
location_told text f (inr (rest, url, inl (never, is))) =
    rw (url_read text rest url, none_of (behind version_part rest) (λ address e. never address (behind_found version_part rest address e))) (ap err (sym is))
location_told text f (inr (rest, url, inr (address, version, inl (never, is)))) =
    let v : behind version_part rest ≡ Some address = rw version (behind_again version_part address) in
    let none = none_of (host_of address) (λ x e. let h = host_found address x e in never x (h.host, h.end, h.parts)) in
    rw (url_read text rest url, v, none) (ap err (sym is))
location_told text f (inr (rest, url, inr (address, version, inr (x, hosts, inl (end, never, is))))) =
    let v : behind version_part rest ≡ Some address = rw version (behind_again version_part address) in
    let none = none_of (port_of x.2) (λ y e. never y (port_of_found x.2 y e)) in
    rw (url_read text rest url, v, hosts_read address x hosts, end, none) (ap err (sym is))
location_told text f (inr (rest, url, inr (address, version, inr (x, hosts, inr (inl (end, y, port, bad, is)))))) =
    let v : behind version_part rest ≡ Some address = rw version (behind_again version_part address) in
    rw (url_read text rest url, v, hosts_read address x hosts, end, ports_read x.2 y port, key_none y.1 bad) (ap err (sym is))
location_told text f (inr (rest, url, inr (address, version, inr (x, hosts, inr (inr (end, bad, is)))))) =
    let v : behind version_part rest ≡ Some address = rw version (behind_again version_part address) in
    rw (url_read text rest url, v, hosts_read address x hosts, end, key_none x.2 bad) (ap err (sym is))

pub locations_refuse : (text : List ℕ) → RefusesExactly (location_of text) (RefusesLocation text)
locations_refuse text f = (λ e. location_refused text f e, λ h. location_told text f h)
