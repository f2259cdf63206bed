-- Object URLs: what is read is what the text names, and what the text names is read.
use Rattle.std.proofs.Common.{◌≡◌, ℕ, suc, ◌+◌, ◌^◌, ◌<◌, ◌≤◌, Bool, true, false, ◌&&◌, ◌||◌, eqb, leb}
use Rattle.std.proofs.lemmas.Option.{same_Some}
use Rattle.std.proofs.Common.{ltb, List, [], ◌∷◌, ◌++◌, length, take, drop, get_or, Option, Some, None, Ok, refl}
use Rattle.std.proofs.Common.{sym, ap, subst, ◌∙◌, ◌⊎◌, inl, inr, arith}
use Rattle.std.specs.Char.{is_ascii_digit}
use Rattle.std.specs.List.{list_all, position, position_or_len}
use Rattle.std.specs.Str.Parse.{digits_value}
use Rattle.std.proofs.lemmas.Bool.{and_parts, and_from, leb-true, le-leb, lt-ltb, ltb-true, eqb-true, ne_eqb}
use Rattle.std.proofs.lemmas.Bool.{cond-true}
use Rattle.percent_encoding.specs.Percent.{percent_decode}
use Rattle.object_refs.specs.declared.fault.RefCause.{RefCause}
use Rattle.object_refs.specs.Reference.{Location}
use Rattle.object_refs.specs.Locations.{scheme, iiop_protocol, short_protocol, version_part, colon, slash, ends_host}
use Rattle.object_refs.specs.Locations.{IsHost, IsPortNumber, IsPort, is_escaped, IsLocation}
use Rattle.object_refs.specs.LocationReading.{part, behind, or_else, behind_protocol, host_of_len, host_of}
use Rattle.object_refs.specs.LocationReading.{port_number, port_of_len, port_of, port_at, key_of, location_of}
use Rattle.object_refs.specs.Laws.{IsExactly}
use Rattle.cdr_core.proofs.CallerLemmas.{ok_is, bind_ok}
use Rattle.object_refs.specs.Reading.{Read}
use Rattle.object_refs.proofs.Steps.{passed_some, then_some}
use Rattle.object_refs.proofs.Firsts.{behind_found, behind_again, cut_found, cut_again, none_within}

abbrev pub done : {A : Type 0} → A → Read A
done x = Ok x

pub part_ok : {A : Type 0} (cause : RefCause) (text rest : List ℕ) (o : Option A) (x : A) → part cause text rest o ≡ done x
    → o ≡ Some x
part_ok cause text rest (Some y) x e = ap (λ z. Some z) (ok_is y x e)
part_ok cause text rest None x e = absurd cc

-- ---- the protocol

abbrev pub IsProtocol : List ℕ → Type 0
IsProtocol protocol = (protocol ≡ iiop_protocol) ⊎ (protocol ≡ short_protocol)

one_of : (a b : Option (List ℕ)) (x : List ℕ) → or_else a b ≡ Some x → (a ≡ Some x) ⊎ (b ≡ Some x)
one_of (Some y) b x e = inl e
one_of None b x e = inr e

pub protocol_found : (text rest : List ℕ) → behind_protocol text ≡ Some rest
    → (protocol : List ℕ) × IsProtocol protocol × (text ≡ scheme ++ (protocol ++ rest))
unfolding behind_protocol
protocol_found text rest e =
    let s = then_some (behind scheme text) (λ r. or_else (behind iiop_protocol r) (behind short_protocol r)) rest e in
    let parts = behind_found scheme text s.0 s.1 in
    elim (one_of (behind iiop_protocol s.0) (behind short_protocol s.0) rest s.2) [
      | inl h ↦
          (iiop_protocol, inl refl, parts ∙ ap (λ (x : List ℕ). scheme ++ x) (behind_found iiop_protocol s.0 rest h))
      | inr h ↦
          (short_protocol, inr refl, parts ∙ ap (λ (x : List ℕ). scheme ++ x) (behind_found short_protocol s.0 rest h))
    ]

not_iiop : (rest : List ℕ) → behind iiop_protocol (short_protocol ++ rest) ≡ None
unfolding behind
not_iiop rest = refl

pub protocol_again : (protocol rest : List ℕ) → IsProtocol protocol
    → behind_protocol (scheme ++ (protocol ++ rest)) ≡ Some rest
unfolding behind_protocol
protocol_again protocol rest (inl h) =
    rw (h, behind_again scheme (iiop_protocol ++ rest), behind_again iiop_protocol rest) refl
protocol_again protocol rest (inr h) =
    rw (h, behind_again scheme (short_protocol ++ rest), not_iiop rest, behind_again short_protocol rest) refl

-- ---- the host

abbrev pub Ends : ℕ → Type 0
Ends e = (e ≡ colon) ⊎ (e ≡ slash)

one_end : (a b : Bool) → (a || b) ≡ true → (a ≡ true) ⊎ (b ≡ true)
one_end true b e = inl refl
one_end false b e = inr e

ends_of : (e : ℕ) → (eqb e colon || eqb e slash) ≡ true → Ends e
ends_of e h =
    elim (one_end (eqb e colon) (eqb e slash) h) [
      | inl k ↦ inl (eqb-true e colon k)
      | inr k ↦ inr (eqb-true e slash k)
    ]

ends_so : (e : ℕ) → Ends e → ((eqb e colon || eqb e slash) ≡ true) × (ends_host e ≡ true)
ends_so e (inl h) = rw h (refl, refl)
ends_so e (inr h) = rw h (refl, refl)

-- a host, the byte that ends it, and what is after that
pub record Hosted (text : List ℕ) (x : List ℕ × ℕ × List ℕ) : Type 0 where
  pub host : IsHost x.0
  pub end : Ends x.1
  pub parts : text ≡ x.0 ++ x.1 ∷ x.2

pub host_found : (text : List ℕ) (x : List ℕ × ℕ × List ℕ) → host_of text ≡ Some x → Hosted text x
unfolding host_of host_of_len
host_found text x e =
    let n = then_some (position ends_host text) (host_of_len text) x e in
    let len : ℕ = n.0 in
    let cut = cut_found ends_host text len n.1 in
    let end : ℕ = get_or text len 0 in
    let g = passed_some (ltb 0 len && leb len 255 && (eqb end colon || eqb end slash))
    (take len text, end, drop (len + 1) text) x n.2 in
    let all = and_parts (ltb 0 len && leb len 255) (eqb end colon || eqb end slash) g.0 in
    let sizes = and_parts (ltb 0 len) (leb len 255) all.0 in
    let some : 0 < len = ltb-true _ _ sizes.0 in
    let few : len ≤ 255 = leb-true _ _ sizes.1 in
    subst (Hosted text) g.1 (record {
      host = record { some = omega (arith, some, cut.len); few = omega (arith, few, cut.len); plain = cut.none };
      end = ends_of end all.1;
      parts = cut.parts;
    })

at_end : (front : List ℕ) (e : ℕ) (rest : List ℕ) → get_or (front ++ e ∷ rest) (length front) 0 ≡ e
at_end [] e rest = refl
at_end (b ∷ front) e rest = at_end front e rest

front_of : (front : List ℕ) (e : ℕ) (rest : List ℕ) → take (length front) (front ++ e ∷ rest) ≡ front
front_of [] e rest = refl
front_of (b ∷ front) e rest = ap (λ (x : List ℕ). b ∷ x) (front_of front e rest)

rest_of : (front : List ℕ) (e : ℕ) (rest : List ℕ) → drop (length front + 1) (front ++ e ∷ rest) ≡ rest
rest_of [] e rest = refl
rest_of (b ∷ front) e rest =
    let one_more : length (b ∷ front) + 1 ≡ suc (length front + 1) = omega arith in
    rw one_more (rest_of front e rest)

pub host_again : (host : List ℕ) (e : ℕ) (rest : List ℕ) → IsHost host → Ends e
    → host_of (host ++ e ∷ rest) ≡ Some (host, e, rest)
unfolding host_of host_of_len
host_again host e rest h end =
    let ends = ends_so e end in
    let at = cut_again ends_host host e rest h.plain ends.1 in
    let test : (ltb 0 (length host) && leb (length host) 255 && (eqb e colon || eqb e slash)) ≡ true =
    and_from _ _ (and_from _ _ (lt-ltb _ _ h.some) (le-leb _ _ h.few)) ends.0 in
    rw (at, at_end host e rest, front_of host e rest, rest_of host e rest, test) refl

-- ---- the port

pub port_number_found : (digits : List ℕ) (port : ℕ) → port_number 5 digits ≡ Some port → IsPortNumber digits port
unfolding port_number
port_number_found digits port e =
    let v = digits_value 10 digits in
    let g =
    passed_some (leb (length digits) 5 && list_all is_ascii_digit digits && ltb 0 v && ltb v (2 ^ 16)) v port e in
    let a = and_parts (leb (length digits) 5 && list_all is_ascii_digit digits && ltb 0 v) (ltb v (2 ^ 16)) g.0 in
    let b = and_parts (leb (length digits) 5 && list_all is_ascii_digit digits) (ltb 0 v) a.0 in
    let d = and_parts (leb (length digits) 5) (list_all is_ascii_digit digits) b.0 in
    subst (IsPortNumber digits) g.1
    (record { few = leb-true _ _ d.0; decimal = d.1; value = refl; some = ltb-true _ _ b.1; small = ltb-true _ _ a.1 })

port_number_again : (digits : List ℕ) (port : ℕ) → IsPortNumber digits port → port_number 5 digits ≡ Some port
unfolding port_number
port_number_again digits port h =
    let v = digits_value 10 digits in
    let some : 0 < v = omega (arith, h.some, h.value) in
    let small : v < 2 ^ 16 = omega (arith, h.small, h.value) in
    let test : (leb (length digits) 5 && list_all is_ascii_digit digits && ltb 0 v && ltb v (2 ^ 16)) ≡ true =
    and_from _ _ (and_from _ _ (and_from _ _ (le-leb _ _ h.few) h.decimal) (lt-ltb _ _ some)) (lt-ltb _ _ small) in
    cond-true _ _ _ test ∙ ap (λ (n : ℕ). Some n) (sym h.value)

abbrev is_slash : ℕ → Bool
is_slash byte = eqb byte slash

pub port_of_found : (text : List ℕ) (x : ℕ × List ℕ) → port_of text ≡ Some x
    → (digits : List ℕ) × IsPortNumber digits x.0 × (text ≡ digits ++ slash ∷ x.1)
unfolding port_of port_of_len
port_of_found text x e =
    let n = then_some (position is_slash text) (port_of_len text) x e in
    let len : ℕ = n.0 in
    let cut = cut_found is_slash text len n.1 in
    let p = then_some (port_number 5 (take len text)) (λ port. Some (port, drop (len + 1) text)) x n.2 in
    let is = same_Some (p.0, drop (len + 1) text) x p.2 in
    let slash-is : get_or text len 0 ≡ slash = eqb-true _ _ cut.passes in
    let parts : text ≡ take len text ++ slash ∷ drop (len + 1) text =
    cut.parts ∙ ap (λ (b : ℕ). take len text ++ b ∷ drop (len + 1) text) slash-is in
    subst (λ (y : ℕ × List ℕ). (digits : List ℕ) × IsPortNumber digits y.0 × (text ≡ digits ++ slash ∷ y.1)) is
    (take len text, port_number_found (take len text) p.0 p.1, parts)

-- a digit is no slash
no_slash_len : (digits : List ℕ) → list_all is_ascii_digit digits ≡ true
    → position_or_len is_slash digits ≡ length digits
no_slash_len [] h = refl
no_slash_len (d ∷ digits) h =
    let k = and_parts (is_ascii_digit d) (list_all is_ascii_digit digits) h in
    let m = and_parts (leb 48 d) (leb d 57) k.0 in
    let least : 48 ≤ d = leb-true 48 d m.0 in
    let other : eqb d 47 ≡ false = ne_eqb d 47 (λ (e : d ≡ 47). omega arith) in
    let others = no_slash_len digits k.1 in
    rw (other, others) (omega arith)

no_slash : (digits : List ℕ) → list_all is_ascii_digit digits ≡ true → position is_slash digits ≡ None
no_slash digits h = none_within is_slash digits (no_slash_len digits h)

pub port_of_again : (digits rest : List ℕ) (port : ℕ) → IsPortNumber digits port
    → port_of (digits ++ slash ∷ rest) ≡ Some (port, rest)
unfolding port_of port_of_len
port_of_again digits rest port h =
    let at = cut_again is_slash digits slash rest (no_slash digits h.decimal) refl in
    rw (at, front_of digits slash rest, rest_of digits slash rest, port_number_again digits port h) refl

port_found : (text : List ℕ) (e : ℕ) (rest : List ℕ) (x : ℕ × List ℕ) → Ends e → port_at text e rest ≡ Ok x
    → (port_text : List ℕ) × IsPort port_text x.0 × (e ∷ rest ≡ port_text ++ slash ∷ x.1)
unfolding port_at
port_found text e rest x (inl h) read =
    let p = port_of_found rest x (part_ok _ text rest (port_of rest) x (rw h at read)) in
    (colon ∷ p.0, inr (p.0, refl, p.1), rw (h, ← p.2) refl)
port_found text e rest x (inr h) read =
    let is = ok_is (2809, rest) x (rw h at read) in
    subst (λ (y : ℕ × List ℕ). (port_text : List ℕ) × IsPort port_text y.0 × (e ∷ rest ≡ port_text ++ slash ∷ y.1)) is
    ([], inl (refl, refl), ap (λ (b : ℕ). b ∷ rest) h)

-- ---- whole texts

pub location_found : (text : List ℕ) (l : Location) → location_of text ≡ Ok l → IsLocation l text
unfolding location_of key_of
location_found text l e =
    let version = bind_ok (part _ text text (behind_protocol text)) _ l e in
    let address = bind_ok (part _ text version.0 (behind version_part version.0)) _ l version.2 in
    let host = bind_ok (part _ text address.0 (host_of address.0)) _ l address.2 in
    let port = bind_ok (port_at text host.0.1 host.0.2) _ l host.2 in
    let key = bind_ok (part _ text port.0.1 (key_of port.0.1)) _ l port.2 in
    let p = protocol_found text version.0 (part_ok _ text text (behind_protocol text) version.0 version.1) in
    let a : version.0 ≡ version_part ++ address.0 =
    behind_found version_part version.0 address.0
    (part_ok _ text version.0 (behind version_part version.0) address.0 address.1) in
    let h = host_found address.0 host.0 (part_ok _ text address.0 (host_of address.0) host.0 host.1) in
    let q = port_found text host.0.1 host.0.2 port.0 h.end port.1 in
    let k = passed_some (is_escaped port.0.1) (percent_decode port.0.1) key.0
    (part_ok _ text port.0.1 (key_of port.0.1) key.0 key.1) in
    let front = λ (x : List ℕ). scheme ++ (p.0 ++ x) in
    let parts : text ≡ scheme ++ (p.0 ++ (version_part ++ (host.0.0 ++ (q.0 ++ slash ∷ port.0.1)))) =
    p.2 ∙ ap front a ∙ ap (λ (x : List ℕ). front (version_part ++ x))
    (h.parts ∙ ap (λ (x : List ℕ). host.0.0 ++ x) q.2) in
    let is : record { host = host.0.0; port = port.0.0; key = key.0 } ≡ l = ok_is _ l key.2 in
    subst (λ (x : Location). IsLocation x text) is (record {
      protocol = p.0;
      port_text = q.0;
      key_text = port.0.1;
      parts = parts;
      is_iiop = p.1;
      host = h.host;
      port = q.1;
      key = (k.0, sym k.1);
    })

port_again : (l : Location) (port_text key_text : List ℕ) (address text : List ℕ) → IsHost l.host
    → IsPort port_text l.port → address ≡ l.host ++ (port_text ++ slash ∷ key_text)
    → (x : List ℕ × ℕ × List ℕ) × (host_of address ≡ Some x) × (x.0 ≡ l.host)
    × (port_at text x.1 x.2 ≡ Ok (l.port, key_text))
unfolding port_at
port_again l port_text key_text address text host (inl h) parts =
    let is : address ≡ l.host ++ slash ∷ key_text =
    parts ∙ ap (λ (x : List ℕ). l.host ++ (x ++ slash ∷ key_text)) h.0 in (
      (l.host, slash, key_text),
      rw is (host_again l.host slash key_text host (inr refl)),
      refl,
      ap (λ (n : ℕ). done {A = ℕ × List ℕ} (n, key_text)) (sym h.1),
    )
port_again l port_text key_text address text host (inr h) parts =
    let behind_host : List ℕ = h.0 ++ slash ∷ key_text in
    let is : address ≡ l.host ++ colon ∷ behind_host =
    parts ∙ ap (λ (x : List ℕ). l.host ++ (x ++ slash ∷ key_text)) h.1 in (
      (l.host, colon, behind_host),
      rw is (host_again l.host colon behind_host host (inl refl)),
      refl,
      rw (port_of_again h.0 key_text l.port h.2) refl,
    )

pub location_again : (text : List ℕ) (l : Location) → IsLocation l text → location_of text ≡ Ok l
unfolding location_of key_of
location_again text l h =
    let address : List ℕ = l.host ++ (h.port_text ++ slash ∷ h.key_text) in
    let p : behind_protocol text ≡ Some (version_part ++ address) =
    rw h.parts (protocol_again h.protocol (version_part ++ address) h.is_iiop) in
    let q = port_again l h.port_text h.key_text address text h.host h.port refl in
    let key : percent_decode h.key_text ≡ l.key = sym h.key.1 in
    rw (p, behind_again version_part address, q.1, q.3, h.key.0, q.2, key) refl

pub locations_exact : (text : List ℕ) → IsExactly (location_of text) (λ l. IsLocation l text)
locations_exact text l = (λ e. location_found text l e, λ h. location_again text l h)
