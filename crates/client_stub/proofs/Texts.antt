-- A text is an object URL or a stringified reference, and never both; so what it means is what its form means.
use Rattle.std.proofs.Common.{◌≡◌, ℕ, Bool, true, false, List, [], ◌∷◌, ◌++◌, map, length, take, get_or, Ok, Result, refl, sym, ap, subst, inl, inr, arith}
use Rattle.std.specs.Char.{to_ascii_lowercase}
use Rattle.std.specs.Str.{bytes_eq}
use Rattle.std.proofs.lemmas.List.{take_at}
use Rattle.std.proofs.lemmas.Slice.Eq.{bytes_eq-Decides}
use Rattle.object_refs.specs.declared.fault.RefError.{RefError}
use Rattle.object_refs.specs.Reference.{Reference, Profile, Location}
use Rattle.object_refs.specs.Locations.{scheme, version_part, slash, IsLocation}
use Rattle.object_refs.specs.Profiles.{IsFirstProfile}
use Rattle.object_refs.specs.ProfileReading.{first_profile_of}
use Rattle.object_refs.specs.Reading.{Read}
use Rattle.object_refs.proofs.Located.{location_again}
use Rattle.object_refs.proofs.Texts.{references_exact}
use Rattle.object_refs.proofs.Wholes.{profile_again}
use Rattle.object_refs.specs.References.{IsReference, lower_prefix}
use Rattle.object_refs.specs.Answers.{Answers}
use Rattle.client_stub.specs.Remotes.{Remote}
use Rattle.client_stub.specs.Meaning.{url_remote, ior_remote, remote_of, IsRemote}

abbrev pub begins : List ℕ → Bool
begins text = bytes_eq scheme (take (length scheme) text)

-- the first byte of an object URL
first_byte : (text : List ℕ) → take (length scheme) text ≡ scheme → get_or text 0 0 ≡ 99
first_byte [] is = absurd (cc)
first_byte (byte ∷ text) is = ap (λ (xs : List ℕ). get_or xs 0 0) is

first_of_prefix : (prefix digits : List ℕ) → map to_ascii_lowercase prefix ≡ lower_prefix
    → to_ascii_lowercase (get_or (prefix ++ digits) 0 0) ≡ 105
first_of_prefix [] digits is = absurd (cc)
first_of_prefix (byte ∷ prefix) digits is = ap (λ (xs : List ℕ). get_or xs 0 0) is

no_other : to_ascii_lowercase 99 ≡ 105 → ⊥
no_other h = let is : ◌≡◌ {A = ℕ} 99 105 = h in absurd (omega (arith, is))

not_both : (text : List ℕ) (r : Reference) → begins text ≡ true → IsReference r text → ⊥
not_both text r url ior =
    let front : take (length scheme) text ≡ scheme = sym ((bytes_eq-Decides scheme (take (length scheme) text)).0 url)
    in
    let lower : to_ascii_lowercase (get_or text 0 0) ≡ 105 = rw ior.parts (first_of_prefix ior.prefix ior.digits
    ior.is_ior) in
    no_other (subst (λ (b : ℕ). to_ascii_lowercase b ≡ 105) (first_byte text front) lower)

begins_so : (l : Location) (text : List ℕ) → IsLocation l text → begins text ≡ true
begins_so l text is = (bytes_eq-Decides scheme (take (length scheme) text)).1 (rw is.parts (sym (take_at scheme
    (is.protocol ++ (version_part ++ (l.host ++ (is.port_text ++ slash ∷ is.key_text)))) (length scheme) refl)))

not_url : (text : List ℕ) (r : Reference) (b : Bool) → begins text ≡ b → IsReference r text → begins text ≡ false
not_url text r true url is = absurd (not_both text r url is)
not_url text r false other is = other

first_again : (r : Reference) (p : Profile) → IsFirstProfile p r → first_profile_of r ≡ Ok p
unfolding first_profile_of
first_again r p (tagged, first, is) = rw first (profile_again tagged.bytes p is)

-- what a text means is read of it
remote_again : (remote : Remote) (text : List ℕ) → IsRemote remote text → remote_of text ≡ Ok remote
unfolding remote_of url_remote ior_remote
remote_again remote text (inl (l, is, same)) =
    let url = begins_so l text is in
    let read = location_again text l is in
    rw (url, read, same) refl
remote_again remote text (inr (r, p, is, first, same)) =
    let other = not_url text r (begins text) refl is in
    let read = (references_exact text r).1 is in
    let profile = first_again r p first in
    rw (other, read, profile, same) refl

pub only_of : (answer : Result Remote RefError) (text : List ℕ) → Answers (λ (x : Remote). x) answer (remote_of text)
    → (remote : Remote) → IsRemote remote text → Answers (λ (x : Remote). x) answer (Ok remote)
only_of answer text exact remote is = subst (λ (read : Read Remote). Answers (λ (x : Remote). x) answer read) (remote_again remote text is) exact
