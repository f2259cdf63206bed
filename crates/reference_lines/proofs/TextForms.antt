-- A text is an object URL or a stringified reference, and never both.
use Rattle.std.proofs.Common.{◌≡◌, ℕ, Bool, true, false, List, [], ◌∷◌, ◌++◌, map, length, take, get_or, Ok, Err, Result, refl, sym, ap, ◌∙◌, subst, inl, inr, arith}
use Rattle.std.specs.Prelude.{IfErr}
use Rattle.std.specs.Char.{to_ascii_lowercase}
use Rattle.std.specs.Str.{bytes_eq}
use Rattle.std.proofs.lemmas.List.{take_at}
use Rattle.std.proofs.lemmas.Slice.Eq.{bytes_eq-Decides}
use Rattle.object_refs.specs.declared.fault.RefError.{RefError}
use Rattle.object_refs.specs.declared.fault.RefError.TheVariants.{Refused, NoMemory}
use Rattle.object_refs.specs.Reference.{Reference, Profile, Location}
use Rattle.object_refs.specs.Locations.{scheme, version_part, slash, IsLocation}
use Rattle.object_refs.specs.Profiles.{IsFirstProfile}
use Rattle.object_refs.specs.References.{IsReference, lower_prefix}
use Rattle.object_refs.specs.Answers.{Fails}
use Rattle.object_refs.proofs.OneWay.{one_location, one_first, one_reference}
use Rattle.reference_lines.specs.ReferenceText.{profile_text, location_text}
use Rattle.reference_lines.specs.RefsText.{IsPrinted, NamesNone, RefersNowhere, MeansNothing, PrintsOneWay}

abbrev begins : List ℕ → Bool
begins text = bytes_eq scheme (take (length scheme) text)

-- the first byte of an object URL
first_byte : (text : List ℕ) → take (length scheme) text ≡ scheme → get_or text 0 0 ≡ 99
first_byte [] is = absurd (cc)
first_byte (byte ∷ text) is = ap (λ (xs : List ℕ). get_or xs 0 0) is

first_of_prefix : (prefix digits : List ℕ) → map to_ascii_lowercase prefix ≡ lower_prefix
    → to_ascii_lowercase (get_or (prefix ++ digits) 0 0) ≡ 105
first_of_prefix [] digits is = absurd (cc)
first_of_prefix (byte ∷ prefix) digits is = ap (λ (xs : List ℕ). get_or xs 0 0) is

no_other : to_ascii_lowercase 99 ≡ 105 → ⊥
no_other h = let is : ◌≡◌ {A = ℕ} 99 105 = h in absurd (omega (arith, is))

not_both : (text : List ℕ) (r : Reference) → begins text ≡ true → IsReference r text → ⊥
not_both text r url ior =
    let front : take (length scheme) text ≡ scheme = sym ((bytes_eq-Decides scheme (take (length scheme) text)).0 url)
    in
    let lower : to_ascii_lowercase (get_or text 0 0) ≡ 105 = rw ior.parts (first_of_prefix ior.prefix ior.digits
    ior.is_ior) in
    no_other (subst (λ (b : ℕ). to_ascii_lowercase b ≡ 105) (first_byte text front) lower)

begins_so : (l : Location) (text : List ℕ) → IsLocation l text → begins text ≡ true
begins_so l text is = (bytes_eq-Decides scheme (take (length scheme) text)).1 (rw is.parts (sym (take_at scheme
    (is.protocol ++ (version_part ++ (l.host ++ (is.port_text ++ slash ∷ is.key_text)))) (length scheme) refl)))

-- a refusal of an object URL
pub names_none : (e : RefError) (text : List ℕ) → ((l : Location) → IsLocation l text
    → Fails {Y = Location} e (Ok l)) → NamesNone e text
names_none (Refused f) text only = λ l is. let no : Ok l ≡ Err f = only l is in absurd (cc)
names_none NoMemory text only = tt

-- and of a stringified reference
pub means_none : (e : RefError) (text : List ℕ) → ((r : Reference) → IsReference r text
    → Fails {Y = Reference} e (Ok r)) → RefersNowhere e text
means_none (Refused f) text only = λ r p is first. let no : Ok r ≡ Err f = only r is in absurd (cc)
means_none NoMemory text only = tt

pub nowhere : (e : RefError) (text : List ℕ) (r : Reference) → IsReference r text → ((p : Profile)
    → IsFirstProfile p r → Fails {Y = Profile} e (Ok p)) → RefersNowhere e text
nowhere (Refused f) text r is only = λ s p other first.
    let same = one_reference r s text is other in
    let no : Ok p ≡ Err f = only p (subst (λ (x : Reference). IsFirstProfile p x) (sym same) first) in absurd (cc)
nowhere NoMemory text r is only = tt

url_printed : (text lines : List ℕ) → begins text ≡ true → ((l : Location) → ¬ IsLocation l text)
    → IsPrinted lines text → ⊥
url_printed text lines url none (inl (l, is, same)) = none l is
url_printed text lines url none (inr (r, p, is, first, same)) = not_both text r url is

ior_printed : (text lines : List ℕ) → begins text ≡ false → ((r : Reference) (p : Profile) → IsReference r text
    → ¬ IsFirstProfile p r) → IsPrinted lines text → ⊥
ior_printed text lines other none (inl (l, is, same)) = let url = begins_so l text is in absurd (cc)
ior_printed text lines other none (inr (r, p, is, first, same)) = none r p is first

-- so a refused text means nothing
url_means_nothing : (e : RefError) (text : List ℕ) → begins text ≡ true → NamesNone e text → MeansNothing e text
url_means_nothing (Refused f) text url none = λ lines printed. url_printed text lines url none printed
url_means_nothing NoMemory text url none = tt

pub url_refused : {S : Type 0} (result : Result S RefError) (text : List ℕ)
    → bytes_eq scheme (take (length scheme) text) ≡ true
    → IfErr result (λ e. NamesNone e text) → IfErr result (λ e. MeansNothing e text)
url_refused (Ok lines) text url none = tt
url_refused (Err e) text url none = url_means_nothing e text url none

ior_means_nothing : (e : RefError) (text : List ℕ) → begins text ≡ false → RefersNowhere e text → MeansNothing e text
ior_means_nothing (Refused f) text other none = λ lines printed. ior_printed text lines other none printed
ior_means_nothing NoMemory text other none = tt

pub ior_refused : {S : Type 0} (result : Result S RefError) (text : List ℕ)
    → bytes_eq scheme (take (length scheme) text) ≡ false
    → IfErr result (λ e. RefersNowhere e text) → IfErr result (λ e. MeansNothing e text)
ior_refused (Ok lines) text other none = tt
ior_refused (Err e) text other none = ior_means_nothing e text other none

-- ---- a text is printed in one way only

pub prints_one_way : PrintsOneWay
prints_one_way text lines others (inl (l, is, e)) (inl (m, also, d)) =
    e ∙ ap location_text (one_location l m text is also) ∙ sym d
prints_one_way text lines others (inl (l, is, e)) (inr (r, p, also, first, d)) =
    absurd (not_both text r (begins_so l text is) also)
prints_one_way text lines others (inr (r, p, is, first, e)) (inl (l, also, d)) =
    absurd (not_both text r (begins_so l text also) is)
prints_one_way text lines others (inr (r, p, is, first, e)) (inr (s, q, also, other, d)) =
    let same : r ≡ s = one_reference r s text is also in
    let one : p ≡ q = one_first p q s (subst (λ (x : Reference). IsFirstProfile p x) same first) other in
    e ∙ ap (λ (x : Reference). profile_text x.type_id p) same ∙ ap (profile_text s.type_id) one ∙ sym d
