-- What is encapsulated: a fault that is given is the first one, and the first one is given.
use Rattle.std.proofs.Common.{◌≡◌, ℕ, suc, ◌<◌, ◌≤◌, Bool, true, false, ◌&&◌, cond, ltb, eqb, List, [], ◌∷◌, ◌++◌, ◌⊎◌, inl, inr}
use Rattle.std.proofs.lemmas.Option.{same_Some}
use Rattle.std.proofs.Common.{Some, None, Result, Ok, Err, refl, sym, ap, subst, ◌∙◌, arith}
use Rattle.std.specs.Int.{w8, w16}
use Rattle.std.proofs.lemmas.Bool.{cases_Bool, and_from, ltb-true, lt-ltb, eqb-true, eq-eqb}
use Rattle.orb_base.specs.Tagged.{Tagged}
use Rattle.cdr_core.specs.declared.fault.CdrFault.{CdrFault}
use Rattle.cdr_core.specs.Field.{Field, number, string_fields}
use Rattle.cdr_core.specs.Cursor.{Cursor, AreBytes, Reads}
use Rattle.cdr_core.specs.Passing.{Spans}
use Rattle.cdr_core.specs.Reading.{number_at, octets_at, string_at, entered}
use Rattle.cdr_core.specs.Sequence.{◌>>=◌}
use Rattle.cdr_core.proofs.CallerLemmas.{bind_ok, bind_err, as_ok, as_err, spans_then, spans_split}
use Rattle.cdr_core.proofs.CallerLemmas.{number_takes, number_reads, number_fails, number_refuses, octets_takes, octets_fail}
use Rattle.cdr_core.proofs.CallerLemmas.{octets_refuse, string_takes, string_fails, string_refuses, entered_reads}
use Rattle.cdr_core.proofs.CallerLemmas.{entered_fails, entered_refuses, entered_takes, octet_len, short_len, bytes_behind}
use Rattle.cdr_core.proofs.CallerLemmas.{number_stands, octets_stand, string_stands, number_there, octets_there}
use Rattle.cdr_core.proofs.CallerLemmas.{string_there, tagged_lists_are_exact}
use Rattle.std.specs.Prelude.{IfErr, IfSome}
use Rattle.object_refs.specs.declared.fault.RefFault.{RefFault}
use Rattle.object_refs.specs.declared.fault.RefError.{RefError}
use Rattle.object_refs.specs.declared.fault.RefError.TheVariants.{Refused, NoMemory}
use Rattle.object_refs.specs.Answers.{Answers, fault_of}
use Rattle.object_refs.specs.declared.fault.RefCause.TheVariants.{BadVersion}
use Rattle.object_refs.specs.Reference.{Reference, Profile}
use Rattle.object_refs.specs.Layout.{has_components}
use Rattle.object_refs.specs.Laws.{RefusesExactly}
use Rattle.object_refs.specs.Profiles.{first_of}
use Rattle.object_refs.specs.Reading.{fault, cdr, cdr_fault, tagged_list_at}
use Rattle.object_refs.specs.ProfileReading.{components_at, versioned_at, supported, profile_of}
use Rattle.object_refs.specs.References.{reference_at, reference_in}
use Rattle.object_refs.specs.Refusing.{RefusesWithin, FailsTagged, FailsReference, FailsComponents, FailsProfile}
use Rattle.object_refs.specs.Refusing.{HasOtherVersion, RefusesProfile, RefusesFirst}
use Rattle.object_refs.proofs.Steps.{failed}
use Rattle.object_refs.proofs.Taking.{FitsReadable, fields_of, versioned_takes, versioned_again}
use Rattle.object_refs.proofs.Wholes.{inner_bytes, within, taken_in}

-- ---- within an encapsulation

-- the bytes are no encapsulation
unentered : (Bad : Cursor → CdrFault → Type 0) (bytes : List ℕ) (f : RefFault) → cdr (entered bytes) ≡ Err f → RefusesWithin Bad bytes f
unentered Bad bytes f e = let g = as_err cdr_fault (entered bytes) f e in (g.0, g.2, inl (entered_fails bytes g.0 g.1))

-- what is in it fails
failed_within : {A : Type 0} (one : Cursor → Reads A) (Bad : Cursor → CdrFault → Type 0)
    → ((c : Cursor) (g : CdrFault) → AreBytes c.rest → one c ≡ Err g → Bad c g)
    → (bytes : List ℕ) (inner : Cursor) (f : RefFault) → AreBytes bytes → entered bytes ≡ Ok inner → cdr (one inner) ≡ Err f → RefusesWithin Bad bytes f
failed_within one Bad fails bytes inner f fits enters e =
    let g = as_err cdr_fault (one inner) f e in
    (g.0, g.2, inr (inner, entered_takes bytes inner enters, fails inner g.0 (inner_bytes bytes inner fits enters) g.1))

abbrev err : {A : Type 0} → RefFault → Result A RefFault
err f = Err f

-- ---- references

reference_fails : (c : Cursor) (g : CdrFault) → AreBytes c.rest → reference_at c ≡ Err g → FailsReference c g
unfolding reference_at
reference_fails c g fits e =
    elim (bind_err (string_at c) _ g e) [
      | inl a ↦ inl (string_fails c g fits a)
      | inr a ↦
          let t = string_takes c a.0 fits a.1 in
          elim (bind_err (tagged_list_at a.0.1) _ g a.2) [
            | inl b ↦ inr (a.0.1, string_stands c a.0 fits a.1, tagged_lists_are_exact.fails a.0.1 g (bytes_behind c a.0.1 (string_fields a.0.0) fits t.spans) b)
            | inr b ↦ let no = b.2 in absurd cc
          ]
    ]

reference_told : (c : Cursor) (g : CdrFault) → FailsReference c g → reference_at c ≡ Err g
unfolding reference_at
reference_told c g (inl h) = rw (string_refuses c g h) refl
reference_told c g (inr (d, s, h)) = let x = string_there c d s in rw (x.1, tagged_lists_are_exact.told d g h) refl

pub reference_refused : (bytes : List ℕ) (f : RefFault) → AreBytes bytes → reference_in bytes ≡ Err f → RefusesWithin FailsReference bytes f
unfolding reference_in
reference_refused bytes f fits e =
    elim (bind_err (cdr (entered bytes)) _ f e) [
      | inl a ↦ unentered FailsReference bytes f a
      | inr a ↦
          elim (bind_err (cdr (reference_at a.0)) _ f a.2) [
            | inl b ↦ failed_within reference_at FailsReference reference_fails bytes a.0 f fits (as_ok cdr_fault (entered bytes) a.0 a.1) b
            | inr b ↦ let no = b.2 in absurd cc
          ]
    ]

pub reference_refuses : (bytes : List ℕ) (f : RefFault) → RefusesWithin FailsReference bytes f → reference_in bytes ≡ Err f
unfolding reference_in
reference_refuses bytes f (g, is, inl h) = rw (entered_refuses bytes g h) (ap err (sym is))
reference_refuses bytes f (g, is, inr (inner, stands, h)) = rw (entered_reads bytes inner stands, reference_told inner g h) (ap err (sym is))

-- ---- profiles

components_fail : (present : Bool) (c : Cursor) (g : CdrFault) → AreBytes c.rest → components_at present c ≡ Err g → (present ≡ true) × FailsTagged c g
unfolding components_at
components_fail true c g fits e = (refl, tagged_lists_are_exact.fails c g fits e)
components_fail false c g fits e = absurd cc

components_told : (present : Bool) (c : Cursor) (g : CdrFault) → present ≡ true → FailsTagged c g → components_at present c ≡ Err g
unfolding components_at
components_told present c g is h = rw is (tagged_lists_are_exact.told c g h)

versioned_fails : (c : Cursor) (g : CdrFault) → AreBytes c.rest → versioned_at c ≡ Err g → FailsProfile c g
unfolding versioned_at
versioned_fails c g fits e =
    elim (bind_err (number_at w8 c) _ g e) [
      | inl x ↦ inl (inl (number_fails w8 c g x))
      | inr major ↦
          let a = number_takes w8 c major.0 octet_len fits major.1 in
          let a_stands = number_stands w8 c major.0 octet_len fits major.1 in
          elim (bind_err (number_at w8 major.0.1) _ g major.2) [
            | inl x ↦ inl (inr (major.0.1, a_stands, inl (number_fails w8 major.0.1 g x)))
            | inr minor ↦
                let b = number_takes w8 major.0.1 minor.0 octet_len a.bytes minor.1 in
                let b_stands = number_stands w8 major.0.1 minor.0 octet_len a.bytes minor.1 in
                elim (bind_err (string_at minor.0.1) _ g minor.2) [
                  | inl x ↦ inl (inr (major.0.1, a_stands, inr (minor.0.1, b_stands, inl (string_fails minor.0.1 g b.bytes x))))
                  | inr host ↦
                      let h = string_takes minor.0.1 host.0 b.bytes host.1 in
                      let h_stands = string_stands minor.0.1 host.0 b.bytes host.1 in
                      let h_bytes = bytes_behind minor.0.1 host.0.1 (string_fields host.0.0) b.bytes h.spans in
                      elim (bind_err (number_at w16 host.0.1) _ g host.2) [
                        | inl x ↦ inl (inr (major.0.1, a_stands, inr (minor.0.1, b_stands, inr (host.0.1, h_stands, inl (number_fails w16 host.0.1 g x)))))
                        | inr port ↦
                            let p = number_takes w16 host.0.1 port.0 short_len h_bytes port.1 in
                            let p_stands = number_stands w16 host.0.1 port.0 short_len h_bytes port.1 in
                            elim (bind_err (octets_at port.0.1) _ g port.2) [
                              | inl x ↦ inl (inr (major.0.1, a_stands, inr (minor.0.1, b_stands, inr (host.0.1, h_stands, inr (port.0.1, p_stands, inl (octets_fail port.0.1 g p.bytes x))))))
                              | inr key ↦
                                  let k = octets_takes port.0.1 key.0 p.bytes key.1 in
                                  elim (bind_err (components_at (has_components major.0.0 minor.0.0) key.0.1) _ g key.2) [
                                    | inl x ↦
                                        let list = components_fail (has_components major.0.0 minor.0.0) key.0.1 g k.bytes_behind x in
                                        inr (record {
                                          major = major.0.0;
                                          minor = minor.0.0;
                                          versioned = minor.0.1;
                                          hosted = host.0.1;
                                          ported = port.0.1;
                                          keyed = key.0.1;
                                          octets = (a.fits, b.fits);
                                          version = spans_then c major.0.1 minor.0.1 (number w8 major.0.0 ∷ []) (number w8 minor.0.0 ∷ []) a.spans b.spans;
                                          host = h_stands;
                                          port = p_stands;
                                          key = octets_stand port.0.1 key.0 p.bytes key.1;
                                          present = list.0;
                                          fails = list.1;
                                        })
                                    | inr x ↦ let no = x.2 in absurd cc
                                  ]
                            ]
                      ]
                ]
          ]
    ]

versioned_told : (c : Cursor) (g : CdrFault) → FailsProfile c g → versioned_at c ≡ Err g
unfolding versioned_at
versioned_told c g (inl (inl h)) = rw (number_refuses w8 c g h) refl
versioned_told c g (inl (inr (d, s, inl h))) =
    let a = number_there w8 c d octet_len s in rw (a.1, number_refuses w8 d g h) refl
versioned_told c g (inl (inr (d, s, inr (e, t, inl h)))) =
    let a = number_there w8 c d octet_len s in
    let b = number_there w8 d e octet_len t in
    rw (a.1, b.1, string_refuses e g h) refl
versioned_told c g (inl (inr (d, s, inr (e, t, inr (i, u, inl h))))) =
    let a = number_there w8 c d octet_len s in
    let b = number_there w8 d e octet_len t in
    let x = string_there e i u in
    rw (a.1, b.1, x.1, number_refuses w16 i g h) refl
versioned_told c g (inl (inr (d, s, inr (e, t, inr (i, u, inr (j, v, inl h)))))) =
    let a = number_there w8 c d octet_len s in
    let b = number_there w8 d e octet_len t in
    let x = string_there e i u in
    let p = number_there w16 i j short_len v in
    rw (a.1, b.1, x.1, p.1, octets_refuse j g h) refl
versioned_told c g (inl (inr (d, s, inr (e, t, inr (i, u, inr (j, v, inr (k, w, h))))))) = absurd h
versioned_told c g (inr h) =
    let split = spans_split c h.versioned (number w8 h.major ∷ []) (number w8 h.minor ∷ []) h.version in
    let x = string_there h.versioned h.hosted h.host in
    let p = number_there w16 h.hosted h.ported short_len h.port in
    let k = octets_there h.ported h.keyed h.key in
    rw (
      number_reads w8 c split.middle h.major octet_len h.octets.0 split.first,
      number_reads w8 split.middle h.versioned h.minor octet_len h.octets.1 split.others,
      x.1,
      p.1,
      k.1,
      components_told (has_components h.major h.minor) h.keyed g h.present h.fails,
    ) refl

-- a version that the test lets by, and one that it does not
is_supported : (major : ℕ) (p : Profile) → (major ≡ 1) × (2 ≤ p.minor) → (eqb major 1 && ltb 1 p.minor) ≡ true
is_supported major p h = and_from _ _ (eq-eqb major 1 h.0) (lt-ltb 1 p.minor h.1)

not_supported : (major : ℕ) (p : Profile) → (eqb major 1 && ltb 1 p.minor) ≡ false → ¬ ((major ≡ 1) × (2 ≤ p.minor))
not_supported major p e h = let yes = is_supported major p h in absurd cc

other_test : (major : ℕ) (p : Profile) → ¬ ((major ≡ 1) × (2 ≤ p.minor)) → (eqb major 1 && ltb 1 p.minor) ≡ false
other_test major p other =
    elim (cases_Bool (eqb major 1 && ltb 1 p.minor)) [
      | inl e ↦ let k = parts (eqb major 1) (ltb 1 p.minor) e in absurd (other (eqb-true major 1 k.0, ltb-true 1 p.minor k.1))
      | inr e ↦ e
    ]
  where
    parts : (a b : Bool) → (a && b) ≡ true → (a ≡ true) × (b ≡ true)
    parts true b e = (refl, e)
    parts false b e = absurd cc

pub profile_refused : (bytes : List ℕ) (f : RefFault) → AreBytes bytes → profile_of bytes ≡ Err f → RefusesProfile bytes f
unfolding profile_of supported
profile_refused bytes f fits e =
    elim (bind_err (cdr (entered bytes)) _ f e) [
      | inl a ↦ inl (unentered FailsProfile bytes f a)
      | inr a ↦
          let enters = as_ok cdr_fault (entered bytes) a.0 a.1 in
          elim (bind_err (cdr (versioned_at a.0)) _ f a.2) [
            | inl b ↦ inl (failed_within versioned_at FailsProfile versioned_fails bytes a.0 f fits enters b)
            | inr b ↦
                let major : ℕ = b.0.0.0 in
                let p : Profile = b.0.0.1 in
                let t = versioned_takes a.0 b.0 (inner_bytes bytes a.0 fits enters) (as_ok cdr_fault (versioned_at a.0) b.0 b.1) in
                let g = failed (eqb major 1 && ltb 1 p.minor) p (fault BadVersion 0) f b.2 in
                inr (record {
                  major = major;
                  profile = p;
                  fits = t.0;
                  order = a.0.order;
                  content = within (fields_of b.0.0) bytes a.0 b.0.1 enters t.1;
                  other = not_supported major p g.0;
                  told = g.1;
                })
          ]
    ]

pub profile_refuses : (bytes : List ℕ) (f : RefFault) → RefusesProfile bytes f → profile_of bytes ≡ Err f
unfolding profile_of supported
profile_refuses bytes f (inl (g, is, inl h)) = rw (entered_refuses bytes g h) (ap err (sym is))
profile_refuses bytes f (inl (g, is, inr (inner, stands, h))) =
    rw (entered_reads bytes inner stands, versioned_told inner g h) (ap err (sym is))
profile_refuses bytes f (inr h) =
    let t = taken_in (ℕ × Profile) FitsReadable fields_of versioned_at versioned_again h.order bytes (h.major, h.profile) h.fits h.content in
    rw (t.enters, t.takes, other_test h.major h.profile h.other) (ap err (sym h.told))

pub profiles_refuse : (bytes : List ℕ) → AreBytes bytes → RefusesExactly (profile_of bytes) (RefusesProfile bytes)
profiles_refuse bytes fits f = (λ e. profile_refused bytes f fits e, λ h. profile_refuses bytes f h)

-- what the first profile of a reference is refused for, the reference is
pub first_fails : (r : Reference) (tagged : Tagged) (answer : Result Profile RefError) → first_of r.profiles ≡ Some tagged
    → IfErr answer (λ e. IfSome (fault_of e) (RefusesProfile tagged.bytes)) → IfErr answer (λ e. IfSome (fault_of e) (RefusesFirst r))
first_fails r tagged (Ok p) first h = tt
first_fails r tagged (Err (Refused f)) first h = inr (tagged, first, h)
first_fails r tagged (Err NoMemory) first h = tt

first_refused : (r : Reference) (tagged : Tagged) (f : RefFault) → first_of r.profiles ≡ Some tagged → RefusesFirst r f → RefusesProfile tagged.bytes f
first_refused r tagged f first (inl h) = let none = h.0 in absurd cc
first_refused r tagged f first (inr h) =
    subst (λ (t : Tagged). RefusesProfile t.bytes f) (same_Some h.0 tagged (sym h.1 ∙ first)) h.2

pub first_told : (r : Reference) (tagged : Tagged) (answer : Result Profile RefError) → first_of r.profiles ≡ Some tagged
    → ((f : RefFault) → RefusesProfile tagged.bytes f → Answers {Y = Profile} (λ p. p) answer (Err f))
    → (f : RefFault) → RefusesFirst r f → Answers {Y = Profile} (λ p. p) answer (Err f)
first_told r tagged answer first h f refused = h f (first_refused r tagged f first refused)
