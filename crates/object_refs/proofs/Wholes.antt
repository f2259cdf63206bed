-- Whole encapsulations: what is read is what the bytes mean, and what they mean is read.
use Rattle.std.proofs.Common.{◌≡◌, ℕ, suc, ◌<◌, ◌≤◌, true, false, ◌&&◌, ltb, eqb, List, ◌∷◌}
use Rattle.std.proofs.Common.{Some, Ok, refl, ap, subst, arith}
use Rattle.std.proofs.lemmas.Bool.{and_parts, ltb-true, lt-ltb, eqb-true}
use Rattle.orb_base.specs.Tagged.{Tagged}
use Rattle.orb_base.specs.declared.order.Order.{Order}
use Rattle.cdr_core.specs.Field.{Field}
use Rattle.cdr_core.specs.Cursor.{Cursor, AreBytes, Reads}
use Rattle.cdr_core.specs.Passing.{Spans}
use Rattle.cdr_core.specs.ListLaws.{TakesEach}
use Rattle.cdr_core.specs.Reading.{entered}
use Rattle.cdr_core.specs.Encapsulation.{order_byte, Encapsulates}
use Rattle.cdr_core.specs.Laws.{Holds}
use Rattle.cdr_core.proofs.CallerLemmas.{entered_takes, entered_reads, ok_is, bind_ok, as_ok}
use Rattle.cdr_core.proofs.LawProofs.{holds_within_law}
use Rattle.object_refs.specs.Reference.{Reference, Profile}
use Rattle.object_refs.specs.Layout.{reference_fields, has_components, FitsProfile, FitsReference, FitsVersioned}
use Rattle.object_refs.specs.Laws.{IsExactly}
use Rattle.object_refs.specs.Profiles.{IsProfile, first_of, IsFirstProfile}
use Rattle.object_refs.specs.ProfileReading.{versioned_at, supported, profile_of, first_profile_of}
use Rattle.object_refs.specs.Reading.{cdr, cdr_fault}
use Rattle.object_refs.specs.References.{IsEncapsulated, reference_at, reference_in}
use Rattle.object_refs.proofs.Steps.{passed}
use Rattle.object_refs.proofs.Taking.{FitsReadable, fields_of, versioned_takes, versioned_again}
use Rattle.object_refs.proofs.Taking.{reference_takes, reference_again}

pub inner_bytes : (bytes : List ℕ) (inner : Cursor) → AreBytes bytes → entered bytes ≡ Ok inner → AreBytes inner.rest
inner_bytes bytes inner fits e =
    let stands = entered_takes bytes inner e in
    let there : AreBytes (order_byte inner.order ∷ inner.rest) = subst AreBytes stands.parts fits in
    λ k. there (suc k)

-- what was taken within the bytes is encapsulated there
pub within : (fields : List Field) (bytes : List ℕ) (inner d : Cursor)
    → entered bytes ≡ Ok inner → Spans inner d fields → Encapsulates inner.order fields bytes
within fields bytes inner d e spans =
    let stands = entered_takes bytes inner e in
    let holds : Holds inner.order fields bytes =
    record { inner = inner; behind = d; parts = stands.parts; order = refl; place = stands.place; spans = spans } in
    (holds_within_law inner.order fields bytes).1 holds

-- what is encapsulated is taken within the bytes
pub record TakenIn (A : Type 0) (one : Cursor → Reads A) (bytes : List ℕ) (a : A) : Type 0 where
  pub inner : Cursor
  pub behind : Cursor
  pub enters : entered bytes ≡ Ok inner
  pub takes : one inner ≡ Ok (a, behind)

pub taken_in : (A : Type 0) (IsFit : A → Type 0) (fields : A → List Field) (one : Cursor → Reads A)
    → TakesEach one fields IsFit
    → (order : Order) (bytes : List ℕ) (a : A) → IsFit a → Encapsulates order (fields a) bytes → TakenIn A one bytes a
taken_in A IsFit fields one again order bytes a fits h =
    let w = (holds_within_law order (fields a) bytes).0 h in
    let parts : bytes ≡ order_byte w.inner.order ∷ w.inner.rest = rw w.order w.parts in
    record {
      inner = w.inner;
      behind = w.behind;
      enters = entered_reads bytes w.inner (record { parts = parts; place = w.place });
      takes = again w.inner w.behind a fits w.spans;
    }

-- ---- profiles

profile_found : (bytes : List ℕ) (p : Profile) → AreBytes bytes → profile_of bytes ≡ Ok p → IsProfile p bytes
unfolding profile_of supported
profile_found bytes p fits e =
    let i = bind_ok (cdr (entered bytes)) _ p e in
    let v = bind_ok (cdr (versioned_at i.0)) _ p i.2 in
    let enters = as_ok cdr_fault (entered bytes) i.0 i.1 in
    let t = versioned_takes i.0 v.0 (inner_bytes bytes i.0 fits enters) (as_ok cdr_fault (versioned_at i.0) v.0 v.1) in
    let g = passed (eqb v.0.0.0 1 && ltb 1 v.0.0.1.minor) v.0.0.1 p _ v.2 in
    let tests = and_parts (eqb v.0.0.0 1) (ltb 1 v.0.0.1.minor) g.0 in
    let one : v.0.0.0 ≡ 1 = eqb-true _ _ tests.0 in
    let content = within (fields_of v.0.0) bytes i.0 v.0.1 enters t.1 in
    subst (λ (x : Profile). IsProfile x bytes) g.1 (record {
      fits = t.0.profile;
      version = ltb-true _ _ tests.1;
      order = i.0.order;
      content = subst (λ (n : ℕ). Encapsulates i.0.order (fields_of (n, v.0.0.1)) bytes) one content;
    })

-- versions from 1.2 on have components
components_there : (minor : ℕ) → 2 ≤ minor → has_components 1 minor ≡ true
components_there minor least = let some : 0 < minor = omega (arith, least) in lt-ltb 0 minor some

versioned_fit : (p : Profile) → FitsProfile p → 2 ≤ p.minor → FitsVersioned 1 p
versioned_fit p fits least = record {
  major = omega arith;
  profile = fits;
  without = λ (no : has_components 1 p.minor ≡ false). let yes = components_there p.minor least in absurd cc;
}

pub profile_again : (bytes : List ℕ) (p : Profile) → IsProfile p bytes → profile_of bytes ≡ Ok p
unfolding profile_of supported
profile_again bytes p h =
    let t = taken_in (ℕ × Profile) FitsReadable fields_of versioned_at versioned_again h.order bytes (1, p)
    (versioned_fit p h.fits h.version) h.content in
    let later : ltb 1 p.minor ≡ true = lt-ltb 1 p.minor h.version in
    rw (t.enters, t.takes, later) refl

pub profiles_exact : (bytes : List ℕ) → AreBytes bytes → IsExactly (profile_of bytes) (λ p. IsProfile p bytes)
profiles_exact bytes fits p = (λ e. profile_found bytes p fits e, λ h. profile_again bytes p h)

-- the first profile of a reference, where there is one
pub firsts_exact : (r : Reference) (tagged : Tagged) → first_of r.profiles ≡ Some tagged → AreBytes tagged.bytes
    → IsExactly (first_profile_of r) (λ p. IsFirstProfile p r)
unfolding first_profile_of
firsts_exact r tagged first fits p = (
  λ e. (tagged, first, profile_found tagged.bytes p fits (rw first at e)),
  λ h. rw h.1 (profile_again h.0.bytes p h.2),
)

-- ---- references

reference_found : (bytes : List ℕ) (r : Reference) → AreBytes bytes → reference_in bytes ≡ Ok r
    → IsEncapsulated r bytes
unfolding reference_in
reference_found bytes r fits e =
    let i = bind_ok (cdr (entered bytes)) _ r e in
    let v = bind_ok (cdr (reference_at i.0)) _ r i.2 in
    let enters = as_ok cdr_fault (entered bytes) i.0 i.1 in
    let t = reference_takes i.0 v.0 (inner_bytes bytes i.0 fits enters) (as_ok cdr_fault (reference_at i.0) v.0 v.1) in
    subst (λ (x : Reference). IsEncapsulated x bytes) (ok_is v.0.0 r v.2) (record {
      fits = t.0;
      order = i.0.order;
      content = within (reference_fields v.0.0) bytes i.0 v.0.1 enters t.1;
    })

reference_again_in : (bytes : List ℕ) (r : Reference) → IsEncapsulated r bytes → reference_in bytes ≡ Ok r
unfolding reference_in
reference_again_in bytes r h =
    let t = taken_in Reference FitsReference reference_fields reference_at reference_again h.order bytes r h.fits
    h.content in
    rw (t.enters, t.takes) refl

pub encapsulated_exact : (bytes : List ℕ) → AreBytes bytes
    → IsExactly (reference_in bytes) (λ r. IsEncapsulated r bytes)
encapsulated_exact bytes fits r = (λ e. reference_found bytes r fits e, λ h. reference_again_in bytes r h)
