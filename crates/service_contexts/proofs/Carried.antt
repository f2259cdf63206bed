-- Whole encapsulations: what is read is what the bytes carry.
use Rattle.std.proofs.Common.{◌≡◌, ℕ, suc, Option, List, ◌∷◌, ◌++◌, Some, Result, Ok, Err, IfOk, refl, sym, subst, ◌∙◌}
use Rattle.std.specs.Result.{result_ok}
use Rattle.std.specs.Option.{option_map}
use Rattle.orb_base.specs.Room.{Room}
use Rattle.orb_base.specs.Span.{Span}
use Rattle.orb_base.specs.declared.no_memory.NoMemory.{NoMemory}
use Rattle.orb_base.specs.declared.order.Order.{Order}
use Rattle.cdr_core.specs.Field.{Field}
use Rattle.cdr_core.specs.Cursor.{Cursor, AreBytes}
use Rattle.cdr_core.specs.Reading.{entered}
use Rattle.cdr_core.specs.Encapsulation.{order_byte, encapsulation}
use Rattle.cdr_core.specs.Laws.{Holds}
use Rattle.cdr_core.proofs.CallerLemmas.{entered_takes, entered_reads}
use Rattle.cdr_core.proofs.LawProofs.{holds_within_law, encapsulates_back_law}
use Rattle.service_contexts.specs.Carrying.{Carries, CarriesBands}
use Rattle.service_contexts.specs.Layout.{IsPriority, IsBand, ModelValue, IsModelValue, AreBands, priority_fields}
use Rattle.service_contexts.specs.Layout.{band_fields, model_fields, bands_fields}
use Rattle.service_contexts.specs.Reading.{Taken, priority_at, band_at, model_at, bands_at, carried}
use Rattle.service_contexts.specs.Moves.{items_of}
use Rattle.service_contexts.specs.Laws.{IsExactly, IsReadAsSpelled}
use Rattle.service_contexts.proofs.Steps.{bind_some, ok_of, some_is}
use Rattle.service_contexts.proofs.Taking.{Takes, Again, priority_takes, priority_again, band_takes, band_again}
use Rattle.service_contexts.proofs.Taking.{model_takes, model_again, bands_takes, bands_again}

bytes_behind : (byte : ℕ) (rest : List ℕ) → AreBytes (byte ∷ rest) → AreBytes rest
bytes_behind byte rest h = λ k. h (suc k)

carried_takes : (A : Type 0) (IsLawful : A → Type 0) (fields : A → List Field) (one : Cursor → Taken A)
    → Takes A IsLawful fields one
    → (bytes : List ℕ) (a : A) → AreBytes bytes → carried one bytes ≡ Some a → Carries A IsLawful fields a bytes
unfolding carried
carried_takes A IsLawful fields one takes bytes a fits e =
    let i = bind_some (result_ok (entered bytes)) _ a e in
    let v = bind_some (one i.0) _ a i.2 in
    let stands = entered_takes bytes i.0 (ok_of (entered bytes) i.0 i.1) in
    let inner_fits : AreBytes i.0.rest =
    bytes_behind (order_byte i.0.order) i.0.rest (subst AreBytes stands.parts fits) in
    let t = takes i.0 v.0 inner_fits v.1 in
    let is = some_is v.0.0 a v.2 in
    let holds : Holds i.0.order (fields v.0.0) bytes =
    record {
      inner = i.0;
      behind = v.0.1;
      parts = stands.parts;
      order = refl;
      place = stands.place;
      spans = t.spans;
    } in
    subst (λ (x : A). Carries A IsLawful fields x bytes) is
    (record {
      lawful = t.lawful;
      order = i.0.order;
      content = (holds_within_law i.0.order (fields v.0.0) bytes).1 holds;
    })

carried_reads : (A : Type 0) (IsLawful : A → Type 0) (fields : A → List Field) (one : Cursor → Taken A)
    → Again A IsLawful fields one
    → (bytes : List ℕ) (a : A) → Carries A IsLawful fields a bytes → carried one bytes ≡ Some a
unfolding carried
carried_reads A IsLawful fields one again bytes a h =
    let w = (holds_within_law h.order (fields a) bytes).0 h.content in
    let parts : bytes ≡ order_byte w.inner.order ∷ w.inner.rest = rw w.order w.parts in
    rw (
      entered_reads bytes w.inner (record { parts = parts; place = w.place }),
      again w.inner w.behind a h.lawful
          w.spans,
    ) refl

carries_back : (A : Type 0) (IsLawful : A → Type 0) (fields : A
    → List Field) (order : Order) (a : A) (behind : List ℕ) → IsLawful a
    → Carries A IsLawful fields a (encapsulation order (fields a) ++ behind)
carries_back A IsLawful fields order a behind lawful =
    record { lawful = lawful; order = order; content = encapsulates_back_law order (fields a) behind }

pub read_as_spelled : (A : Type 0) (IsLawful : A → Type 0) (fields : A → List Field) (one : Cursor → Taken A)
    → Takes A IsLawful fields one → Again A IsLawful fields one
    → IsReadAsSpelled A IsLawful fields one
read_as_spelled A IsLawful fields one takes again = record {
  exact = λ bytes fits a. (
    λ e. carried_takes A IsLawful fields one takes bytes a fits e,
    λ h. carried_reads A IsLawful fields one again
        bytes a h,
  );
  back = λ order a behind lawful. carried_reads A IsLawful fields one again
      (encapsulation order (fields a) ++ behind) a (carries_back A IsLawful fields order a behind lawful);
  carried_back = λ order a behind lawful. carries_back A IsLawful fields order a behind lawful;
  one_way = λ v w bytes p q. some_is v w
      (sym (carried_reads A IsLawful fields one again bytes v p) ∙ carried_reads A IsLawful fields one again bytes w q);
}

pub priority_law : IsReadAsSpelled ℕ IsPriority priority_fields priority_at
priority_law = read_as_spelled ℕ IsPriority priority_fields priority_at priority_takes priority_again

pub band_law : IsReadAsSpelled Span IsBand band_fields band_at
band_law = read_as_spelled Span IsBand band_fields band_at band_takes band_again

pub model_law : IsReadAsSpelled ModelValue IsModelValue model_fields model_at
model_law = read_as_spelled ModelValue IsModelValue model_fields model_at model_takes model_again

pub bands_law : IsReadAsSpelled (List Span) AreBands bands_fields bands_at
bands_law = read_as_spelled (List Span) AreBands bands_fields bands_at bands_takes bands_again

-- an answer that is what the reading gives is exactly what the bytes carry
pub exactly : (A : Type 0) (IsLawful : A → Type 0) (fields : A → List Field) (one : Cursor → Taken A)
    → IsReadAsSpelled A IsLawful fields one
    → (answer : Option A) (bytes : List ℕ) → AreBytes bytes → answer ≡ carried one bytes
    → IsExactly answer (λ value. Carries A IsLawful fields value bytes)
exactly A IsLawful fields one law answer bytes fits e value =
    let h = law.exact bytes fits value in
    (λ is. h.0 (sym e ∙ is), λ there. e ∙ h.1 there)

-- the same of bands, unless memory was wanting
pub bands_exactly : (r : Result (Option (Room Span)) NoMemory) (bytes : List ℕ) → AreBytes bytes
    → IfOk r (λ bands. option_map items_of bands ≡ carried bands_at bytes)
    → IfOk r (λ bands. IsExactly (option_map items_of bands) (λ spans. CarriesBands spans bytes))
bands_exactly (Ok bands) bytes fits e =
    exactly (List Span) AreBands bands_fields bands_at bands_law (option_map items_of bands) bytes fits e
bands_exactly (Err f) bytes fits e = tt
