-- The call that words ask for, with its band.
use Rattle.std.proofs.Common.{◌≡◌, ℕ, Bool, true, false, ◌||◌, if◌then◌else◌, nat_lt, List, length, Option, Some, None, is_some, refl, sym, ap, subst, ◌∙◌, inl, inr}
use Rattle.std.specs.Prelude.{Result, Ok, Err, IsTrue}
use Rattle.orb_base.specs.Span.{Span}
use Rattle.orb_base.specs.declared.order.Order.TheVariants.{Big}
use Rattle.cdr_core.specs.Sequence.{◌>>=◌}
use Rattle.idl_types.specs.Finding as Found
use Rattle.idl_types.specs.Things.{Thing}
use Rattle.reference_lines.specs.declared.refs_end.TheConstants.{MAX_REFERENCE}
use Rattle.giop_messages.specs.Lengths.{held}
use Rattle.giop_messages.specs.Spelling.{spelled}
use Rattle.client_stub.specs.Asking.{Asked, arguments_fit}
use Rattle.client_stub.specs.Choosing.{band_for, bound_at, counting}
use Rattle.client_stub.specs.Requests.{longer, may_bind, call_of, bind_of}
use Rattle.client_stub.specs.Sending.{IsSendable}
use Rattle.client_runs.specs.Judging.{Gives, or_fault, remote_by, remote_in, operation_by, operation_in, interface_id, arguments_by, asked_by, with_band, Refuses}
use Rattle.client_runs.specs.Plans.{asked_in, Binds, JudgedAs, Judges}
use Rattle.client_runs.specs.declared.call_end.CallEnd.{CallEnd}
use Rattle.client_runs.specs.declared.call_end.CallEnd.TheVariants as end
use Rattle.client_runs.specs.declared.call_end.LocalFault.{LocalFault}
use Rattle.client_runs.specs.declared.call_end.LocalFault.TheVariants.{BadReference, NoInterface, NoOperation, BadArguments, NoBand, SharedBand}
use Rattle.client_runs.specs.declared.call_words.CallWords.{CallWords}
use Rattle.client_runs.specs.declared.plan.Plan.{Plan}

-- ---- the length of the requests is the same with the band that is chosen

some_is : {A : Type 0} (a b : A) → Some a ≡ Some b → a ≡ b
some_is a b e = cc

-- a call may bind a band exactly where the reference has bands
may_as : (bands : Option (List Span)) (level : ℕ) (band : Option Span) → bound_at level bands ≡ Some band → is_some bands || is_some band ≡ is_some bands || false
may_as None level band h = ap (λ (b : Option Span). is_some b) (sym (some_is None band h))
may_as (Some all) level band h = refl

pub sendable_with : (asked : Asked) (band : Option Span) → asked.band ≡ None → band_for asked.remote asked.priority ≡ Some band
    → IsSendable asked → IsSendable (with_band band asked)
sendable_with asked band none chosen s =
    let may : may_bind (with_band band asked) ≡ may_bind asked =
    may_as asked.remote.bands (counting asked.remote.model asked.priority) band chosen
    ∙ ap (λ (b : Option Span). is_some asked.remote.bands || is_some b) (sym none) in
    record {
      len = s.len;
      is_len = record {
        body = s.is_len.body;
        has_body = s.is_len.has_body;
        len = λ id bind_id span.
            s.is_len.len id bind_id span
            ∙ ap (λ (may : Bool). held (longer may (length (spelled Big (call_of id asked s.is_len.body))) (length (spelled Big (bind_of bind_id asked.remote.key span))))) (sym may);
      };
      short = s.short;
    }

-- ---- no step before the band looks at it

-- a fault that is judged after the arguments
record IsLate (late : LocalFault) : Type 0 where
  no_reference : ¬ (BadReference ≡ late)
  no_interface : ¬ (NoInterface ≡ late)
  no_operation : ¬ (NoOperation ≡ late)
  no_arguments : ¬ (BadArguments ≡ late)

or_not : {A : Type 0} (late fault : LocalFault) (o : Option A) → ¬ (fault ≡ late) → ¬ (or_fault fault o ≡ Err late)
or_not late fault None other = λ h. other cc
or_not late fault (Some x) other = λ h. cc

if_not : {A : Type 0} (late : LocalFault) (b : Bool) (x y : Result A LocalFault) → ¬ (x ≡ Err late) → ¬ (y ≡ Err late) → ¬ ((if b then x else y) ≡ Err late)
if_not late true x y at_true at_false = at_true
if_not late false x y at_true at_false = at_false

then_not : {A B : Type 0} (late : LocalFault) (asked : Result A LocalFault) (f : A → Result B LocalFault) → ¬ (asked ≡ Err late)
    → ((x : A) → ¬ (f x ≡ Err late)) → ¬ (asked >>= f ≡ Err late)
then_not late (Ok x) f first later = later x
then_not late (Err e) f first later = λ h. first cc

fault_not : {A : Type 0} (late fault : LocalFault) → ¬ (fault ≡ late) → ¬ (◌≡◌ {A = Result A LocalFault} (Err fault) (Err late))
fault_not late fault other = λ h. other cc

asked_not : (late : LocalFault) → IsLate late → (words : CallWords) (things : List Thing) → ¬ (asked_by words things ≡ Err late)
unfolding asked_by
asked_not late is words things =
    then_not late (remote_by words.reference) _ (remote_not words.reference) (λ remote.
    then_not late (operation_by words things remote) _ (operation_not things (interface_id words remote) words.operation) (λ operation.
    then_not late (arguments_by words operation) _ (or_not late BadArguments _ is.no_arguments) (λ arguments. λ h. cc)))
  where
    remote_not : (text : List ℕ) → ¬ (remote_by text ≡ Err late)
    remote_not text =
        if_not late (nat_lt MAX_REFERENCE (length text)) (Err BadReference) (remote_in text) (fault_not late BadReference is.no_reference)
        (or_not late BadReference _ is.no_reference)

    operation_not : (things : List Thing) (id name : List ℕ) → ¬ (operation_in things id name ≡ Err late)
    operation_not things id name =
        if_not late (Found.is_interface things id) (or_fault NoOperation (Found.operation_named things id name)) (Err NoInterface)
        (or_not late NoOperation _ is.no_operation) (fault_not late NoInterface is.no_interface)

band_late : IsLate NoBand
band_late = record { no_reference = λ h. cc; no_interface = λ h. cc; no_operation = λ h. cc; no_arguments = λ h. cc }

shared_late : IsLate SharedBand
shared_late = record { no_reference = λ h. cc; no_interface = λ h. cc; no_operation = λ h. cc; no_arguments = λ h. cc }

-- ---- what is asked for

refused : (fault : LocalFault) (words : CallWords) (things : List Thing) → asked_by words things ≡ Err fault → Refuses fault words things
refused BadReference words things h = h
refused NoInterface words things h = h
refused NoOperation words things h = h
refused BadArguments words things h = inl h
refused NoBand words things h = absurd (asked_not NoBand band_late words things h)
refused SharedBand words things h = absurd (asked_not SharedBand shared_late words things h)

-- the first fault before the band
pub unbound_fault : (e : CallEnd) (words : CallWords) (things : List Thing) → Gives asked_in (Err e) (asked_by words things)
    → Judges (Err e) words things
unbound_fault (end.Local fault) words things h = refused fault words things h
unbound_fault end.NoMemory words things h = tt
unbound_fault (end.File fault) words things h = absurd h
unbound_fault end.NetFault words things h = absurd h
unbound_fault (end.Called fault) words things h = absurd h
unbound_fault end.WriteFault words things h = absurd h
unbound_fault end.Done words things h = absurd h

-- no band holds its priority
pub band_fault : (e : CallEnd) (unbound : Asked) → IsSendable unbound → Binds (Err e) unbound → JudgedAs (Err e) unbound
band_fault e unbound short h =
    let P : CallEnd → Type 0 = λ (why : CallEnd). JudgedAs (Err why) unbound in
    subst P (sym h.0) (short, h.1)

-- or one does, or none is wanted
pub band_found : (plan : Plan) (unbound : Asked) (band : Option Span) → IsSendable unbound → Binds (Ok band) unbound
    → asked_in plan ≡ with_band band unbound → JudgedAs (Ok plan) unbound
band_found plan unbound band short chosen same =
    let is : plan.band ≡ band = ap (λ (a : Asked). a.band) same in
    (short, chosen ∙ ap (λ (b : Option Span). Some b) (sym is), same ∙ ap (λ (b : Option Span). with_band b unbound) (sym is))

pub fits_with : (asked unbound : Asked) (band : Option Span) → asked ≡ with_band band unbound → IsTrue (arguments_fit unbound)
    → IsTrue (arguments_fit asked)
fits_with asked unbound band same fits =
    let P : Asked → Type 0 = λ (a : Asked). IsTrue (arguments_fit a) in
    subst P (sym same) fits

pub short_with : (asked unbound : Asked) (band : Option Span) → unbound.band ≡ None → Binds (Ok band) unbound → asked ≡ with_band band unbound
    → IsSendable unbound → IsSendable asked
short_with asked unbound band none chosen same short =
    let P : Asked → Type 0 = λ (a : Asked). IsSendable a in
    subst P (sym same) (sendable_with unbound band none chosen short)

-- the call, or its fault
pub unbound_found : (answer : Result Plan CallEnd) (words : CallWords) (things : List Thing) (unbound : Asked) → asked_by words things ≡ Ok unbound
    → JudgedAs answer unbound → Judges answer words things
unbound_found (Ok plan) words things unbound is h = record { unbound = unbound; is = is; short = h.0; band = h.1; same = h.2 }
unbound_found (Err (end.Local BadArguments)) words things unbound is h = inr (record { unbound = unbound; is = is; long = h })
unbound_found (Err (end.Local NoBand)) words things unbound is h = record { unbound = unbound; is = is; short = h.0; none = h.1 }
unbound_found (Err (end.Local SharedBand)) words things unbound is h = absurd h
unbound_found (Err (end.Local BadReference)) words things unbound is h = absurd h
unbound_found (Err (end.Local NoInterface)) words things unbound is h = absurd h
unbound_found (Err (end.Local NoOperation)) words things unbound is h = absurd h
unbound_found (Err end.NoMemory) words things unbound is h = absurd h
unbound_found (Err (end.File fault)) words things unbound is h = absurd h
unbound_found (Err end.NetFault) words things unbound is h = absurd h
unbound_found (Err (end.Called fault)) words things unbound is h = absurd h
unbound_found (Err end.WriteFault) words things unbound is h = absurd h
unbound_found (Err end.Done) words things unbound is h = absurd h
