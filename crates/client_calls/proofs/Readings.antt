-- What is read of the body of a reply.
use Rattle.std.proofs.Common.{◌≡◌, ℕ, ◌%◌, true, false, List, [], ◌∷◌, ◌++◌, map, Result, Ok, Err, refl, sym, ap, ◌∙◌, append_assoc, append-nil}
use Rattle.std.specs.Int.{w32}
use Rattle.cdr_core.specs.Cursor.{Cursor, cursor, Reads}
use Rattle.cdr_core.specs.Reading.{number_at, string_at}
use Rattle.cdr_core.specs.Sequence.{◌>>=◌}
use Rattle.cdr_values.specs.declared.fault.DecodeFault.{DecodeFault}
use Rattle.cdr_values.specs.declared.fault.DecodeFault.TheVariants.{Cdr, NoMemory}
use Rattle.cdr_values.specs.Gives.{Refuses, Gives}
use Rattle.cdr_values.specs.Kinds.{kind_of}
use Rattle.cdr_values.specs.Reading.{read, with_front, then_values}
use Rattle.cdr_values.specs.Trees.{Kind, Value}
use Rattle.idl_types.specs.declared.param.Param.{Param}
use Rattle.idl_types.specs.Views.{param_of}
use Rattle.value_json.specs.Operations.{goes_out, kinds_back}
use Rattle.client_calls.specs.Bodies.{Took}
use Rattle.client_calls.specs.Replies.{value_at, values_at, system_at}
use Rattle.client_calls.specs.declared.system_exception.SystemException.{SystemException}

-- ---- one value

pub value_taken : (k : Kind) (c : Cursor) (v : Value) (d : Cursor) → read k c ≡ Ok (v, d) → value_at k c ≡ Ok (v, cursor d.order (d.place % 8) d.rest)
value_taken k c v d is = ap (λ (r : Reads Value). r >>= λ x. Ok (x.0, cursor x.1.order (x.1.place % 8) x.1.rest)) is

pub refuses_then : {A B : Type 0} (e : DecodeFault) (r : Reads A) (f : A × Cursor → Reads B) → Refuses e r → Refuses e (r >>= f)
refuses_then NoMemory r f h = tt
refuses_then (Cdr fault) r f h = ap (λ x. x >>= f) h

pub value_untaken : (e : DecodeFault) (k : Kind) (c : Cursor) → Refuses e (read k c) → Refuses e (value_at k c)
value_untaken e k c h = refuses_then e (read k c) (λ x. Ok (x.0, cursor x.1.order (x.1.place % 8) x.1.rest)) h

-- ---- values one after another

regroup : (front : List Value) (v : Value) (r : Reads (List Value)) → with_front front (with_front (v ∷ []) r) ≡ with_front (front ++ v ∷ []) r
regroup front v (Ok x) = ap (λ (vs : List Value). Ok (vs, x.1)) (sym (append_assoc front (v ∷ []) x.0))
regroup front v (Err f) = refl

no_more : (front : List Value) (c : Cursor) → with_front front (Ok ([], c)) ≡ Ok (front, c)
no_more front c = ap (λ (vs : List Value). Ok (vs, c)) (append-nil front)

pub none_before : (r : Reads (List Value)) → with_front [] r ≡ r
none_before (Ok x) = refl
none_before (Err f) = refl

pub first_then : (k : Kind) (ks : List Kind) (c : Cursor) (v : Value) (d : Cursor) → value_at k c ≡ Ok (v, d) → values_at (k ∷ ks) c ≡ with_front (v ∷ []) (values_at ks d)
unfolding values_at
first_then k ks c v d is = ap (λ (r : Reads Value). r >>= then_values (values_at ks)) is

pub first_fails : (e : DecodeFault) (k : Kind) (ks : List Kind) (c : Cursor) → Refuses e (value_at k c) → Refuses e (values_at (k ∷ ks) c)
unfolding values_at
first_fails e k ks c h = refuses_then e (value_at k c) (then_values (values_at ks)) h

none_at : (c : Cursor) → values_at [] c ≡ Ok ([], c)
unfolding values_at
none_at c = refl

front_fails : (e : DecodeFault) (front : List Value) (r : Reads (List Value)) → Refuses e r → Refuses e (with_front front r)
front_fails NoMemory front r h = tt
front_fails (Cdr f) front r h = ap (with_front front) h

-- ---- the parameters that come back

pub comes_back : (p : Param) (ps : List Param) → goes_out p.way ≡ true → kinds_back (map param_of (p ∷ ps)) ≡ kind_of p.kind ∷ kinds_back (map param_of ps)
comes_back p ps is = rw is refl

pub stays : (p : Param) (ps : List Param) → goes_out p.way ≡ false → kinds_back (map param_of (p ∷ ps)) ≡ kinds_back (map param_of ps)
stays p ps is = rw is refl

pub back_on : (front : List Value) (rest more : List Param) (p : Param) (c : Cursor) (v : Value) (d : Cursor) (total : Reads (List Value)) → rest ≡ p ∷ more → goes_out p.way ≡ true
    → value_at (kind_of p.kind) c ≡ Ok (v, d) → with_front front (values_at (kinds_back (map param_of rest)) c) ≡ total → with_front (front ++ v ∷ []) (values_at (kinds_back (map param_of more)) d) ≡ total
back_on front rest more p c v d total is goes taken so_far =
    let kinds : kinds_back (map param_of rest) ≡ kind_of p.kind ∷ kinds_back (map param_of more) = ap (λ (ps : List Param). kinds_back (map param_of ps)) is ∙ comes_back p more goes in
    let here : values_at (kinds_back (map param_of rest)) c ≡ with_front (v ∷ []) (values_at (kinds_back (map param_of more)) d) =
    ap (λ (ks : List Kind). values_at ks c) kinds ∙ first_then (kind_of p.kind) (kinds_back (map param_of more)) c v d taken in
    sym (regroup front v (values_at (kinds_back (map param_of more)) d)) ∙ sym (ap (with_front front) here) ∙ so_far

pub back_passed : (front : List Value) (rest more : List Param) (p : Param) (c : Cursor) (total : Reads (List Value)) → rest ≡ p ∷ more → goes_out p.way ≡ false
    → with_front front (values_at (kinds_back (map param_of rest)) c) ≡ total → with_front front (values_at (kinds_back (map param_of more)) c) ≡ total
back_passed front rest more p c total is goes so_far =
    let kinds : kinds_back (map param_of rest) ≡ kinds_back (map param_of more) = ap (λ (ps : List Param). kinds_back (map param_of ps)) is ∙ stays p more goes in
    sym (ap (λ (ks : List Kind). with_front front (values_at ks c)) kinds) ∙ so_far

fails_as : (e : DecodeFault) (r total : Reads (List Value)) → r ≡ total → Refuses e r → Refuses e total
fails_as NoMemory r total same h = tt
fails_as (Cdr f) r total same h = sym same ∙ h

pub back_fails : (e : DecodeFault) (front : List Value) (rest more : List Param) (p : Param) (c : Cursor) (total : Reads (List Value)) → rest ≡ p ∷ more → goes_out p.way ≡ true
    → Refuses e (value_at (kind_of p.kind) c) → with_front front (values_at (kinds_back (map param_of rest)) c) ≡ total → Refuses e total
back_fails e front rest more p c total is goes untaken so_far =
    let kinds : kinds_back (map param_of rest) ≡ kind_of p.kind ∷ kinds_back (map param_of more) = ap (λ (ps : List Param). kinds_back (map param_of ps)) is ∙ comes_back p more goes in
    let fails = first_fails e (kind_of p.kind) (kinds_back (map param_of more)) c untaken in
    fails_as e (with_front front (values_at (kind_of p.kind ∷ kinds_back (map param_of more)) c)) total (sym (ap (λ (ks : List Kind). with_front front (values_at ks c)) kinds) ∙ so_far)
    (front_fails e front (values_at (kind_of p.kind ∷ kinds_back (map param_of more)) c) fails)

pub backs_done : (front : List Value) (rest : List Param) (c : Cursor) (total : Reads (List Value)) → rest ≡ [] → with_front front (values_at (kinds_back (map param_of rest)) c) ≡ total
    → total ≡ Ok (front, c)
backs_done front rest c total none so_far =
    sym so_far ∙ ap (λ (ps : List Param). with_front front (values_at (kinds_back (map param_of ps)) c)) none ∙ ap (with_front front) (none_at c) ∙ no_more front c

-- ---- exceptions

pub took_of : {X Y : Type 0} (view : X → Y) (result : Result X DecodeFault) (new : Cursor) (reading : Reads Y) → Gives view result new reading → Took view result reading
took_of view (Ok x) new reading h = (new, h)
took_of view (Err e) new reading h = h

pub system_taken : (c d e f : Cursor) (id : List ℕ) (minor completed : ℕ) → string_at c ≡ Ok (id, d) → number_at w32 d ≡ Ok (minor, e) → number_at w32 e ≡ Ok (completed, f)
    → system_at c ≡ Ok (record { id = id; minor = minor; completed = completed }, f)
system_taken c d e f id minor completed one two three =
    ap (λ (r : Reads (List ℕ)). r >>= λ x. number_at w32 x.1 >>= λ y. number_at w32 y.1 >>= λ z. Ok (record { id = x.0; minor = y.0; completed = z.0 }, z.1)) one
    ∙ ap (λ (r : Reads ℕ). r >>= λ y. number_at w32 y.1 >>= λ z. Ok (record { id = id; minor = y.0; completed = z.0 }, z.1)) two
    ∙ ap (λ (r : Reads ℕ). r >>= λ z. Ok (record { id = id; minor = minor; completed = z.0 }, z.1)) three

pub no_id : (e : DecodeFault) (c : Cursor) → Refuses e (string_at c) → Refuses e (system_at c)
no_id e c h = refuses_then e (string_at c) (λ x. number_at w32 x.1 >>= λ y. number_at w32 y.1 >>= λ z. Ok (record { id = x.0; minor = y.0; completed = z.0 }, z.1)) h

refuses_as : {A : Type 0} (e : DecodeFault) (r r' : Reads A) → r ≡ r' → Refuses e r' → Refuses e r
refuses_as NoMemory r r' same h = tt
refuses_as (Cdr f) r r' same h = same ∙ h

pub no_minor : (e : DecodeFault) (c d : Cursor) (id : List ℕ) → string_at c ≡ Ok (id, d) → Refuses e (number_at w32 d) → Refuses e (system_at c)
no_minor e c d id one h =
    let rest : ℕ × Cursor → Reads SystemException = λ y. number_at w32 y.1 >>= λ z. Ok (record { id = id; minor = y.0; completed = z.0 }, z.1) in
    refuses_as e (system_at c) (number_at w32 d >>= rest)
    (ap (λ (r : Reads (List ℕ)). r >>= λ x. number_at w32 x.1 >>= λ y. number_at w32 y.1 >>= λ z. Ok (record { id = x.0; minor = y.0; completed = z.0 }, z.1)) one)
    (refuses_then e (number_at w32 d) rest h)

pub no_completed : (e : DecodeFault) (c d d' : Cursor) (id : List ℕ) (minor : ℕ) → string_at c ≡ Ok (id, d) → number_at w32 d ≡ Ok (minor, d') → Refuses e (number_at w32 d') → Refuses e (system_at c)
no_completed e c d d' id minor one two h =
    let last : ℕ × Cursor → Reads SystemException = λ z. Ok (record { id = id; minor = minor; completed = z.0 }, z.1) in
    refuses_as e (system_at c) (number_at w32 d' >>= last)
    (ap (λ (r : Reads (List ℕ)). r >>= λ x. number_at w32 x.1 >>= λ y. number_at w32 y.1 >>= λ z. Ok (record { id = x.0; minor = y.0; completed = z.0 }, z.1)) one
    ∙ ap (λ (r : Reads ℕ). r >>= λ y. number_at w32 y.1 >>= λ z. Ok (record { id = id; minor = y.0; completed = z.0 }, z.1)) two)
    (refuses_then e (number_at w32 d') last h)
