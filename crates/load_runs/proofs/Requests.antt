-- How long a request of a load is, and that it can be cut.
use Rattle.std.proofs.Common.{◌≡◌, ℕ, ◌+◌, ◌≤◌, true, List, [], ◌∷◌, length, map, Option, Some, None, refl, ap, arith, subst, sym}
use Rattle.orb_base.specs.Tagged.{Context}
use Rattle.orb_base.specs.declared.limits.TheConstants.{MAX_MESSAGE}
use Rattle.orb_base.specs.declared.order.Order.{Order}
use Rattle.orb_base.specs.declared.order.Order.TheVariants.{Big}
use Rattle.cdr_core.specs.Encapsulation.{encapsulation}
use Rattle.cdr_core.specs.Spelling.{fields_bytes}
use Rattle.cdr_core.proofs.CallerLemmas.{fields_end-is}
use Rattle.service_contexts.specs.Layout.{priority_fields}
use Rattle.giop_frames.specs.Kinds.{is_long_kind}
use Rattle.giop_frames.specs.Splitting.{IsUncut}
use Rattle.giop_messages.specs.Lengths.{held, data_len}
use Rattle.giop_messages.specs.Message.{key, request_of}
use Rattle.giop_messages.specs.Spelling.{spelled}
use Rattle.giop_messages.proofs.Written.{uncut_written}
use Rattle.load_runs.specs.Generated.{operation, contexts_of, asking}
use Rattle.load_runs.specs.Making.{AreShort}
use Rattle.load_runs.specs.declared.request.TheConstants.{MAX_REQUEST}

-- what is known of a number that is told of a request's parts
abbrev pub IsLen : List ℕ → List ℕ → List ℕ → ℕ → ℕ → Type 0
IsLen object name sizes body n =
    (order : Order) (id flags : ℕ) (told : List Context) (bytes : List ℕ) → map data_len told ≡ sizes → length bytes ≡ body
    → n ≡ held (length (spelled order (request_of id flags (key object) name told bytes)))

pub priority_data : (level : ℕ) → length (encapsulation Big (priority_fields level)) ≡ 4
priority_data level =
    let all : 4 ≡ 1 + length (fields_bytes Big 1 (priority_fields level)) = fields_end-is Big 1 (priority_fields level) in
    omega (arith, all)

short_by : (len n : ℕ) → n ≡ held len → n ≤ MAX_REQUEST → len ≤ MAX_REQUEST
short_by len n is few = omega (arith, is, few)

pub both_short : (object name : List ℕ) (n m : ℕ) → name ≡ operation → IsLen object name (4 ∷ []) 0 n → IsLen object name [] 0 m → n ≤ MAX_REQUEST → m ≤ MAX_REQUEST → AreShort object
both_short object name n m named with_one with_none few few' id (Some level) =
    let sizes : map data_len (contexts_of (Some level)) ≡ 4 ∷ [] = ap (λ (x : ℕ). x ∷ []) (priority_data level) in
    let len = with_one Big id 3 (contexts_of (Some level)) [] sizes refl in
    let is : n ≡ held (length (spelled Big (asking id object (Some level)))) =
    subst (λ (x : List ℕ). n ≡ held (length (spelled Big (request_of id 3 (key object) x (contexts_of (Some level)) [])))) named len in
    short_by (length (spelled Big (asking id object (Some level)))) n is few
both_short object name n m named with_one with_none few few' id None =
    let len = with_none Big id 3 [] [] refl refl in
    let is : m ≡ held (length (spelled Big (asking id object None))) =
    subst (λ (x : List ℕ). m ≡ held (length (spelled Big (request_of id 3 (key object) x [] [])))) named len in
    short_by (length (spelled Big (asking id object None))) m is few'

long_request : is_long_kind 0 ≡ true
unfolding is_long_kind
long_request = refl

pub short_message : (id : ℕ) (object : List ℕ) (level : Option ℕ) → AreShort object → length (spelled Big (asking id object level)) ≤ MAX_MESSAGE
short_message id object level short = omega (arith, short id level)

pub is_uncut : (id : ℕ) (object : List ℕ) (level : Option ℕ) → AreShort object → IsUncut (spelled Big (asking id object level))
is_uncut id object level short = uncut_written Big (asking id object level) (short_message id object level short) long_request

pub uncut_bytes : (id : ℕ) (object : List ℕ) (level : Option ℕ) (bytes : List ℕ) → AreShort object → bytes ≡ spelled Big (asking id object level) → IsUncut bytes
uncut_bytes id object level bytes short is =
    let P : List ℕ → Type 0 = λ x. IsUncut x in subst P (sym is) (is_uncut id object level short)
