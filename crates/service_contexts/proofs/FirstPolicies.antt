-- The first policy of a type, found in one pass.
use Rattle.std.proofs.Common.{◌≡◌, ℕ, ◌+◌, ◌-◌, ◌<◌, ◌≤◌, List, [], ◌∷◌, ◌++◌, Option, Some, None, Ok, Err, refl, sym, ap, ◌∙◌, arith, Bor}
use Rattle.std.specs.Prelude.{option_map, find, ◌==◌, Bool}
use Rattle.std.specs.Option.{option_or, option_and_then}
use Rattle.std.specs.Result.{result_ok}
use Rattle.std.proofs.lemmas.List.Folds.{find-append}
use Rattle.orb_base.specs.Tagged.{Tagged}
use Rattle.cdr_core.specs.declared.fault.CdrFault.{CdrFault}
use Rattle.cdr_core.specs.Cursor.{Cursor, Reads}
use Rattle.cdr_core.specs.Sequence.{times}
use Rattle.cdr_core.specs.Lists.{Item, item_at, made_at, tagged_of}
use Rattle.cdr_core.proofs.CallerLemmas.{with_front, goes_on, ends, is_done}
use Rattle.service_contexts.specs.Publishing.{first_bytes}

-- a policy at a cursor
abbrev pub policy_at : Cursor → Reads Tagged
policy_at = made_at tagged_of

-- this many policies were read, and this is the value of the first of the type
pub record FoundSoFar (kind count i : ℕ) (start c : Cursor) (found : Option (List ℕ)) : Type 0 where
  pub seen : List Tagged
  pub reading : with_front seen (times policy_at (count - i) c) ≡ times policy_at count start
  pub first : found ≡ first_bytes kind seen

bytes_of : Option Tagged → Option (List ℕ)
bytes_of found = option_map (λ (t : Tagged). t.bytes) found

or_bytes : (a b : Option Tagged) → bytes_of (option_or a b) ≡ option_or (bytes_of a) (bytes_of b)
unfolding bytes_of
or_bytes (Some x) b = refl
or_bytes None b = refl

-- one more after the others
first_behind : (kind : ℕ) (seen : List Tagged) (p : Tagged) → first_bytes kind (seen ++ p ∷ []) ≡ option_or
    (first_bytes kind seen) (first_bytes kind (p ∷ []))
unfolding first_bytes bytes_of
first_behind kind seen p =
    let is : Tagged → Bool = λ t. t.tag == kind in
    ap bytes_of (find-append is seen (p ∷ [])) ∙ or_bytes (find is seen) (find is (p ∷ []))

nothing_before : (reading : Reads (List Tagged)) → with_front [] reading ≡ reading
nothing_before (Ok x) = refl
nothing_before (Err e) = refl

pub found_start : (kind count : ℕ) (start : Cursor) → FoundSoFar kind count 0 start start None
unfolding first_bytes
found_start kind count start =
    let all : count - 0 ≡ count = omega arith in
    record { seen = []; reading = rw all (nothing_before (times policy_at count start)); first = refl }

pub found_more : (kind count i : ℕ) (start c d : Cursor) (found found' : Option (List ℕ)) (p : Tagged) → i < count
    → policy_at c ≡ Ok (p, d)
    → found' ≡ option_or found (first_bytes kind (p ∷ [])) → FoundSoFar kind count i start c found
    → FoundSoFar kind count (i + 1) start d found'
found_more kind count i start c d found found' p more is next so_far = record {
  seen = so_far.seen ++ p ∷ [];
  reading = goes_on policy_at so_far.seen count i c p d (times policy_at count start) more is so_far.reading;
  first = next ∙ ap (λ (o : Option (List ℕ)). option_or o (first_bytes kind (p ∷ []))) so_far.first ∙ sym
      (first_behind kind so_far.seen p);
}

abbrev pub first_in : ℕ → Reads (List Tagged) → Option (List ℕ)
first_in kind reading = option_and_then (λ policies. first_bytes kind policies.0) (result_ok reading)

pub found_cut : (kind count i : ℕ) (start c : Cursor) (found : Option (List ℕ)) (e : CdrFault) → i < count
    → policy_at c ≡ Err e → FoundSoFar kind count i start c found → None ≡ first_in kind (times policy_at count start)
found_cut kind count i start c found e more is so_far =
    sym (ap (first_in kind) (ends policy_at e so_far.seen count i c (times policy_at count start) more is so_far.reading))

pub found_all : (kind count i : ℕ) (start c : Cursor) (found : Option (List ℕ)) → count ≤ i
    → FoundSoFar kind count i start c found → found ≡ first_in kind (times policy_at count start)
found_all kind count i start c found all so_far =
    so_far.first ∙ sym (ap (first_in kind) (is_done policy_at so_far.seen count i c (times policy_at count start) all
    so_far.reading))

pub no_bytes : (found : Option (Bor (List ℕ))) → found ≡ None → option_map (λ x. x.now) found ≡ None
no_bytes found none = ap (λ (o : Option (Bor (List ℕ))). option_map (λ (x : Bor (List ℕ)). x.now) o) none

pub policy_found : (c d : Cursor) (x : Item) → item_at c ≡ Ok (x, d) → policy_at c ≡ Ok (tagged_of x, d)
policy_found c d x is = rw is refl

pub policy_bad : (c : Cursor) (e : CdrFault) → item_at c ≡ Err e → policy_at c ≡ Err e
policy_bad c e is = rw is refl
