-- What a piece without a cause is like, and that it keeps the ids apart.
use Rattle.std.proofs.Common.{◌≡◌, ℕ, ◌+◌, ◌-◌, ◌%◌, ◌^◌, ◌≤◌, ◌<◌, Bool, true, false, cond, not, ◌&&◌, ◌||◌, ◌==◌, List, [], ◌∷◌, ◌++◌, length, Option, Some, None, is_some, refl, ap, sym, ◌∙◌, arith, nat_le, nat_lt, map, filter, subst}
use Rattle.std.proofs.lemmas.List.{append-nil}
use Rattle.giop_frames.specs.declared.fault.FrameCause.{FrameCause}
use Rattle.giop_frames.specs.declared.fault.FrameCause.TheVariants.{BadPiece, TooLong, TooManyPartials}
use Rattle.orb_base.specs.declared.order.Order.{Order}
use Rattle.giop_frames.specs.declared.kind.Kind.TheVariants.{CancelRequest}
use Rattle.giop_frames.specs.Kinds.{is_kind, comes_whole}
use Rattle.giop_frames.specs.Pieces.{Piece, order_of, has_more, kind_of, id_of}
use Rattle.giop_frames.specs.Messages.{Partial, is_fragment, opens, continues, ends, added, open_at, begun}
use Rattle.giop_frames.specs.Stream.{same_order, fragment_cause, first_cause, piece_cause}
use Rattle.giop_frames.specs.Running.{grown, stepped}
use Rattle.giop_frames.specs.Steps.{IsDistinct, IsSound, JoinFits}
use Rattle.giop_frames.proofs.Heads.{none_rule, not_lt}
use Rattle.giop_frames.proofs.Places.{same, none_first}
use Rattle.giop_frames.proofs.Effects.{opens_is}

pub record Passed (m k e f l : Bool) (fc pc : Option FrameCause) : Type 0 where
  pub not_short : m ≡ true → k ≡ false
  pub eights : m ≡ true → e ≡ true
  pub long : f ≡ true → l ≡ false
  pub fragment : f ≡ true → fc ≡ None
  pub first : m ≡ true → f ≡ false → pc ≡ None

pub passed : (m k e f l : Bool) (fc pc : Option FrameCause)
    → cond (m && k) (Some BadPiece) (cond (m && not e) (Some BadPiece) (cond f (cond l (Some BadPiece) fc) (cond m pc None))) ≡ None → Passed m k e f l fc pc
passed true true e f l fc pc h = absurd (cc)
passed true false false f l fc pc h = absurd (cc)
passed true false true true true fc pc h = absurd (cc)
passed true false true true false fc pc h = record { not_short = λ _. refl; eights = λ _. refl; long = λ _. refl; fragment = λ _. h; first = λ q r. absurd (cc) }
passed true false true false l fc pc h = record { not_short = λ _. refl; eights = λ _. refl; long = λ q. absurd (cc); fragment = λ q. absurd (cc); first = λ q r. h }
passed false k e true true fc pc h = absurd (cc)
passed false k e true false fc pc h = record { not_short = λ q. absurd (cc); eights = λ q. absurd (cc); long = λ _. refl; fragment = λ _. h; first = λ q r. absurd (cc) }
passed false k e false l fc pc h = record { not_short = λ q. absurd (cc); eights = λ q. absurd (cc); long = λ q. absurd (cc); fragment = λ q. absurd (cc); first = λ q r. absurd (cc) }

passes : (limit : ℕ) (us : List Partial) (b : List ℕ) → piece_cause limit us b ≡ None
    → Passed (has_more b) (comes_whole (kind_of b)) (length b % 8 == 0) (is_fragment b) (nat_lt (length b) 16) (fragment_cause limit (order_of b) (length b) (open_at (id_of b) us)) (first_cause us (id_of b))
unfolding is_fragment
passes limit us b h =
    passed (has_more b) (comes_whole (kind_of b)) (length b % 8 == 0) (is_fragment b) (nat_lt (length b) 16) (fragment_cause limit (order_of b) (length b) (open_at (id_of b) us)) (first_cause us (id_of b))
    (none_rule limit us b h)

in_eights : (n : ℕ) → (n % 8 == 0) ≡ true → 12 ≤ n → 16 ≤ n
in_eights n h l = let e : n % 8 ≡ 0 = grind arith in omega arith

or_none : (a b : Bool) → (a || b) ≡ false → a ≡ false
or_none true b h = absurd (cc)
or_none false b h = refl

not_cancel : (kind : ℕ) → comes_whole kind ≡ false → is_kind CancelRequest kind ≡ false
unfolding comes_whole
not_cancel kind h = or_none (is_kind CancelRequest kind) _ h

second_none : (a b : Bool) → cond (not a) (Some BadPiece) (cond b (Some TooLong) None) ≡ None → b ≡ false
second_none true true h = absurd (cc)
second_none true false h = refl
second_none false b h = absurd (cc)

-- what a Fragment joins is within the limit
pub fragment_fits : (limit : ℕ) (order : Order) (b : List ℕ) (u : Partial) → fragment_cause limit order (length b) (Some u) ≡ None → length u.bytes + (length b - 16) ≤ limit
unfolding fragment_cause
fragment_fits limit order b u h = not_lt limit (length u.bytes + (length b - 16)) (second_none (same_order u.order order) (nat_lt limit (length u.bytes + (length b - 16))) h)

joins : (limit : ℕ) (order : Order) (b : List ℕ) (o : Option Partial) → limit < 2 ^ 31 → fragment_cause limit order (length b) o ≡ None → JoinFits (length b) o
joins limit order b None s h = tt
joins limit order b (Some u) s h = omega (arith, fragment_fits limit order b u h)

two_none : (a b : Bool) → cond a (Some BadPiece) (cond b (Some TooManyPartials) None) ≡ None → (a ≡ false) × (b ≡ false)
two_none true b h = absurd (cc)
two_none false true h = absurd (cc)
two_none false false h = (refl, refl)

no_open : (o : Option Partial) → is_some o ≡ false → o ≡ None
no_open None h = refl
no_open (Some u) h = absurd (cc)

not_le : (n m : ℕ) → nat_le n m ≡ false → m < n
not_le n m h = grind arith

-- a first piece finds its id not open, and fewer than 16 unfinished messages
pub first_new : (us : List Partial) (b : List ℕ) → first_cause us (id_of b) ≡ None → (open_at (id_of b) us ≡ None) × (length us < 16)
unfolding first_cause
first_new us b h =
    let t : (is_some (open_at (id_of b) us) ≡ false) × (nat_le 16 (length us) ≡ false) = two_none (is_some (open_at (id_of b) us)) (nat_le 16 (length us)) h in
    (no_open (open_at (id_of b) us) t.0, not_le 16 (length us) t.1)

pub sound : (limit : ℕ) (us : List Partial) (b : List ℕ) → piece_cause limit us b ≡ None → 12 ≤ length b → limit < 2 ^ 31 → IsDistinct us → IsSound us b
sound limit us b h l s d =
    let p = passes limit us b h in
    record {
      header = l;
      fragment_long = λ f. not_lt (length b) 16 (p.long f);
      first_long = λ o. in_eights (length b) (p.eights (opens_is b o).0) l;
      no_cancel = λ o. not_cancel (kind_of b) (p.not_short (opens_is b o).0);
      fits = λ f. joins limit (order_of b) b (open_at (id_of b) us) s (p.fragment f);
      distinct = d;
    }

pub opens_new : (limit : ℕ) (us : List Partial) (b : List ℕ) → piece_cause limit us b ≡ None → opens b ≡ true → (open_at (id_of b) us ≡ None) × (length us < 16)
opens_new limit us b h o = let p = passes limit us b h in let k = opens_is b o in first_new us b (p.first k.0 k.1)

pub joins_within : (limit : ℕ) (us : List Partial) (b : List ℕ) → piece_cause limit us b ≡ None → is_fragment b ≡ true → fragment_cause limit (order_of b) (length b) (open_at (id_of b) us) ≡ None
joins_within limit us b h f = (passes limit us b h).fragment f

-- ids stay apart
filter_one : (id : ℕ) (t : Partial → Bool) (u : Partial) (us : List Partial) (b : Bool) → same id u ≡ false → open_at id (filter t us) ≡ None
    → open_at id (cond b (u ∷ filter t us) (filter t us)) ≡ None
filter_one id t u us true e h = ap (λ (b : Bool). cond b (Some u) (open_at id (filter t us))) e ∙ h
filter_one id t u us false e h = h

filter_none : (id : ℕ) (t : Partial → Bool) (us : List Partial) → open_at id us ≡ None → open_at id (filter t us) ≡ None
filter_none id t [] h = refl
filter_none id t (u ∷ us) h =
    let n : (same id u ≡ false) × (open_at id us ≡ None) = none_first (same id u) u (open_at id us) h in
    filter_one id t u us (t u) n.0 (filter_none id t us n.1)

grown_is : (p : Piece) (u : Partial) (b : Bool) → (cond b (record u { bytes = u.bytes ++ added p }) u).id ≡ u.id
grown_is p u true = refl
grown_is p u false = refl

grown_id : (p : Piece) (u : Partial) → (grown p u).id ≡ u.id
grown_id p u = grown_is p u (continues u.id p.bytes)

map_none : (id : ℕ) (p : Piece) (us : List Partial) → open_at id us ≡ None → open_at id (map (grown p) us) ≡ None
map_none id p [] h = refl
map_none id p (u ∷ us) h =
    let n : (same id u ≡ false) × (open_at id us ≡ None) = none_first (same id u) u (open_at id us) h in
    ap (λ (b : Bool). cond b (Some (grown p u)) (open_at id (map (grown p) us))) (ap (λ (k : ℕ). k == id) (grown_id p u) ∙ n.0) ∙ map_none id p us n.1

distinct_one : (t : Partial → Bool) (u : Partial) (us : List Partial) (b : Bool) → IsDistinct (u ∷ us) → IsDistinct (filter t us) → IsDistinct (cond b (u ∷ filter t us) (filter t us))
distinct_one t u us true d r = (filter_none u.id t us d.0, r)
distinct_one t u us false d r = r

filter_distinct : (t : Partial → Bool) (us : List Partial) → IsDistinct us → IsDistinct (filter t us)
filter_distinct t [] d = tt
filter_distinct t (u ∷ us) d = distinct_one t u us (t u) d (filter_distinct t us d.1)

map_distinct : (p : Piece) (us : List Partial) → IsDistinct us → IsDistinct (map (grown p) us)
map_distinct p [] d = tt
map_distinct p (u ∷ us) d =
    (ap (λ (k : ℕ). open_at k (map (grown p) us)) (grown_id p u) ∙ map_none u.id p us d.0, map_distinct p us d.1)

snoc_none : (id : ℕ) (us : List Partial) (v : Partial) → open_at id us ≡ None → (v.id == id) ≡ false → open_at id (us ++ v ∷ []) ≡ None
snoc_none id [] v h e = ap (λ (b : Bool). cond b (Some v) None) e
snoc_none id (u ∷ us) v h e =
    let n : (same id u ≡ false) × (open_at id us ≡ None) = none_first (same id u) u (open_at id us) h in
    ap (λ (b : Bool). cond b (Some u) (open_at id (us ++ v ∷ []))) n.0 ∙ snoc_none id us v n.1 e

other_way : (a b : ℕ) → (a == b) ≡ false → (b == a) ≡ false
other_way a b h = grind arith

snoc_distinct : (us : List Partial) (v : Partial) → IsDistinct us → open_at v.id us ≡ None → IsDistinct (us ++ v ∷ [])
snoc_distinct [] v d h = (refl, tt)
snoc_distinct (u ∷ us) v d h =
    let n : (same v.id u ≡ false) × (open_at v.id us ≡ None) = none_first (same v.id u) u (open_at v.id us) h in
    (snoc_none u.id us v d.0 (other_way u.id v.id n.0), snoc_distinct us v d.1 n.1)

step_tail : (p : Piece) (vs : List Partial) (b : Bool) → opens p.bytes ≡ b → IsDistinct vs → (b ≡ true → open_at (id_of p.bytes) vs ≡ None)
    → IsDistinct (vs ++ cond b (begun p [] ∷ []) [])
step_tail p vs true o d h = snoc_distinct vs (begun p []) d (h refl)
step_tail p vs false o d h = let P : List Partial → Type 0 = λ ws. IsDistinct ws in subst P (sym (append-nil vs)) d

pub step_distinct : (p : Piece) (us : List Partial) → IsDistinct us → (opens p.bytes ≡ true → open_at (id_of p.bytes) us ≡ None) → IsDistinct (stepped p us)
unfolding stepped
step_distinct p us d h =
    let vs : List Partial = filter (λ u. not (ends u.id p.bytes)) us in
    step_tail p (map (grown p) vs) (opens p.bytes) refl (map_distinct p vs (filter_distinct (λ u. not (ends u.id p.bytes)) us d))
    (λ o. map_none (id_of p.bytes) p vs (filter_none (id_of p.bytes) (λ u. not (ends u.id p.bytes)) us (h o)))
