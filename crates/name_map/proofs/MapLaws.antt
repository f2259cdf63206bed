-- A list of bindings that rises is a finite map.
use Rattle.std.proofs.Common.{◌≡◌, ◌≢◌, ℕ, ◌<◌, Bool, true, false, List, [], ◌∷◌, length, bytes_eq, nat_lt, Option, Some, None, is_some, MatchOption, if◌then◌else◌, ◌⊎◌, inl, inr, ap, sym, refl, subst, ◌∙◌, arith, ltb-true}
use Rattle.std.proofs.lemmas.Bool.{true≢false}
use Rattle.turn_cell.specs.Numbers.{Each}
use Rattle.turn_cell.specs.History.{replay}
use Rattle.name_map.specs.declared.binding.Binding.{Binding}
use Rattle.name_map.specs.declared.call.NamesCall.{NamesCall}
use Rattle.name_map.specs.declared.call.NamesCall.TheVariants.{Bind, Rebind, Resolve, Unbind, Next, Size}
use Rattle.name_map.specs.declared.call.NamesReply.{NamesReply}
use Rattle.name_map.specs.declared.call.NamesReply.TheVariants.{Stored, AlreadyBound, NoRoom, NotFound}
use Rattle.name_map.specs.declared.limits.TheConstants.{MAX_KEYS}
use Rattle.name_map.specs.Keys.{is_below, Below}
use Rattle.name_map.specs.Bindings.{binding, Rises, find, has, put, out, above}
use Rattle.name_map.specs.Machine.{IsMap, added, step}
use Rattle.name_map.specs.Callers.{History}
use Rattle.name_map.specs.Laws as law
use Rattle.name_map.proofs.Order.{below_trans, not_itself, below_differs, same_key, key_itself}
use Rattle.name_map.proofs.Placing.{if_true, if_false}
use Rattle.name_map.proofs.Changing.{by_test, put_low, put_high}
use Rattle.name_map.proofs.Doing.{put_is_map, put_old_is_map, out_is_map}

-- ---- a map stays one

added_is_map : (key target : List ℕ) (bs : List Binding) → IsMap bs → has key bs ≡ false → IsMap (added key target bs).0
added_is_map key target bs m h = by_test (nat_lt (length bs) MAX_KEYS)
    (λ l. subst (λ (b : Bool). let x : List Binding × NamesReply = if b then (put key target bs, Stored) else (bs, NoRoom) in IsMap x.0) (sym l) (put_is_map key target bs m h (ltb-true (length bs) MAX_KEYS l)))
    (λ l. subst (λ (b : Bool). let x : List Binding × NamesReply = if b then (put key target bs, Stored) else (bs, NoRoom) in IsMap x.0) (sym l) m)

step_is_map : (bs : List Binding) (call : NamesCall) → IsMap bs → IsMap (step bs call).0
step_is_map bs (Bind key target) m = by_test (has key bs)
    (λ h. subst (λ (b : Bool). let x : List Binding × NamesReply = if b then (bs, AlreadyBound) else added key target bs in IsMap x.0) (sym h) m)
    (λ h. subst (λ (b : Bool). let x : List Binding × NamesReply = if b then (bs, AlreadyBound) else added key target bs in IsMap x.0) (sym h) (added_is_map key target bs m h))
step_is_map bs (Rebind key target) m = by_test (has key bs)
    (λ h. subst (λ (b : Bool). let x : List Binding × NamesReply = if b then (put key target bs, Stored) else added key target bs in IsMap x.0) (sym h) (put_old_is_map key target bs m h))
    (λ h. subst (λ (b : Bool). let x : List Binding × NamesReply = if b then (put key target bs, Stored) else added key target bs in IsMap x.0) (sym h) (added_is_map key target bs m h))
step_is_map bs (Resolve key) m = m
step_is_map bs (Unbind key) m = by_test (has key bs)
    (λ h. subst (λ (b : Bool). let x : List Binding × NamesReply = if b then (out key bs, Stored) else (bs, NotFound) in IsMap x.0) (sym h) (out_is_map key bs m))
    (λ h. subst (λ (b : Bool). let x : List Binding × NamesReply = if b then (out key bs, Stored) else (bs, NotFound) in IsMap x.0) (sym h) m)
step_is_map bs (Next after) m = m
step_is_map bs Size m = m

pub stays_map : law.StaysMap
stays_map bs [] m = m
stays_map bs (e ∷ es) m = stays_map (step bs e.call).0 es (step_is_map bs e.call m)

-- ---- what a change leaves

at_head : (key : List ℕ) (b : Binding) (bs : List Binding) → bytes_eq b.key key ≡ true → find key (b ∷ bs) ≡ Some b.target
at_head key b bs e = if_true (bytes_eq b.key key) (Some b.target) (find key bs) e

past_head : (key : List ℕ) (b : Binding) (bs : List Binding) → bytes_eq b.key key ≡ false → find key (b ∷ bs) ≡ find key bs
past_head key b bs e = if_false (bytes_eq b.key key) (Some b.target) (find key bs) e

pub bound_found : law.BoundIsFound
bound_found key target [] = at_head key (binding key target) [] (key_itself key)
bound_found key target (b ∷ bs) = by_test (is_below b.key key)
    (λ e. ap (find key) (put_low key target b bs e) ∙ past_head key b (put key target bs) (below_differs b.key key e) ∙ bound_found key target bs)
    (λ e. ap (find key) (put_high key target b bs e) ∙ by_test (bytes_eq b.key key)
    (λ s. ap (find key) (if_true (bytes_eq b.key key) (binding key target ∷ bs) (binding key target ∷ b ∷ bs) s) ∙ at_head key (binding key target) bs (key_itself key))
    (λ d. ap (find key) (if_false (bytes_eq b.key key) (binding key target ∷ bs) (binding key target ∷ b ∷ bs) d) ∙ at_head key (binding key target) (b ∷ bs) (key_itself key)))

other_key : (a b : List ℕ) → b ≢ a → bytes_eq a b ≡ false
other_key a b n = by_test (bytes_eq a b) (λ e. absurd (n (sym (same_key a b e)))) (λ e. e)

-- the same after a head
under_head : (other : List ℕ) (b : Binding) (xs ys : List Binding) → find other xs ≡ find other ys → find other (b ∷ xs) ≡ find other (b ∷ ys)
under_head other b xs ys e = ap (λ (o : Option (List ℕ)). if bytes_eq b.key other then Some b.target else o) e

pub others_bound : law.OthersStayBound
others_bound key target other [] n = past_head other (binding key target) [] (other_key key other n)
others_bound key target other (b ∷ bs) n = by_test (is_below b.key key)
    (λ e. ap (find other) (put_low key target b bs e) ∙ under_head other b (put key target bs) bs (others_bound key target other bs n))
    (λ e. ap (find other) (put_high key target b bs e) ∙ by_test (bytes_eq b.key key)
    (λ s. ap (find other) (if_true (bytes_eq b.key key) (binding key target ∷ bs) (binding key target ∷ b ∷ bs) s) ∙ past_head other (binding key target) bs (other_key key other n)
    ∙ sym (past_head other b bs (subst (λ (k : List ℕ). bytes_eq k other ≡ false) (sym (same_key b.key key s)) (other_key key other n))))
    (λ d. ap (find other) (if_false (bytes_eq b.key key) (binding key target ∷ bs) (binding key target ∷ b ∷ bs) d) ∙ past_head other (binding key target) (b ∷ bs) (other_key key other n)))

pub taken_gone : law.TakenIsGone
taken_gone key [] = refl
taken_gone key (b ∷ bs) = by_test (bytes_eq b.key key)
    (λ s. ap (find key) (if_true (bytes_eq b.key key) (out key bs) (b ∷ out key bs) s) ∙ taken_gone key bs)
    (λ d. ap (find key) (if_false (bytes_eq b.key key) (out key bs) (b ∷ out key bs) d) ∙ past_head key b (out key bs) d ∙ taken_gone key bs)

pub others_left : law.OthersAreLeft
others_left key other [] n = refl
others_left key other (b ∷ bs) n = by_test (bytes_eq b.key key)
    (λ s. ap (find other) (if_true (bytes_eq b.key key) (out key bs) (b ∷ out key bs) s) ∙ others_left key other bs n
    ∙ sym (past_head other b bs (subst (λ (k : List ℕ). bytes_eq k other ≡ false) (sym (same_key b.key key s)) (other_key key other n))))
    (λ d. ap (find other) (if_false (bytes_eq b.key key) (out key bs) (b ∷ out key bs) d) ∙ under_head other b (out key bs) bs (others_left key other bs n))

-- ---- the next key

-- a key that is there is one of the bindings' keys
each_key : (P : List ℕ → Type 0) (bs : List Binding) → Each (λ b. P b.key) bs → (key : List ℕ) → has key bs ≡ true → P key
each_key P [] h key e = absurd (true≢false (sym e))
each_key P (b ∷ bs) h key e = by_test (bytes_eq b.key key)
    (λ s. subst P (same_key b.key key s) h.0)
    (λ d. each_key P bs h.1 key (sym (ap is_some (past_head key b bs d)) ∙ e))

has_more : (key : List ℕ) (b : Binding) (bs : List Binding) → has key bs ≡ true → has key (b ∷ bs) ≡ true
has_more key b bs e = by_test (bytes_eq b.key key)
    (λ s. ap is_some (at_head key b bs s))
    (λ d. ap is_some (past_head key b bs d) ∙ e)

-- a head that isn't above a text changes nothing
least_after : (text : List ℕ) (b : Binding) (bs : List Binding) → is_below text b.key ≡ false → (o : Option (List ℕ)) → MatchOption o (law.HasNoneAbove text bs) (law.IsLeastAbove text bs)
    → MatchOption o (law.HasNoneAbove text (b ∷ bs)) (law.IsLeastAbove text (b ∷ bs))
least_after text b bs e None h = λ other t. by_test (bytes_eq b.key other)
    (λ s. subst (λ (k : List ℕ). is_below text k ≡ false) (same_key b.key other s) e)
    (λ d. h other (sym (ap is_some (past_head other b bs d)) ∙ t))
least_after text b bs e (Some key) h = (
  has_more key b bs h.0,
  h.1,
  λ other t u. by_test (bytes_eq b.key other)
      (λ s. absurd (true≢false (sym (subst (λ (k : List ℕ). Below text k) (sym (same_key b.key other s)) u) ∙ e)))
      (λ d. h.2 other (sym (ap is_some (past_head other b bs d)) ∙ t) u),
)

pub next_least : law.NextIsLeast
next_least text [] r = λ other t. absurd (true≢false (sym t))
next_least text (b ∷ bs) r = by_test (is_below text b.key)
    (λ e. subst (λ (o : Option (List ℕ)). MatchOption o (law.HasNoneAbove text (b ∷ bs)) (law.IsLeastAbove text (b ∷ bs))) (sym (if_true (is_below text b.key) (Some b.key) (above text bs) e)) (
      ap is_some (at_head b.key b bs (key_itself b.key)),
      e,
      λ other t u. by_test (bytes_eq b.key other)
          (λ s. inl (same_key b.key other s))
          (λ d. inr (each_key (λ k. Below b.key k) bs r.0 other (sym (ap is_some (past_head other b bs d)) ∙ t))),
    ))
    (λ e. subst (λ (o : Option (List ℕ)). MatchOption o (law.HasNoneAbove text (b ∷ bs)) (law.IsLeastAbove text (b ∷ bs))) (sym (if_false (is_below text b.key) (Some b.key) (above text bs) e))
    (least_after text b bs e (above text bs) (next_least text bs r.1)))
