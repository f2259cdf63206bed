-- A seat that takes in another, or a note of what another has seen, keeps the rule.
use Rattle.std.proofs.Common.{◌≡◌, ◌≢◌, ℕ, ◌⊎◌, inl, inr, ⊎_elim, Bool, true, false, if◌then◌else◌, List, ◌++◌, length, set, Option, Some, sym, refl, ap, ◌∙◌, subst}
use Rattle.std.specs.Prelude.{nat_le}
use mathlib.Core.Option.{some, some-injective}
use lib.ListN.{get_elem?}
use Rattle.atomic_table.specs.Table.{State, Joins}
use Rattle.atomic_table.proofs.Lists.{at_set, set_else}
use Rattle.turn_cell.specs.declared.entry.Entry.{Entry}
use Rattle.turn_cell.specs.declared.board.Known.{Known}
use Rattle.turn_cell.specs.declared.board.Terms.{Terms}
use Rattle.turn_cell.specs.declared.board.Gone.{Gone}
use Rattle.turn_cell.specs.History.{StartsWith}
use Rattle.turn_cell.specs.Numbers.{Each}
use Rattle.turn_cell.specs.Views.{longer, gone_of, joined, telling, spent}
use Rattle.turn_cell.specs.Rule.{IsGone, Knows}
use Rattle.turn_cell.proofs.Keeps.{true-ne-false, each_append, Rule, views_stay}
use Rattle.turn_cell.proofs.Parts.{None-ne-Some}

module _ {O C R : Type 0} where
  pub longer_starts : (h a b : List (Entry O C R)) → StartsWith h a → StartsWith h b → StartsWith h (longer a b)
  longer_starts h a b p q = elim (nat_le (length b) (length a)) as (λ (t : Bool). StartsWith h (if t then a else b)) [ true ↦ p | false ↦ q ]

module _ {O C R : Type 0} (ready : O → C → Bool) (sound : O → C → Type 0) (step : O → C → O × R) (opens : O → Type 0) (fit : O → ℕ → List (Entry O C R) → C → Type 0) (heir : ℕ → ℕ → Option ℕ) (terms : Terms O) where
  abbrev V : Type 0
  V = Known O C R

  -- what the view `both` may have beside what v had
  abbrev pub MayHave : State (Option (Rattle.turn_cell.specs.declared.board.Core.Core O C R)) V → ℕ → V → ℕ → V → Type 0
  MayHave s id v other both = (r : Rule ready sound step opens fit heir terms s) → StartsWith r.history both.seen
      × ((a : ℕ) → v.number ≡ Some a → Each (IsGone heir r.splits_of terms r.history) both.ended)
      × ((i : ℕ) (u : V) (n a : ℕ) → get_elem? s.views i ≡ some u → i ≢ other → u.number ≡ Some n → v.number ≡ Some a → Each (λ d. d.number ≢ n) both.ended)
      × StartsWith r.history both.told

  absorbs : (id : ℕ) (v : V) (other : ℕ) (w both : V) → v.turn ≡ false → w.turn ≡ false
      → both.terms ≡ v.terms → both.number ≡ v.number → both.turn ≡ v.turn → both.mine ≡ v.mine → both.splits ≡ v.splits
      → (s : State (Option (Rattle.turn_cell.specs.declared.board.Core.Core O C R)) V) → (r : Rule ready sound step opens fit heir terms s) → get_elem? s.views id ≡ some v → other ≢ id → get_elem? s.views other ≡ some w → MayHave s id v other both
      → Rule ready sound step opens fit heir terms record { words = s.words; homes = s.homes; views = set (set s.views id both) other spent }
  absorbs id v other w both idle idle' same_terms same_number same_turn same_mine same_splits s r at apart there may =
      let m = may r in let sp : ℕ → ℕ = r.splits_of in let k = r.each_view id v at in let one : List V = set s.views id both in let K : ℕ → V → Type 0 = Knows heir sp terms r.history r.held r.holder in
      let spent_knows : (j : ℕ) → K j spent = λ j. ((r.history, refl), (λ i e. absurd (None-ne-Some i e)), (λ b. absurd (true-ne-false (sym b))), (r.history, refl)) in
      let both_knows : K id both = (m.0, (λ i e. let was : v.number ≡ Some i = sym same_number ∙ e in let p = k.1 i was in (same_terms ∙ p.0, same_mine ∙ p.1, same_splits ∙ p.2, p.3, m.1 i was)), (λ b. absurd (true-ne-false (sym b ∙ (same_turn ∙ idle)))), m.3) in
      let from : (j : ℕ) (d : V) (n : ℕ) → get_elem? (set one other spent) j ≡ some d → d.number ≡ Some n
      → (d' : V) × (get_elem? s.views j ≡ some d') × (d'.number ≡ Some n) × (j ≢ other) × (((j ≡ id) × (both ≡ d)) ⊎ (d'.ended ≡ d.ended)) = λ j d n e en.
      ⊎_elim (λ (t : (j ≡ other) × (spent ≡ d)). absurd (None-ne-Some n (ap (λ (z : V). z.number) t.1 ∙ en)))
      (λ (t : (j ≢ other) × (get_elem? one j ≡ some d)). ⊎_elim
      (λ (u : (j ≡ id) × (both ≡ d)). (v, subst (λ (z : ℕ). get_elem? s.views z ≡ some v) (sym u.0) at, sym same_number ∙ (ap (λ (z : V). z.number) u.1 ∙ en), t.0, inl u))
      (λ (u : (j ≢ id) × (get_elem? s.views j ≡ some d)). (d, u.1, en, t.0, inr refl)) (at_set s.views id j both d t.1)) (at_set one other j spent d e) in
      record {
        history = r.history;
        held = r.held;
        holder = r.holder;
        splits_of = sp;
        good = r.good;
        one_word = r.one_word;
        one_slot = r.one_slot;
        word = r.word;
        home = r.home;
        each_view = views_stay ready sound step opens fit heir terms K one other spent (spent_knows other) (λ j d ne e. views_stay ready sound step opens fit heir terms K s.views id both both_knows (λ i u _ f. r.each_view i u f) j d e);
        apart = λ i j a b n ea eb na nb. let p = from i a n ea na in let q = from j b n eb nb in r.apart i j p.0 q.0 n p.1 q.1 p.2 q.2;
        gone = λ i j a b n o ea eb na nb. let p = from i a n ea na in let q = from j b o eb nb in ⊎_elim
            (λ (u : (j ≡ id) × (both ≡ b)). let is : v.number ≡ Some o = sym same_number ∙ (ap (λ (z : V). z.number) u.1 ∙ nb) in
            subst (λ (z : V). Each (λ d. d.number ≢ n) z.ended) u.1 (m.2 i p.0 n o p.1 p.3 p.2 is))
            (λ same. subst (Each (λ d. d.number ≢ n)) same (r.gone i j p.0 q.0 n o p.1 q.1 p.2 q.2)) q.4;
        callers = r.callers;
        unmade = r.unmade;
        turn_is = λ busy. let h = r.turn_is busy in
            let not_id : r.holder ≢ id = λ same. true-ne-false (sym h.4 ∙ (ap (λ (z : V). z.turn) (some-injective _ _ (sym h.2 ∙ (ap (get_elem? s.views) same ∙ at))) ∙ idle)) in
            let not_other : r.holder ≢ other = λ same. true-ne-false (sym h.4 ∙ (ap (λ (z : V). z.turn) (some-injective _ _ (sym h.2 ∙ (ap (get_elem? s.views) same ∙ there))) ∙ idle')) in
            (h.0, h.1, set_else one other r.holder spent not_other ∙ (set_else s.views id r.holder both not_id ∙ h.2), h.3, h.4);
      }

  pub joins : (id : ℕ) (v : V) (other : ℕ) (w : V) (b : ℕ) → v.turn ≡ false → w.turn ≡ false → w.number ≡ Some b → Joins (Rule ready sound step opens fit heir terms) id v other w (joined v w) spent
  joins id v other w b idle idle' nb s r at apart there =
      let theirs = sym (set_else s.views id other (joined v w) apart) ∙ there in
      absorbs id v other w (joined v w) idle idle' refl refl refl refl refl s r at apart theirs (λ q.
      let p = q.each_view other w theirs in let k = q.each_view id v at in let u = p.1 b nb in
      let gone_w : gone_of w.number w.mine w.splits ≡ gone_of (Some b) w.mine w.splits = ap (λ o. gone_of o w.mine w.splits) nb in (
        k.0,
        (λ a na. each_append (IsGone heir q.splits_of terms q.history) v.ended (gone_of w.number w.mine w.splits ++ w.ended) (k.1 a na).4
            (each_append (IsGone heir q.splits_of terms q.history) (gone_of w.number w.mine w.splits) w.ended (subst (Each (IsGone heir q.splits_of terms q.history)) (sym gone_w) ((u.1, u.2, u.3), tt)) u.4)),
        (λ i d n a e ne en na. each_append (λ (z : Gone O C R). z.number ≢ n) v.ended (gone_of w.number w.mine w.splits ++ w.ended) (q.gone i id d v n a e at en na)
            (each_append (λ (z : Gone O C R). z.number ≢ n) (gone_of w.number w.mine w.splits) w.ended
            (subst (Each (λ (z : Gone O C R). z.number ≢ n)) (sym gone_w) ((λ same. ne (q.apart i other d w n e theirs en (nb ∙ ap (λ (z : ℕ). Some z) same))), tt))
            (q.gone i other d w n b e theirs en nb))),
        p.0,
      ))

  pub tells : (id : ℕ) (v : V) (other : ℕ) (w : V) → v.turn ≡ false → w.turn ≡ false → Joins (Rule ready sound step opens fit heir terms) id v other w (telling v w) spent
  tells id v other w idle idle' s r at apart there =
      let theirs = sym (set_else s.views id other (telling v w) apart) ∙ there in
      absorbs id v other w (telling v w) idle idle' refl refl refl refl refl s r at apart theirs (λ q.
      let p = q.each_view other w theirs in let k = q.each_view id v at in (
        k.0,
        (λ a na. (k.1 a na).4),
        (λ i d n a e ne en na. q.gone i id d v n a e at en na),
        p.0,
      ))
