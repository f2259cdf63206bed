-- What the table holds where every seat was joined into one.
use Rattle.std.proofs.Common.{◌≡◌, ◌≢◌, ℕ, ◌<◌, inl, inr, ⊎_elim, Bool, true, false, List, [], ◌∷◌, map, Option, Some, None, sym, refl, ap, ◌∙◌, subst}
use mathlib.Core.Option.{some, some-injective}
use lib.ListN.{get_elem?}
use Rattle.atomic_table.specs.Table.{Final, Seen}
use Rattle.turn_cell.specs.declared.entry.Entry.{Entry}
use Rattle.turn_cell.specs.declared.board.Core.{Core}
use Rattle.turn_cell.specs.declared.board.Known.{Known}
use Rattle.turn_cell.specs.declared.board.Terms.{Terms}
use Rattle.turn_cell.specs.declared.board.Gone.{Gone}
use Rattle.turn_cell.specs.History.{of}
use Rattle.turn_cell.specs.Numbers.{Each, Made, first, next, Has, IsWhole}
use Rattle.turn_cell.specs.Rule.{IsGone}
use Rattle.turn_cell.specs.Whole.{numbers, Ends}
use Rattle.turn_cell.proofs.Keeps.{true-ne-false, each_map, Rule}
use Rattle.turn_cell.proofs.Parts.{none_of}

find_in : {P : ℕ × ℕ → Type 0} (n : ℕ) (ps : List (ℕ × ℕ)) → Has n ps → Each P ps → (p : ℕ × ℕ) × (p.0 ≡ n) × P p
find_in n [] h e = absurd h
find_in n (p ∷ ps) (inl h) e = (p, h, e.0)
find_in n (p ∷ ps) (inr h) e = find_in n ps h e.1

each_two : {A : Type 0} (P Q : A → Type 0) (xs : List A) → Each P xs → Each Q xs → Each (λ x. P x × Q x) xs
each_two P Q [] p q = tt
each_two P Q (x ∷ xs) p q = ((p.0, q.0), each_two P Q xs p.1 q.1)

is_false : (b : Bool) → (b ≡ true → ⊥) → b ≡ false
is_false true f = absurd (f refl)
is_false false f = refl

-- a whole list has every number made
all_made : (heir : ℕ → ℕ → Option ℕ) (s : ℕ → ℕ) (ps : List (ℕ × ℕ)) → IsWhole heir ps → Each (λ p. p.1 ≡ s p.0) ps → (n : ℕ) → Made heir s n → Has n ps
all_made heir s ps whole are _ first = whole.0
all_made heir s ps whole are _ (next n k m d lt e) =
    let f = find_in n ps (all_made heir s ps whole are n d) (each_two (λ (p : ℕ × ℕ). (k : ℕ) → k < p.1 → (m : ℕ) → heir p.0 k ≡ Some m → Has m ps) (λ (p : ℕ × ℕ). p.1 ≡ s p.0) ps whole.1 are) in
    f.2.0 k (subst (λ (z : ℕ). k < z) (sym (f.2.1 ∙ ap s f.1)) lt) m (ap (λ (z : ℕ). heir z k) f.1 ∙ e)

module _ {O C R : Type 0} (heir : ℕ → ℕ → Option ℕ) (s : ℕ → ℕ) (terms : Terms O) (h : List (Entry O C R)) where
  each_number : (ds : List (Gone O C R)) → Each (IsGone heir s terms h) ds → Each (λ (p : ℕ × ℕ). p.1 ≡ s p.0) (map (λ (d : Gone O C R). (d.number, d.splits)) ds)
  each_number [] e = tt
  each_number (d ∷ ds) e = (e.0.1, each_number ds e.1)

not_in : {O C R : Type 0} (i : ℕ) (ds : List (Gone O C R)) → Each (λ d. d.number ≢ i) ds → Has i (map (λ (d : Gone O C R). (d.number, d.splits)) ds) → ⊥
not_in i [] e h = h
not_in i (d ∷ ds) e (inl h) = e.0 h
not_in i (d ∷ ds) e (inr h) = not_in i ds e.1 h

module _ {O C R : Type 0} (ready : O → C → Bool) (sound : O → C → Type 0) (step : O → C → O × R) (opens : O → Type 0) (fit : O → ℕ → List (Entry O C R) → C → Type 0) (heir : ℕ → ℕ → Option ℕ) (terms : Terms O) where
  pub closes : (id : ℕ) (v : Known O C R) (n : ℕ) (ws : List ℕ) (xs : List (Option (Core O C R))) → v.number ≡ Some n → v.turn ≡ false → IsWhole heir (numbers n v.splits v.ended)
      → Final (Seen (Rule ready sound step opens fit heir terms) id v) ws xs → (core : Core O C R) × (get_elem? xs 0 ≡ some (Some core)) × Ends ready sound step opens fit terms n v core
  closes id v n ws xs number idle whole final =
      let s = final.0 in let r = final.1.0 in let at = final.1.1 in let k = r.each_view id v at in let q = k.1 n number in
      let has : (i : ℕ) → Made heir r.splits_of i → Has i (numbers n v.splits v.ended) = all_made heir r.splits_of (numbers n v.splits v.ended) whole (q.2, each_number heir r.splits_of terms r.history v.ended q.4) in
      let busy : r.held ≡ true → ⊥ = λ b. let t = r.turn_is b in ⊎_elim
      (λ (e : n ≡ t.1). let same : r.holder ≡ id = r.apart r.holder id t.0 v t.1 t.2 at t.3 (number ∙ ap (λ (z : ℕ). Some z) e) in
      true-ne-false (sym t.4 ∙ (ap (λ (z : Known O C R). z.turn) (some-injective _ _ (sym t.2 ∙ (ap (get_elem? s.views) same ∙ at))) ∙ idle)))
      (λ e. not_in t.1 v.ended (r.gone r.holder id t.0 v t.1 n t.2 at t.3 number) e)
      (has t.1 ((r.each_view r.holder t.0 t.2).1 t.1 t.3).3) in
      let free : r.held ≡ false = is_false r.held busy in let there = r.home free in let core = there.0 in let items = there.2.0 in (
        core,
        final.4 0 (Some core) there.1,
        (
          subst (λ (z : List (Entry O C R)). Rattle.turn_cell.specs.Whole.IsWholeOf ready sound step opens fit terms n v.splits v.seen v.mine v.ended z) (sym items) (
            r.good,
            k.0,
            q.1,
            each_map (IsGone heir r.splits_of terms r.history) (λ d. d.calls ≡ of d.number r.history) (λ d g. g.0) v.ended q.4,
            λ i nay. none_of i (Made heir r.splits_of) (λ made. nay (has i made)) r.history r.callers,
          ),
          there.2.2 ∙ ap (Rattle.turn_cell.specs.History.replay step terms.opening) (sym items),
        ),
      )

pub Some-ne-None : {A : Type 0} (a : A) → ◌≡◌ {A = Option A} (Some a) None → ⊥
Some-ne-None a e = cc
