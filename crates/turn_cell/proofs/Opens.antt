-- A new table meets the rule.
use Rattle.std.proofs.Common.{◌≡◌, ◌≢◌, ℕ, zero, suc, Bool, true, false, List, [], ◌∷◌, Option, Some, sym, refl, ◌∙◌, subst, arith}
use Rattle.std.proofs.lemmas.Option.{same_Some}
use mathlib.Core.Option.{some, some-injective, some-ne-none}
use lib.ListN.{get_elem?}
use Rattle.atomic_table.specs.Table.{opening, Me}
use Rattle.turn_cell.specs.declared.entry.Entry.{Entry}
use Rattle.turn_cell.specs.declared.board.Core.{Core}
use Rattle.turn_cell.specs.declared.board.Known.{Known}
use Rattle.turn_cell.specs.declared.board.Terms.{Terms}
use Rattle.turn_cell.specs.Numbers.{Each, Made, first}
use Rattle.turn_cell.specs.Views.{starting}
use Rattle.turn_cell.specs.Rule.{Kept, Knows}
use Rattle.turn_cell.specs.Tries.{IsSeated}

only : {A : Type 0} (a b : A) (j : ℕ) → get_elem? (a ∷ []) j ≡ some b → (j ≡ 0) × (a ≡ b)
only a b zero e = (refl, some-injective a b e)
only a b (suc j) e = absurd (some-ne-none b (sym e))

false-ne-true : false ≡ true → ⊥
false-ne-true e = cc

module _ {O C R : Type 0} (ready : O → C → Bool) (sound : O → C → Type 0) (step : O → C → O × R) (opens : O → Type 0) (fit : O → ℕ → List (Entry O C R) → C → Type 0) (heir : ℕ → ℕ → Option ℕ) (terms : Terms O) where
  knows_first : Knows {C = C} {R = R} heir (λ _. 0) terms [] false 0 0 (starting terms)
  knows_first = (([], refl), (λ n e. (refl, refl, refl, subst (Made heir (λ _. 0)) (same_Some 0 n e) first, tt)), (λ t. absurd (false-ne-true t)), ([], refl))

  pub starts : (core : Core O C R) → opens terms.opening → core.object ≡ terms.opening → core.history.list.items ≡ [] → core.history.length ≡ terms.length
      → Kept ready sound step opens fit heir terms (opening (0 ∷ []) (Some core ∷ []) (starting terms))
  starts core opened object items length_is = record {
    history = [];
    held = false;
    holder = 0;
    splits_of = λ _. 0;
    good = (opened, tt, tt, omega arith);
    one_word = refl;
    one_slot = refl;
    word = refl;
    home = λ _. (core, refl, (items, length_is, object));
    each_view = λ j v e. let o = only (starting terms) v j e in subst (λ (z : ℕ × Known O C R). Knows heir (λ _. 0) terms [] false 0 z.0 z.1) (λ i. (sym o.0 i, o.1 i)) knows_first;
    apart = λ i j v w n ei ej _ _. (only (starting terms) v i ei).0 ∙ sym (only (starting terms) w j ej).0;
    gone = λ i j v w n m ei ej _ _. subst (λ (z : Known O C R). Each (λ d. d.number ≢ n) z.ended) (only (starting terms) w j ej).1 tt;
    callers = tt;
    unmade = λ n _. refl;
    turn_is = λ e. absurd (false-ne-true e);
  }

module _ {O C R : Type 0} (ready : O → C → Bool) (sound : O → C → Type 0) (step : O → C → O × R) (opens : O → Type 0) (fit : O → ℕ → List (Entry O C R) → C → Type 0) where
  pub starts_seated : (x : Terms O) (m : Me (Option (Core O C R)) (Known O C R)) → opens x.opening → m ≡ (starting x, []) → IsSeated ready sound step opens fit 0 0 m
  starts_seated x m opened e = subst (IsSeated ready sound step opens fit 0 0) (sym e) (refl, refl, (x, (refl, refl, (opened, tt, tt, omega arith), refl, refl)))
