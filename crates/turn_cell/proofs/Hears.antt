-- A load that takes in what was given keeps the rule.
use Rattle.std.proofs.Common.{◌≡◌, ◌≢◌, ℕ, ◌≤◌, Bool, false, List, [], length, set, Option, Some, sym, refl, ap, ◌∙◌, subst, arith, length-append}
use Rattle.std.proofs.lemmas.Option.{same_Some}
use mathlib.Core.Option.{some, some-injective}
use lib.ListN.{get_elem?}
use lib.Seq.{set-get_or}
use Rattle.atomic_table.specs.Table.{Me, step, keeps, Allows}
use Rattle.atomic_table.proofs.Lists.{set_else}
use Rattle.turn_cell.specs.declared.entry.Entry.{Entry}
use Rattle.turn_cell.specs.declared.board.Known.{Known}
use Rattle.turn_cell.specs.declared.board.Terms.{Terms}
use Rattle.turn_cell.specs.History.{of, StartsWith}
use Rattle.turn_cell.specs.Views.{longer, hearing}
use Rattle.turn_cell.specs.Steps.{heard}
use Rattle.turn_cell.specs.Rule.{Knows}
use Rattle.turn_cell.specs.Good.{Good}
use Rattle.turn_cell.proofs.Keeps.{true-ne-false, Rule, views_stay, apart_stays, gone_stays}
use Rattle.turn_cell.proofs.Joins.{longer_starts}
use Rattle.turn_cell.proofs.Begins.{longer_begins, of_begins, Legal_begins, Fit_begins}

module _ {O C R : Type 0} (ready : O → C → Bool) (sound : O → C → Type 0) (step' : O → C → O × R) (opens : O → Type 0) (fit : O → ℕ → List (Entry O C R) → C → Type 0) where
  pub good_begins : (x : Terms O) (h a : List (Entry O C R)) → Good ready sound step' opens fit x h → StartsWith h a → Good ready sound step' opens fit x a
  good_begins x h a g p = let whole = subst (Good ready sound step' opens fit x) p.1 g in let long = whole.3 in
      (whole.0, Legal_begins ready sound step' x.opening a p.0 whole.1, Fit_begins fit x.opening [] a p.0 whole.2, omega (arith, length-append a p.0))

module _ {O C R : Type 0} (ready : O → C → Bool) (sound : O → C → Type 0) (step' : O → C → O × R) (opens : O → Type 0) (fit : O → ℕ → List (Entry O C R) → C → Type 0) (heir : ℕ → ℕ → Option ℕ) (terms : Terms O) where
  pub hears : (slots id : ℕ) (m : Me (Option (Rattle.turn_cell.specs.declared.board.Core.Core O C R)) (Known O C R)) → m.0.turn ≡ false → ((n : ℕ) → m.0.number ≡ Some n → length m.0.mine ≤ length (of n m.0.seen))
      → Allows (Rule ready sound step' opens fit heir terms) slots id m 0 (λ n. n) (heard ready sound step' opens fit (step slots 0 0 0 mathlib.Core.Option.none) m)
  hears slots id m idle counts s r wide at small =
      let k = r.each_view id m.0 at in let w : Known O C R = hearing m.0 in let z : List (Entry O C R) = longer m.0.seen m.0.told in let K : ℕ → Known O C R → Type 0 = Knows heir r.splits_of terms r.history r.held r.holder in
      let starts : StartsWith r.history z = longer_starts r.history m.0.seen m.0.told k.0 k.3 in let both = longer_begins r.history m.0.seen m.0.told k.0 k.3 in
      let mine_knows : K id w = (starts, k.1, (λ b. absurd (true-ne-false (sym b ∙ idle))), (r.history, refl)) in (
        w,
        keeps,
        tt,
        subst (λ (ws : List ℕ). Rule ready sound step' opens fit heir terms record { words = ws; homes = s.homes; views = set s.views id w }) (sym (set-get_or s.words 0 0)) record {
          history = r.history;
          held = r.held;
          holder = r.holder;
          splits_of = r.splits_of;
          good = r.good;
          one_word = r.one_word;
          one_slot = r.one_slot;
          word = r.word;
          home = r.home;
          each_view = views_stay ready sound step' opens fit heir terms K s.views id w mine_knows (λ j d _ e. r.each_view j d e);
          apart = apart_stays ready sound step' opens fit heir terms s.views id m.0 w at refl refl r.apart;
          gone = gone_stays ready sound step' opens fit heir terms s.views id m.0 w at refl refl r.gone;
          callers = r.callers;
          unmade = r.unmade;
          turn_is = λ busy. let h = r.turn_is busy in
              let not_id : r.holder ≢ id = λ same. true-ne-false (sym h.4 ∙ (ap (λ (v : Known O C R). v.turn) (some-injective _ _ (sym h.2 ∙ (ap (get_elem? s.views) same ∙ at))) ∙ idle)) in
              (h.0, h.1, set_else s.views id r.holder w not_id ∙ h.2, h.3, h.4);
        },
        (
          refl,
          both.0,
          both.1,
          λ x n ex en. let q = k.1 n en in let op : terms ≡ x = same_Some _ _ (sym q.0 ∙ ex) in (
            subst (λ (y : Terms O). Good ready sound step' opens fit y z) op (good_begins ready sound step' opens fit terms r.history z r.good starts),
            q.1 ∙ of_begins n r.history z m.0.seen starts both.0 (subst (λ l. length l ≤ length (of n m.0.seen)) q.1 (counts n en)),
          ),
        ),
      )
