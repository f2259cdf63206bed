-- A seat that is split from another keeps the rule.
use Rattle.std.proofs.Common.{◌≡◌, ◌≢◌, ℕ, zero, suc, ◌+◌, ◌≤◌, eqb, ◌⊎◌, inl, inr, ⊎_elim, Bool, true, false, if◌then◌else◌, List, [], ◌∷◌, ◌++◌, length, set, Option, Some, None, sym, refl, ap, ◌∙◌, subst, arith, eq-eqb, ne_eqb}
use Rattle.std.proofs.lemmas.Option.{same_Some}
use mathlib.Core.Logic.{dite}
use mathlib.Core.Option.{some, some-injective, some-ne-none}
use native.Mathlib.Decide.{ℕ_discrete}
use lib.ListN.{get_elem?}
use Rattle.atomic_table.specs.Table.{Splits}
use Rattle.atomic_table.proofs.Lists.{at_longer, set_else, set_again}
use Rattle.turn_cell.specs.declared.entry.Entry.{Entry}
use Rattle.turn_cell.specs.declared.board.Known.{Known}
use Rattle.turn_cell.specs.declared.board.Terms.{Terms}
use Rattle.turn_cell.specs.declared.board.Gone.{Gone}
use Rattle.turn_cell.specs.History.{of}
use Rattle.turn_cell.specs.Numbers.{Each, Made, first, next, Injects, NotFirst}
use Rattle.turn_cell.specs.Views.{heir_in, parted, child, note}
use Rattle.turn_cell.specs.Rule.{IsGone, IsNumbered, Knows}
use Rattle.turn_cell.proofs.Keeps.{true-ne-false, each_map, each_both, set_there, Rule, views_stay, back, apart_stays, gone_stays}

at_snoc_at : {A : Type 0} (l : List A) (a b : A) (j : ℕ) → get_elem? (l ++ a ∷ []) j ≡ some b → (get_elem? l j ≡ some b) ⊎ ((j ≡ length l) × (a ≡ b))
at_snoc_at [] a b zero e = inr (refl, some-injective a b e)
at_snoc_at [] a b (suc j) e = absurd (some-ne-none b (sym e))
at_snoc_at (x ∷ xs) a b zero e = inl e
at_snoc_at (x ∷ xs) a b (suc j) e = ⊎_elim (λ t. inl t) (λ t. inr (ap suc t.0, t.1)) (at_snoc_at xs a b j e)

pub None-ne-Some : (n : ℕ) → ◌≡◌ {A = Option ℕ} None (Some n) → ⊥
None-ne-Some n e = cc

module _ (heir : ℕ → ℕ → Option ℕ) where
  pub made_more : (s t : ℕ → ℕ) → ((i : ℕ) → s i ≤ t i) → (n : ℕ) → Made heir s n → Made heir t n
  made_more s t more _ first = first
  made_more s t more _ (next p k m d lt e) = let up = more p in next p k m (made_more s t more p d) (omega arith) e

  -- the next heir was not made yet
  unmade_yet : Injects heir → NotFirst heir → (s : ℕ → ℕ) (n m : ℕ) → heir n (s n) ≡ Some m → (i : ℕ) → Made heir s i → i ≡ m → ⊥
  unmade_yet inj not s n m is _ first same = not n (s n) (is ∙ ap (λ (z : ℕ). Some z) (sym same))
  unmade_yet inj not s n m is _ (next p k i d lt e) same = let both = inj n (s n) p k m is (e ∙ ap (λ (z : ℕ). Some z) same) in
      let more : s p ≡ k = ap s (sym both.0) ∙ both.1 in omega arith

  -- one more split from n
  abbrev pub bumped : (ℕ → ℕ) → ℕ → ℕ → ℕ
  bumped s n i = if eqb i n then s i + 1 else s i

  bumped_here : (s : ℕ → ℕ) (n : ℕ) → bumped s n n ≡ s n + 1
  bumped_here s n = ap (λ (b : Bool). if b then s n + 1 else s n) (eq-eqb n n refl)

  bumped_other : (s : ℕ → ℕ) (n i : ℕ) → i ≢ n → bumped s n i ≡ s i
  bumped_other s n i ne = ap (λ (b : Bool). if b then s i + 1 else s i) (ne_eqb i n ne)

  bumped_more : (s : ℕ → ℕ) (n i : ℕ) → s i ≤ bumped s n i
  bumped_more s n i = elim (eqb i n) as (λ (b : Bool). s i ≤ (if b then s i + 1 else s i)) [ true ↦ omega arith | false ↦ omega arith ]

module _ {O C R : Type 0} (n : ℕ) where
  pub none_of : (P : ℕ → Type 0) → (P n → ⊥) → (h : List (Entry O C R)) → Each (λ e. P e.caller) h → of n h ≡ []
  none_of P nay [] each = refl
  none_of P nay (e ∷ es) each = ap (λ (b : Bool). if b then e ∷ of n es else of n es) (ne_eqb e.caller n (λ same. nay (subst P same each.0))) ∙ none_of P nay es each.1

module _ {O C R : Type 0} (ready : O → C → Bool) (sound : O → C → Type 0) (step : O → C → O × R) (opens : O → Type 0) (fit : O → ℕ → List (Entry O C R) → C → Type 0) (heir : ℕ → ℕ → Option ℕ) (terms : Terms O) where
  abbrev V : Type 0
  V = Known O C R

  pub parts : Injects heir → NotFirst heir → (id : ℕ) (v : V) (n m : ℕ) → v.number ≡ Some n → heir n v.splits ≡ Some m → Splits (Rule ready sound step opens fit heir terms) id v (parted v) (child heir v)
  parts inj not id v n m number heir_is s r at =
      let k = r.each_view id v at in let q = k.1 n number in let sp : ℕ → ℕ = r.splits_of in let t : ℕ → ℕ = bumped heir sp n in let left : V = parted v in let right : V = child heir v in
      let up : (i : ℕ) → Made heir sp i → Made heir t i = made_more heir sp t (bumped_more heir sp n) in
      let here : heir n (sp n) ≡ Some m = ap (heir n) (sym q.2) ∙ heir_is in
      let unmade_m : Made heir sp m → ⊥ = λ d. unmade_yet heir inj not sp n m here m d refl in
      let differs : m ≢ n = λ e. unmade_m (subst (Made heir sp) (sym e) q.3) in
      let its : right.number ≡ Some m = ap (λ o. heir_in heir o v.splits) number ∙ heir_is in
      let made_m : Made heir t m = next n (sp n) m (up n q.3) (let z = bumped_here heir sp n in omega arith) here in
      let ended : (ds : List (Gone O C R)) → Each (IsGone heir sp terms r.history) ds → Each (λ d. d.number ≢ n) ds → Each (IsGone heir t terms r.history) ds =
      each_both (IsGone heir sp terms r.history) (λ d. d.number ≢ n) (IsGone heir t terms r.history) (λ d p ne. (p.0, p.1 ∙ sym (bumped_other heir sp n d.number ne), up d.number p.2)) in
      let vs : List V = set s.views id left in
      let number_made : (j i : ℕ) (d : V) → get_elem? vs j ≡ some d → d.number ≡ Some i → Made heir sp i = λ j i d e ei.
      let b = back ready sound step opens fit heir terms s.views id v left at refl refl j d e in ((r.each_view j b.0 b.1).1 i (b.2 ∙ ei)).3 in
      let old_knows : (j : ℕ) (d : V) → get_elem? vs j ≡ some d → Knows heir t terms r.history r.held r.holder j d = views_stay ready sound step opens fit heir terms (Knows heir t terms r.history r.held r.holder) s.views id left (
        k.0,
        (λ i e. let p = k.1 i e in let same : i ≡ n = same_Some _ _ (sym e ∙ number) in
            (p.0, p.1, ap (λ (z : ℕ). z + 1) p.2 ∙ (subst (λ (z : ℕ). sp z + 1 ≡ t z) (sym same) (sym (bumped_here heir sp n))), up i p.3, ended v.ended p.4 (r.gone id id v v n n at at number number))),
        k.2,
        k.3,
      )
      (λ j d other e. let p = r.each_view j d e in (
        p.0,
        (λ i ei. let u = p.1 i ei in let apart : i ≢ n = λ same. other (r.apart j id d v i e at ei (number ∙ ap (λ (z : ℕ). Some z) (sym same))) in
            (u.0, u.1, u.2 ∙ sym (bumped_other heir sp n i apart), up i u.3, ended d.ended u.4 (r.gone id j v d n i at e number ei))),
        p.2,
        p.3,
      )) in
      let new_knows : (j : ℕ) → Knows heir t terms r.history r.held r.holder j right = λ j. (
        k.0,
        (λ i e. let same : m ≡ i = same_Some _ _ (sym its ∙ e) in
            subst (λ (z : ℕ). IsNumbered heir t terms r.history z right) same
            (q.0, sym (none_of m (Made heir sp) unmade_m r.history r.callers), sym (bumped_other heir sp n m differs ∙ r.unmade m unmade_m), made_m, tt)),
        (λ b. absurd (true-ne-false (sym b))),
        (r.history, refl),
      ) in
      record {
        history = r.history;
        held = r.held;
        holder = r.holder;
        splits_of = t;
        good = r.good;
        one_word = r.one_word;
        one_slot = r.one_slot;
        word = r.word;
        home = r.home;
        each_view = λ j d e. ⊎_elim (λ old. old_knows j d old) (λ (new : (j ≡ length vs) × (right ≡ d)). subst (Knows heir t terms r.history r.held r.holder j) new.1 (new_knows j)) (at_snoc_at vs right d j e);
        apart = λ i j a b p ea eb na nb. ⊎_elim
            (λ olda. ⊎_elim (λ oldb. apart_stays ready sound step opens fit heir terms s.views id v left at refl refl r.apart i j a b p olda oldb na nb)
            (λ (newb : (j ≡ length vs) × (right ≡ b)). absurd (unmade_m (subst (Made heir sp) (same_Some _ _ (sym nb ∙ (ap (λ (z : V). z.number) (sym newb.1) ∙ its))) (number_made i p a olda na)))) (at_snoc_at vs right b j eb))
            (λ (newa : (i ≡ length vs) × (right ≡ a)). ⊎_elim (λ oldb. absurd (unmade_m (subst (Made heir sp) (same_Some _ _ (sym na ∙ (ap (λ (z : V). z.number) (sym newa.1) ∙ its))) (number_made j p b oldb nb))))
            (λ (newb : (j ≡ length vs) × (right ≡ b)). newa.0 ∙ sym newb.0) (at_snoc_at vs right b j eb))
            (at_snoc_at vs right a i ea);
        gone = λ i j a b p o ea eb na nb. ⊎_elim
            (λ oldb. ⊎_elim (λ olda. gone_stays ready sound step opens fit heir terms s.views id v left at refl refl r.gone i j a b p o olda oldb na nb)
            (λ (newa : (i ≡ length vs) × (right ≡ a)). let same : p ≡ m = same_Some _ _ (sym na ∙ (ap (λ (z : V). z.number) (sym newa.1) ∙ its)) in
            let bk = back ready sound step opens fit heir terms s.views id v left at refl refl j b oldb in
            each_map (IsGone heir sp terms r.history) (λ d. d.number ≢ p) (λ d g e. unmade_m (subst (Made heir sp) (e ∙ same) g.2)) b.ended (subst (Each (IsGone heir sp terms r.history)) bk.3 ((r.each_view j bk.0 bk.1).1 o (bk.2 ∙ nb)).4))
            (at_snoc_at vs right a i ea))
            (λ (newb : (j ≡ length vs) × (right ≡ b)). subst (λ (z : V). Each (λ d. d.number ≢ p) z.ended) newb.1 tt)
            (at_snoc_at vs right b j eb);
        callers = each_map (λ (e : Entry O C R). Made heir sp e.caller) (λ (e : Entry O C R). Made heir t e.caller) (λ e. up e.caller) r.history r.callers;
        unmade = λ i no. let apart : i ≢ n = λ same. no (subst (Made heir t) (sym same) (up n q.3)) in bumped_other heir sp n i apart ∙ r.unmade i (λ d. no (up i d));
        turn_is = λ busy. let h = r.turn_is busy in dite (ℕ_discrete r.holder id)
            (λ same. let is : h.0 ≡ v = some-injective _ _ (sym h.2 ∙ (ap (get_elem? s.views) same ∙ at)) in
            (left, n, at_longer vs (right ∷ []) r.holder left (subst (λ (z : ℕ). get_elem? vs z ≡ some left) (sym same) (set_there s.views id left v at)), number, sym (ap (λ (z : V). z.turn) is) ∙ h.4))
            (λ other. (h.0, h.1, at_longer vs (right ∷ []) r.holder h.0 (set_else s.views id r.holder left other ∙ h.2), h.3, h.4));
      }

  -- a note of what was seen
  pub notes : (id : ℕ) (v : V) → Splits (Rule ready sound step opens fit heir terms) id v v (note v)
  notes id v s r at = let right : V = note v in let k = r.each_view id v at in let vs : List V = s.views in let sp : ℕ → ℕ = r.splits_of in
      let K : ℕ → V → Type 0 = Knows heir sp terms r.history r.held r.holder in
      let new_knows : (j : ℕ) → K j right = λ j. (k.0, (λ i e. absurd (None-ne-Some i e)), (λ b. absurd (true-ne-false (sym b))), (r.history, refl)) in
      let numbered : (a : V) (p : ℕ) → right ≡ a → a.number ≡ Some p → ⊥ = λ a p e ea. None-ne-Some p (ap (λ (z : V). z.number) e ∙ ea) in
      subst (λ (z : List V). Rule ready sound step opens fit heir terms record { words = s.words; homes = s.homes; views = z ++ right ∷ [] }) (sym (set_again vs id v at)) record {
        history = r.history;
        held = r.held;
        holder = r.holder;
        splits_of = sp;
        good = r.good;
        one_word = r.one_word;
        one_slot = r.one_slot;
        word = r.word;
        home = r.home;
        each_view = λ j d e. ⊎_elim (λ old. r.each_view j d old) (λ (new : (j ≡ length vs) × (right ≡ d)). subst (K j) new.1 (new_knows j)) (at_snoc_at vs right d j e);
        apart = λ i j a b p ea eb na nb. ⊎_elim
            (λ olda. ⊎_elim (λ oldb. r.apart i j a b p olda oldb na nb) (λ (newb : (j ≡ length vs) × (right ≡ b)). absurd (numbered b p newb.1 nb)) (at_snoc_at vs right b j eb))
            (λ (newa : (i ≡ length vs) × (right ≡ a)). absurd (numbered a p newa.1 na)) (at_snoc_at vs right a i ea);
        gone = λ i j a b p o ea eb na nb. ⊎_elim
            (λ olda. ⊎_elim (λ oldb. r.gone i j a b p o olda oldb na nb) (λ (newb : (j ≡ length vs) × (right ≡ b)). absurd (numbered b o newb.1 nb)) (at_snoc_at vs right b j eb))
            (λ (newa : (i ≡ length vs) × (right ≡ a)). absurd (numbered a p newa.1 na)) (at_snoc_at vs right a i ea);
        callers = r.callers;
        unmade = r.unmade;
        turn_is = λ busy. let h = r.turn_is busy in (h.0, h.1, at_longer vs (right ∷ []) r.holder h.0 h.2, h.3, h.4);
      }
