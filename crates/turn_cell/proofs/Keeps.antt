-- The steps of a call keep the rule.
use Rattle.std.proofs.Common.{◌≡◌, ◌≢◌, ℕ, ◌+◌, ◌*◌, ◌%◌, ◌<◌, eqb, Bool, true, false, if◌then◌else◌, List, [], ◌∷◌, ◌++◌, length, get_or, set, zero, suc, ◌==◌, Option, Some, None, sym, refl, ap, ◌∙◌, subst, ⊎_elim, arith, length-set, get_or-set_same, eq-eqb, ne_eqb, append-nil, append_assoc}
use Rattle.std.proofs.lemmas.Option.{same_Some}
use mathlib.Core.Logic.{dite}
use mathlib.Core.Option.{some, some-ne-none}
use native.Mathlib.Decide.{ℕ_discrete}
use lib.ListN.{get_elem?}
use lib.Seq.{set-get_or}
use prog.Atomic.{either}
use Rattle.atomic_table.specs.Table.{State, Me, step, keeps, takes, gives, stepped, Allows}
use Rattle.atomic_table.proofs.Lists.{at_set, set_here, set_again}
use Rattle.turn_cell.specs.declared.entry.Entry.{Entry}
use Rattle.turn_cell.specs.declared.board.Core.{Core}
use Rattle.turn_cell.specs.declared.board.Known.{Known}
use Rattle.turn_cell.specs.declared.board.Terms.{Terms}
use Rattle.turn_cell.specs.declared.board.Gone.{Gone}
use Rattle.turn_cell.specs.Numbers.{Each, Made}
use Rattle.turn_cell.specs.History.{of, StartsWith}
use Rattle.turn_cell.specs.Views.{looking, resting, after, own}
use Rattle.turn_cell.specs.Steps.{released, taken, MayGo}
use Rattle.turn_cell.specs.Rule.{IsGone, Knows, Kept}
use Rattle.turn_cell.specs.Good.{Fresh, Good}

-- an even word says that the turn is free
free_if : (b : Bool) (x n : ℕ) → x ≡ 2 * n + (if b then 1 else 0) → x % 2 ≡ 0 → b ≡ false
free_if false x n e even = refl
free_if true x n e even = absurd (omega arith)

pub true-ne-false : true ≡ false → ⊥
true-ne-false e = cc

-- the slot's value in hand
abbrev pub hand : {A : Type 0} → List (ℕ × Option A) → Option A
hand [] = None
hand (x ∷ xs) = x.1

pub even_if : (n : ℕ) → (n % 2 ≡ 1 → ⊥) → n % 2 ≡ 0
even_if n odd = omega arith

module _ {O C R : Type 0} where
  pub StartsWith-trans : (a b c : List (Entry O C R)) → StartsWith b a → StartsWith c b → StartsWith c a
  StartsWith-trans a b c f g = (f.0 ++ g.0, g.1 ∙ (ap (λ z. z ++ g.0) f.1 ∙ append_assoc a f.0 g.0))

module _ {A : Type 0} where
  pub each_map : (P Q : A → Type 0) → ((x : A) → P x → Q x) → (xs : List A) → Each P xs → Each Q xs
  each_map P Q f [] p = tt
  each_map P Q f (x ∷ xs) p = (f x p.0, each_map P Q f xs p.1)

  pub each_both : (P Q W : A → Type 0) → ((x : A) → P x → Q x → W x) → (xs : List A) → Each P xs → Each Q xs → Each W xs
  each_both P Q W f [] p q = tt
  each_both P Q W f (x ∷ xs) p q = (f x p.0 q.0, each_both P Q W f xs p.1 q.1)

  pub each_append : (P : A → Type 0) (xs ys : List A) → Each P xs → Each P ys → Each P (xs ++ ys)
  each_append P [] ys p q = q
  each_append P (x ∷ xs) ys p q = (p.0, each_append P xs ys p.1 q)

  pub set_there : (l : List A) (i : ℕ) (a b : A) → get_elem? l i ≡ some b → get_elem? (set l i a) i ≡ some a
  set_there [] i a b e = absurd (some-ne-none b (sym e))
  set_there (x ∷ xs) zero a b e = refl
  set_there (x ∷ xs) (suc i) a b e = set_there xs i a b e

module _ {O C R : Type 0} where
  pub of_rest : (k n : ℕ) (h rest : List (Entry O C R)) → k ≢ n → Each (λ e. e.caller ≡ n) rest → of k (h ++ rest) ≡ of k h
  of_rest k n [] [] ne p = refl
  of_rest k n [] (e ∷ es) ne p = ap (λ (b : Bool). if b then e ∷ of k es else of k es) (ne_eqb e.caller k (λ same. ne (sym same ∙ p.0))) ∙ of_rest k n [] es ne p.1
  of_rest k n (e ∷ es) rest ne p = ap (λ l. if e.caller == k then e ∷ l else l) (of_rest k n es rest ne p)

module _ {O C R : Type 0} (ready : O → C → Bool) (sound : O → C → Type 0) (step' : O → C → O × R) (opens : O → Type 0) (fit : O → ℕ → List (Entry O C R) → C → Type 0) (heir : ℕ → ℕ → Option ℕ) (terms : Terms O) where
  abbrev pub S : Type 0
  S = Option (Core O C R)

  abbrev pub V : Type 0
  V = Known O C R

  abbrev pub H : Type 0
  H = List (Entry O C R)

  abbrev pub Rule : State S V → Type 0
  Rule = Kept ready sound step' opens fit heir terms

  abbrev pub Apart : List V → Type 0
  Apart vs = (i j : ℕ) (v w : V) (n : ℕ) → get_elem? vs i ≡ some v → get_elem? vs j ≡ some w → v.number ≡ Some n → w.number ≡ Some n → i ≡ j

  abbrev pub AllGone : List V → Type 0
  AllGone vs = (i j : ℕ) (v w : V) (n m : ℕ) → get_elem? vs i ≡ some v → get_elem? vs j ≡ some w → v.number ≡ Some n → w.number ≡ Some m → Each (λ d. d.number ≢ n) w.ended

  pub views_stay : (K : ℕ → V → Type 0) (vs : List V) (me : ℕ) (w : V) → K me w → ((j : ℕ) (d : V) → j ≢ me → get_elem? vs j ≡ some d → K j d)
      → (j : ℕ) (d : V) → get_elem? (set vs me w) j ≡ some d → K j d
  views_stay K vs me w mine others j d e = ⊎_elim (λ (t : (j ≡ me) × (w ≡ d)). subst (λ (x : ℕ × V). K x.0 x.1) (λ i. (sym t.0 i, t.1 i)) mine)
      (λ (t : (j ≢ me) × (get_elem? vs j ≡ some d)). others j d t.0 t.1) (at_set vs me j w d e)

  -- a view before the change, with the same number and the same ended
  pub back : (vs : List V) (me : ℕ) (v w : V) → get_elem? vs me ≡ some v → w.number ≡ v.number → w.ended ≡ v.ended → (k : ℕ) (d : V) → get_elem? (set vs me w) k ≡ some d
      → (d' : V) × (get_elem? vs k ≡ some d') × (d'.number ≡ d.number) × (d'.ended ≡ d.ended)
  back vs me v w at same ended k d e = ⊎_elim (λ (t : (k ≡ me) × (w ≡ d)). (v, subst (λ (z : ℕ). get_elem? vs z ≡ some v) (sym t.0) at, sym same ∙ ap (λ (z : V). z.number) t.1, sym ended ∙ ap (λ (z : V). z.ended) t.1))
      (λ (t : (k ≢ me) × (get_elem? vs k ≡ some d)). (d, t.1, refl, refl)) (at_set vs me k w d e)

  -- a view that keeps its number stays apart from the others
  pub apart_stays : (vs : List V) (me : ℕ) (v w : V) → get_elem? vs me ≡ some v → w.number ≡ v.number → w.ended ≡ v.ended → Apart vs → Apart (set vs me w)
  apart_stays vs me v w at same ended apart i j a b n ea eb na nb = let p = back vs me v w at same ended i a ea in let q = back vs me v w at same ended j b eb in apart i j p.0 q.0 n p.1 q.1 (p.2 ∙ na) (q.2 ∙ nb)

  pub gone_stays : (vs : List V) (me : ℕ) (v w : V) → get_elem? vs me ≡ some v → w.number ≡ v.number → w.ended ≡ v.ended → AllGone vs → AllGone (set vs me w)
  gone_stays vs me v w at same ended gone i j a b n m ea eb na nb = let p = back vs me v w at same ended i a ea in let q = back vs me v w at same ended j b eb in
      subst (λ ds. Each (λ d. d.number ≢ n) ds) q.3 (gone i j p.0 q.0 n m p.1 q.1 (p.2 ∙ na) (q.2 ∙ nb))

  others_know : (splits_of : ℕ → ℕ) (h : H) (held : Bool) (holder : ℕ) (j : ℕ) (d : V) → held ≡ false → (held' : Bool) (holder' : ℕ) → Knows heir splits_of terms h held holder j d → Knows heir splits_of terms h held' holder' j d
  others_know splits_of h held holder j d free held' holder' k = (k.0, k.1, (λ t. absurd (true-ne-false (sym (k.2 t).0 ∙ free))), k.3)

  some_first : {A : Type 0} (l : List A) → length l ≡ 1 → 0 < length l
  some_first l e = omega arith

  pub takes_turn : (slots id : ℕ) (m : Me S V) (n old new : ℕ) → m.0.number ≡ Some n → old % 2 ≡ 0 → new ≡ old + 1
      → Allows Rule slots id m 0 (λ x. either (eqb x old) new x) (taken ready sound step' opens fit (step slots 0 old new mathlib.Core.Option.none) m)
  takes_turn slots id m n old new number even up s r wide at small = let x : ℕ = get_or s.words 0 0 in let k = r.each_view id m.0 at in dite (ℕ_discrete x old)
      (λ hit. let free : r.held ≡ false = free_if r.held x (length r.history) r.word (ap (λ (z : ℕ). z % 2) hit ∙ even) in
      let there = r.home free in let core : Core O C R = there.0 in let w : V = looking m.0 r.history in
      let now : x ≡ 2 * length r.history = r.word ∙ (ap (λ (b : Bool). 2 * length r.history + (if b then 1 else 0)) free ∙ omega arith) in (
        w,
        takes 0 (Some core),
        there.1,
        subst (λ b. Rule (stepped s 0 (either b new x) id m.1 w (takes 0 (Some core)))) (sym (eq-eqb x old hit)) record {
          history = r.history;
          held = true;
          holder = id;
          splits_of = r.splits_of;
          good = r.good;
          one_word = length-set s.words 0 new ∙ r.one_word;
          one_slot = length-set s.homes 0 mathlib.Core.Option.none ∙ r.one_slot;
          word = get_or-set_same s.words 0 new 0 (some_first s.words r.one_word) ∙ (up ∙ (ap (λ (z : ℕ). z + 1) (sym hit ∙ now)));
          home = λ e. absurd (true-ne-false e);
          each_view = views_stay (Knows heir r.splits_of terms r.history true id) s.views id w (([], sym (append-nil r.history)), k.1, (λ _. (refl, refl, refl)), k.3)
              (λ j d other e. others_know r.splits_of r.history r.held r.holder j d free true id (r.each_view j d e));
          apart = apart_stays s.views id m.0 w at refl refl r.apart;
          gone = gone_stays s.views id m.0 w at refl refl r.gone;
          callers = r.callers;
          unmade = r.unmade;
          turn_is = λ _. (w, n, set_there s.views id w m.0 at, number, refl);
        },
        (
          (λ _. (
            r.history,
            core,
            refl,
            now,
            (
              k.0,
              λ y n ey en. let q = k.1 n en in let op : terms ≡ y = same_Some _ _ (sym q.0 ∙ ey) in
                  (subst (λ (z : Terms O). Good ready sound step' opens fit z r.history) op r.good, subst (λ (z : Terms O). Fresh step' z r.history core) op there.2, q.1),
            ),
          )),
          λ miss. absurd (miss hit),
        ),
      ))
      (λ miss. (
        m.0,
        keeps,
        tt,
        subst (λ b. Rule (stepped s 0 (either b new x) id m.1 m.0 keeps)) (sym (ne_eqb x old miss))
            (subst (λ (vs : List V). Rule record { words = set s.words 0 x; homes = s.homes; views = vs }) (sym (set_again s.views id m.0 at))
            (subst (λ (ws : List ℕ). Rule record { words = ws; homes = s.homes; views = s.views }) (sym (set-get_or s.words 0 0)) r)),
        ((λ hit. absurd (miss hit)), λ _. refl),
      ))

  gone_grows : (splits_of : ℕ → ℕ) (h rest : H) (n : ℕ) → Each (λ e. e.caller ≡ n) rest → (ds : List (Gone O C R)) → Each (IsGone heir splits_of terms h) ds → Each (λ d. d.number ≢ n) ds → Each (IsGone heir splits_of terms (h ++ rest)) ds
  gone_grows splits_of h rest n by = each_both (IsGone heir splits_of terms h) (λ d. d.number ≢ n) (IsGone heir splits_of terms (h ++ rest)) (λ d p ne. (p.0 ∙ sym (of_rest d.number n h rest ne by), p.1, p.2))

  pub gives_turn : (slots id : ℕ) (m : Me S V) (core : Core O C R) (word : ℕ) → m.0.turn ≡ true → m.1 ≡ (0, Some core) ∷ [] → MayGo ready sound step' opens fit m.0 core → word ≡ 2 * length core.history.list.items
      → Allows Rule slots id m 0 (λ _. word) (λ _. released (step slots 0 word 0 mathlib.Core.Option.none) m word)
  gives_turn slots id m core word turn has may is s r wide at small =
      let items : H = core.history.list.items in let x : Terms O = may.0 in let n : ℕ = may.1 in let rest' : H = may.5.0 in let k = r.each_view id m.0 at in let t = k.2 turn in let q = k.1 n may.3 in
      let op : x ≡ terms = same_Some _ _ (sym may.2 ∙ q.0) in let w : V = resting m.0 items in
      let grown : items ≡ r.history ++ rest' = may.5.1 ∙ ap (λ z. z ++ rest') t.2 in
      let ended : (j i : ℕ) (d : V) → get_elem? s.views j ≡ some d → d.number ≡ Some i → Each (IsGone heir r.splits_of terms items) d.ended = λ j i d e ei.
      subst (λ (z : H). Each (IsGone heir r.splits_of terms z) d.ended) (sym grown) (gone_grows r.splits_of r.history rest' n may.5.2 d.ended ((r.each_view j d e).1 i ei).4 (r.gone id j m.0 d n i at e may.3 ei)) in (
        after m.0 m.1,
        gives,
        tt,
        subst (λ c. Rule (stepped s 0 word id c (after m.0 c) gives)) (sym has) record {
          history = items;
          held = false;
          holder = id;
          splits_of = r.splits_of;
          good = subst (λ (z : Terms O). Good ready sound step' opens fit z items) op may.4;
          one_word = length-set s.words 0 word ∙ r.one_word;
          one_slot = length-set s.homes 0 (some (Some core)) ∙ r.one_slot;
          word = get_or-set_same s.words 0 word 0 (some_first s.words r.one_word) ∙ (is ∙ omega arith);
          home = λ _. (core, set_here s.homes 0 (some (Some core)) (some_first s.homes r.one_slot), subst (λ (z : Terms O). Fresh step' z items core) op may.6);
          each_view = views_stay (Knows heir r.splits_of terms items false id) s.views id w
              (([], sym (append-nil items)), (λ i e. let p = k.1 i e in (p.0, ap (λ z. own z items) e, p.2, p.3, ended id i m.0 at e)), (λ e. absurd (true-ne-false (sym e))), StartsWith-trans m.0.told r.history items k.3 (rest', grown))
              (λ j d other e. let p = r.each_view j d e in (
                StartsWith-trans d.seen r.history items p.0 (rest', grown),
                (λ i ei. let differs : i ≢ n = λ same. other (r.apart j id d m.0 i e at ei (may.3 ∙ ap (λ (z : ℕ). Some z) (sym same))) in let u = p.1 i ei in
                    (u.0, u.1 ∙ sym (ap (of i) grown ∙ of_rest i n r.history rest' differs may.5.2), u.2, u.3, ended j i d e ei)),
                (λ busy. absurd (other ((p.2 busy).1 ∙ sym t.1))),
                StartsWith-trans d.told r.history items p.3 (rest', grown),
              ));
          apart = apart_stays s.views id m.0 w at refl refl r.apart;
          gone = gone_stays s.views id m.0 w at refl refl r.gone;
          callers = subst (Each (λ e. Made heir r.splits_of e.caller)) (sym grown) (each_append (λ (e : Entry O C R). Made heir r.splits_of e.caller) r.history rest' r.callers
              (each_map (λ (e : Entry O C R). e.caller ≡ n) (λ (e : Entry O C R). Made heir r.splits_of e.caller) (λ e same. subst (Made heir r.splits_of) (sym same) q.3) rest' may.5.2));
          unmade = r.unmade;
          turn_is = λ e. absurd (true-ne-false (sym e));
        },
        refl,
      )
