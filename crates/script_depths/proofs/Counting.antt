-- How many items of one stack a rule takes and leaves, where each label takes and puts some.
use Rattle.std.proofs.Common.{◌≡◌, ◌⊎◌, ◌≤◌, ℕ, zero, suc, ◌+◌, ◌-◌, ◌==◌, List, [], ◌∷◌, ◌++◌, Option, Some, None, Ok, refl, sym, ap, subst, ◌∙◌, inl, inr, arith}
use Rattle.std.specs.Prelude.{if◌then◌else◌}
use Rattle.std.proofs.lemmas.Bool.{eqb-true}
use Rattle.std.proofs.lemmas.Option.{none-some, same_Some, cond_some}
use Rattle.grammar.specs.Rules.{one, does, ◌then◌, ◌or◌, maybe, many, chained, nested}
use Rattle.grammar.specs.Language.{Placed, Language, RuleOf}
use Rattle.grammar.specs.Grammar.{took, did, MarkOf, Parts, Spelled, SpelledInner, act_mark, acts_then, acts}
use Rattle.grammar.proofs.Basics.{acts_one, acts_split, ok_is}

-- how many are taken, and how many are then in their place
abbrev pub Effect : Type 0
Effect = ℕ × ℕ

-- no item is taken or put
abbrev pub none : Effect
none = (0, 0)

-- one after the other: the second takes what the first has put, and more from below
abbrev pub next : Effect → Effect → Effect
next a b = (a.0 + (b.0 - a.1), b.1 + (a.1 - b.0))

-- one of the two, which change the height alike
abbrev pub one_of : Effect → Effect → Option Effect
one_of a b = if (a.0 + b.1) == (b.0 + a.1) then Some (a.0 + (b.0 - a.0), a.1 + (b.0 - a.0)) else None

-- any number of times, where the height doesn't change
abbrev pub kept : Effect → Option Effect
kept a = if a.0 == a.1 then Some a else None

abbrev pub both : Option Effect → Option Effect → Option Effect
both None y = None
both (Some a) None = None
both (Some a) (Some b) = Some (next a b)

abbrev pub alike : Option Effect → Option Effect → Option Effect
alike None y = None
alike (Some a) None = None
alike (Some a) (Some b) = one_of a b

abbrev pub again : Option Effect → Option Effect
again None = None
again (Some a) = kept a

-- a chain: its first, and any number of turns
abbrev pub turning : Option Effect → Option Effect → Effect → Option Effect
turning a o l = both a (again (both o (both a (Some l))))

both_some : (x y : Option Effect) (e : Effect) → both x y ≡ Some e
    → (a : Effect) × (b : Effect) × (x ≡ Some a) × (y ≡ Some b) × (next a b ≡ e)
both_some None y e q = absurd (none-some e q)
both_some (Some a) None e q = absurd (none-some e q)
both_some (Some a) (Some b) e q = (a, b, refl, refl, same_Some (next a b) e q)

abbrev weak : ℕ → Effect → Effect
weak k e = (e.0 + k, e.1 + k)

alike_some : (x y : Option Effect) (e : Effect) → alike x y ≡ Some e
    → (a : Effect) × (b : Effect) × (x ≡ Some a) × (y ≡ Some b) × (a.0 + b.1 ≡ b.0 + a.1) × (weak (b.0 - a.0) a ≡ e)
alike_some None y e q = absurd (none-some e q)
alike_some (Some a) None e q = absurd (none-some e q)
alike_some (Some a) (Some b) e q =
    let p = cond_some ((a.0 + b.1) == (b.0 + a.1)) (weak (b.0 - a.0) a) e q in
    (a, b, refl, refl, eqb-true (a.0 + b.1) (b.0 + a.1) p.0, p.1)

again_some : (x : Option Effect) (e : Effect) → again x ≡ Some e → (x ≡ Some e) × (e.0 ≡ e.1)
again_some None e q = absurd (none-some e q)
again_some (Some a) e q =
    let p = cond_some (a.0 == a.1) a e q in
    (ap Some p.1, subst (λ (z : Effect). z.0 ≡ z.1) p.1 (eqb-true a.0 a.1 p.0))

module _ (g : Language) (height : g.Built → ℕ) (there alone : g.Label → Effect) (within : g.Inner → Effect) where
  -- what a rule takes and leaves
  abbrev pub effect : RuleOf g → Option Effect
  effect (one k l) = Some (there l)
  effect (does l) = Some (alone l)
  effect (a then b) = both (effect a) (effect b)
  effect (a or b) = alike (effect a) (effect b)
  effect (maybe a) = alike (effect a) (Some none)
  effect (many a) = again (effect a)
  effect (chained a o l) = turning (effect a) (effect o) (alone l)
  effect (nested k o r c l) = Some (next (there o) (next (within r) (there l)))

  -- what a mark takes and puts
  abbrev pub at_mark : MarkOf g → Effect
  at_mark (took l t) = there l
  at_mark (did l) = alone l

  -- each mark finds what it takes
  abbrev pub Finds : List (MarkOf g) → g.Built → Type 0
  Finds [] b = Unit {0}
  Finds (m ∷ ms) b = ((at_mark m).0 ≤ height b) × ((c : g.Built) → act_mark g m b ≡ Ok c → Finds ms c)

  -- what is spelled so finds what it takes, and leaves so many
  abbrev pub Does : Effect → (List (MarkOf g) → Type 0) → Type 0
  Does e spelled =
      (ms : List (MarkOf g)) → spelled ms → (b : g.Built) → e.0 ≤ height b
      → Finds ms b × ((c : g.Built) → acts g ms b ≡ Ok c → height c + e.0 ≡ height b + e.1)

  finds_then : (x y : List (MarkOf g)) (b : g.Built) → Finds x b → ((c : g.Built) → acts g x b ≡ Ok c → Finds y c) → Finds (x ++ y) b
  finds_then [] y b h f = f b refl
  finds_then (m ∷ x) y b h f = (h.0, λ c e. finds_then x y c (h.1 c e) (λ d q. f d (ap (acts_then g x) e ∙ q)))

  -- a mark finds what it takes, wherever it is
  pub found_at : (x : List (MarkOf g)) (m : MarkOf g) (y : List (MarkOf g)) (b c : g.Built) → Finds (x ++ m ∷ y) b → acts g x b ≡ Ok c
      → (at_mark m).0 ≤ height c
  found_at [] m y b c h e = subst (λ (z : g.Built). (at_mark m).0 ≤ height z) (ok_is b c e) h.0
  found_at (k ∷ x) m y b c h e =
      let s = acts_split g (k ∷ []) x b c e in
      let done : act_mark g k b ≡ Ok s.0 = sym (acts_one g (act_mark g k b)) ∙ s.1 in
      found_at x m y s.0 c (h.1 s.0 done) s.2

  then_does : (p q : List (MarkOf g) → Type 0) (d e : Effect) → Does d p → Does e q
      → Does (next d e) (λ ms. (x : List (MarkOf g)) × (y : List (MarkOf g)) × p x × q y × (ms ≡ x ++ y))
  then_does p q d e f k ms s b h =
      let first = f s.0 s.2 b (omega (arith, h)) in
      let enough : (c : g.Built) → acts g s.0 b ≡ Ok c → e.0 ≤ height c = λ c u. let m = first.1 c u in omega (arith, m, h) in
      let finds = finds_then s.0 s.1 b first.0 (λ c u. (k s.1 s.3 c (enough c u)).0) in (
        subst (λ (z : List (MarkOf g)). Finds z b) (sym s.4) finds,
        λ c u.
            let z = acts_split g s.0 s.1 b c (ap (λ (w : List (MarkOf g)). acts g w b) (sym s.4) ∙ u) in
            let m = first.1 z.0 z.1 in
            let n = (k s.1 s.3 z.0 (enough z.0 z.1)).1 c z.2 in
            omega (arith, m, n, h),
      )

  weakly : (p : List (MarkOf g) → Type 0) (e : Effect) (k : ℕ) → Does e p → Does (weak k e) p
  weakly p e k f ms s b h =
      let a = f ms s b (omega (arith, h)) in
      (a.0, λ c u. let m = a.1 c u in omega (arith, m))

  none_does : Does none (λ ms. ms ≡ [])
  none_does ms s b h = (
    subst (λ (z : List (MarkOf g)). Finds z b) (sym s) tt,
    λ c u.
        let same : b ≡ c = ok_is b c (ap (λ (w : List (MarkOf g)). acts g w b) (sym s) ∙ u) in
        let m = ap height same in
        omega (arith, m),
  )

  parts_do : (p : List (MarkOf g) → Type 0) (e : Effect) → e.0 ≡ e.1 → Does e p → (n : ℕ) → Does e (Parts g p n)
  parts_do p e same f zero ms s b h =
      let a = none_does ms s b (omega arith) in
      (a.0, λ c u. let m = a.1 c u in omega (arith, m, same))
  parts_do p e same f (suc n) ms s b h =
      let a = then_does p (Parts g p n) e e f (parts_do p e same f n) ms s b (omega (arith, same, h)) in
      (a.0, λ c u. let m = a.1 c u in omega (arith, m, same))

  many_does : (p : List (MarkOf g) → Type 0) (e : Effect) → e.0 ≡ e.1 → Does e p → Does e (λ ms. (n : ℕ) × Parts g p n ms)
  many_does p e same f ms s b h = parts_do p e same f s.0 ms s.1 b h

  -- two that change the height alike do so, where as many are there as the greater of them takes
  abbrev EitherDoes : Effect → Effect → (List (MarkOf g) → Type 0) → (List (MarkOf g) → Type 0) → Type 0
  EitherDoes d e p q = d.0 + e.1 ≡ e.0 + d.1 → Does d p → Does e q → Does (weak (e.0 - d.0) d) (λ ms. p ms ⊎ q ms)

  either_does : (d e : Effect) (p q : List (MarkOf g) → Type 0) → EitherDoes d e p q
  either_does d e p q same f k ms s b h =
      elim s as (λ z. Finds ms b × ((c : g.Built) → acts g ms b ≡ Ok c → height c + (d.0 + (e.0 - d.0)) ≡ height b + (d.1 + (e.0 - d.0)))) [
        | inl x ↦ weakly p d (e.0 - d.0) f ms x b h
        | inr y ↦
            let a = k ms y b (omega (arith, h)) in
            (a.0, λ c u. let m = a.1 c u in omega (arith, m, same))
      ]

  -- where a mark finds what it takes, the height is as many less and as many more as it takes and puts
  abbrev pub Acted : MarkOf g → g.Built → g.Built → Type 0
  Acted m b c = (at_mark m).0 ≤ height b → act_mark g m b ≡ Ok c → height c + (at_mark m).0 ≡ height b + (at_mark m).1

  module _ (acted : (m : MarkOf g) (b c : g.Built) → Acted m b c) where
    mark_does : (m : MarkOf g) → Does (at_mark m) (λ ms. ms ≡ m ∷ [])
    mark_does m ms s b h = (
      subst (λ (z : List (MarkOf g)). Finds z b) (sym s) (h, λ c e. tt),
      λ c u. acted m b c h (sym (acts_one g (act_mark g m b)) ∙ ap (λ (w : List (MarkOf g)). acts g w b) (sym s) ∙ u),
    )

    module _ (inner : g.Inner → List (MarkOf g) → Type 0) (inner_does : (r : g.Inner) → Does (within r) (inner r)) where
      abbrev Rules : Effect → RuleOf g → Type 0
      Rules e r = Does e (Spelled g inner r)

      as_is : (r : RuleOf g) (d e : Effect) → d ≡ e → Rules d r → Rules e r
      as_is r d e same h = subst (λ (z : Effect). Rules z r) same h

      -- one rule and then another
      follows : (a b : RuleOf g) (d e : Effect) → Rules d a → Rules e b → Rules (next d e) (a then b)
      follows a b d e f k = then_does (Spelled g inner a) (Spelled g inner b) d e f k

      one_does : (k : g.Kind) (l : g.Label) → Rules (there l) (one k l)
      one_does k l ms s b h = mark_does (took l s.0) ms s.2 b h

      -- what is in brackets, with the closing one
      abbrev Closed : g.Inner → g.Label → Placed g.Kind → List (MarkOf g) → Type 0
      Closed r l u z = (x : List (MarkOf g)) × (y : List (MarkOf g)) × inner r x × (y ≡ took l u ∷ []) × (z ≡ x ++ y)

      nested_does : (k : g.Kind) (o : g.Label) (r : g.Inner) (c : g.Kind) (l : g.Label)
          → Rules (next (there o) (next (within r) (there l))) (nested k o r c l)
      nested_does k o r c l ms s b h =
          then_does (λ z. z ≡ took o s.0 ∷ []) (Closed r l s.2) (there o) (next (within r) (there l))
          (mark_does (took o s.0))
          (then_does (inner r) (λ z. z ≡ took l s.2 ∷ []) (within r) (there l) (inner_does r) (mark_does (took l s.2)))
          ms (took o s.0 ∷ [], s.1 ++ took l s.2 ∷ [], refl, (s.1, took l s.2 ∷ [], s.4, refl, refl), s.6) b h

      chained_does : (a o : RuleOf g) (l : g.Label) (d k e : Effect) → effect a ≡ Some d → effect o ≡ Some k → Rules d a → Rules k o
          → turning (effect a) (effect o) (alone l) ≡ Some e → Rules e (chained a o l)
      chained_does a o l d k e a_is o_is f h q =
          let turn = o then (a then does l) in
          let parts : turning (Some d) (Some k) (alone l) ≡ Some e =
          subst (λ (z : Option Effect). turning (Some d) z (alone l) ≡ Some e) o_is
          (subst (λ (z : Option Effect). turning z (effect o) (alone l) ≡ Some e) a_is q) in
          let p = both_some (Some d) (kept (next k (next d (alone l)))) e parts in
          let w = again_some (Some (next k (next d (alone l)))) p.1 p.3 in
          let turned : Rules p.1 turn =
          as_is turn (next k (next d (alone l))) p.1 (same_Some (next k (next d (alone l))) p.1 w.0)
          (follows o (a then does l) k (next d (alone l)) h (follows a (does l) d (alone l) f (mark_does (did l)))) in
          as_is (chained a o l) (next p.0 p.1) e p.4
          (follows a (many turn) p.0 p.1 (as_is a d p.0 (same_Some d p.0 p.2) f) (many_does (Spelled g inner turn) p.1 w.1 turned))

      -- what a chain is made of
      chain_parts : (x o : Option Effect) (l e : Effect) → turning x o l ≡ Some e
          → (d : Effect) × (k : Effect) × (x ≡ Some d) × (o ≡ Some k)
      chain_parts x o l e q =
          let p = both_some x (again (both o (both x (Some l)))) e q in
          let w = again_some (both o (both x (Some l))) p.1 p.3 in
          let y = both_some o (both x (Some l)) p.1 w.0 in
          (p.0, y.0, p.2, y.2)

      -- what a rule spells finds what it takes, and leaves so many
      pub rule_does : (r : RuleOf g) (e : Effect) → effect r ≡ Some e → Does e (Spelled g inner r)
      rule_does (one k l) e q = as_is (one k l) (there l) e (same_Some (there l) e q) (one_does k l)
      rule_does (does l) e q = as_is (does l) (alone l) e (same_Some (alone l) e q) (mark_does (did l))
      rule_does (a then b) e q =
          let p = both_some (effect a) (effect b) e q in
          as_is (a then b) (next p.0 p.1) e p.4 (follows a b p.0 p.1 (rule_does a p.0 p.2) (rule_does b p.1 p.3))
      rule_does (a or b) e q =
          let p = alike_some (effect a) (effect b) e q in
          as_is (a or b) (weak (p.1.0 - p.0.0) p.0) e p.5
          (either_does p.0 p.1 (Spelled g inner a) (Spelled g inner b) p.4 (rule_does a p.0 p.2) (rule_does b p.1 p.3))
      rule_does (maybe a) e q =
          let p = alike_some (effect a) (Some none) e q in
          let nothing : Does p.1 (λ ms. ms ≡ []) = subst (λ (z : Effect). Does z (λ ms. ms ≡ [])) (same_Some none p.1 p.3) none_does in
          as_is (maybe a) (weak (p.1.0 - p.0.0) p.0) e p.5
          (either_does p.0 p.1 (Spelled g inner a) (λ ms. ms ≡ []) p.4 (rule_does a p.0 p.2) nothing)
      rule_does (many a) e q =
          let p = again_some (effect a) e q in
          many_does (Spelled g inner a) e p.1 (rule_does a e p.0)
      rule_does (chained a o l) e q =
          let p = chain_parts (effect a) (effect o) (alone l) e q in
          chained_does a o l p.0 p.1 e p.2 p.3 (rule_does a p.0 p.2) (rule_does o p.1 p.3) q
      rule_does (nested k o r c l) e q =
          let whole : Effect = next (there o) (next (within r) (there l)) in
          as_is (nested k o r c l) whole e (same_Some whole e q) (nested_does k o r c l)

    -- and so in brackets
    pub inner_does : ((r : g.Inner) → effect (g.inside r) ≡ Some (within r)) → (depth : ℕ) (r : g.Inner)
        → Does (within r) (SpelledInner g depth r)
    unfolding SpelledInner
    inner_does all zero r ms s = absurd s
    inner_does all (suc depth) r ms s = rule_does (SpelledInner g depth) (inner_does all depth) (g.inside r) (within r) (all r) ms s
