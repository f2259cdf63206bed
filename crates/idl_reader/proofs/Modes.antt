-- Which mode a rule leads to, where each label leads from a mode to another; and what is so of each mode is kept along the rule.
use Rattle.std.proofs.Common.{◌≡◌, ℕ, zero, suc, Bool, true, false, List, Option, Some, None, Ok, refl, sym, subst}
use Rattle.std.specs.Prelude.{if◌then◌else◌}
use Rattle.std.specs.Option.{option_and_then}
use Rattle.std.proofs.lemmas.Option.{none-some, same_Some, cond_some, option_and_then_some}
use Rattle.grammar.specs.Rules.{one, does, ◌then◌, ◌or◌, maybe, many, chained, nested}
use Rattle.grammar.specs.Language.{Placed, Language, RuleOf}
use Rattle.grammar.specs.Grammar.{MarkOf, Spelled, SpelledInner}
use Rattle.idl_reader.proofs.Triples.{Leads, LeadsAt, one_leads, does_leads, then_leads, or_leads, maybe_leads, many_leads, chained_leads, nested_leads}

-- the modes of a language, which of them say no less than another, and where each label leads: at a kind of token, without a
-- token, and in brackets
pub record Modes (g : Language) : Type 1 where
  pub Mode : Type 0
  pub below : Mode → Mode → Bool
  pub at : g.Kind → g.Label → Mode → Option Mode
  pub alone : g.Label → Mode → Option Mode
  pub within : g.Inner → Mode → Option Mode

module _ (g : Language) (d : Modes g) where
  -- the one of two modes that says less
  abbrev pub weaker : d.Mode → d.Mode → Option d.Mode
  weaker m n = if d.below m n then Some n else (if d.below n m then Some m else None)

  abbrev pub agree : Option d.Mode → Option d.Mode → Option d.Mode
  agree None y = None
  agree (Some m) None = None
  agree (Some m) (Some n) = weaker m n

  -- the first mode, where the second says no less
  abbrev pub again : d.Mode → Option d.Mode → Option d.Mode
  again m None = None
  again m (Some n) = if d.below n m then Some m else None

  -- the mode after a rule
  abbrev pub after : RuleOf g → d.Mode → Option d.Mode
  after (one k l) m = d.at k l m
  after (does l) m = d.alone l m
  after (a then b) m = option_and_then (after b) (after a m)
  after (a or b) m = agree (after a m) (after b m)
  after (maybe a) m = agree (Some m) (after a m)
  after (many a) m = again m (after a m)
  after (chained a o l) m = option_and_then (λ n. again n (option_and_then (λ k. option_and_then (d.alone l) (after a k)) (after o n))) (after a m)
  after (nested k o r c l) m = option_and_then (d.at c l) (option_and_then (d.within r) (d.at k o m))

  module _ (T : Placed g.Kind → Type 0) (I : d.Mode → g.Built → Type 0)
      (h_below : (m n : d.Mode) → d.below m n ≡ true → (s : g.Built) → I m s → I n s)
      (h_at : (k : g.Kind) (l : g.Label) (m n : d.Mode) → d.at k l m ≡ Some n → LeadsAt g T (I m) k l (I n))
      (h_alone : (l : g.Label) (m n : d.Mode) → d.alone l m ≡ Some n → (b c : g.Built) → I m b → g.judge l b ≡ Ok c → I n c) where
    -- a mode that is there, and says no less than another
    record Stronger (x : Option d.Mode) (n : d.Mode) : Type 0 where
      mode : d.Mode
      is : x ≡ Some mode
      says : (s : g.Built) → I mode s → I n s

    weaker_than : (m n k : d.Mode) → weaker m n ≡ Some k → Stronger (Some m) k × Stronger (Some n) k
    weaker_than m n k e = by_first (d.below m n) refl e
      where
        by_second : (a : Bool) → d.below n m ≡ a → (if a then Some m else None) ≡ Some k → Stronger (Some m) k × Stronger (Some n) k
        by_second true q e =
            let same = same_Some m k e in
            (record { mode = m; is = refl; says = λ s i. subst (λ (z : d.Mode). I z s) same i }, record { mode = n; is = refl; says = λ s i. subst (λ (z : d.Mode). I z s) same (h_below n m q s i) })
        by_second false q e = absurd (none-some k e)

        by_first : (a : Bool) → d.below m n ≡ a → (if a then Some n else (if d.below n m then Some m else None)) ≡ Some k → Stronger (Some m) k × Stronger (Some n) k
        by_first true q e =
            let same = same_Some n k e in
            (record { mode = m; is = refl; says = λ s i. subst (λ (z : d.Mode). I z s) same (h_below m n q s i) }, record { mode = n; is = refl; says = λ s i. subst (λ (z : d.Mode). I z s) same i })
        by_first false q e = by_second (d.below n m) refl e

    both_agree : (x y : Option d.Mode) (n : d.Mode) → agree x y ≡ Some n → Stronger x n × Stronger y n
    both_agree None y n e = absurd (none-some n e)
    both_agree (Some m) None n e = absurd (none-some n e)
    both_agree (Some m) (Some k) n e = weaker_than m k n e

    goes_again : (m n : d.Mode) (x : Option d.Mode) → again m x ≡ Some n → (m ≡ n) × Stronger x m
    goes_again m n None e = absurd (none-some n e)
    goes_again m n (Some k) e = let p = cond_some (d.below k m) m n e in (p.1, record { mode = k; is = refl; says = λ s i. h_below k m p.0 s i })

    -- what is so after a rule in a stronger mode is so in the weaker one
    weakly : (P Q R : g.Built → Type 0) (spelled : List (MarkOf g) → Type 0) → ((s : g.Built) → Q s → R s) → Leads g T P spelled Q → Leads g T P spelled R
    weakly P Q R spelled f h ms s ts b c p e = f c (h ms s ts b c p e)

    module _ (inner : g.Inner → List (MarkOf g) → Type 0)
        (h_inner : (r : g.Inner) (m n : d.Mode) → d.within r m ≡ Some n → Leads g T (I m) (inner r) (I n)) where
      -- what is so of the mode before a rule gives what is so of the mode after it
      pub rule_leads : (r : RuleOf g) (m n : d.Mode) → after r m ≡ Some n → Leads g T (I m) (Spelled g inner r) (I n)
      rule_leads (one k l) m n e = one_leads g T inner (I m) (I n) k l (h_at k l m n e)
      rule_leads (does l) m n e = does_leads g T inner (I m) (I n) l (h_alone l m n e)
      rule_leads (a then b) m n e =
          option_and_then_some {P = Leads g T (I m) (Spelled g inner (a then b)) (I n)} (after b) (after a m) n e
          (λ k p q. then_leads g T inner (I m) (I k) (I n) a b (rule_leads a m k p) (rule_leads b k n q))
      rule_leads (a or b) m n e =
          let p = both_agree (after a m) (after b m) n e in
          or_leads g T inner (I m) (I n) a b
          (weakly (I m) (I p.0.mode) (I n) (Spelled g inner a) p.0.says (rule_leads a m p.0.mode p.0.is))
          (weakly (I m) (I p.1.mode) (I n) (Spelled g inner b) p.1.says (rule_leads b m p.1.mode p.1.is))
      rule_leads (maybe a) m n e =
          let p = both_agree (Some m) (after a m) n e in
          let same : p.0.mode ≡ m = sym (same_Some m p.0.mode p.0.is) in
          maybe_leads g T inner (I m) (I n) a (λ b i. p.0.says b (subst (λ (k : d.Mode). I k b) (sym same) i))
          (weakly (I m) (I p.1.mode) (I n) (Spelled g inner a) p.1.says (rule_leads a m p.1.mode p.1.is))
      rule_leads (many a) m n e =
          let p = goes_again m n (after a m) e in
          subst (λ (k : d.Mode). Leads g T (I m) (Spelled g inner (many a)) (I k)) p.0
          (many_leads g T inner (I m) a (weakly (I m) (I p.1.mode) (I m) (Spelled g inner a) p.1.says (rule_leads a m p.1.mode p.1.is)))
      rule_leads (chained a o l) m n e =
          option_and_then_some {P = Leads g T (I m) (Spelled g inner (chained a o l)) (I n)}
          (λ x. again x (option_and_then (λ k. option_and_then (d.alone l) (after a k)) (after o x))) (after a m) n e
          (λ x p q.
          let s = goes_again x n (option_and_then (λ k. option_and_then (d.alone l) (after a k)) (after o x)) q in
          let turn = o then (a then does l) in
          subst (λ (k : d.Mode). Leads g T (I m) (Spelled g inner (chained a o l)) (I k)) s.0
          (chained_leads g T inner (I m) (I x) a o l (rule_leads a m x p)
          (weakly (I x) (I s.1.mode) (I x) (Spelled g inner turn) s.1.says
          (option_and_then_some {P = Leads g T (I x) (Spelled g inner turn) (I s.1.mode)} (λ k. option_and_then (d.alone l) (after a k)) (after o x) s.1.mode s.1.is
          (λ k u v. option_and_then_some {P = Leads g T (I x) (Spelled g inner turn) (I s.1.mode)} (d.alone l) (after a k) s.1.mode v
          (λ y w z.
          then_leads g T inner (I x) (I k) (I s.1.mode) o (a then does l) (rule_leads o x k u)
          (then_leads g T inner (I k) (I y) (I s.1.mode) a (does l) (rule_leads a k y w) (does_leads g T inner (I y) (I s.1.mode) l (h_alone l y s.1.mode z))))))))
          )
      rule_leads (nested k o r c l) m n e =
          option_and_then_some {P = Leads g T (I m) (Spelled g inner (nested k o r c l)) (I n)} (d.at c l) (option_and_then (d.within r) (d.at k o m)) n e
          (λ y p q. option_and_then_some {P = Leads g T (I m) (Spelled g inner (nested k o r c l)) (I n)} (d.within r) (d.at k o m) y p
          (λ x u v. nested_leads g T inner (I m) (I x) (I y) (I n) k o r c l (h_at k o m x u) (h_inner r x y v) (h_at c l y n q)))

    -- and so in brackets
    pub inner_leads : ((r : g.Inner) (m n : d.Mode) → d.within r m ≡ Some n → after (g.inside r) m ≡ Some n) → (depth : ℕ) (r : g.Inner) (m n : d.Mode) → d.within r m ≡ Some n
        → Leads g T (I m) (SpelledInner g depth r) (I n)
    unfolding SpelledInner
    inner_leads all zero r m n e ms s = absurd s
    inner_leads all (suc depth) r m n e ms s = rule_leads (SpelledInner g depth) (inner_leads all depth) (g.inside r) m n (all r m n e) ms s
