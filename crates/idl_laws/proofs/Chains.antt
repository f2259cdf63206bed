-- The marks of a sentence lead from mode to mode, each from where the one before it has led.
use Rattle.std.proofs.Common.{◌≡◌, inl, inr, ℕ, zero, suc, Bool, true, false, List, [], ◌∷◌, ◌++◌, Option, Some, None, Ok, refl, sym, subst, ◌∙◌}
use Rattle.std.specs.Prelude.{if◌then◌else◌}
use Rattle.std.specs.Option.{option_and_then}
use Rattle.std.proofs.lemmas.Option.{none-some, same_Some, cond_some, option_and_then_some}
use Rattle.grammar.specs.Rules.{one, does, ◌then◌, ◌or◌, maybe, many, chained, nested}
use Rattle.grammar.specs.Language.{Placed, Language, RuleOf}
use Rattle.grammar.specs.Grammar.{took, did, MarkOf, Parts, Spelled, SpelledInner, tokens_of, act_mark, acts}
use Rattle.grammar.proofs.Basics.{acts_one, acts_split, ok_is}
use Rattle.idl_reader.proofs.EachToken.{EachToken}
use Rattle.idl_reader.proofs.Modes.{Modes, after, agree, again, weaker}

module _ (g : Language) (d : Modes g) where
  -- a mode that says no more than another one, by so many steps
  pub data Under (m : d.Mode) : d.Mode → Type 0 where
    same : Under m m
    further : (k n : d.Mode) → Under m k → d.below k n ≡ true → Under m n

  -- a mark leads from a mode to another
  abbrev pub Goes : MarkOf g → d.Mode → d.Mode → Type 0
  Goes (took l t) m n = (k : g.Kind) × (g.same t.kind k ≡ true) × (d.at k l m ≡ Some n)
  Goes (did l) m n = d.alone l m ≡ Some n

  -- the marks lead from a mode to another, each from a mode that says no more than the one before it has led to
  abbrev pub Chain : d.Mode → List (MarkOf g) → d.Mode → Type 0
  Chain m [] n = Under m n
  Chain m (x ∷ ms) n = (k : d.Mode) × (l : d.Mode) × Under m k × Goes x k l × Chain l ms n

  under_then : (m k n : d.Mode) → Under m k → Under k n → Under m n
  under_then m k n u same = u
  under_then m k n u (further j i v e) = further j i (under_then m k j u v) e

  chain_weaker : (ms : List (MarkOf g)) (m n k : d.Mode) → Chain m ms n → Under n k → Chain m ms k
  chain_weaker [] m n k c u = under_then m n k c u
  chain_weaker (x ∷ ms) m n k c u = (c.0, c.1, c.2, c.3, chain_weaker ms c.1 n k c.4 u)

  chain_from : (ms : List (MarkOf g)) (m n k : d.Mode) → Under m n → Chain n ms k → Chain m ms k
  chain_from [] m n k u c = under_then m n k u c
  chain_from (x ∷ ms) m n k u c = (c.0, c.1, under_then m n c.0 u c.2, c.3, c.4)

  chain_then : (x y : List (MarkOf g)) (m k n : d.Mode) → Chain m x k → Chain k y n → Chain m (x ++ y) n
  chain_then [] y m k n c e = chain_from y m k n c e
  chain_then (a ∷ x) y m k n c e = (c.0, c.1, c.2, c.3, chain_then x y c.1 k n c.4 e)

  -- what is spelled so leads from a mode to another
  abbrev pub Leads : d.Mode → (List (MarkOf g) → Type 0) → d.Mode → Type 0
  Leads m spelled n = (ms : List (MarkOf g)) → spelled ms → Chain m ms n

  joined : (m k n : d.Mode) (p q : List (MarkOf g) → Type 0) → Leads m p k → Leads k q n
      → Leads m (λ ms. (x : List (MarkOf g)) × (y : List (MarkOf g)) × p x × q y × (ms ≡ x ++ y)) n
  joined m k n p q f h ms s =
      subst (λ (z : List (MarkOf g)). Chain m z n) (sym s.4) (chain_then s.0 s.1 m k n (f s.0 s.2) (h s.1 s.3))

  marked : (x : MarkOf g) (m n : d.Mode) → Goes x m n → Leads m (λ ms. ms ≡ x ∷ []) n
  marked x m n e ms s = subst (λ (z : List (MarkOf g)). Chain m z n) (sym s) (m, n, same, e, same)

  parts_lead : (m : d.Mode) (part : List (MarkOf g) → Type 0) → Leads m part m → (n : ℕ) → Leads m (Parts g part n) m
  parts_lead m part f zero ms s = subst (λ (z : List (MarkOf g)). Chain m z m) (sym s) same
  parts_lead m part f (suc n) ms s = joined m m m part (Parts g part n) f (parts_lead m part f n) ms s

  -- the modes that two agree on, and the one that a rule leads back to
  weaker_under : (a b n : d.Mode) → weaker g d a b ≡ Some n → Under a n × Under b n
  weaker_under a b n e = by_first (d.below a b) refl e
    where
      by_second : (x : Bool) → d.below b a ≡ x → (if x then Some a else None) ≡ Some n → Under a n × Under b n
      by_second true q e =
          let s = same_Some a n e in (subst (λ (z : d.Mode). Under a z) s same, subst (λ (z : d.Mode). Under b z) s (further b a same q))
      by_second false q e = absurd (none-some n e)

      by_first : (x : Bool) → d.below a b ≡ x → (if x then Some b else (if d.below b a then Some a else None)) ≡ Some n
          → Under a n × Under b n
      by_first true q e =
          let s = same_Some b n e in (subst (λ (z : d.Mode). Under a z) s (further a b same q), subst (λ (z : d.Mode). Under b z) s same)
      by_first false q e = by_second (d.below b a) refl e

  both_agree : (x y : Option d.Mode) (n : d.Mode) → agree g d x y ≡ Some n
      → (a : d.Mode) × (b : d.Mode) × (x ≡ Some a) × (y ≡ Some b) × Under a n × Under b n
  both_agree None y n e = absurd (none-some n e)
  both_agree (Some a) None n e = absurd (none-some n e)
  both_agree (Some a) (Some b) n e = let u = weaker_under a b n e in (a, b, refl, refl, u.0, u.1)

  goes_again : (m n : d.Mode) (x : Option d.Mode) → again g d m x ≡ Some n → (k : d.Mode) × (x ≡ Some k) × Under k m × (m ≡ n)
  goes_again m n None e = absurd (none-some n e)
  goes_again m n (Some k) e = let p = cond_some (d.below k m) m n e in (k, refl, further k m same p.0, p.1)

  module _ (inner : g.Inner → List (MarkOf g) → Type 0)
      (h_inner : (r : g.Inner) (m n : d.Mode) → d.within r m ≡ Some n → Leads m (inner r) n) where
    -- a rule leads to the mode after it
    abbrev RuleLeads : RuleOf g → Type 0
    RuleLeads r = (m n : d.Mode) → after g d r m ≡ Some n → Leads m (Spelled g inner r) n

    one_rule : (k : g.Kind) (l : g.Label) → RuleLeads (one k l)
    one_rule k l m n e ms s = marked (took l s.0) m n (k, s.1, e) ms s.2

    does_rule : (l : g.Label) → RuleLeads (does l)
    does_rule l m n e ms s = marked (did l) m n e ms s

    then_rule : (a b : RuleOf g) → RuleLeads a → RuleLeads b → RuleLeads (a then b)
    then_rule a b f h m n e =
        option_and_then_some {P = Leads m (Spelled g inner (a then b)) n} (after g d b) (after g d a m) n e
        (λ k p q. joined m k n (Spelled g inner a) (Spelled g inner b) (f m k p) (h k n q))

    many_rule : (a : RuleOf g) → RuleLeads a → RuleLeads (many a)
    many_rule a f m n e ms s =
        let p = goes_again m n (after g d a m) e in
        subst (λ (z : d.Mode). Chain m ms z) p.3
        (parts_lead m (Spelled g inner a) (λ z w. chain_weaker z m p.0 m (f m p.0 p.1 z w) p.2) s.0 ms s.1)

    or_rule : (a b : RuleOf g) → RuleLeads a → RuleLeads b → RuleLeads (a or b)
    or_rule a b f h m n e ms s =
        let p = both_agree (after g d a m) (after g d b m) n e in
        elim s [
          | inl x ↦ chain_weaker ms m p.0 n (f m p.0 p.2 ms x) p.4
          | inr y ↦ chain_weaker ms m p.1 n (h m p.1 p.3 ms y) p.5
        ]

    maybe_rule : (a : RuleOf g) → RuleLeads a → RuleLeads (maybe a)
    maybe_rule a f m n e ms s =
        let p = both_agree (Some m) (after g d a m) n e in
        elim s [
          | inl x ↦ chain_weaker ms m p.1 n (f m p.1 p.3 ms x) p.5
          | inr none ↦
              subst (λ (z : List (MarkOf g)). Chain m z n) (sym none)
              (subst (λ (z : d.Mode). Under z n) (sym (same_Some m p.0 p.2)) p.4)
        ]

    nested_rule : (k : g.Kind) (o : g.Label) (r : g.Inner) (c : g.Kind) (l : g.Label) → RuleLeads (nested k o r c l)
    nested_rule k o r c l m n e ms s =
        option_and_then_some {P = Chain m ms n} (d.at c l) (option_and_then (d.within r) (d.at k o m)) n e
        (λ y p q. option_and_then_some {P = Chain m ms n} (d.within r) (d.at k o m) y p
        (λ x u v.
        subst (λ (z : List (MarkOf g)). Chain m z n) (sym s.6)
        (m, x, same, (k, s.3, u), chain_then s.1 (took l s.2 ∷ []) x y n (h_inner r x y v s.1 s.4) (y, n, same, (c, s.5, q), same))))

    pub rule_leads : (r : RuleOf g) → RuleLeads r
    rule_leads (one k l) = one_rule k l
    rule_leads (does l) = does_rule l
    rule_leads (a then b) = then_rule a b (rule_leads a) (rule_leads b)
    rule_leads (a or b) = or_rule a b (rule_leads a) (rule_leads b)
    rule_leads (maybe a) = maybe_rule a (rule_leads a)
    rule_leads (many a) = many_rule a (rule_leads a)
    rule_leads (chained a o l) =
        let turn = o then (a then does l) in
        then_rule a (many turn) (rule_leads a)
        (many_rule turn (then_rule o (a then does l) (rule_leads o) (then_rule a (does l) (rule_leads a) (does_rule l))))
    rule_leads (nested k o r c l) = nested_rule k o r c l

  module _ (all : (r : g.Inner) (m n : d.Mode) → d.within r m ≡ Some n → after g d (g.inside r) m ≡ Some n) where
    inner_leads : (depth : ℕ) (r : g.Inner) (m n : d.Mode) → d.within r m ≡ Some n → Leads m (SpelledInner g depth r) n
    unfolding SpelledInner
    inner_leads zero r m n e = λ ms s. absurd s
    inner_leads (suc depth) r m n e = rule_leads (SpelledInner g depth) (inner_leads depth) (g.inside r) m n (all r m n e)

    -- the marks of a sentence lead from mode to mode
    pub sentence_leads : (depth : ℕ) (r : RuleOf g) (m n : d.Mode) → after g d r m ≡ Some n → Leads m (Spelled g (SpelledInner g depth) r) n
    sentence_leads depth r m n e = rule_leads (SpelledInner g depth) (inner_leads depth) r m n e

  module _ (T : Placed g.Kind → Type 0) (I : d.Mode → g.Built → Type 0)
      (h_below : (m n : d.Mode) → d.below m n ≡ true → (s : g.Built) → I m s → I n s)
      (h_at : (k : g.Kind) (l : g.Label) (m n : d.Mode) → d.at k l m ≡ Some n → (t : Placed g.Kind) → g.same t.kind k ≡ true → T t
      → (b c : g.Built) → I m b → g.act l t b ≡ Ok c → I n c)
      (h_alone : (l : g.Label) (m n : d.Mode) → d.alone l m ≡ Some n → (b c : g.Built) → I m b → g.judge l b ≡ Ok c → I n c) where
    under_so : (m n : d.Mode) → Under m n → (s : g.Built) → I m s → I n s
    under_so m n same s i = i
    under_so m n (further k j u e) s i = h_below k j e s (under_so m k u s i)

    abbrev token_of : MarkOf g → Type 0
    token_of (took l t) = T t
    token_of (did l) = Unit {0}

    first_token : (x : MarkOf g) (ms : List (MarkOf g)) → EachToken T (tokens_of (x ∷ ms)) → token_of x × EachToken T (tokens_of ms)
    first_token (took l t) ms h = h
    first_token (did l) ms h = (tt, h)

    step_so : (x : MarkOf g) (k l : d.Mode) → Goes x k l → token_of x → (b c : g.Built) → I k b → act_mark g x b ≡ Ok c → I l c
    step_so (took l t) m n e p b c i a = h_at e.0 l m n e.2 t e.1 p b c i a
    step_so (did l) m n e p b c i a = h_alone l m n e b c i a

    -- what is so of the mode between the marks, from which the others lead on
    pub so_between : (x y : List (MarkOf g)) (m n : d.Mode) (b c : g.Built) → Chain m (x ++ y) n → EachToken T (tokens_of (x ++ y)) → I m b
        → acts g x b ≡ Ok c
        → (k : d.Mode) × I k c × Chain k y n
    so_between [] y m n b c h ts i e = (m, subst (λ (z : g.Built). I m z) (ok_is b c e) i, h)
    so_between (a ∷ x) y m n b c h ts i e =
        let s = acts_split g (a ∷ []) x b c e in
        let p = first_token a (x ++ y) ts in
        let next = step_so a h.0 h.1 h.3 p.0 b s.0 (under_so m h.0 h.2 b i) (sym (acts_one g (act_mark g a b)) ∙ s.1) in
        so_between x y h.1 n s.0 c h.4 p.1 next s.2
