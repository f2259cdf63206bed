-- What is so before a rule is read, and what is so after it.
use Rattle.std.proofs.Common.{◌≡◌, ℕ, zero, suc, true, List, [], ◌∷◌, ◌++◌, Ok, sym, subst, ◌∙◌, inl, inr}
use Rattle.grammar.specs.Rules.{one, does, ◌then◌, ◌or◌, maybe, many, chained, nested}
use Rattle.grammar.specs.Language.{Placed, Language, RuleOf}
use Rattle.grammar.specs.Grammar.{took, did, MarkOf, Parts, Spelled, tokens_of, acts}
use Rattle.grammar.proofs.Basics.{ok_is, tokens_append, acts_one, acts_split}
use Rattle.idl_reader.proofs.EachToken.{EachToken}

pub each_first : {K : Type 0} (T : Placed K → Type 0) (x y : List (Placed K)) → EachToken T (x ++ y) → EachToken T x
each_first T [] y h = tt
each_first T (t ∷ x) y h = (h.0, each_first T x y h.1)

pub each_second : {K : Type 0} (T : Placed K → Type 0) (x y : List (Placed K)) → EachToken T (x ++ y) → EachToken T y
each_second T [] y h = h
each_second T (t ∷ x) y h = each_second T x y h.1

-- what is so before these marks gives what is so after them, where their tokens are such
abbrev pub Leads : (g : Language) → (Placed g.Kind → Type 0) → (g.Built → Type 0) → (List (MarkOf g) → Type 0) → (g.Built → Type 0) → Type 0
Leads g T P spelled Q = (ms : List (MarkOf g)) → spelled ms → EachToken T (tokens_of ms) → (b c : g.Built) → P b → acts g ms b ≡ Ok c → Q c

-- at a token of this kind
abbrev pub LeadsAt : (g : Language) → (Placed g.Kind → Type 0) → (g.Built → Type 0) → g.Kind → g.Label → (g.Built → Type 0) → Type 0
LeadsAt g T P k l Q = (t : Placed g.Kind) → g.same t.kind k ≡ true → T t → (b c : g.Built) → P b → g.act l t b ≡ Ok c → Q c

module _ (g : Language) (T : Placed g.Kind → Type 0) where
  along : (x y : List (MarkOf g)) (b c : g.Built) → x ≡ y → acts g x b ≡ Ok c → acts g y b ≡ Ok c
  along x y b c e h = subst (λ (z : List (MarkOf g)). acts g z b ≡ Ok c) e h

  such : (x y : List (MarkOf g)) → x ≡ y → EachToken T (tokens_of x) → EachToken T (tokens_of y)
  such x y e h = subst (λ (z : List (MarkOf g)). EachToken T (tokens_of z)) e h

  such_first : (x y : List (MarkOf g)) → EachToken T (tokens_of (x ++ y)) → EachToken T (tokens_of x)
  such_first x y h = each_first T (tokens_of x) (tokens_of y) (subst (EachToken T) (tokens_append x y) h)

  such_second : (x y : List (MarkOf g)) → EachToken T (tokens_of (x ++ y)) → EachToken T (tokens_of y)
  such_second x y h = each_second T (tokens_of x) (tokens_of y) (subst (EachToken T) (tokens_append x y) h)

  stays : (P Q : g.Built → Type 0) → ((b : g.Built) → P b → Q b) → (ms : List (MarkOf g)) → ms ≡ [] → (b c : g.Built) → P b → acts g ms b ≡ Ok c → Q c
  stays P Q h ms is b c p e = subst Q (ok_is b c (along ms [] b c is e)) (h b p)

  joined : (P Q R : g.Built → Type 0) (x y : List (MarkOf g) → Type 0) → Leads g T P x Q → Leads g T Q y R
      → (u v ms : List (MarkOf g)) → x u → y v → ms ≡ u ++ v → EachToken T (tokens_of ms) → (b c : g.Built) → P b → acts g ms b ≡ Ok c → R c
  joined P Q R x y f h u v ms a d is ts b c p e =
      let m = acts_split g u v b c (along ms (u ++ v) b c is e) in
      let us = such ms (u ++ v) is ts in
      h v d (such_second u v us) m.0 c (f u a (such_first u v us) b m.0 p m.1) m.2

  module _ (inner : g.Inner → List (MarkOf g) → Type 0) where
    pub one_leads : (P Q : g.Built → Type 0) (k : g.Kind) (l : g.Label) → LeadsAt g T P k l Q → Leads g T P (Spelled g inner (one k l)) Q
    one_leads P Q k l h ms s ts b c p e =
        h s.0 s.1 (such ms (took l s.0 ∷ []) s.2 ts).0 b c p (sym (acts_one g (g.act l s.0 b)) ∙ along ms (took l s.0 ∷ []) b c s.2 e)

    pub does_leads : (P Q : g.Built → Type 0) (l : g.Label) → ((b c : g.Built) → P b → g.judge l b ≡ Ok c → Q c) → Leads g T P (Spelled g inner (does l)) Q
    does_leads P Q l h ms s ts b c p e = h b c p (sym (acts_one g (g.judge l b)) ∙ along ms (did l ∷ []) b c s e)

    pub then_leads : (P Q R : g.Built → Type 0) (x y : RuleOf g) → Leads g T P (Spelled g inner x) Q → Leads g T Q (Spelled g inner y) R → Leads g T P (Spelled g inner (x then y)) R
    then_leads P Q R x y f h ms s ts b c p e = joined P Q R (Spelled g inner x) (Spelled g inner y) f h s.0 s.1 ms s.2 s.3 s.4 ts b c p e

    pub or_leads : (P Q : g.Built → Type 0) (x y : RuleOf g) → Leads g T P (Spelled g inner x) Q → Leads g T P (Spelled g inner y) Q → Leads g T P (Spelled g inner (x or y)) Q
    or_leads P Q x y f h ms s ts b c p e = elim s [ inl a ↦ f ms a ts b c p e | inr d ↦ h ms d ts b c p e ]

    pub maybe_leads : (P Q : g.Built → Type 0) (x : RuleOf g) → ((b : g.Built) → P b → Q b) → Leads g T P (Spelled g inner x) Q → Leads g T P (Spelled g inner (maybe x)) Q
    maybe_leads P Q x none f ms s ts b c p e = elim s [ inl a ↦ f ms a ts b c p e | inr is ↦ stays P Q none ms is b c p e ]

    parts_lead : (P : g.Built → Type 0) (part : List (MarkOf g) → Type 0) → Leads g T P part P → (n : ℕ) → Leads g T P (Parts g part n) P
    parts_lead P part f zero ms s ts b c p e = stays P P (λ d q. q) ms s b c p e
    parts_lead P part f (suc n) ms s ts b c p e = joined P P P part (Parts g part n) f (parts_lead P part f n) s.0 s.1 ms s.2 s.3 s.4 ts b c p e

    pub many_leads : (P : g.Built → Type 0) (x : RuleOf g) → Leads g T P (Spelled g inner x) P → Leads g T P (Spelled g inner (many x)) P
    many_leads P x f ms s ts b c p e = parts_lead P (Spelled g inner x) f s.0 ms s.1 ts b c p e

    pub chained_leads : (P Q : g.Built → Type 0) (x o : RuleOf g) (l : g.Label) → Leads g T P (Spelled g inner x) Q → Leads g T Q (Spelled g inner (o then (x then does l))) Q
        → Leads g T P (Spelled g inner (chained x o l)) Q
    chained_leads P Q x o l f h ms s ts b c p e =
        joined P Q Q (Spelled g inner x) (Parts g (Spelled g inner (o then (x then does l))) s.3.0) f (parts_lead Q (Spelled g inner (o then (x then does l))) h s.3.0)
        s.0 s.1 ms s.2 s.3.1 s.4 ts b c p e

    pub nested_leads : (P Q R S : g.Built → Type 0) (k : g.Kind) (o : g.Label) (r : g.Inner) (d : g.Kind) (l : g.Label) → LeadsAt g T P k o Q → Leads g T Q (inner r) R → LeadsAt g T R d l S
        → Leads g T P (Spelled g inner (nested k o r d l)) S
    nested_leads P Q R S k o r d l f h i ms s ts b c p e =
        let all = took o s.0 ∷ (s.1 ++ took l s.2 ∷ []) in
        let us = such ms all s.6 ts in
        let first = acts_split g (took o s.0 ∷ []) (s.1 ++ took l s.2 ∷ []) b c (along ms all b c s.6 e) in
        let last = acts_split g s.1 (took l s.2 ∷ []) first.0 c first.2 in
        i s.2 s.5 (such_second s.1 (took l s.2 ∷ []) us.1).0 last.0 c
        (h s.1 s.4 (such_first s.1 (took l s.2 ∷ []) us.1) first.0 last.0 (f s.0 s.3 us.0 b first.0 p (sym (acts_one g (g.act o s.0 b)) ∙ first.1)) last.1)
        (sym (acts_one g (g.act l s.2 last.0)) ∙ last.2)
