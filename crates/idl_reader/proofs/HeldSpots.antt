-- Where in a text of IDL a label may be, and whether in an interface.
use Rattle.std.proofs.Common.{◌≡◌, ℕ, Bool, true, false, List, Option, Some, None, Ok, refl, ap, subst, ◌∙◌}
use Rattle.std.specs.Prelude.{◌&&◌, if◌then◌else◌}
use Rattle.std.proofs.lemmas.Bool.{and_parts}
use Rattle.std.proofs.lemmas.Option.{none-some, same_Some}
use Rattle.grammar.specs.Language.{Placed}
use Rattle.grammar.specs.Grammar.{SpelledInner}
use Rattle.idl_tokens.specs.declared.kind.Kind.{Kind}
use Rattle.idl_grammar.specs.declared.label.IdlLabel.{IdlLabel}
use Rattle.idl_grammar.specs.declared.label.IdlLabel.TheVariants as l
use Rattle.idl_grammar.specs.declared.label.Inner.{Inner}
use Rattle.idl_grammar.specs.declared.label.Inner.TheVariants as inner
use Rattle.idl_grammar.specs.IdlRules.{file}
use Rattle.idl_grammar.proofs.PlainRules.{idl_plain}
use Rattle.idl_names.specs.State.{Built, nothing_built}
use Rattle.idl_names.specs.Labels.{act, judge}
use Rattle.idl_names.specs.Declaring.{idl}
use Rattle.idl_names.specs.Whole.{Declares}
use Rattle.idl_reader.proofs.KeptLabels.{declares}
use Rattle.idl_reader.proofs.EachToken.{EachToken}
use Rattle.idl_reader.proofs.Modes.{Modes, after, rule_leads, inner_leads}
use Rattle.idl_reader.proofs.NameTokens.{is_name, IsNameText, IsPlainName, plain_names}
use Rattle.idl_reader.proofs.Places.{Spot, outside, heading, based, named, inside, part, same_spot, spot_is, only_at_names, goes, goes_alone, goes_within}
use Rattle.idl_reader.proofs.Triples.{LeadsAt}

-- a spot, and whether it is in the body of an interface
abbrev pub HeldSpot : Type 0
HeldSpot = Spot × Bool

abbrev same_truth : Bool → Bool → Bool
same_truth true true = true
same_truth false false = true
same_truth a b = false

abbrev same_held : HeldSpot → HeldSpot → Bool
same_held m n = same_spot m.0 n.0 && same_truth m.1 n.1

truth_is : (a b : Bool) → same_truth a b ≡ true → a ≡ b
truth_is true true e = refl
truth_is false false e = refl
truth_is true false e = absurd cc
truth_is false true e = absurd cc

-- a spot and a truth, where both are there
abbrev pub both : Option Spot → Option Bool → Option HeldSpot
both (Some m) (Some b) = Some (m, b)
both (Some m) None = None
both None y = None

pub both_there : (x : Option Spot) (y : Option Bool) (n : HeldSpot) → both x y ≡ Some n → (x ≡ Some n.0) × (y ≡ Some n.1)
both_there (Some m) (Some b) n e = let p = same_Some (m, b) n e in (ap (λ (q : HeldSpot). Some q.0) p, ap (λ (q : HeldSpot). Some q.1) p)
both_there (Some m) None n e = absurd (none-some n e)
both_there None y n e = absurd (none-some n e)

abbrev when : Bool → Bool → Option Bool
when to true = Some to
when to false = None

abbrev unless : Bool → Bool → Option Bool
unless to true = None
unless to false = Some to

-- where a label stands only outside of interfaces, and where only in one
abbrev pub holds_at : IdlLabel → Bool → Option Bool
holds_at l.Module b = unless false b
holds_at l.EndModule b = unless false b
holds_at l.Interface b = unless false b
holds_at l.OpenInterface b = unless true b
holds_at l.EndInterface b = when false b
holds_at l.Attribute b = when true b
holds_at label b = Some b

abbrev pub holds_alone : IdlLabel → Bool → Option Bool
holds_alone l.Base b = unless false b
holds_alone l.EndOperation b = when true b
holds_alone label b = Some b

abbrev holds_within : Inner → Bool → Option Bool
holds_within inner.ModuleBody b = unless false b
holds_within inner.InterfaceBody b = when true b
holds_within r b = Some b

-- a name is declared only at a token that is one
abbrev held_at : Kind → IdlLabel → HeldSpot → Option HeldSpot
held_at kind label m = if declares label then (if is_name kind then both (goes label m.0) (holds_at label m.1) else None) else both (goes label m.0) (holds_at label m.1)

abbrev held_alone : IdlLabel → HeldSpot → Option HeldSpot
held_alone label m = both (goes_alone label m.0) (holds_alone label m.1)

abbrev held_within : Inner → HeldSpot → Option HeldSpot
held_within r m = both (goes_within r m.0) (holds_within r m.1)

abbrev held_spots : Modes idl
held_spots = record { Mode = HeldSpot; below = same_held; at = held_at; alone = held_alone; within = held_within }

-- what is in brackets leads there
inside_after : (r : Inner) (m n : HeldSpot) → held_within r m ≡ Some n → after idl held_spots (idl.inside r) m ≡ Some n
inside_after inner.ModuleBody (outside, false) n e = e
inside_after inner.ModuleBody m n e = absurd (none-some n e)
inside_after inner.InterfaceBody (outside, true) n e = e
inside_after inner.InterfaceBody m n e = absurd (none-some n e)
inside_after inner.StructBody (inside, true) n e = e
inside_after inner.StructBody (inside, false) n e = e
inside_after inner.StructBody m n e = absurd (none-some n e)
inside_after inner.ExceptionBody (inside, true) n e = e
inside_after inner.ExceptionBody (inside, false) n e = e
inside_after inner.ExceptionBody m n e = absurd (none-some n e)
inside_after inner.UnionType (inside, true) n e = e
inside_after inner.UnionType (inside, false) n e = e
inside_after inner.UnionType m n e = absurd (none-some n e)
inside_after inner.UnionBody (inside, true) n e = e
inside_after inner.UnionBody (inside, false) n e = e
inside_after inner.UnionBody m n e = absurd (none-some n e)
inside_after inner.EnumBody (inside, true) n e = e
inside_after inner.EnumBody (inside, false) n e = e
inside_after inner.EnumBody m n e = absurd (none-some n e)
inside_after inner.Parameters (inside, true) n e = e
inside_after inner.Parameters (inside, false) n e = e
inside_after inner.Parameters m n e = absurd (none-some n e)
inside_after inner.Raised (inside, true) n e = e
inside_after inner.Raised (inside, false) n e = e
inside_after inner.Raised m n e = absurd (none-some n e)
inside_after inner.Element (outside, true) n e = e
inside_after inner.Element (outside, false) n e = e
inside_after inner.Element (heading, true) n e = e
inside_after inner.Element (heading, false) n e = e
inside_after inner.Element (based, true) n e = e
inside_after inner.Element (based, false) n e = e
inside_after inner.Element (named, true) n e = e
inside_after inner.Element (named, false) n e = e
inside_after inner.Element (inside, true) n e = e
inside_after inner.Element (inside, false) n e = e
inside_after inner.Element (part, true) n e = e
inside_after inner.Element (part, false) n e = e
inside_after inner.TextBound (outside, true) n e = e
inside_after inner.TextBound (outside, false) n e = e
inside_after inner.TextBound (heading, true) n e = e
inside_after inner.TextBound (heading, false) n e = e
inside_after inner.TextBound (based, true) n e = e
inside_after inner.TextBound (based, false) n e = e
inside_after inner.TextBound (named, true) n e = e
inside_after inner.TextBound (named, false) n e = e
inside_after inner.TextBound (inside, true) n e = e
inside_after inner.TextBound (inside, false) n e = e
inside_after inner.TextBound (part, true) n e = e
inside_after inner.TextBound (part, false) n e = e
inside_after inner.ArrayLength (outside, true) n e = e
inside_after inner.ArrayLength (outside, false) n e = e
inside_after inner.ArrayLength (heading, true) n e = e
inside_after inner.ArrayLength (heading, false) n e = e
inside_after inner.ArrayLength (based, true) n e = e
inside_after inner.ArrayLength (based, false) n e = e
inside_after inner.ArrayLength (named, true) n e = e
inside_after inner.ArrayLength (named, false) n e = e
inside_after inner.ArrayLength (inside, true) n e = e
inside_after inner.ArrayLength (inside, false) n e = e
inside_after inner.ArrayLength (part, true) n e = e
inside_after inner.ArrayLength (part, false) n e = e

module _ (I : HeldSpot → Built → Type 0)
    (h_at : (label : IdlLabel) (m n : Spot) (b d : Bool) → goes label m ≡ Some n → holds_at label b ≡ Some d → (t : Placed Kind) → (declares label ≡ true → IsNameText t.text) → (s c : Built) → I (m, b) s → act label t s ≡ Ok c → I (n, d) c)
    (h_alone : (label : IdlLabel) (m n : Spot) (b d : Bool) → goes_alone label m ≡ Some n → holds_alone label b ≡ Some d → (s c : Built) → I (m, b) s → judge label s ≡ Ok c → I (n, d) c) where
  at_kind : (k : Kind) (label : IdlLabel) (m n : HeldSpot) → held_at k label m ≡ Some n → LeadsAt idl IsPlainName (I m) k label (I n)
  at_kind k label m n e t same p s c i a =
      let q = only_at_names (declares label) (is_name k) (both (goes label m.0) (holds_at label m.1)) n e in
      let r = both_there (goes label m.0) (holds_at label m.1) n q.0 in
      h_at label m.0 n.0 m.1 n.1 r.0 r.1 t (λ d. p (ap is_name ((idl_plain act judge).rules.same_is t.kind k same) ∙ q.1 d)) s c i a

  alone : (label : IdlLabel) (m n : HeldSpot) → held_alone label m ≡ Some n → (s c : Built) → I m s → judge label s ≡ Ok c → I n c
  alone label m n e s c i a =
      let r = both_there (goes_alone label m.0) (holds_alone label m.1) n e in
      h_alone label m.0 n.0 m.1 n.1 r.0 r.1 s c i a

  only_same : (m n : HeldSpot) → same_held m n ≡ true → (s : Built) → I m s → I n s
  only_same m n e s i =
      let p = and_parts (same_spot m.0 n.0) (same_truth m.1 n.1) e in
      let a = spot_is m.0 n.0 p.0 in
      let b = truth_is m.1 n.1 p.1 in
      subst (λ (x : HeldSpot). I x s) (λ j. (a j, b j)) i

  -- what each label keeps so is so after a text
  pub held_text : I (outside, false) nothing_built → (text : List ℕ) (new : Built) → Declares text new → I (outside, false) new
  held_text i text new w =
      rule_leads idl held_spots IsPlainName I only_same at_kind alone (SpelledInner idl 64) (inner_leads idl held_spots IsPlainName I only_same at_kind alone inside_after 64) file (outside, false) (outside, false) refl
      w.marks w.is (subst (EachToken IsPlainName) w.tokens_are (plain_names text)) nothing_built new i w.acts_are
