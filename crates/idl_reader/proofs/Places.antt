-- Where in a text of IDL a label may be, and that each text goes from place to place.
use Rattle.std.proofs.Common.{◌≡◌, ℕ, Bool, true, false, List, Option, Some, None, Ok, refl, ap, subst, ◌∙◌}
use Rattle.std.specs.Prelude.{if◌then◌else◌}
use Rattle.std.proofs.lemmas.Option.{none-some}
use Rattle.grammar.specs.Language.{Placed}
use Rattle.grammar.specs.Grammar.{SpelledInner}
use Rattle.idl_tokens.specs.declared.kind.Kind.{Kind}
use Rattle.idl_grammar.specs.declared.label.IdlLabel.{IdlLabel}
use Rattle.idl_grammar.specs.declared.label.IdlLabel.TheVariants as l
use Rattle.idl_grammar.specs.declared.label.Inner.{Inner}
use Rattle.idl_grammar.specs.declared.label.Inner.TheVariants as inner
use Rattle.idl_grammar.specs.IdlRules.{file}
use Rattle.idl_grammar.proofs.PlainRules.{idl_plain}
use Rattle.idl_names.specs.State.{Built, nothing_built}
use Rattle.idl_names.specs.Labels.{act, judge}
use Rattle.idl_names.specs.Declaring.{idl}
use Rattle.idl_names.specs.Whole.{Declares}
use Rattle.idl_reader.proofs.EachToken.{EachToken}
use Rattle.idl_reader.proofs.Triples.{LeadsAt}
use Rattle.idl_reader.proofs.NameTokens.{is_name, IsNameText, IsPlainName, plain_names}
use Rattle.idl_reader.proofs.KeptLabels.{declares}
use Rattle.idl_reader.proofs.Modes.{Modes, after, rule_leads, inner_leads}

-- where a label is
pub data Spot : Type 0 where
  -- no declaration is read
  outside : Spot
  -- the head of an interface, whose name is declared
  heading : Spot
  -- and after its bases
  based : Spot
  -- a type, a constant or a parameter whose name is declared
  named : Spot
  -- a type with a body, or an operation, is open
  inside : Spot
  -- and a name in it is declared
  part : Spot

abbrev pub same_spot : Spot → Spot → Bool
same_spot outside outside = true
same_spot heading heading = true
same_spot based based = true
same_spot named named = true
same_spot inside inside = true
same_spot part part = true
same_spot m n = false

pub spot_is : (m n : Spot) → same_spot m n ≡ true → m ≡ n
spot_is outside outside e = refl
spot_is heading heading e = refl
spot_is based based e = refl
spot_is named named e = refl
spot_is inside inside e = refl
spot_is part part e = refl
spot_is m n e = absurd cc

-- at this spot a label leads to that one
abbrev only : Spot → Spot → Spot → Option Spot
only from to m = if same_spot from m then Some to else None

-- after a name that begins a type or a part of one
abbrev declared_at : Spot → Option Spot
declared_at outside = Some named
declared_at inside = Some part
declared_at m = None

-- a refusal ends the text, and in the head of an interface it stands for its body
abbrev refused_at : Spot → Option Spot
refused_at heading = Some outside
refused_at m = Some m

-- where a label leads at its token
abbrev pub goes : IdlLabel → Spot → Option Spot
goes l.Module m = only outside outside m
goes l.EndModule m = only outside outside m
goes l.Interface m = only outside heading m
goes l.OpenInterface m = only based outside m
goes l.EndInterface m = only outside outside m
goes l.Declare m = declared_at m
goes l.Open m = only outside inside m
goes l.EndStruct m = only inside outside m
goes l.EndException m = only inside outside m
goes l.EndUnion m = only inside outside m
goes l.EndEnum m = only inside outside m
goes l.Enumerator m = only inside inside m
goes l.Attribute m = only outside outside m
goes l.Param m = only inside inside m
goes (l.Refuse c) m = refused_at m
goes label m = Some m

-- a name is declared only at a token that is one
abbrev goes_at : Kind → IdlLabel → Spot → Option Spot
goes_at kind label m = if declares label then (if is_name kind then goes label m else None) else goes label m

-- where a label leads without a token
abbrev pub goes_alone : IdlLabel → Spot → Option Spot
goes_alone l.Base m = only heading heading m
goes_alone l.Inherit m = only heading based m
goes_alone l.Typedef m = only named outside m
goes_alone l.Member m = only part inside m
goes_alone l.CaseMember m = only part inside m
goes_alone l.EndConst m = only named outside m
goes_alone l.EndOperation m = only inside outside m
goes_alone label m = Some m

-- where what is in brackets leads
abbrev pub goes_within : Inner → Spot → Option Spot
goes_within inner.ModuleBody m = only outside outside m
goes_within inner.InterfaceBody m = only outside outside m
goes_within inner.StructBody m = only inside inside m
goes_within inner.ExceptionBody m = only inside inside m
goes_within inner.UnionType m = only inside inside m
goes_within inner.UnionBody m = only inside inside m
goes_within inner.EnumBody m = only inside inside m
goes_within inner.Parameters m = only inside inside m
goes_within inner.Raised m = only inside inside m
goes_within r m = Some m

-- the modes of IDL
abbrev pub spots : Modes idl
spots = record { Mode = Spot; below = same_spot; at = goes_at; alone = goes_alone; within = goes_within }

-- what is in brackets leads there
inside_after : (r : Inner) (m n : Spot) → goes_within r m ≡ Some n → after idl spots (idl.inside r) m ≡ Some n
inside_after inner.ModuleBody outside n e = e
inside_after inner.ModuleBody m n e = absurd (none-some n e)
inside_after inner.InterfaceBody outside n e = e
inside_after inner.InterfaceBody m n e = absurd (none-some n e)
inside_after inner.StructBody inside n e = e
inside_after inner.StructBody m n e = absurd (none-some n e)
inside_after inner.ExceptionBody inside n e = e
inside_after inner.ExceptionBody m n e = absurd (none-some n e)
inside_after inner.UnionType inside n e = e
inside_after inner.UnionType m n e = absurd (none-some n e)
inside_after inner.UnionBody inside n e = e
inside_after inner.UnionBody m n e = absurd (none-some n e)
inside_after inner.EnumBody inside n e = e
inside_after inner.EnumBody m n e = absurd (none-some n e)
inside_after inner.Parameters inside n e = e
inside_after inner.Parameters m n e = absurd (none-some n e)
inside_after inner.Raised inside n e = e
inside_after inner.Raised m n e = absurd (none-some n e)
inside_after inner.Element outside n e = e
inside_after inner.Element heading n e = e
inside_after inner.Element based n e = e
inside_after inner.Element named n e = e
inside_after inner.Element inside n e = e
inside_after inner.Element part n e = e
inside_after inner.TextBound outside n e = e
inside_after inner.TextBound heading n e = e
inside_after inner.TextBound based n e = e
inside_after inner.TextBound named n e = e
inside_after inner.TextBound inside n e = e
inside_after inner.TextBound part n e = e
inside_after inner.ArrayLength outside n e = e
inside_after inner.ArrayLength heading n e = e
inside_after inner.ArrayLength based n e = e
inside_after inner.ArrayLength named n e = e
inside_after inner.ArrayLength inside n e = e
inside_after inner.ArrayLength part n e = e

-- a label that declares leads on only at a name
pub only_at_names : {X : Type 0} (d there : Bool) (x : Option X) (n : X) → (if d then (if there then x else None) else x) ≡ Some n → (x ≡ Some n) × (d ≡ true → there ≡ true)
only_at_names true true x n e = (e, λ h. refl)
only_at_names true false x n e = absurd (none-some n e)
only_at_names false there x n e = (e, λ h. absurd cc)

module _ (I : Spot → Built → Type 0)
    (h_at : (label : IdlLabel) (m n : Spot) → goes label m ≡ Some n → (t : Placed Kind) → (declares label ≡ true → IsNameText t.text) → (s c : Built) → I m s → act label t s ≡ Ok c → I n c)
    (h_alone : (label : IdlLabel) (m n : Spot) → goes_alone label m ≡ Some n → (s c : Built) → I m s → judge label s ≡ Ok c → I n c) where
  at_kind : (k : Kind) (label : IdlLabel) (m n : Spot) → goes_at k label m ≡ Some n → LeadsAt idl IsPlainName (I m) k label (I n)
  at_kind k label m n e t same p s c i a =
      let q = only_at_names (declares label) (is_name k) (goes label m) n e in
      h_at label m n q.0 t (λ d. p (ap is_name ((idl_plain act judge).rules.same_is t.kind k same) ∙ q.1 d)) s c i a

  only_same : (m n : Spot) → same_spot m n ≡ true → (s : Built) → I m s → I n s
  only_same m n e s i = subst (λ (k : Spot). I k s) (spot_is m n e) i

  -- what each label keeps so is so after a text
  pub text_keeps : I outside nothing_built → (text : List ℕ) (new : Built) → Declares text new → I outside new
  text_keeps i text new w =
      rule_leads idl spots IsPlainName I only_same at_kind h_alone (SpelledInner idl 64) (inner_leads idl spots IsPlainName I only_same at_kind h_alone inside_after 64) file outside outside refl
      w.marks w.is (subst (EachToken IsPlainName) w.tokens_are (plain_names text)) nothing_built new i w.acts_are
