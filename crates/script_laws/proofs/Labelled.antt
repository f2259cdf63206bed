-- The enums of a text have labels.
use Rattle.std.proofs.Common.{◌≡◌, ℕ, Bool, true, false, List, [], ◌∷◌, ◌++◌, length, Option, Some, None, Ok, refl, subst}
use Rattle.std.proofs.lemmas.Bool.{and_from}
use Rattle.std.proofs.lemmas.Option.{none-some, same_Some}
use Rattle.grammar.specs.Language.{Placed}
use Rattle.grammar.specs.Grammar.{SpelledInner}
use Rattle.grammar.proofs.Basics.{ok_is}
use Rattle.cdr_values.specs.Trees as trees
use Rattle.cdr_values.specs.Trees.{scalar, enumeration, members_of, cases_of, Branch}
use Rattle.idl_tokens.specs.declared.kind.Kind.{Kind}
use Rattle.idl_grammar.specs.declared.label.Basic.{Basic}
use Rattle.idl_grammar.specs.declared.label.Basic.TheVariants as basic
use Rattle.idl_grammar.specs.declared.label.IdlLabel.{IdlLabel}
use Rattle.idl_grammar.specs.declared.label.IdlLabel.TheVariants as l
use Rattle.idl_grammar.specs.declared.label.Inner.{Inner}
use Rattle.idl_grammar.specs.declared.label.Inner.TheVariants as inner
use Rattle.idl_grammar.specs.IdlRules.{file}
use Rattle.idl_scopes.specs.Table as table
use Rattle.idl_scopes.specs.Finding.{outer}
use Rattle.idl_names.specs.Sizes.{basic_kind}
use Rattle.idl_names.specs.State.{enumerator, Built, nothing_built}
use Rattle.idl_names.specs.Changes.{declare_in}
use Rattle.idl_names.specs.Bodies as bodies
use Rattle.idl_names.specs.Labels.{act, judge}
use Rattle.idl_names.specs.Declaring.{idl}
use Rattle.idl_names.specs.Whole.{Declares}
use Rattle.idl_reader.proofs.EachToken.{EachToken}
use Rattle.idl_reader.proofs.NameTokens.{IsPlainName, plain_names}
use Rattle.idl_reader.proofs.Modes.{Modes, after, rule_leads, inner_leads}
use Rattle.idl_reader.proofs.Steps.{Gives, gives_ok, gives_then}
use Rattle.idl_reader.proofs.KeptTypes.{AreSoMembers, AreSoCases, AreTypesSo, EndsWell, so_at, so_alone, nothing_so}
use Rattle.script_laws.specs.Held.{has_labels, have_labels, cases_have_labels}

abbrev pub members_labelled : List (List ℕ × trees.Kind) → Bool
members_labelled ms = have_labels (members_of ms)

abbrev pub AreTypesLabelled : Built → Type 0
AreTypesLabelled s = AreTypesSo has_labels members_labelled s

-- what is known of the enum that is read
data Mode : Type 0 where
  any : Mode
  -- a label
  labelled : Mode
  -- the text has ended
  over : Mode

abbrev no_less : Mode → Mode → Bool
no_less over n = true
no_less any any = true
no_less labelled any = true
no_less labelled labelled = true
no_less any labelled = false
no_less any over = false
no_less labelled over = false

abbrev some_label : List (List ℕ) → Bool
some_label [] = false
some_label (x ∷ xs) = true

abbrev IsLabelled : Mode → List (List ℕ) → Type 0
IsLabelled any ls = Unit {0}
IsLabelled labelled ls = some_label ls ≡ true
IsLabelled over ls = ⊥

abbrev from_labelled : Mode → Option Mode
from_labelled labelled = Some any
from_labelled any = None
from_labelled over = None

abbrev from_any : Mode → Mode → Option Mode
from_any to any = Some to
from_any to labelled = None
from_any to over = None

-- where labels lead at their tokens
abbrev leads : IdlLabel → Mode → Option Mode
leads (l.Refuse c) m = Some over
leads l.Enumerator m = Some labelled
leads l.EndEnum m = from_labelled m
leads label m = Some any

-- and without
abbrev leads_alone : IdlLabel → Mode → Option Mode
leads_alone l.Skip m = Some m
leads_alone label m = Some any

-- and within brackets
abbrev leads_within : Inner → Mode → Option Mode
leads_within inner.EnumBody m = from_any labelled m
leads_within r m = from_any any m

abbrev labelling : Modes idl
labelling = record { Mode = Mode; below = no_less; at = λ kind label m. leads label m; alone = leads_alone; within = leads_within }

inside_labelled : (r : Inner) (m n : Mode) → leads_within r m ≡ Some n → after idl labelling (idl.inside r) m ≡ Some n
inside_labelled inner.ModuleBody any n e = e
inside_labelled inner.ModuleBody m n e = absurd (none-some n e)
inside_labelled inner.InterfaceBody any n e = e
inside_labelled inner.InterfaceBody m n e = absurd (none-some n e)
inside_labelled inner.StructBody any n e = e
inside_labelled inner.StructBody m n e = absurd (none-some n e)
inside_labelled inner.ExceptionBody any n e = e
inside_labelled inner.ExceptionBody m n e = absurd (none-some n e)
inside_labelled inner.UnionType any n e = e
inside_labelled inner.UnionType m n e = absurd (none-some n e)
inside_labelled inner.UnionBody any n e = e
inside_labelled inner.UnionBody m n e = absurd (none-some n e)
inside_labelled inner.EnumBody any n e = e
inside_labelled inner.EnumBody m n e = absurd (none-some n e)
inside_labelled inner.Parameters any n e = e
inside_labelled inner.Parameters m n e = absurd (none-some n e)
inside_labelled inner.Raised any n e = e
inside_labelled inner.Raised m n e = absurd (none-some n e)
inside_labelled inner.Element any n e = e
inside_labelled inner.Element m n e = absurd (none-some n e)
inside_labelled inner.TextBound any n e = e
inside_labelled inner.TextBound m n e = absurd (none-some n e)
inside_labelled inner.ArrayLength any n e = e
inside_labelled inner.ArrayLength m n e = absurd (none-some n e)

abbrev LabelledAt : Mode → Built → Type 0
LabelledAt m s = AreTypesLabelled s × IsLabelled m s.parts.enumerators

labelled_says : (m n : Mode) → no_less m n ≡ true → (s : Built) → LabelledAt m s → LabelledAt n s
labelled_says over n e s h = absurd h.1
labelled_says any any e s h = h
labelled_says labelled any e s h = (h.0, tt)
labelled_says labelled labelled e s h = h
labelled_says any labelled e s h = absurd cc
labelled_says any over e s h = absurd cc
labelled_says labelled over e s h = absurd cc

members_from : (ms : List (List ℕ × trees.Kind)) → AreSoMembers has_labels members_labelled ms → members_labelled ms ≡ true
members_from [] h = refl
members_from (m ∷ ms) h = and_from (has_labels m.1) (have_labels (members_of ms)) h.0 (members_from ms h.1)

cases_from : (cs : List Branch) → AreSoCases has_labels members_labelled cs → cases_have_labels (cases_of cs) ≡ true
cases_from [] h = refl
cases_from (c ∷ cs) h = and_from (has_labels c.3) (cases_have_labels (cases_of cs)) h.0 (cases_from cs h.1)

enum_from : (name : List ℕ) (ls : List (List ℕ)) → some_label ls ≡ true → has_labels (scalar (enumeration name ls)) ≡ true
enum_from name [] e = absurd cc
enum_from name (x ∷ xs) e = refl

ends_labelled : (label : IdlLabel) (m n : Mode) → leads label m ≡ Some n → (s : Built) → IsLabelled m s.parts.enumerators → EndsWell has_labels members_labelled label s
ends_labelled l.EndStruct m n e s h = λ ms. members_from s.parts.members ms
ends_labelled l.EndException m n e s h = λ ms. members_from s.parts.members ms
ends_labelled l.EndUnion m n e s h = λ cs d. and_from (has_labels s.parts.discriminator) (cases_have_labels (cases_of s.parts.cases)) d (cases_from s.parts.cases cs)
ends_labelled l.EndEnum labelled n e s h = enum_from (bodies.open_id s) s.parts.enumerators h
ends_labelled l.EndEnum m n e s h = absurd (none-some n e)
ends_labelled label m n e s h = tt

-- an enumerator is a label
abbrev HasLabel : Built → Type 0
HasLabel s = some_label s.parts.enumerators ≡ true

some_behind : (ls : List (List ℕ)) (x : List ℕ) → some_label (ls ++ x ∷ []) ≡ true
some_behind [] x = refl
some_behind (y ∷ ls) x = refl

one_label : (t : Placed Kind) (s : Built) → Gives HasLabel (bodies.enumerate t s)
one_label t s =
    let thing = enumerator (bodies.open_id s) (length s.parts.enumerators) in
    gives_then (λ x. Unit {0}) HasLabel (declare_in (outer s.scopes s.here) table.other thing t s) (bodies.label_named t) (λ c e. tt)
    (λ x h. gives_ok HasLabel _ (some_behind x.parts.enumerators t.text))

-- what each label keeps so at its token
told_at : (label : IdlLabel) (m n : Mode) → leads label m ≡ Some n → (t : Placed Kind) (s c : Built) → act label t s ≡ Ok c → IsLabelled n c.parts.enumerators
told_at (l.Refuse d) m n e t s c a = absurd cc
told_at l.Enumerator m n e t s c a = subst (λ (k : Mode). IsLabelled k c.parts.enumerators) (same_Some labelled n e) (one_label t s c a)
told_at l.EndEnum labelled n e t s c a = subst (λ (k : Mode). IsLabelled k c.parts.enumerators) (same_Some any n e) tt
told_at l.EndEnum m n e t s c a = absurd (none-some n e)
told_at label m n e t s c a = subst (λ (k : Mode). IsLabelled k c.parts.enumerators) (same_Some any n e) tt

basic_labelled : (b : Basic) → has_labels (basic_kind b) ≡ true
basic_labelled basic.Boolean = refl
basic_labelled basic.Octet = refl
basic_labelled basic.Char = refl
basic_labelled basic.Short = refl
basic_labelled basic.UShort = refl
basic_labelled basic.Long = refl
basic_labelled basic.ULong = refl
basic_labelled basic.LongLong = refl
basic_labelled basic.ULongLong = refl

labelled_at : (label : IdlLabel) (m n : Mode) → leads label m ≡ Some n → (t : Placed Kind) (s c : Built) → LabelledAt m s → act label t s ≡ Ok c → LabelledAt n c
labelled_at label m n e t s c h a =
    (so_at has_labels members_labelled basic_labelled (λ k. refl) (λ k i q. q) (λ k i z q. q) label t s (ends_labelled label m n e s h.1) h.0 c a, told_at label m n e t s c a)

told_alone : (label : IdlLabel) (m n : Mode) → leads_alone label m ≡ Some n → (s c : Built) → IsLabelled m s.parts.enumerators → judge label s ≡ Ok c → IsLabelled n c.parts.enumerators
told_alone l.Skip m n e s c h a = subst (λ (k : Mode). IsLabelled k c.parts.enumerators) (same_Some m n e) (subst (λ (x : Built). IsLabelled m x.parts.enumerators) (ok_is s c a) h)
told_alone label m n e s c h a = subst (λ (k : Mode). IsLabelled k c.parts.enumerators) (same_Some any n e) tt

labelled_alone : (label : IdlLabel) (m n : Mode) → leads_alone label m ≡ Some n → (s c : Built) → LabelledAt m s → judge label s ≡ Ok c → LabelledAt n c
labelled_alone label m n e s c h a =
    (so_alone has_labels members_labelled basic_labelled (λ k. refl) (λ k i q. q) (λ k i z q. q) label s h.0 c a, told_alone label m n e s c h.1 a)

nothing_labelled : LabelledAt any nothing_built
nothing_labelled = (nothing_so has_labels members_labelled basic_labelled (λ k. refl) (λ k i q. q) (λ k i z q. q), tt)

-- the enums of a text have labels
pub labelled_text : (text : List ℕ) (new : Built) → Declares text new → AreTypesLabelled new
labelled_text text new w =
    (rule_leads idl labelling IsPlainName LabelledAt labelled_says (λ k label m n e t same p s c i a. labelled_at label m n e t s c i a) labelled_alone (SpelledInner idl 64)
    (inner_leads idl labelling IsPlainName LabelledAt labelled_says (λ k label m n e t same p s c i a. labelled_at label m n e t s c i a) labelled_alone inside_labelled 64) file any any refl
    w.marks w.is (subst (EachToken IsPlainName) w.tokens_are (plain_names text)) nothing_built new nothing_labelled w.acts_are).0
