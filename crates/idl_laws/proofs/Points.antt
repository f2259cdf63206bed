-- The scopes are in order at each point of a text.
use Rattle.std.proofs.Common.{◌≡◌, ℕ, true, List, ◌++◌, Some, Ok, refl, ap, subst, ◌∙◌}
use Rattle.std.proofs.lemmas.Option.{none-some}
use Rattle.grammar.specs.Language.{Placed}
use Rattle.grammar.specs.Grammar.{MarkOf}
use Rattle.idl_tokens.specs.declared.kind.Kind.{Kind}
use Rattle.idl_grammar.specs.declared.label.Inner.{Inner}
use Rattle.idl_grammar.specs.declared.label.Inner.TheVariants as inner
use Rattle.idl_grammar.specs.declared.label.IdlLabel.{IdlLabel}
use Rattle.idl_grammar.specs.IdlRules.{file}
use Rattle.idl_grammar.proofs.PlainRules.{idl_plain}
use Rattle.idl_names.specs.State.{Built, nothing_built}
use Rattle.idl_names.specs.Labels.{act, judge}
use Rattle.idl_names.specs.Declaring.{idl}
use Rattle.idl_reader.proofs.EachToken.{EachToken}
use Rattle.idl_reader.proofs.NameTokens.{is_name, IsPlainName, plain_names}
use Rattle.idl_reader.proofs.KeptNames.{IsOrderly}
use Rattle.idl_reader.proofs.KeptLabels.{declares}
use Rattle.idl_reader.proofs.Modes.{after}
use Rattle.idl_reader.proofs.Places.{Spot, outside, heading, based, named, inside, part, same_spot, spot_is, goes, goes_within, spots, only_at_names}
use Rattle.idl_reader.proofs.Standing.{Stands, stands_at, stands_alone, nothing_orderly}
use Rattle.idl_laws.specs.Points.{Point}
use Rattle.idl_laws.specs.Laws.{LooksUp}
use Rattle.idl_laws.proofs.Chains.{sentence_leads, so_between}
use Rattle.idl_laws.proofs.Found.{looked_means, means_looked}

-- what is in brackets leads where it says
pub within_leads : (r : Inner) (m n : Spot) → goes_within r m ≡ Some n → after idl spots (idl.inside r) m ≡ Some n
within_leads inner.ModuleBody outside n e = e
within_leads inner.ModuleBody m n e = absurd (none-some n e)
within_leads inner.InterfaceBody outside n e = e
within_leads inner.InterfaceBody m n e = absurd (none-some n e)
within_leads inner.StructBody inside n e = e
within_leads inner.StructBody m n e = absurd (none-some n e)
within_leads inner.ExceptionBody inside n e = e
within_leads inner.ExceptionBody m n e = absurd (none-some n e)
within_leads inner.UnionType inside n e = e
within_leads inner.UnionType m n e = absurd (none-some n e)
within_leads inner.UnionBody inside n e = e
within_leads inner.UnionBody m n e = absurd (none-some n e)
within_leads inner.EnumBody inside n e = e
within_leads inner.EnumBody m n e = absurd (none-some n e)
within_leads inner.Parameters inside n e = e
within_leads inner.Parameters m n e = absurd (none-some n e)
within_leads inner.Raised inside n e = e
within_leads inner.Raised m n e = absurd (none-some n e)
within_leads inner.Element outside n e = e
within_leads inner.Element m n e = e
within_leads inner.TextBound outside n e = e
within_leads inner.TextBound m n e = e
within_leads inner.ArrayLength outside n e = e
within_leads inner.ArrayLength m n e = e

same_stands : (m n : Spot) → same_spot m n ≡ true → (s : Built) → Stands m s → Stands n s
same_stands m n e s h = subst (λ (k : Spot). Stands k s) (spot_is m n e) h

pub kind_stands : (k : Kind) (label : IdlLabel) (m n : Spot) → spots.at k label m ≡ Some n → (t : Placed Kind) → idl.same t.kind k ≡ true
    → IsPlainName t
    → (s c : Built) → Stands m s → act label t s ≡ Ok c → Stands n c
kind_stands k label m n e t same p s c i a =
    let q = only_at_names (declares label) (is_name k) (goes label m) n e in
    stands_at label m n q.0 t (λ d. p (ap is_name ((idl_plain act judge).rules.same_is t.kind k same) ∙ q.1 d)) s c i a

orderly_at : (m : Spot) (s : Built) → Stands m s → IsOrderly s
orderly_at outside s h = h
orderly_at heading s h = h.0
orderly_at based s h = h.0
orderly_at named s h = h.0
orderly_at inside s h = h.0
orderly_at part s h = h.0.0

-- the scopes are in order at a point
pub orderly_point : (text : List ℕ) (before after : List (MarkOf idl)) (s : Built) → Point text before after s → IsOrderly s
orderly_point text before rest s p =
    let chain = sentence_leads idl spots within_leads 64 file outside outside refl (before ++ rest) p.spelled in
    let tokens = subst (EachToken IsPlainName) p.tokens_are (plain_names text) in
    let keeps = so_between idl spots IsPlainName Stands same_stands kind_stands stands_alone in
    let h = keeps before rest outside outside nothing_built s chain tokens nothing_orderly p.acts_are in
    orderly_at h.0 s h.1

pub looks_up : LooksUp
looks_up text before rest s p name scope i le =
    let o = orderly_point text before rest s p in
    (looked_means s.scopes o.names o.keyed name scope i, means_looked s.scopes o.names o.keyed name scope i le)
