-- How the scopes and the things of a text are, at each of the spots where a label may be.
use Rattle.std.proofs.Common.{◌≡◌, ℕ, ◌+◌, ◌-◌, ◌<◌, arith, true, List, [], ◌∷◌, ◌++◌, length, length-append, set, Some, Ok, refl, sym, ap, subst, ◌∙◌}
use Rattle.std.specs.Prelude.{slice_get}
use Rattle.std.proofs.lemmas.Option.{none-some, same_Some}
use Rattle.grammar.specs.Language.{Placed}
use Rattle.idl_tokens.specs.declared.kind.Kind.{Kind}
use Rattle.idl_grammar.specs.declared.label.IdlLabel.{IdlLabel}
use Rattle.idl_grammar.specs.declared.label.IdlLabel.TheVariants as l
use Rattle.idl_names.specs.State.{Thing, nothing, Built, nothing_built}
use Rattle.idl_names.specs.Changes.{newest}
use Rattle.idl_names.specs.Labels.{act, judge}
use Rattle.idl_names.specs.Whole.{Declares}
use Rattle.idl_reader.proofs.NameTokens.{IsNameText}
use Rattle.idl_reader.proofs.Tables.{no_names_in_order, none_free}
use Rattle.idl_reader.proofs.KeptNames.{IsOrderly, like}
use Rattle.idl_reader.proofs.KeptLabels.{declares, kept_judge, kept_act}
use Rattle.idl_reader.proofs.ThingLists.{get_before, get_last, set_elsewhere}
use Rattle.idl_reader.proofs.QuietLabels.{Same, quiet_act, quiet_judge}
use Rattle.idl_reader.proofs.Shapes.{Adds, Sets, Opens, declare_adds, open_opens, enumerate_adds, param_adds, member_sets, case_member_sets, base_adds}
use Rattle.idl_reader.proofs.Places.{Spot, outside, heading, based, named, inside, part, goes, goes_alone, text_keeps}

-- the newest declaration stands for nothing yet
pub record IsFresh (s : Built) : Type 0 where
  pub some : 0 < length s.things
  pub there : slice_get s.things (length s.things - 1) ≡ Some nothing

-- the one whose body is open stands for nothing yet
pub record IsOpened (s : Built) : Type 0 where
  pub some : 0 < s.here
  pub there : slice_get s.things (s.here - 1) ≡ Some nothing

-- so at each spot
abbrev pub Stands : Spot → Built → Type 0
Stands outside s = IsOrderly s
Stands heading s = IsOrderly s × IsFresh s
Stands based s = IsOrderly s × IsFresh s
Stands named s = IsOrderly s × IsFresh s
Stands inside s = IsOrderly s × IsOpened s
Stands part s = (IsOrderly s × IsOpened s) × (IsFresh s × (s.here < length s.things))

-- so the newest name stands for nothing
pub newest_there : (s : Built) → IsOrderly s → IsFresh s → slice_get s.things (newest s) ≡ Some nothing
newest_there s o f = ap (λ (n : ℕ). slice_get s.things (n - 1)) (sym o.paired) ∙ f.there

fresh_same : (s c : Built) → s.things ≡ c.things → IsFresh s → IsFresh c
fresh_same s c e h = record {
  some = subst (λ (ts : List Thing). 0 < length ts) e h.some;
  there = subst (λ (ts : List Thing). slice_get ts (length ts - 1) ≡ Some nothing) e h.there;
}

opened_same : (s c : Built) → s.things ≡ c.things → s.here ≡ c.here → IsOpened s → IsOpened c
opened_same s c e f h = record {
  some = subst (λ (n : ℕ). 0 < n) f h.some;
  there = subst (λ (ts : List Thing). slice_get ts (c.here - 1) ≡ Some nothing) e (subst (λ (n : ℕ). slice_get s.things (n - 1) ≡ Some nothing) f h.there);
}

less_same : (s c : Built) → s.things ≡ c.things → s.here ≡ c.here → s.here < length s.things → c.here < length c.things
less_same s c e f h = subst (λ (ts : List Thing). c.here < length ts) e (subst (λ (n : ℕ). n < length s.things) f h)

pub stands_same : (m : Spot) (s c : Built) → Same s c → Stands m s → Stands m c
stands_same outside s c k h = like s c h k.scopes k.here k.things
stands_same heading s c k h = (like s c h.0 k.scopes k.here k.things, fresh_same s c k.things h.1)
stands_same based s c k h = (like s c h.0 k.scopes k.here k.things, fresh_same s c k.things h.1)
stands_same named s c k h = (like s c h.0 k.scopes k.here k.things, fresh_same s c k.things h.1)
stands_same inside s c k h = (like s c h.0 k.scopes k.here k.things, opened_same s c k.things k.here h.1)
stands_same part s c k h =
    ((like s c h.0.0 k.scopes k.here k.things, opened_same s c k.things k.here h.0.1), (fresh_same s c k.things h.1.0, less_same s c k.things k.here h.1.1))

one_longer : (s c : Built) (thing : Thing) → c.things ≡ s.things ++ thing ∷ [] → length c.things ≡ length s.things + 1
one_longer s c thing e = ap (λ (ts : List Thing). length ts) e ∙ length-append s.things (thing ∷ [])

-- a thing that was added is the newest
added_last : (s c : Built) (thing : Thing) → c.things ≡ s.things ++ thing ∷ [] → slice_get c.things (length s.things) ≡ Some thing
added_last s c thing e = ap (λ (ts : List Thing). slice_get ts (length s.things)) e ∙ get_last s.things thing

fresh_added : (s c : Built) → c.things ≡ s.things ++ nothing ∷ [] → IsFresh c
fresh_added s c e =
    let n = one_longer s c nothing e in
    record { some = omega arith; there = subst (λ (i : ℕ). slice_get c.things i ≡ Some nothing) (omega arith) (added_last s c nothing e) }

opened_added : (s c : Built) (thing : Thing) → Adds thing s c → IsOpened s → IsOpened c
opened_added s c thing a h = record {
  some = subst (λ (n : ℕ). 0 < n) (sym a.here) h.some;
  there = ap (λ (ts : List Thing). slice_get ts (c.here - 1)) a.things ∙ ap (λ (n : ℕ). slice_get (s.things ++ thing ∷ []) (n - 1)) a.here ∙ get_before s.things thing nothing (s.here - 1) h.there;
}

opened_opens : (s c : Built) → Opens s c → IsOrderly c → IsOpened c
opened_opens s c a o =
    let n = one_longer s c nothing a.things in
    let p = o.paired in
    let k = a.here in
    record { some = omega arith; there = subst (λ (i : ℕ). slice_get c.things i ≡ Some nothing) (omega arith) (added_last s c nothing a.things) }

-- the newest was set, and it isn't the one that is open
opened_set : (s c : Built) (thing : Thing) → Sets 0 (newest s) thing s c → IsOrderly s → s.here < length s.things → IsOpened s → IsOpened c
opened_set s c thing a o less h =
    let p = o.paired in
    let k = h.some in
    record {
      some = subst (λ (n : ℕ). 0 < n) (sym a.here) h.some;
      there = ap (λ (ts : List Thing). slice_get ts (c.here - 1)) a.things ∙ ap (λ (n : ℕ). slice_get (set s.things (newest s) thing) (n - 1)) a.here
          ∙ set_elsewhere s.things (newest s) (s.here - 1) thing (λ e. absurd (omega arith)) ∙ h.there;
    }

-- what each label keeps so at its token
pub stands_at : (label : IdlLabel) (m n : Spot) → goes label m ≡ Some n → (t : Placed Kind) → (declares label ≡ true → IsNameText t.text) → (s c : Built) → Stands m s → act label t s ≡ Ok c → Stands n c
stands_at l.Module outside n e t p s c h a = subst (λ (k : Spot). Stands k c) (same_Some outside n e) (kept_act l.Module t s p (λ d. absurd cc) h c a)
stands_at l.Module m n e t p s c h a = absurd (none-some n e)
stands_at l.EndModule outside n e t p s c h a = subst (λ (k : Spot). Stands k c) (same_Some outside n e) (kept_act l.EndModule t s p (λ d. absurd cc) h c a)
stands_at l.EndModule m n e t p s c h a = absurd (none-some n e)
stands_at l.EndInterface outside n e t p s c h a = subst (λ (k : Spot). Stands k c) (same_Some outside n e) (kept_act l.EndInterface t s p (λ d. absurd cc) h c a)
stands_at l.EndInterface m n e t p s c h a = absurd (none-some n e)
stands_at l.Interface outside n e t p s c h a =
    let d = declare_adds t s c a in
    subst (λ (k : Spot). Stands k c) (same_Some heading n e) (kept_act l.Interface t s p (λ d. absurd cc) h c a, fresh_added s c d.things)
stands_at l.Interface m n e t p s c h a = absurd (none-some n e)
stands_at l.OpenInterface based n e t p s c h a = subst (λ (k : Spot). Stands k c) (same_Some outside n e) (kept_act l.OpenInterface t s p (λ d. absurd cc) h.0 c a)
stands_at l.OpenInterface m n e t p s c h a = absurd (none-some n e)
stands_at l.Declare outside n e t p s c h a =
    let d = declare_adds t s c a in
    subst (λ (k : Spot). Stands k c) (same_Some named n e) (kept_act l.Declare t s p (λ d. absurd cc) h c a, fresh_added s c d.things)
stands_at l.Declare inside n e t p s c h a =
    let d = declare_adds t s c a in
    let k = kept_act l.Declare t s p (λ d. absurd cc) h.0 c a in
    let longer = one_longer s c nothing d.things in
    let i = d.here in
    let j = h.0.inside in
    let q = h.0.paired in
    subst (λ (k : Spot). Stands k c) (same_Some part n e) ((k, opened_added s c nothing d h.1), (fresh_added s c d.things, omega arith))
stands_at l.Declare m n e t p s c h a = absurd (none-some n e)
stands_at l.Open outside n e t p s c h a =
    let d = open_opens t s c a in
    let k = kept_act l.Open t s p (λ d. absurd cc) h c a in
    subst (λ (k : Spot). Stands k c) (same_Some inside n e) (k, opened_opens s c d k)
stands_at l.Open m n e t p s c h a = absurd (none-some n e)
stands_at l.EndStruct inside n e t p s c h a = subst (λ (k : Spot). Stands k c) (same_Some outside n e) (kept_act l.EndStruct t s p (λ d. absurd cc) h.0 c a)
stands_at l.EndStruct m n e t p s c h a = absurd (none-some n e)
stands_at l.EndException inside n e t p s c h a = subst (λ (k : Spot). Stands k c) (same_Some outside n e) (kept_act l.EndException t s p (λ d. absurd cc) h.0 c a)
stands_at l.EndException m n e t p s c h a = absurd (none-some n e)
stands_at l.EndUnion inside n e t p s c h a = subst (λ (k : Spot). Stands k c) (same_Some outside n e) (kept_act l.EndUnion t s p (λ d. absurd cc) h.0 c a)
stands_at l.EndUnion m n e t p s c h a = absurd (none-some n e)
stands_at l.EndEnum inside n e t p s c h a = subst (λ (k : Spot). Stands k c) (same_Some outside n e) (kept_act l.EndEnum t s p (λ d. absurd cc) h.0 c a)
stands_at l.EndEnum m n e t p s c h a = absurd (none-some n e)
stands_at l.Enumerator inside n e t p s c h a =
    subst (λ (k : Spot). Stands k c) (same_Some inside n e) (kept_act l.Enumerator t s p (λ d. absurd cc) h.0 c a, opened_added s c _ (enumerate_adds t s c a) h.1)
stands_at l.Enumerator m n e t p s c h a = absurd (none-some n e)
stands_at l.Attribute outside n e t p s c h a = subst (λ (k : Spot). Stands k c) (same_Some outside n e) (kept_act l.Attribute t s p (λ d. absurd cc) h c a)
stands_at l.Attribute m n e t p s c h a = absurd (none-some n e)
stands_at l.Param inside n e t p s c h a =
    subst (λ (k : Spot). Stands k c) (same_Some inside n e) (kept_act l.Param t s p (λ d. h.1.some) h.0 c a, opened_added s c nothing (param_adds t s c a) h.1)
stands_at l.Param m n e t p s c h a = absurd (none-some n e)
stands_at (l.Refuse d) m n e t p s c h a = absurd cc
stands_at label m n e t p s c h a = subst (λ (k : Spot). Stands k c) (same_Some m n e) (stands_same m s c (quiet_act label t s refl c a) h)

-- and without a token
pub stands_alone : (label : IdlLabel) (m n : Spot) → goes_alone label m ≡ Some n → (s c : Built) → Stands m s → judge label s ≡ Ok c → Stands n c
stands_alone l.Base heading n e s c h a =
    let d = base_adds s c a in
    subst (λ (k : Spot). Stands k c) (same_Some heading n e) (kept_judge l.Base s h.0 c a, fresh_same s c (sym d.things) h.1)
stands_alone l.Base m n e s c h a = absurd (none-some n e)
stands_alone l.Inherit heading n e s c h a = subst (λ (k : Spot). Stands k c) (same_Some based n e) (stands_same heading s c (quiet_judge l.Inherit s refl c a) h)
stands_alone l.Inherit m n e s c h a = absurd (none-some n e)
stands_alone l.Typedef named n e s c h a = subst (λ (k : Spot). Stands k c) (same_Some outside n e) (kept_judge l.Typedef s h.0 c a)
stands_alone l.Typedef m n e s c h a = absurd (none-some n e)
stands_alone l.Member part n e s c h a =
    subst (λ (k : Spot). Stands k c) (same_Some inside n e) (kept_judge l.Member s h.0.0 c a, opened_set s c nothing (member_sets s c a) h.0.0 h.1.1 h.0.1)
stands_alone l.Member m n e s c h a = absurd (none-some n e)
stands_alone l.CaseMember part n e s c h a =
    subst (λ (k : Spot). Stands k c) (same_Some inside n e) (kept_judge l.CaseMember s h.0.0 c a, opened_set s c nothing (case_member_sets s c a) h.0.0 h.1.1 h.0.1)
stands_alone l.CaseMember m n e s c h a = absurd (none-some n e)
stands_alone l.EndConst named n e s c h a = subst (λ (k : Spot). Stands k c) (same_Some outside n e) (kept_judge l.EndConst s h.0 c a)
stands_alone l.EndConst m n e s c h a = absurd (none-some n e)
stands_alone l.EndOperation inside n e s c h a = subst (λ (k : Spot). Stands k c) (same_Some outside n e) (kept_judge l.EndOperation s h.0 c a)
stands_alone l.EndOperation m n e s c h a = absurd (none-some n e)
stands_alone label m n e s c h a = subst (λ (k : Spot). Stands k c) (same_Some m n e) (stands_same m s c (quiet_judge label s refl c a) h)

pub nothing_orderly : IsOrderly nothing_built
nothing_orderly = record { names = no_names_in_order; keyed = refl; inside = omega arith; free = none_free; paired = refl }

-- what a text declares is in order
pub orderly_text : (text : List ℕ) (new : Built) → Declares text new → IsOrderly new
orderly_text text new w = text_keeps Stands stands_at stands_alone nothing_orderly text new w

-- and what each label keeps where names and things are so
module _ (I : Spot → Built → Type 0)
    (h_at : (label : IdlLabel) (m n : Spot) → goes label m ≡ Some n → (t : Placed Kind) → (s c : Built) → Stands m s → I m s → act label t s ≡ Ok c → I n c)
    (h_alone : (label : IdlLabel) (m n : Spot) → goes_alone label m ≡ Some n → (s c : Built) → Stands m s → I m s → judge label s ≡ Ok c → I n c) where
  pub standing_keeps : I outside nothing_built → (text : List ℕ) (new : Built) → Declares text new → I outside new
  standing_keeps i text new w =
      (text_keeps (λ m s. Stands m s × I m s) (λ label m n e t p s c h a. (stands_at label m n e t p s c h.0 a, h_at label m n e t s c h.0 h.1 a))
      (λ label m n e s c h a. (stands_alone label m n e s c h.0 a, h_alone label m n e s c h.0 h.1 a)) (nothing_orderly, i) text new w).1
