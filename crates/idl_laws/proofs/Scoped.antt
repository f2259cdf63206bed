-- Each scoped name of a text begins anew, and its parts are found one after the other.
use Rattle.std.proofs.Common.{◌≡◌, ◌⊎◌, inl, inr, ℕ, Bool, true, false, List, [], ◌∷◌, ◌++◌, Option, Some, None, Ok, refl, sym, ap, subst, ◌∙◌}
use Rattle.std.proofs.lemmas.Option.{none-some, same_Some}
use Rattle.grammar.specs.Language.{Placed}
use Rattle.grammar.specs.Grammar.{took, did, MarkOf, act_mark, acts}
use Rattle.grammar.proofs.Basics.{acts_one, acts_split, ok_is}
use Rattle.idl_tokens.specs.declared.kind.Kind.{Kind}
use Rattle.idl_tokens.specs.declared.kind.Kind.TheVariants as token
use Rattle.idl_grammar.specs.declared.label.Inner.{Inner}
use Rattle.idl_grammar.specs.declared.label.Inner.TheVariants as inner
use Rattle.idl_grammar.specs.declared.label.IdlLabel.{IdlLabel}
use Rattle.idl_grammar.specs.declared.label.IdlLabel.TheVariants as l
use Rattle.idl_grammar.specs.IdlRules.{file}
use Rattle.idl_names.specs.State.{Search, fresh, rooted, found, Built, nothing_built}
use Rattle.idl_names.specs.Changes.{Done, place_of}
use Rattle.idl_names.specs.ScopedNames as names
use Rattle.idl_names.specs.Labels.{act, judge}
use Rattle.idl_names.specs.Declaring.{idl}
use Rattle.idl_reader.proofs.Modes.{Modes, after}
use Rattle.idl_laws.specs.Names.{is_root, ends_rooted, is_rooted, FurtherParts, is_use}
use Rattle.idl_laws.specs.Points.{Point}
use Rattle.idl_laws.proofs.Chains.{Under, same, further, Goes, Chain, sentence_leads}
use Rattle.idl_laws.proofs.Naming.{IsIdle, idle_act, idle_uses, idle_judge}

-- ---- where a name begins

-- what of a name is read
pub data Spot : Type 0 where
  -- nothing
  idle : Spot
  -- nothing, or the `::` before it
  begun : Spot
  -- whole parts
  named : Spot
  -- and a `::` after them
  colons : Spot
  -- and a part after that
  more : Spot

abbrev at_least : Spot → Spot → Bool
at_least idle idle = true
at_least idle begun = true
at_least begun begun = true
at_least named named = true
at_least colons colons = true
at_least more more = true
at_least m n = false

abbrev from_idle : Spot → Spot → Option Spot
from_idle to idle = Some to
from_idle to m = None

abbrev after_part : Spot → Option Spot
after_part idle = Some named
after_part begun = Some named
after_part colons = Some more
after_part m = None

abbrev after_skip : Spot → Kind → Option Spot
after_skip idle kind = Some idle
after_skip named token.DoubleColon = Some colons
after_skip m kind = None

abbrev from_named : Spot → Option Spot
from_named named = Some idle
from_named m = None

abbrev after_done : Spot → Option Spot
after_done idle = Some idle
after_done more = Some named
after_done m = None

-- where labels lead at their tokens
abbrev leads : Kind → IdlLabel → Spot → Option Spot
leads kind (l.Refuse c) m = Some idle
leads kind l.LongResultName m = Some named
leads kind l.Rooted m = from_idle begun m
leads kind l.NamePart m = after_part m
leads kind l.Skip m = after_skip m kind
leads kind label m = from_idle idle m

-- and without
abbrev leads_alone : IdlLabel → Spot → Option Spot
leads_alone l.Skip m = after_done m
leads_alone l.Base m = from_named m
leads_alone l.UseType m = from_named m
leads_alone l.UseConst m = from_named m
leads_alone l.Raised m = from_named m
leads_alone l.ResultName m = from_named m
leads_alone label m = from_idle idle m

abbrev naming : Modes idl
naming = record { Mode = Spot; below = at_least; at = leads; alone = leads_alone; within = λ r m. from_idle idle m }

within_leads : (r : Inner) (m n : Spot) → from_idle idle m ≡ Some n → after idl naming (idl.inside r) m ≡ Some n
within_leads inner.ModuleBody idle n e = e
within_leads inner.InterfaceBody idle n e = e
within_leads inner.StructBody idle n e = e
within_leads inner.ExceptionBody idle n e = e
within_leads inner.UnionType idle n e = e
within_leads inner.UnionBody idle n e = e
within_leads inner.EnumBody idle n e = e
within_leads inner.Parameters idle n e = e
within_leads inner.Raised idle n e = e
within_leads inner.Element idle n e = e
within_leads inner.TextBound idle n e = e
within_leads inner.ArrayLength idle n e = e
within_leads r m n e = absurd cc

-- the modes between the marks of a sentence
abbrev Runs : Spot → List (MarkOf idl) → Spot → Type 0
Runs m ms n = Chain idl naming m ms n

abbrev Up : Spot → Spot → Type 0
Up m n = Under idl naming m n

-- only the `::` before it is read
abbrev is_begun : Spot → Bool
is_begun begun = true
is_begun m = false

below_is : (j m : Spot) → is_begun m ≡ false → at_least j m ≡ true → j ≡ m
below_is idle idle n e = refl
below_is named named n e = refl
below_is colons colons n e = refl
below_is more more n e = refl
below_is j begun n e = absurd cc
below_is j m n e = absurd cc

up_is : (k m : Spot) → is_begun m ≡ false → Up k m → k ≡ m
up_is k m n same = refl
up_is k m n (further j i u e) = let q = below_is j m n e in up_is k j (subst (λ (z : Spot). is_begun z ≡ false) (sym q) n) u ∙ q

up_begun : (k m : Spot) → Up k m → m ≡ begun → (k ≡ begun) ⊎ (k ≡ idle)
up_begun k m same e = inl e
up_begun k m (further begun i u b) e = up_begun k begun u refl
up_begun k m (further idle i u b) e = inr (up_is k idle refl u)
up_begun k m (further j i u b) e = let h : at_least j begun ≡ true = subst (λ (z : Spot). at_least j z ≡ true) e b in absurd cc

up_more : (k : Spot) → Up more k → more ≡ k
up_more begun u = elim (up_begun more begun u refl) [ inl e ↦ absurd cc | inr e ↦ absurd cc ]
up_more idle u = up_is more idle refl u
up_more named u = up_is more named refl u
up_more colons u = up_is more colons refl u
up_more more u = refl

-- ---- what is known of the name that is read

-- so at each spot
abbrev SearchAt : Spot → Search → Type 0
SearchAt idle q = q ≡ fresh
SearchAt begun q = q ≡ rooted
SearchAt m q = (j : ℕ) × (q ≡ found j)

-- a part of a name that is found
pub part_gives : (t : Placed Kind) (s : Built) (o : Option ℕ) (c : Built) → names.part_found t s o ≡ Ok c
    → (j : ℕ) × (o ≡ Some j) × (record s { search = found j; last = place_of t } ≡ c)
part_gives t s None c e = absurd cc
part_gives t s (Some j) c e = (j, refl, ok_is _ c e)

part_search : (t : Placed Kind) (s : Built) (o : Option ℕ) (c : Built) → names.part_found t s o ≡ Ok c → (j : ℕ) × (c.search ≡ found j)
part_search t s o c e = let p = part_gives t s o c e in (p.0, ap (λ (x : Built). x.search) (sym p.2))

-- a step leads on, and begins a name where its mark does
abbrev Steps : Spot → Built → Bool → Type 0
Steps n c root = SearchAt n c.search × (is_begun n ≡ root)

steps_to : (m n : Spot) (c : Built) (root : Bool) → Some m ≡ Some n → SearchAt m c.search → is_begun m ≡ root → Steps n c root
steps_to m n c root e i b = subst (λ (z : Spot). Steps z c root) (same_Some m n e) (i, b)

-- a step that does nothing
abbrev settled : Built → Done
settled b = Ok b

-- what is known is the same after one
stays : (k m : Spot) (b c : Built) → k ≡ m → SearchAt k b.search → settled b ≡ settled c → SearchAt m c.search
stays k m b c e i a = subst (λ (z : Spot). SearchAt z c.search) e (subst (λ (x : Built). SearchAt k x.search) (ok_is b c a) i)

skip_steps : (m : Spot) (kind : Kind) (n : Spot) → after_skip m kind ≡ Some n → (k : Spot) → Up k m → (b c : Built) → SearchAt k b.search
    → settled b ≡ settled c → Steps n c false
skip_steps idle kind n e k u b c i a = steps_to idle n c false e (stays k idle b c (up_is k idle refl u) i a) refl
skip_steps named token.DoubleColon n e k u b c i a = steps_to colons n c false e (stays k named b c (up_is k named refl u) i a) refl
skip_steps named kind n e k u b c i a = absurd (none-some n e)
skip_steps m kind n e k u b c i a = absurd (none-some n e)

idle_before : (k : Spot) (b : Built) → Up k idle → SearchAt k b.search → IsIdle b
idle_before k b u i = subst (λ (z : Spot). SearchAt z b.search) (up_is k idle refl u) i

step_at : (label : IdlLabel) (m n : Spot) (kind : Kind) → leads kind label m ≡ Some n → (k : Spot) → Up k m
    → (t : Placed Kind) (b c : Built) → SearchAt k b.search
    → act label t b ≡ Ok c → Steps n c (is_root (took label t))
step_at (l.Refuse x) m n kind e k u t b c i a = absurd cc
step_at l.LongResultName m n kind e k u t b c i a = absurd cc
step_at l.Rooted idle n kind e k u t b c i a = steps_to begun n c true e (ap (λ (x : Built). x.search) (sym (ok_is _ c a))) refl
step_at l.Rooted m n kind e k u t b c i a = absurd (none-some n e)
step_at l.NamePart idle n kind e k u t b c i a = steps_to named n c false e (part_search t b (names.find_part t.text b b.search) c a) refl
step_at l.NamePart begun n kind e k u t b c i a = steps_to named n c false e (part_search t b (names.find_part t.text b b.search) c a) refl
step_at l.NamePart colons n kind e k u t b c i a = steps_to more n c false e (part_search t b (names.find_part t.text b b.search) c a) refl
step_at l.NamePart m n kind e k u t b c i a = absurd (none-some n e)
step_at l.Skip m n kind e k u t b c i a = skip_steps m kind n e k u b c i a
step_at label idle n kind e k u t b c i a = steps_to idle n c false e (idle_act label t b refl (idle_before k b u i) c a) refl
step_at label m n kind e k u t b c i a = absurd (none-some n e)

use_steps : (label : IdlLabel) (m n : Spot) → is_use label ≡ true → from_named m ≡ Some n → (b c : Built) → judge label b ≡ Ok c
    → Steps n c false
use_steps label named n is e b c a = steps_to idle n c false e (idle_uses label b is c a) refl
use_steps label m n is e b c a = absurd (none-some n e)

step_alone : (label : IdlLabel) (m n : Spot) → leads_alone label m ≡ Some n → (k : Spot) → Up k m → (b c : Built) → SearchAt k b.search
    → judge label b ≡ Ok c → Steps n c false
step_alone l.Skip idle n e k u b c i a = steps_to idle n c false e (stays k idle b c (up_is k idle refl u) i a) refl
step_alone l.Skip more n e k u b c i a = steps_to named n c false e (stays k more b c (up_is k more refl u) i a) refl
step_alone l.Skip m n e k u b c i a = absurd (none-some n e)
step_alone l.Base m n e k u b c i a = use_steps l.Base m n refl e b c a
step_alone l.UseType m n e k u b c i a = use_steps l.UseType m n refl e b c a
step_alone l.UseConst m n e k u b c i a = use_steps l.UseConst m n refl e b c a
step_alone l.Raised m n e k u b c i a = use_steps l.Raised m n refl e b c a
step_alone l.ResultName m n e k u b c i a = use_steps l.ResultName m n refl e b c a
step_alone label idle n e k u b c i a = steps_to idle n c false e (idle_judge label b refl (idle_before k b u i) c a) refl
step_alone label m n e k u b c i a = absurd (none-some n e)

step : (x : MarkOf idl) (k n : Spot) → Goes idl naming x k n → (m : Spot) → Up m k → (b c : Built) → SearchAt m b.search
    → act_mark idl x b ≡ Ok c → Steps n c (is_root x)
step (took label t) k n e m u b c i a = step_at label k n e.0 e.2 m u t b c i a
step (did label) k n e m u b c i a = step_alone label k n e m u b c i a

-- what is known between the marks, and what leads on from there
pub record Between (y : List (MarkOf idl)) (n : Spot) (c : Built) (root : Bool) : Type 0 where
  pub spot : Spot
  pub runs : Runs spot y n
  pub search : SearchAt spot c.search
  pub begins : is_begun spot ≡ root

between : (x y : List (MarkOf idl)) (m n : Spot) (was : Bool) (b c : Built) → Runs m (x ++ y) n → SearchAt m b.search → is_begun m ≡ was
    → acts idl x b ≡ Ok c
    → Between y n c (ends_rooted was x)
between [] y m n was b c h i w e =
    record { spot = m; runs = h; search = subst (λ (z : Built). SearchAt m z.search) (ok_is b c e) i; begins = w }
between (a ∷ x) y m n was b c h i w e =
    let s = acts_split idl (a ∷ []) x b c e in
    let q = step a h.0 h.1 h.3 m h.2 b s.0 i (sym (acts_one idl (act_mark idl a b)) ∙ s.1) in
    between x y h.1 n (is_root a) s.0 c h.4 q.0 q.1 s.2

-- ---- a name that is used begins there

no_use : (label : IdlLabel) (k n : Spot) → is_use label ≡ true → Up more k → leads_alone label k ≡ Some n → ⊥
no_use label k n is u e = never label is (subst (λ (z : Spot). leads_alone label z ≡ Some n) (sym (up_more k u)) e)
  where
    never : (label : IdlLabel) → is_use label ≡ true → leads_alone label more ≡ Some n → ⊥
    never l.Base is e = none-some n e
    never l.UseType is e = none-some n e
    never l.UseConst is e = none-some n e
    never l.Raised is e = none-some n e
    never l.ResultName is e = none-some n e
    never label is e = absurd cc

no_skip : (k n : Spot) (kind : Kind) → Up more k → after_skip k kind ≡ Some n → ⊥
no_skip k n kind u e = none-some n (subst (λ (z : Spot). after_skip z kind ≡ Some n) (sym (up_more k u)) e)

-- after a part and a `::` no name begins
no_part : (parts : List (List ℕ)) (rest : List (MarkOf idl)) (label : IdlLabel) (after : List (MarkOf idl)) (n : Spot)
    → FurtherParts parts rest → is_use label ≡ true
    → Runs more (rest ++ did label ∷ after) n → ⊥
no_part [] rest label after n is u h =
    let r : Runs more (did label ∷ after) n = subst (λ (z : List (MarkOf idl)). Runs more (z ++ did label ∷ after) n) is h in
    no_use label r.0 r.1 u r.2 r.3
no_part (name ∷ parts) rest label after n is u h =
    let r = subst (λ (z : List (MarkOf idl)). Runs more (z ++ did label ∷ after) n) is.5 h in
    no_skip r.0 r.1 r.3.0 r.2 r.3.2

-- what is known where a name begins
abbrev pub SearchSo : Bool → Search → Type 0
SearchSo true q = q ≡ rooted
SearchSo false q = q ≡ fresh

start_so : (k m n : Spot) (q : Search) → Up k m → after_part m ≡ Some n → (more ≡ n → ⊥) → SearchAt k q → SearchSo (is_begun k) q
start_so k idle n q u e other i =
    let s = up_is k idle refl u in
    subst (λ (z : Spot). SearchSo (is_begun z) q) (sym s) (subst (λ (z : Spot). SearchAt z q) s i)
start_so k begun n q u e other i = elim (up_begun k begun u refl) [
  | inl s ↦ subst (λ (z : Spot). SearchSo (is_begun z) q) (sym s) (subst (λ (z : Spot). SearchAt z q) s i)
  | inr s ↦ subst (λ (z : Spot). SearchSo (is_begun z) q) (sym s) (subst (λ (z : Spot). SearchAt z q) s i)
]
start_so k colons n q u e other i = absurd (other (same_Some more n e))
start_so k m n q u e other i = absurd (none-some n e)

-- a name that is used begins there, after `::` or anew
pub name_begins : (text : List ℕ) (before rest after : List (MarkOf idl)) (part : Placed Kind) (parts : List (List ℕ))
    (label : IdlLabel) (s : Built) → Point text before ((took l.NamePart part ∷ rest) ++ did label ∷ after) s
    → FurtherParts parts rest → is_use label ≡ true → SearchSo (is_rooted before) s.search
name_begins text before rest after part parts label s p is u =
    let y = took l.NamePart part ∷ (rest ++ did label ∷ after) in
    let chain = sentence_leads idl naming within_leads 64 file idle idle refl (before ++ y) p.spelled in
    let h = between before y idle idle false nothing_built s chain refl refl p.acts_are in
    let r = h.runs in
    let other : more ≡ r.1 → ⊥ =
    λ e. no_part parts rest label after idle is u (subst (λ (z : Spot). Runs z (rest ++ did label ∷ after) idle) (sym e) r.4) in
    subst (λ (b : Bool). SearchSo b s.search) h.begins (start_so h.spot r.0 r.1 s.search r.2 r.3.2 other h.search)
