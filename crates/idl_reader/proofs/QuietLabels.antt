-- The labels at which no name is declared and no declaration ends leave all declarations as they are.
use Rattle.std.proofs.Common.{◌≡◌, ℕ, ◌≤◌, arith, Bool, true, false, List, Option, Some, None, Result, Ok, Err, refl, ◌∙◌}
use Rattle.std.specs.Prelude.{nat_lt, ◌+◌}
use Rattle.std.proofs.lemmas.Bool.{cond_both}
use Rattle.std.proofs.lemmas.Bool.Decides.{nat_tests}
use Rattle.grammar.specs.Language.{Placed}
use Rattle.grammar.specs.Reading.{◌>>=◌}
use Rattle.idl_tokens.specs.declared.kind.Kind.{Kind}
use Rattle.idl_grammar.specs.declared.fault.IdlFault.{IdlFault}
use Rattle.idl_grammar.specs.declared.fault.IdlCause.{IdlCause}
use Rattle.idl_grammar.specs.declared.fault.IdlCause.TheVariants as cause
use Rattle.idl_grammar.specs.declared.label.IdlLabel.{IdlLabel}
use Rattle.idl_grammar.specs.declared.label.IdlLabel.TheVariants as l
use Rattle.idl_scopes.specs.declared.place.Place.{Place}
use Rattle.idl_constants.specs.ConstValues.{Value, label_of}
use Rattle.idl_constants.specs.Fitting.{Fit, fit}
use Rattle.idl_names.specs.Sizes.{Sized}
use Rattle.cdr_values.specs.Trees as trees
use Rattle.cdr_values.specs.Trees.{Branch}
use Rattle.idl_names.specs.State.{Parts, Built}
use Rattle.idl_names.specs.Changes.{Done, place_of, refused, unless, newest, place_at, counted, measured}
use Rattle.idl_names.specs.ScopedNames as names
use Rattle.idl_names.specs.Values as values
use Rattle.idl_names.specs.Bodies as bodies
use Rattle.idl_names.specs.Interfaces as interfaces
use Rattle.idl_names.specs.Labels.{act, judge}
use Rattle.idl_reader.proofs.Steps.{Gives, gives_ok, gives_err, gives_then, gives_unless}

-- such labels at tokens
abbrev pub is_quiet : IdlLabel → Bool
is_quiet l.Module = false
is_quiet l.EndModule = false
is_quiet l.Interface = false
is_quiet l.OpenInterface = false
is_quiet l.EndInterface = false
is_quiet l.Declare = false
is_quiet l.Open = false
is_quiet l.EndStruct = false
is_quiet l.EndException = false
is_quiet l.EndUnion = false
is_quiet l.Enumerator = false
is_quiet l.EndEnum = false
is_quiet l.Attribute = false
is_quiet l.Param = false
is_quiet label = true

-- and those without a token, which read no base either
abbrev pub is_judged_quiet : IdlLabel → Bool
is_judged_quiet l.Base = false
is_judged_quiet l.Typedef = false
is_judged_quiet l.Member = false
is_judged_quiet l.CaseMember = false
is_judged_quiet l.EndConst = false
is_judged_quiet l.EndOperation = false
is_judged_quiet label = true

-- the members, cases and enumerators that were read, and the bases with the scopes that they give
abbrev pub body_of : Parts → List (List ℕ × trees.Kind) × List Branch × List (List ℕ) × List ℕ × List ℕ
body_of p = (p.members, p.cases, p.enumerators, p.bases, p.given)

-- so many leaves more are counted, and no more than a file may have
pub record Counts (n : ℕ) (s c : Built) : Type 0 where
  pub more : s.leaves + n ≤ c.leaves
  pub within : s.leaves ≤ 1048576 → c.leaves ≤ 1048576

pub same_leaves : (s c : Built) → s.leaves ≡ c.leaves → Counts 0 s c
same_leaves s c e = record { more = omega arith; within = λ h. omega arith }

pub counts_behind : (n : ℕ) (s x c : Built) → Counts 0 s x → Counts n x c → Counts n s c
counts_behind n s x c h k = let a = h.more in let b = k.more in record { more = omega arith; within = λ w. k.within (h.within w) }

-- the same is declared, the same scope is open, the same bases were read, and no fewer leaves are counted
pub record Same (s c : Built) : Type 0 where
  pub scopes : s.scopes ≡ c.scopes
  pub here : s.here ≡ c.here
  pub things : s.things ≡ c.things
  pub bases : s.parts.bases ≡ c.parts.bases
  pub params : s.parts.params ≡ c.parts.params
  pub body : body_of s.parts ≡ body_of c.parts
  pub counts : Counts 0 s c

pub itself : (s : Built) → Same s s
itself s = record { scopes = refl; here = refl; things = refl; bases = refl; params = refl; body = refl; counts = same_leaves s s refl }

-- a step leaves all as it is
abbrev pub Leaves : Built → Done → Type 0
Leaves s r = Gives (Same s) r

leaves_ok : (s c : Built) → Same s c → Leaves s (Ok c)
leaves_ok s c h = gives_ok (Same s) c h

leaves_err : (s : Built) (f : IdlFault) → Leaves s (Err f)
leaves_err s f = gives_err (Same s) f

pub leaves_then : (s : Built) (r : Done) (f : Built → Done) → Leaves s r → ((x : Built) → Same s x → Leaves s (f x)) → Leaves s (r >>= f)
leaves_then s r f h k = gives_then (Same s) (Same s) r f h k

pub leaves_unless : (s : Built) (b : Bool) (d : IdlCause) (p : Place) (x : Built) → Same s x → Leaves s (unless b d p x)
leaves_unless s b d p x h = gives_unless (Same s) b d p x h

-- so many leaves are counted
abbrev pub LeavesCounted : ℕ → Built → Built → Type 0
LeavesCounted n s c = Same s c × Counts n s c

pub counted_counts : (s : Built) (n : ℕ) (p : Place) (x : Built) → Same s x → Gives (LeavesCounted n s) (counted n p x)
counted_counts s n p x h =
    cond_both (nat_lt 1048576 (x.leaves + n)) (refused cause.TooLarge p) (Ok (record x { leaves = x.leaves + n })) (Gives (LeavesCounted n s))
    (λ e. gives_err (LeavesCounted n s) _)
    (λ e.
    let c = record x { leaves = x.leaves + n } in
    let few : x.leaves + n ≤ 1048576 = grind (arith, nat_tests) in
    let a = h.counts.more in
    gives_ok (LeavesCounted n s) c
    (record { scopes = h.scopes; here = h.here; things = h.things; bases = h.bases; params = h.params; body = h.body; counts = record { more = omega arith; within = λ w. few } }, record { more = omega arith; within = λ w. few }))

pub leaves_counted : (s : Built) (n : ℕ) (p : Place) (x : Built) → Same s x → Leaves s (counted n p x)
leaves_counted s n p x h c e = (counted_counts s n p x h c e).0

pub leaves_measured : (s : Built) (k : Sized) (p : Place) (x : Built) → Same s x → Leaves s (measured k p x)
leaves_measured s k p x h = leaves_unless s _ cause.TooLarge p x h

pub leaves_fitting : (s : Built) (f : Fit) (x : Built) → Same s x → Leaves s (values.fitting f x)
leaves_fitting s (Ok v) x h = leaves_ok s x h
leaves_fitting s (Err m) x h = leaves_err s _

-- a changed state with the same declarations
abbrev other : (s c : Built) → s.scopes ≡ c.scopes → s.here ≡ c.here → s.things ≡ c.things → s.parts.bases ≡ c.parts.bases → s.parts.params ≡ c.parts.params → body_of s.parts ≡ body_of c.parts → s.leaves ≡ c.leaves → Leaves s (Ok c)
other s c a b d e g i f = leaves_ok s c (record { scopes = a; here = b; things = d; bases = e; params = g; body = i; counts = same_leaves s c f })

-- the same with one more step
abbrev further : (s x c : Built) → Same s x → Same x c → Same s c
further s x c h k = record { scopes = h.scopes ∙ k.scopes; here = h.here ∙ k.here; things = h.things ∙ k.things; bases = h.bases ∙ k.bases; params = h.params ∙ k.params; body = h.body ∙ k.body; counts = counts_behind 0 s x c h.counts k.counts }

leaves_typed : (s : Built) (r : Result Sized IdlFault) → Leaves s (names.typed_so r s)
leaves_typed s (Ok k) = other s _ refl refl refl refl refl refl refl
leaves_typed s (Err f) = leaves_err s f

leaves_valued : (s : Built) (r : Result Value IdlFault) → Leaves s (names.valued_so r s)
leaves_valued s (Ok v) = other s _ refl refl refl refl refl refl refl
leaves_valued s (Err f) = leaves_err s f

leaves_bound : (s : Built) (r : Result ℕ IdlFault) → Leaves s (values.bound_so r s)
leaves_bound s (Ok n) = other s _ refl refl refl refl refl refl refl
leaves_bound s (Err f) = leaves_err s f

leaves_length : (s : Built) (r : Result ℕ IdlFault) → Leaves s (values.length_so r s)
leaves_length s (Ok n) = other s _ refl refl refl refl refl refl refl
leaves_length s (Err f) = leaves_err s f

leaves_part : (s : Built) (t : Placed Kind) (o : Option ℕ) → Leaves s (names.part_found t s o)
leaves_part s t None = leaves_err s _
leaves_part s t (Some i) = other s _ refl refl refl refl refl refl refl

-- a condition, and then a change beside the declarations
leaves_so : (s : Built) (b : Bool) (d : IdlCause) (p : Place) (x : Built) (f : Built → Built) → ((y : Built) → Same y (f y)) → Same s x → Leaves s (unless b d p x >>= (λ y. Ok (f y)))
leaves_so s b d p x f k h = leaves_then s (unless b d p x) (λ y. Ok (f y)) (leaves_unless s b d p x h) (λ y i. leaves_ok s (f y) (further s y (f y) i (k y)))

beside : (y c : Built) → y.scopes ≡ c.scopes → y.here ≡ c.here → y.things ≡ c.things → y.parts.bases ≡ c.parts.bases → y.parts.params ≡ c.parts.params → body_of y.parts ≡ body_of c.parts → y.leaves ≡ c.leaves → Same y c
beside y c a b d e g i f = record { scopes = a; here = b; things = d; bases = e; params = g; body = i; counts = same_leaves y c f }

-- at a token
pub quiet_act : (label : IdlLabel) (t : Placed Kind) (s : Built) → is_quiet label ≡ true → Leaves s (act label t s)
quiet_act l.Skip t s q = leaves_ok s s (itself s)
quiet_act (l.Refuse c) t s q = leaves_err s _
quiet_act l.Rooted t s q = other s _ refl refl refl refl refl refl refl
quiet_act l.NamePart t s q = leaves_part s t (names.find_part t.text s s.search)
quiet_act (l.Basic b) t s q = other s _ refl refl refl refl refl refl refl
quiet_act l.AnyText t s q = other s _ refl refl refl refl refl refl refl
quiet_act l.BoundedText t s q = other s _ refl refl refl refl refl refl refl
quiet_act l.Sequence t s q = other s _ refl refl refl refl refl refl refl
quiet_act l.Sign t s q = other s _ refl refl refl refl refl refl refl
quiet_act l.Number t s q = other s _ refl refl refl refl refl refl refl
quiet_act l.Plus t s q = other s _ refl refl refl refl refl refl refl
quiet_act l.Minus t s q = other s _ refl refl refl refl refl refl refl
quiet_act l.Character t s q = other s _ refl refl refl refl refl refl refl
quiet_act l.Text t s q = other s _ refl refl refl refl refl refl refl
quiet_act (l.Truth b) t s q = other s _ refl refl refl refl refl refl refl
quiet_act l.DefaultLabel t s q = leaves_so s _ cause.TwiceCase (place_of t) s (λ y. record y { parts = record y.parts { is_default = true } }) (λ y. beside y _ refl refl refl refl refl refl refl) (itself s)
quiet_act l.ReadOnly t s q = other s _ refl refl refl refl refl refl refl
quiet_act l.OneWay t s q = other s _ refl refl refl refl refl refl refl
quiet_act l.LongResultName t s q = leaves_err s _
quiet_act l.In t s q = leaves_so s _ cause.BadOneway (place_of t) s _ (λ y. beside y _ refl refl refl refl refl refl refl) (itself s)
quiet_act l.Out t s q = leaves_so s _ cause.BadOneway (place_of t) s _ (λ y. beside y _ refl refl refl refl refl refl refl) (itself s)
quiet_act l.InOut t s q = leaves_so s _ cause.BadOneway (place_of t) s _ (λ y. beside y _ refl refl refl refl refl refl refl) (itself s)
quiet_act l.Raises t s q = leaves_so s _ cause.BadOneway (place_of t) s _ (λ y. beside y _ refl refl refl refl refl refl refl) (itself s)
quiet_act l.Module t s q = absurd cc
quiet_act l.EndModule t s q = absurd cc
quiet_act l.Interface t s q = absurd cc
quiet_act l.OpenInterface t s q = absurd cc
quiet_act l.EndInterface t s q = absurd cc
quiet_act l.Declare t s q = absurd cc
quiet_act l.Open t s q = absurd cc
quiet_act l.EndStruct t s q = absurd cc
quiet_act l.EndException t s q = absurd cc
quiet_act l.EndUnion t s q = absurd cc
quiet_act l.Enumerator t s q = absurd cc
quiet_act l.EndEnum t s q = absurd cc
quiet_act l.Attribute t s q = absurd cc
quiet_act l.Param t s q = absurd cc
quiet_act label t s q = leaves_ok s s (itself s)

quiet_labelled : (s x : Built) → Same s x → Leaves s (bodies.labelled x)
quiet_labelled s x h = leaves_so s _ cause.TwiceCase x.value.at x (λ y. record y { parts = bodies.with_label (label_of y.value.value) y.parts }) (λ y. beside y _ refl refl refl refl refl refl refl) h

-- without a token
pub quiet_judge : (label : IdlLabel) (s : Built) → is_judged_quiet label ≡ true → Leaves s (judge label s)
quiet_judge l.Inherit s q = leaves_counted s (interfaces.leaves_from s.things 0 (interfaces.inherited s)) (place_at s (newest s)) s (itself s)
quiet_judge l.UseType s q = leaves_typed s (names.type_in (names.meaning s) s.last)
quiet_judge l.UseConst s q = leaves_valued s (names.value_in (names.meaning s) s.last)
quiet_judge l.Bound s q = leaves_bound s (values.size_in s.value)
quiet_judge l.Length s q = leaves_length s (values.size_in s.value)
quiet_judge l.Switch s q = leaves_so s _ cause.WrongKind s.last s (λ y. record y { parts = record y.parts { discriminator = y.type.kind } }) (λ y. beside y _ refl refl refl refl refl refl refl) (itself s)
quiet_judge l.CaseLabel s q = leaves_then s (values.fitting (fit s.parts.discriminator s.value.value) s) bodies.labelled (leaves_fitting s (fit s.parts.discriminator s.value.value) s (itself s)) (λ x h. quiet_labelled s x h)
quiet_judge l.ConstType s q = leaves_unless s _ cause.WrongKind s.last s (itself s)
quiet_judge l.EndAttribute s q = other s _ refl refl refl refl refl refl refl
quiet_judge l.ResultName s q = leaves_then s (names.use_type (names.meaning s) s) _ (leaves_typed s (names.type_in (names.meaning s) s.last)) (λ x h. leaves_err s _)
quiet_judge l.Result s q = other s _ refl refl refl refl refl refl refl
quiet_judge l.Raised s q = leaves_so s _ cause.WrongKind s.last s _ (λ y. beside y _ refl refl refl refl refl refl refl) (itself s)
quiet_judge l.Base s q = absurd cc
quiet_judge l.Typedef s q = absurd cc
quiet_judge l.Member s q = absurd cc
quiet_judge l.CaseMember s q = absurd cc
quiet_judge l.EndConst s q = absurd cc
quiet_judge l.EndOperation s q = absurd cc
quiet_judge label s q = leaves_ok s s (itself s)
