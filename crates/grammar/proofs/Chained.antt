-- A chain is what it stands for.
use Rattle.std.proofs.Common.{◌≡◌, Bool, true, false, not, List, refl}
use Rattle.std.specs.Prelude.{◌||◌, ◌&&◌}
use Rattle.grammar.specs.Rules.{Rule, one, does, ◌then◌, ◌or◌, maybe, many, chained, nested, turn}
use Rattle.grammar.specs.Language.{Language, RuleOf}
use Rattle.grammar.specs.Reading.{State, Readers, may_be_empty, begins, by_rule}
use Rattle.grammar.specs.Grammar.{MarkOf, Spelled}
use Rattle.grammar.specs.Plain.{goes_on, some_first, some_next, is_plain}

abbrev pub long : (g : Language) → RuleOf g → RuleOf g → g.Label → RuleOf g
long g a o l = a then many (o then (a then does l))

pub rule_is : (g : Language) (inner : Readers g) (a o : RuleOf g) (l : g.Label) (s : State g) → by_rule g inner (chained a o l) s ≡ by_rule g inner (long g a o l) s
rule_is g inner a o l s = refl

pub spelled_is : (g : Language) (inner : g.Inner → List (MarkOf g) → Type 0) (a o : RuleOf g) (l : g.Label) (ms : List (MarkOf g)) → Spelled g inner (chained a o l) ms → Spelled g inner (long g a o l) ms
spelled_is g inner a o l ms h = h

nothing_or : (x b : Bool) → ((x && false) || b) ≡ b
nothing_or true b = refl
nothing_or false b = refl

always : (x : Bool) → (x && true) ≡ x
always true = refl
always false = refl

pub begins_turn : (g : Language) (a o : RuleOf g) (l : g.Label) (k : g.Kind) → begins g (o then (a then does l)) k ≡ ((may_be_empty g o && begins g a k) || begins g o k)
begins_turn g a o l k = rw (nothing_or (may_be_empty g a) (begins g a k)) refl

pub begins_chain : (g : Language) (a o : RuleOf g) (l : g.Label) (k : g.Kind) → begins g (chained a o l) k ≡ ((may_be_empty g a && ((may_be_empty g o && begins g a k) || begins g o k)) || begins g a k)
begins_chain g a o l k = rw (nothing_or (may_be_empty g a) (begins g a k)) refl

pub empty_chain : (g : Language) (a o : RuleOf g) (l : g.Label) → may_be_empty g (chained a o l) ≡ may_be_empty g a
empty_chain g a o l = always (may_be_empty g a)

-- ---- which kinds are before and after a chain

first_of : (e d x y : Bool) → (x || (e && y)) ≡ ((e && ((d && ((e && false) || x)) || y)) || x)
first_of true true true y = refl
first_of true false true true = refl
first_of true false true false = refl
first_of true true false true = refl
first_of true true false false = refl
first_of true false false true = refl
first_of true false false false = refl
first_of false d true y = refl
first_of false d false y = refl

pub first_chain : (g : Language) (such : g.Kind → Bool) (a o : RuleOf g) (l : g.Label) → some_first g such (chained a o l) ≡ some_first g such (long g a o l)
first_chain g such a o l = first_of (may_be_empty g a) (may_be_empty g o) (some_first g such a) (some_first g such o)

first_turn : (e d x y : Bool) → (y || (d && x)) ≡ ((d && ((e && false) || x)) || y)
first_turn true true true true = refl
first_turn true true true false = refl
first_turn true true false true = refl
first_turn true true false false = refl
first_turn false true true true = refl
first_turn false true true false = refl
first_turn false true false true = refl
first_turn false true false false = refl
first_turn e false x true = refl
first_turn e false x false = refl

after_of : (e x b y : Bool) → (x || (b || (e && y))) ≡ ((true && x) || (b || (((e && true) && y) || ((true && x) || false))))
after_of e true b y = refl
after_of e false true y = refl
after_of true false false true = refl
after_of true false false false = refl
after_of false false false y = refl

pub goes_chain : (g : Language) (a o : RuleOf g) (l : g.Label) (k : g.Kind) → goes_on g (chained a o l) k ≡ goes_on g (long g a o l) k
goes_chain g a o l k = after_of (may_be_empty g a) (goes_on g a k) (begins g (turn a o l) k) (goes_on g o k)

pub next_chain : (g : Language) (such : g.Kind → Bool) (a o : RuleOf g) (l : g.Label) → some_next g such (chained a o l) ≡ some_next g such (long g a o l)
next_chain g such a o l =
    rw (first_turn (may_be_empty g a) (may_be_empty g o) (some_first g such a) (some_first g such o))
    (after_of (may_be_empty g a) (some_next g such a) (some_first g such (turn a o l)) (some_next g such o))

-- ---- a plain chain

pub empty_turn : (d e : Bool) → not (d && e) ≡ true → (d && (e && true)) ≡ false
empty_turn true true n = absurd cc
empty_turn true false n = refl
empty_turn false e n = refl

pub next_turn : (e x y : Bool) → not x ≡ true → not (e && y) ≡ true → not (((e && true) && y) || ((true && x) || false)) ≡ true
next_turn e true y n m = absurd cc
next_turn true false true n m = absurd cc
next_turn true false false n m = refl
next_turn false false y n m = refl

abbrev never : {K : Type 0} → K → Bool
never k = false

none_of : (e x y : Bool) → x ≡ false → y ≡ false → ((e && x) || y) ≡ false
none_of true x y p q = rw (p, q) refl
none_of false x y p q = q

none_either : (x y : Bool) → x ≡ false → y ≡ false → (x || y) ≡ false
none_either x y p q = rw (p, q) refl

none_both : (e x : Bool) → x ≡ false → (e && x) ≡ false
none_both true x p = p
none_both false x p = refl

never_first : (g : Language) (r : RuleOf g) → some_first g never r ≡ false
never_first g (one k l) = refl
never_first g (does l) = refl
never_first g (a then b) = none_of (may_be_empty g a) (some_first g never b) (some_first g never a) (never_first g b) (never_first g a)
never_first g (a or b) = none_either (some_first g never a) (some_first g never b) (never_first g a) (never_first g b)
never_first g (maybe a) = never_first g a
never_first g (many a) = never_first g a
never_first g (chained a o l) = none_either (some_first g never a) (may_be_empty g a && some_first g never o) (never_first g a) (none_both (may_be_empty g a) (some_first g never o) (never_first g o))
never_first g (nested k o r c l) = refl

-- no kind goes on that never is
pub never_next : (g : Language) (r : RuleOf g) → some_next g never r ≡ false
never_next g (one k l) = refl
never_next g (does l) = refl
never_next g (a then b) = none_of (may_be_empty g b) (some_next g never a) (some_next g never b) (never_next g a) (never_next g b)
never_next g (a or b) = none_either (some_next g never a) (some_next g never b) (never_next g a) (never_next g b)
never_next g (maybe a) = none_either (some_first g never a) (some_next g never a) (never_first g a) (never_next g a)
never_next g (many a) = none_either (some_first g never a) (some_next g never a) (never_first g a) (never_next g a)
never_next g (chained a o l) =
    none_either (some_next g never a) _ (never_next g a)
    (none_either (some_first g never o || (may_be_empty g o && some_first g never a)) (may_be_empty g a && some_next g never o)
    (none_either (some_first g never o) (may_be_empty g o && some_first g never a) (never_first g o) (none_both (may_be_empty g o) (some_first g never a) (never_first g a)))
    (none_both (may_be_empty g a) (some_next g never o) (never_next g o)))
never_next g (nested k o r c l) = refl
