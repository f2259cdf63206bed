-- The view of a rule, part by part.
use Rattle.std.proofs.Common.{◌≡◌, Bor, refl, sym, ap, ◌∙◌, rules}
use Rattle.grammar.specs.Rules as g
use Rattle.grammar.specs.Rules.{one, does, ◌then◌, ◌or◌, maybe, many, chained, nested}
use Rattle.idl_tokens.specs.declared.kind.Kind.{Kind}
use Rattle.grammar.specs.declared.rule.Rule.{Rule, Rule-F, fold-roll-Rule}
use Rattle.grammar.specs.declared.rule.Rule.TheVariants.{One, Does, Then, Or, Maybe, Many, Chained, Nested, rolls-One, rolls-Does, rolls-Then, rolls-Or, rolls-Maybe, rolls-Many, rolls-Chained, rolls-Nested}
use Rattle.grammar.specs.Views.{rule_of, rule_step}

pub rule_one : {L I : Type 0} (k : Kind) (l : L) → rule_of {L = L} {I = I} (One k l) ≡ one k l
rule_one {L} {I} k l = ap rule_of (sym (rolls-One k l)) ∙ fold-roll-Rule L I (g.Rule Kind L I) rule_step (Rule-F.One k l)

pub rule_does : {L I : Type 0} (l : L) → rule_of {L = L} {I = I} (Does l) ≡ does l
rule_does {L} {I} l = ap rule_of (sym (rolls-Does l)) ∙ fold-roll-Rule L I (g.Rule Kind L I) rule_step (Rule-F.Does l)

pub rule_then : {L I : Type 0} (a b : Bor (Rule L I)) → rule_of (Then a b) ≡ rule_of a.now then rule_of b.now
rule_then {L} {I} a b = ap rule_of (sym (rolls-Then a b)) ∙ fold-roll-Rule L I (g.Rule Kind L I) rule_step (Rule-F.Then a b)

pub rule_or : {L I : Type 0} (a b : Bor (Rule L I)) → rule_of (Or a b) ≡ rule_of a.now or rule_of b.now
rule_or {L} {I} a b = ap rule_of (sym (rolls-Or a b)) ∙ fold-roll-Rule L I (g.Rule Kind L I) rule_step (Rule-F.Or a b)

pub rule_maybe : {L I : Type 0} (a : Bor (Rule L I)) → rule_of (Maybe a) ≡ maybe (rule_of a.now)
rule_maybe {L} {I} a = ap rule_of (sym (rolls-Maybe a)) ∙ fold-roll-Rule L I (g.Rule Kind L I) rule_step (Rule-F.Maybe a)

pub rule_many : {L I : Type 0} (a : Bor (Rule L I)) → rule_of (Many a) ≡ many (rule_of a.now)
rule_many {L} {I} a = ap rule_of (sym (rolls-Many a)) ∙ fold-roll-Rule L I (g.Rule Kind L I) rule_step (Rule-F.Many a)

pub rule_chained : {L I : Type 0} (a o : Bor (Rule L I)) (l : L) → rule_of (Chained a o l) ≡ chained (rule_of a.now) (rule_of o.now) l
rule_chained {L} {I} a o l = ap rule_of (sym (rolls-Chained a o l)) ∙ fold-roll-Rule L I (g.Rule Kind L I) rule_step (Rule-F.Chained a o l)

pub rule_nested : {L I : Type 0} (k : Kind) (o : L) (r : I) (c : Kind) (l : L) → rule_of (Nested k o r c l) ≡ nested k o r c l
rule_nested {L} {I} k o r c l = ap rule_of (sym (rolls-Nested k o r c l)) ∙ fold-roll-Rule L I (g.Rule Kind L I) rule_step (Rule-F.Nested k o r c l)

pub ruleset rule_parts = (rule_one, rule_does, rule_then, rule_or, rule_maybe, rule_many, rule_chained, rule_nested)
