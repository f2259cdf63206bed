-- Rules without where they lie in memory.
use Rattle.std.specs.Prelude.{ℕ, ◌+◌, Result}
use Rattle.grammar.specs.Rules as g
use Rattle.grammar.specs.Rules.{one, does, ◌then◌, ◌or◌, maybe, many, chained, nested}
use Rattle.grammar.specs.Language.{Placed, Language}
use Rattle.idl_tokens.specs.declared.kind.Kind.{Kind}
use Rattle.grammar.specs.declared.rule.Rule.{Rule, fold-Rule}
use Rattle.grammar.specs.declared.rule.Rule.TheOpen.{Rule-F}
use Rattle.idl_tokens.specs.Placed.{same_kind}

-- one step of that: the parts are rules already
abbrev pub rule_step : {L I : Type 0} → Rule-F L I (g.Rule Kind L I) → g.Rule Kind L I
rule_step (Rule-F.One k l) = one k l
rule_step (Rule-F.Does l) = does l
rule_step (Rule-F.Then a b) = a.now then b.now
rule_step (Rule-F.Or a b) = a.now or b.now
rule_step (Rule-F.Maybe a) = maybe a.now
rule_step (Rule-F.Many a) = many a.now
rule_step (Rule-F.Chained a o l) = chained a.now o.now l
rule_step (Rule-F.Nested k o r c l) = nested k o r c l

-- a rule of the program without where its parts lie in memory
abbrev pub rule_of : {L I : Type 0} → Rule L I → g.Rule Kind L I
rule_of {L} {I} = fold-Rule L I (g.Rule Kind L I) rule_step

-- how many parts a rule has
abbrev pub size : {L I : Type 0} → g.Rule Kind L I → ℕ
size (one k l) = 1
size (does l) = 1
size (a then b) = 1 + size a + size b
size (a or b) = 1 + size a + size b
size (maybe a) = 1 + size a
size (many a) = 1 + size a
size (chained a o l) = 2 + size a + size o
size (nested k o r c l) = 1

-- a language over these kinds
abbrev pub language : {L I B F : Type 0} → (I → g.Rule Kind L I) → (L → Placed Kind → B → Result B F) → (L → B → Result B F) → (Placed Kind → F) → Language
language {L} {I} {B} {F} inside act judge stop = record { Kind = Kind; Label = L; Inner = I; Built = B; Fault = F; same = same_kind; inside = inside; act = act; judge = judge; stop = stop }
