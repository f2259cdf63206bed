-- The rule of the program is the rule of the grammar: by its parts.
use Rattle.std.proofs.Common.{refl}
use Rattle.grammar.proofs.Parts.{rule_parts}
use Rattle.script_grammar.proofs.rules.statements.Goals as goal

pub returns : goal.returns
returns c = simp rule_parts refl
