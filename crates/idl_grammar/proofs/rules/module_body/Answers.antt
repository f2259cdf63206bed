-- The rule of the program is the rule of the grammar: by its parts.
use Rattle.std.proofs.Common.{refl}
use Rattle.grammar.proofs.Parts.{rule_parts}
use Rattle.idl_grammar.proofs.rules.module_body.Goals as goal

pub returns : goal.returns
returns c = simp rule_parts refl
