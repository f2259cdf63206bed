-- Each rule of the program is the rule of the grammar: by its parts.
use Rattle.std.proofs.Common.{sym, ap}
use Rattle.grammar.proofs.Parts.{rule_parts}
use Rattle.script_grammar.specs.ScriptRules.{inside}
use Rattle.script_grammar.proofs.rules.inside.Goals as goal

pub returns-in-ServantBody : goal.returns-in-ServantBody
returns-in-ServantBody c = simp rule_parts (ap inside (sym c.in-ServantBody.is))

pub returns-in-Names : goal.returns-in-Names
returns-in-Names c = simp rule_parts (ap inside (sym c.in-Names.is))

pub returns-in-FieldList : goal.returns-in-FieldList
returns-in-FieldList c = simp rule_parts (ap inside (sym c.in-FieldList.is))

pub returns-in-MaybeFields : goal.returns-in-MaybeFields
returns-in-MaybeFields c = simp rule_parts (ap inside (sym c.in-MaybeFields.is))

pub returns-in-Expression : goal.returns-in-Expression
returns-in-Expression c = simp rule_parts (ap inside (sym c.in-Expression.is))

pub returns-in-Nothing : goal.returns-in-Nothing
returns-in-Nothing c = simp rule_parts (ap inside (sym c.in-Nothing.is))

pub returns-in-ListItems : goal.returns-in-ListItems
returns-in-ListItems c = simp rule_parts (ap inside (sym c.in-ListItems.is))
