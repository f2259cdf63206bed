-- Each rule of the program is the rule of the grammar: by its parts.
use Rattle.std.proofs.Common.{sym, ap}
use Rattle.grammar.proofs.Parts.{rule_parts}
use Rattle.idl_grammar.specs.IdlRules.{inside}
use Rattle.idl_grammar.proofs.rules.inside.Goals as goal

pub returns-in-StructBody : goal.returns-in-StructBody
returns-in-StructBody c = simp rule_parts (ap inside (sym c.in-StructBody.is))

pub returns-in-ExceptionBody : goal.returns-in-ExceptionBody
returns-in-ExceptionBody c = simp rule_parts (ap inside (sym c.in-ExceptionBody.is))

pub returns-in-UnionType : goal.returns-in-UnionType
returns-in-UnionType c = simp rule_parts (ap inside (sym c.in-UnionType.is))

pub returns-in-EnumBody : goal.returns-in-EnumBody
returns-in-EnumBody c = simp rule_parts (ap inside (sym c.in-EnumBody.is))

pub returns-in-Parameters : goal.returns-in-Parameters
returns-in-Parameters c = simp rule_parts (ap inside (sym c.in-Parameters.is))

pub returns-in-Raised : goal.returns-in-Raised
returns-in-Raised c = simp rule_parts (ap inside (sym c.in-Raised.is))

pub returns-in-Element : goal.returns-in-Element
returns-in-Element c = simp rule_parts (ap inside (sym c.in-Element.is))

pub returns-in-TextBound : goal.returns-in-TextBound
returns-in-TextBound c = simp rule_parts (ap inside (sym c.in-TextBound.is))

pub returns-in-ArrayLength : goal.returns-in-ArrayLength
returns-in-ArrayLength c = simp rule_parts (ap inside (sym c.in-ArrayLength.is))
