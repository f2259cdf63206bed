-- Tokens that the grammar hasn't got where they are: own profile.

use Rattle.idl_tokens.specs.Placed.{Placed}
use Rattle.idl_tokens.specs.declared.kind.Kind.{Kind}
use Rattle.idl_tokens.specs.declared.kind.Kind.TheVariants.{Bad, NotInProfile, Underscored}
use Rattle.idl_grammar.specs.declared.fault.IdlCause.{IdlCause}
use Rattle.idl_grammar.specs.declared.fault.IdlCause.TheVariants as cause
use Rattle.idl_grammar.specs.declared.fault.IdlFault.{IdlFault}

-- a token is bad, or isn't in this profile wherever it is, or else another one is expected
abbrev pub cause_of : Kind → IdlCause
cause_of Bad = cause.BadToken
cause_of NotInProfile = cause.NotInProfile
cause_of Underscored = cause.NotInProfile
cause_of kind = cause.Expected

-- a cause at a token
abbrev pub fault_at : IdlCause → Placed Kind → IdlFault
fault_at c t = record { cause = c; line = t.line; column = t.column }

-- the fault of such a token
abbrev pub stop : Placed Kind → IdlFault
stop t = fault_at (cause_of t.kind) t
