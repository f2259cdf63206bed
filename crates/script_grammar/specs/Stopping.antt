-- Tokens that are where they may not be: own profile.
use Rattle.idl_tokens.specs.Placed.{Placed}
use Rattle.idl_tokens.specs.declared.kind.Kind.{Kind}
use Rattle.script_grammar.specs.declared.fault.ScriptFault.{ScriptFault}

-- the fault of such a token: its place
abbrev pub stop : Placed Kind → ScriptFault
stop t = record { line = t.line; column = t.column }
