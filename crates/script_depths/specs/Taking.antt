-- How many items of each stack are taken at a mark of a script.
use Rattle.grammar.specs.Grammar.{Mark, took, did}
use Rattle.idl_tokens.specs.declared.kind.Kind.{Kind}
use Rattle.script_grammar.specs.declared.label.ScriptLabel.{ScriptLabel}
use Rattle.script_grammar.specs.declared.label.ScriptLabel.TheVariants as l
use Rattle.script_depths.specs.Counts.{Counts, nothing}

-- what a label takes that needs no token
abbrev pub takes_alone : ScriptLabel → Counts
takes_alone l.Wrap = record nothing { places = 1; unaries = 1; phrases = 1 }
takes_alone l.Join = record nothing { binaries = 1; phrases = 2 }
takes_alone l.UseName = record nothing { names = 1 }
takes_alone l.Item = record nothing { phrases = 1; lists = 1 }
takes_alone l.EndList = record nothing { places = 1; lists = 1 }
takes_alone l.Field = record nothing { waiting = 1; phrases = 1; fields = 1 }
takes_alone l.Let = record nothing { places = 1; waiting = 1; phrases = 1; blocks = 1 }
takes_alone l.Set = record nothing { waiting = 1; phrases = 1; blocks = 1 }
takes_alone l.If = record nothing { phrases = 1; blocks = 3 }
takes_alone l.Leave = record nothing { places = 1; blocks = 1 }
takes_alone l.Return = record nothing { places = 1; phrases = 1; blocks = 1 }
takes_alone l.Servant = record nothing { places = 1; names = 1 }
takes_alone label = nothing

-- what a label takes at a token
abbrev pub takes_there : ScriptLabel → Counts
takes_there l.NamePart = record nothing { names = 1 }
takes_there l.Member = record nothing { phrases = 1 }
takes_there l.New = record nothing { places = 1; names = 1; fields = 1 }
takes_there l.Raise = record nothing { names = 1; fields = 1; blocks = 1 }
takes_there l.Method = record nothing { places = 1; waiting = 1; names = 1; blocks = 1 }
takes_there label = takes_alone label

-- what is taken at a mark
abbrev pub takes : Mark Kind ScriptLabel → Counts
takes (took l t) = takes_there l
takes (did l) = takes_alone l
