-- The stacks, and what each label and each rule in brackets puts on them.
use Rattle.std.proofs.Common.{◌≡◌, ◌≤◌, ℕ, length, Some, refl}
use Rattle.grammar.specs.Grammar.{MarkOf}
use Rattle.script_grammar.specs.ScriptRules.{file, inside}
use Rattle.script_grammar.specs.declared.label.Inner.{Inner}
use Rattle.script_grammar.specs.declared.label.Inner.TheVariants as inner
use Rattle.script_grammar.specs.declared.label.ScriptLabel.{ScriptLabel}
use Rattle.script_grammar.specs.declared.label.ScriptLabel.TheVariants as l
use Rattle.servant_scripts.specs.Drafts.{Draft}
use Rattle.servant_scripts.specs.Scripts.{scripts}
use Rattle.script_depths.specs.Counts.{Counts, nothing, Has}
use Rattle.script_depths.specs.Taking.{takes_alone, takes_there}
use Rattle.script_depths.proofs.Counting.{Effect, none, effect, at_mark}

-- one of the stacks
pub data Stack : Type 0 where
  places : Stack
  unaries : Stack
  binaries : Stack
  waiting : Stack
  names : Stack
  phrases : Stack
  lists : Stack
  fields : Stack
  blocks : Stack

-- the number of that stack
abbrev pub of : Stack → Counts → ℕ
of places n = n.places
of unaries n = n.unaries
of binaries n = n.binaries
of waiting n = n.waiting
of names n = n.names
of phrases n = n.phrases
of lists n = n.lists
of fields n = n.fields
of blocks n = n.blocks

-- how many items each stack holds
abbrev pub heights : Draft → Counts
heights d =
    record {
      places = length d.places;
      unaries = length d.unaries;
      binaries = length d.binaries;
      waiting = length d.waiting;
      names = length d.names;
      phrases = length d.phrases;
      lists = length d.lists;
      fields = length d.fields;
      blocks = length d.blocks;
    }

-- how many items that stack holds
abbrev pub height : Stack → Draft → ℕ
height s d = of s (heights d)

pub has_each : (d : Draft) (n : Counts) → ((s : Stack) → of s n ≤ height s d) → Has d n
has_each d n h =
    record {
      places = h places;
      unaries = h unaries;
      binaries = h binaries;
      waiting = h waiting;
      names = h names;
      phrases = h phrases;
      lists = h lists;
      fields = h fields;
      blocks = h blocks;
    }

-- what a label puts that needs no token
abbrev pub puts_alone : ScriptLabel → Counts
puts_alone l.Wrap = record nothing { phrases = 1 }
puts_alone l.Join = record nothing { phrases = 1 }
puts_alone l.UseName = record nothing { phrases = 1 }
puts_alone l.Item = record nothing { lists = 1 }
puts_alone l.EndList = record nothing { phrases = 1 }
puts_alone l.OpenFields = record nothing { fields = 1 }
puts_alone l.Field = record nothing { fields = 1 }
puts_alone l.OpenBlock = record nothing { blocks = 1 }
puts_alone l.Let = record nothing { blocks = 1 }
puts_alone l.Set = record nothing { blocks = 1 }
puts_alone l.If = record nothing { blocks = 1 }
puts_alone l.Leave = record nothing { blocks = 1 }
puts_alone l.Return = record nothing { blocks = 1 }
puts_alone label = nothing

-- and at a token
abbrev pub puts_there : ScriptLabel → Counts
puts_there l.Number = record nothing { phrases = 1 }
puts_there l.Text = record nothing { phrases = 1 }
puts_there (l.Truth b) = record nothing { phrases = 1 }
puts_there l.Priority = record nothing { phrases = 1 }
puts_there l.Place = record nothing { places = 1 }
puts_there (l.Unary o) = record nothing { places = 1; unaries = 1 }
puts_there (l.Binary o) = record nothing { binaries = 1 }
puts_there l.Rooted = record nothing { names = 1 }
puts_there l.FirstPart = record nothing { names = 1 }
puts_there l.NamePart = record nothing { names = 1 }
puts_there l.Member = record nothing { phrases = 1 }
puts_there l.OpenList = record nothing { places = 1; lists = 1 }
puts_there l.Named = record nothing { waiting = 1 }
puts_there l.New = record nothing { phrases = 1 }
puts_there l.Raise = record nothing { blocks = 1 }
puts_there l.OpenNames = record nothing { names = 1 }
puts_there l.Method = nothing
puts_there label = puts_alone label

-- what a rule in brackets takes
abbrev pub inside_takes : Inner → Counts
inside_takes inner.Names = record nothing { names = 1 }
inside_takes inner.Statements = record nothing { blocks = 1 }
inside_takes inner.FieldList = record nothing { fields = 1 }
inside_takes inner.MaybeFields = record nothing { fields = 1 }
inside_takes inner.ListItems = record nothing { lists = 1 }
inside_takes r = nothing

-- what it leaves in place of that
abbrev pub inside_puts : Inner → Counts
inside_puts inner.Expression = record nothing { phrases = 1 }
inside_puts r = inside_takes r

-- the effect of a label at a token on one stack
abbrev pub there : Stack → ScriptLabel → Effect
there s label = (of s (takes_there label), of s (puts_there label))

-- and without a token
abbrev pub alone : Stack → ScriptLabel → Effect
alone s label = (of s (takes_alone label), of s (puts_alone label))

-- and that of a rule in brackets
abbrev pub within : Stack → Inner → Effect
within s r = (of s (inside_takes r), of s (inside_puts r))

-- the effect of a mark on one stack
abbrev pub effect_at : Stack → MarkOf scripts → Effect
effect_at s m = at_mark scripts (height s) (there s) (alone s) (within s) m

-- a whole script leaves each stack as it was
pub file_is : (s : Stack) → effect scripts (height s) (there s) (alone s) (within s) file ≡ Some none
file_is places = refl
file_is s = refl

-- each rule in brackets has its effect on each stack
pub inside_is : (s : Stack) (r : Inner) → effect scripts (height s) (there s) (alone s) (within s) (inside r) ≡ Some (within s r)
inside_is places inner.ServantBody = refl
inside_is places r = refl
inside_is unaries inner.ServantBody = refl
inside_is unaries r = refl
inside_is binaries inner.ServantBody = refl
inside_is binaries r = refl
inside_is waiting inner.ServantBody = refl
inside_is waiting r = refl
inside_is names inner.ServantBody = refl
inside_is names r = refl
inside_is phrases inner.ServantBody = refl
inside_is phrases r = refl
inside_is lists inner.ServantBody = refl
inside_is lists r = refl
inside_is fields inner.ServantBody = refl
inside_is fields r = refl
inside_is blocks inner.ServantBody = refl
inside_is blocks r = refl
