-- No script meets an empty stack, so that what stands for an item where there is none is in no script.
use Rattle.std.specs.Prelude.{◌≡◌, ℕ, List, ◌∷◌, ◌++◌, Result, Ok, Err}
use Rattle.grammar.specs.Grammar.{MarkOf, Sentence, act_mark, acts}
use Rattle.script_grammar.specs.ScriptRules.{file}
use Rattle.script_grammar.specs.declared.fault.ScriptFault.{ScriptFault}
use Rattle.servant_scripts.specs.Drafts.{Draft, empty}
use Rattle.servant_scripts.specs.Scripts.{scripts}
use Rattle.script_depths.specs.Counts.{Has}
use Rattle.script_depths.specs.Taking.{takes}

-- the stacks of the first on those of the second; what is finished is that of the first
abbrev pub over : Draft → Draft → Draft
over d below =
    record d {
      places = d.places ++ below.places;
      unaries = d.unaries ++ below.unaries;
      binaries = d.binaries ++ below.binaries;
      waiting = d.waiting ++ below.waiting;
      names = d.names ++ below.names;
      phrases = d.phrases ++ below.phrases;
      lists = d.lists ++ below.lists;
      fields = d.fields ++ below.fields;
      blocks = d.blocks ++ below.blocks;
    }

-- the same of what a step gives
abbrev pub each_over : Result Draft ScriptFault → Draft → Result Draft ScriptFault
each_over (Ok d) below = Ok (over d below)
each_over (Err f) below = Err f

-- what is done at a mark, where the stacks hold what it takes, is the same whatever is below, and what is below stays
abbrev pub LabelsTakeNoMore : Type 0
LabelsTakeNoMore =
    (m : MarkOf scripts) (d below : Draft) → Has d (takes m)
    → act_mark scripts m (over d below) ≡ each_over (act_mark scripts m d) below

-- along each sentence of the grammar each mark finds what it takes
abbrev pub FindsWhatItTakes : Type 0
FindsWhatItTakes =
    (depth : ℕ) (before : List (MarkOf scripts)) (m : MarkOf scripts) (after : List (MarkOf scripts)) (d : Draft)
    → Sentence scripts depth file (before ++ m ∷ after) → acts scripts before empty ≡ Ok d → Has d (takes m)

-- and after the sentence every stack is empty: nothing is left but whole servants
abbrev pub LeavesNothing : Type 0
LeavesNothing =
    (depth : ℕ) (ms : List (MarkOf scripts)) (d : Draft)
    → Sentence scripts depth file ms → acts scripts ms empty ≡ Ok d → d ≡ record empty { servants = d.servants }

-- So a sentence means the same whatever the stacks hold before it, and all of that stays: what stands for an item of an
-- empty stack is never asked for.
abbrev pub BelowIsLeft : Type 0
BelowIsLeft =
    (depth : ℕ) (ms : List (MarkOf scripts)) (below : Draft)
    → Sentence scripts depth file ms → acts scripts ms (over empty below) ≡ each_over (acts scripts ms empty) below
