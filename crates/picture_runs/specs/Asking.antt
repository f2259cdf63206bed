-- What the words of `orb_picture` ask for: `[RUN] [--from N] [--entries N] [--table]`. Own profile.
use Rattle.std.specs.Prelude.{ℕ, List, [], ◌∷◌, codes, is_some, option_map, Option, Some, None, if◌then◌else◌}
use Rattle.command_options.specs.declared.item.Kind.TheVariants.{Valued, Switch, Positional}
use Rattle.command_options.specs.Items.{Item, Text}
use Rattle.command_options.specs.Commands.{may_have}
use Rattle.command_options.specs.Given.{given}
use Rattle.command_options.specs.Nul.{has_nul}
use Rattle.command_options.specs.Numbers.{number_of}
use Rattle.command_options.specs.Uses.{reading}
use Rattle.trace_picture.specs.declared.view.TheConstants.{MAX_DRAWN}
use Rattle.picture_runs.specs.declared.asked.Asked.{Asked}
use Rattle.picture_runs.specs.declared.asked.Asked.TheVariants.{Picture, Table}

-- what the words may give
abbrev pub items : List Item
items =
    may_have (Positional 1) (codes "run") ∷ may_have Valued (codes "from") ∷ may_have Valued (codes "entries")
    ∷ may_have Switch (codes "table") ∷ []

-- the number that the word is, or this one where there is no word
abbrev pub number_or : ℕ → Option Text → Option ℕ
number_or other (Some word) = number_of word
number_or other None = Some other

-- a picture of a run, from an entry on
abbrev pub picture_by : Option ℕ → Option ℕ → Option ℕ → Option Asked
picture_by (Some run) (Some from) (Some entries) = Some (Picture (record { run = run; from = from; entries = entries }))
picture_by (Some run) (Some from) None = None
picture_by (Some run) None entries = None
picture_by None from entries = None

-- the table of a run, which is of all its entries
abbrev pub table_by : Option ℕ → Option Text → Option Text → Option Asked
table_by run None None = option_map Table run
table_by run (Some from) entries = None
table_by run None (Some entries) = None

-- what is asked for by what the words give: run 0, entry 0 and as many entries as a picture may have where they don't say otherwise
abbrev pub asked_by : (Text → Option Text) → Option Asked
asked_by gives =
    if is_some (gives (codes "table"))
    then table_by (number_or 0 (gives (codes "run"))) (gives (codes "from")) (gives (codes "entries"))
    else
    picture_by (number_or 0 (gives (codes "run"))) (number_or 0 (gives (codes "from")))
    (number_or MAX_DRAWN (gives (codes "entries")))

-- what the words ask for, where they have a reading
abbrev pub read_as : Option (Text → Option Text) → Option Asked
read_as (Some gives) = asked_by gives
read_as None = None

-- what the words ask for; nothing where one of them holds a NUL
abbrev pub asked_of : List Text → Option Asked
asked_of words = if has_nul words then None else read_as (option_map given (reading items words))
