-- What the words gave each item, as the answer of a reader has it.
use Rattle.std.specs.Prelude.{List, [], ◌∷◌, Option, None, if◌then◌else◌, slice_get}
use Rattle.std.specs.Str.{bytes_eq}
use Rattle.clap.specs.Facts.{explicit_source}
use Rattle.clap.specs.Words.{Row, found_of, rows_of}
use Rattle.command_options.specs.Items.{Text}
use Rattle.command_options.specs.declared.options.Options.{Options}

-- the text that the matches have for a name, where it comes from the words and is no default
abbrev pub given_rows : List Row → Text → Option Text
given_rows [] name = None
given_rows (r ∷ rows) name =
    if bytes_eq r.id name then (if explicit_source r.source then slice_get r.values 0 else None) else given_rows rows name

-- the text that the item of a name was given, where it was used
unfoldable pub given_by : Options → Text → Option Text
given_by o name = given_rows (rows_of (found_of o.matches)) name
