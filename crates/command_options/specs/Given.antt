-- What a reading gives each item.
use Rattle.std.specs.Prelude.{List, Option, option_map, find, codes, unwrap_or}
use Rattle.std.specs.Str.{bytes_eq}
use Rattle.command_options.specs.Items.{Text}
use Rattle.command_options.specs.Uses.{Use}

-- the text that a use gives: its value, or `true` of a switch
abbrev pub use_text : Use → Text
use_text u = unwrap_or u.1 (codes "true")

-- the text that the item of this name is given, where it is used
unfoldable pub given : List Use → Text → Option Text
given us name = option_map use_text (find (λ u. bytes_eq u.0 name) us)
