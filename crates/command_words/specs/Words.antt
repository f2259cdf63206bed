-- What the words of a command line mean: own profile.
use Rattle.std.specs.Prelude.{Bool, false, not, ◌&&◌, if◌then◌else◌, List, [], ◌∷◌, codes}
use Rattle.std.specs.Prelude.{Option, Some, None, is_some, option_map}
use Rattle.std.specs.Str.{bytes_eq}
use Rattle.command_options.specs.Items.{Item, Text}
use Rattle.command_options.specs.Commands.{pipe_items, serve_items, names_items, refs_items, dump_items, audit_items, idl_items, call_items, load_items}
use Rattle.command_options.specs.Nul.{has_nul}
use Rattle.command_options.specs.Uses.{reading}
use Rattle.command_options.specs.Given.{given}
use Rattle.command_words.specs.Meanings.{Gives, pipe_by, serve_by, names_by, refs_by, dump_by, audit_by, idl_by, call_by, load_by}
use Rattle.command_words.specs.declared.meaning.Meaning.{Meaning}
use Rattle.command_words.specs.declared.meaning.Meaning.TheVariants.{Unread}

-- a command: what it takes, and what it means by what its items are given
pub record Command : Type 0 where
  pub items : List Item
  pub meaning : Gives → Meaning

-- the command of a name, if there is one
abbrev pub command_named : Text → Option Command
command_named name =
    if bytes_eq name (codes "pipe") then Some (record { items = pipe_items; meaning = pipe_by })
    else if bytes_eq name (codes "serve") then Some (record { items = serve_items; meaning = serve_by })
    else if bytes_eq name (codes "names") then Some (record { items = names_items; meaning = names_by })
    else if bytes_eq name (codes "refs") then Some (record { items = refs_items; meaning = refs_by })
    else if bytes_eq name (codes "dump") then Some (record { items = dump_items; meaning = dump_by })
    else if bytes_eq name (codes "audit") then Some (record { items = audit_items; meaning = audit_by })
    else if bytes_eq name (codes "idl") then Some (record { items = idl_items; meaning = idl_by })
    else if bytes_eq name (codes "call") then Some (record { items = call_items; meaning = call_by })
    else if bytes_eq name (codes "load") then Some (record { items = load_items; meaning = load_by })
    else None

-- what is meant by what the words give, where they have a reading
abbrev pub meant : (Gives → Meaning) → Option Gives → Meaning
meant meaning (Some gives) = meaning gives
meant meaning None = Unread

-- what words after the name of a command mean, if there is a command of the name
abbrev pub read_by : Option Command → List Text → Meaning
read_by (Some command) words = meant command.meaning (option_map given (reading command.items words))
read_by None words = Unread

-- what words mean of which the first is the name of a command
abbrev pub named_by : List Text → Meaning
named_by [] = Unread
named_by (name ∷ words) = read_by (command_named name) words

-- what words mean: nothing where one of them holds a NUL
unfoldable pub command_of : List Text → Meaning
command_of words = if has_nul words then Unread else named_by words

-- ---- memory

-- the first word is the name of a command
abbrev pub names_command : List Text → Bool
names_command [] = false
names_command (name ∷ words) = is_some (command_named name)

-- memory is asked for these words, to read them by what their command takes
unfoldable pub asks_memory : List Text → Bool
asks_memory words = not (has_nul words) && names_command words
