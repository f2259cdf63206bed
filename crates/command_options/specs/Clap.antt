-- A command as `clap` has it. No public contract cites this file.
use Rattle.std.specs.Prelude.{◌≡◌, ℕ, true, false, List, [], ◌∷◌, map, Option, Some, None, codes}
use Rattle.clap.specs.Words.{App, Rule, Shape, new_app, new_rule, fault_of, matches_of, found_of, rows_of}
use Rattle.clap.specs.Simple.{new_shape}
use Rattle.clap.specs.declared.builder.action.ArgAction.{ArgAction}
use Rattle.clap.specs.declared.builder.action.ArgAction.TheVariants.{Set, SetTrue}
use Rattle.clap.specs.declared.builder.value_parser.ValueParser.{ValueParser}
use Rattle.clap.specs.declared.builder.value_parser.ValueParser.TheVariants as vp
use Rattle.clap.specs.declared.parser.matches.ArgMatches.{ArgMatches}
use Rattle.command_options.specs.declared.item.Kind.{Kind}
use Rattle.command_options.specs.declared.item.Kind.TheVariants.{Switch, Positional}
use Rattle.command_options.specs.Items.{Item, Text}

-- ---- as it is made

-- the name after two dashes; a plain word has none
abbrev pub long_by : Kind → Text → Option Text
long_by (Positional n) name = None
long_by _ name = Some name

-- a switch is set to true; the action of the others is left to `clap`
abbrev pub set_action : Kind → Option ArgAction
set_action Switch = Some SetTrue
set_action _ = None

-- the argument of an item
abbrev pub made_rule : Item → Rule
made_rule i = record (new_rule i.name) { long = long_by i.kind i.name; action = set_action i.kind; required = i.is_due }

-- the program's name, which no word of a command is
abbrev pub app_name : Text
app_name = codes "orb"

-- a command with these items, without help, all of whose words are its own
abbrev pub made_app : List Item → App
made_app items =
    let a = new_app app_name in
    record a { top = record a.top { rules = map made_rule items; disable_help_flag = true; no_binary_name = true } }

-- ---- as it is once `clap` has built it

-- the place of a plain word
abbrev pub index_by : Kind → Option ℕ
index_by (Positional n) = Some n
index_by _ = None

-- what a use does: it sets the value, or sets it to true
abbrev pub action_by : Kind → ArgAction
action_by Switch = SetTrue
action_by _ = Set

-- how many words a use takes beside the name
abbrev pub width_by : Kind → ℕ
width_by Switch = 0
width_by _ = 1

-- the value where there is no use
abbrev pub defaults_by : Kind → List Text
defaults_by Switch = codes "false" ∷ []
defaults_by _ = []

-- the value of a use without one
abbrev pub missing_by : Kind → List Text
missing_by Switch = codes "true" ∷ []
missing_by _ = []

-- how a value is read: as a boolean, or as the text that it is
abbrev pub parser_by : Kind → ValueParser
parser_by Switch = vp.Bool
parser_by _ = vp.String

-- the built argument of an item
abbrev pub item_rule : Item → Rule
item_rule i = record {
  id = i.name;
  long = long_by i.kind i.name;
  aliases = [];
  short = None;
  short_aliases = [];
  index = index_by i.kind;
  action = Some (action_by i.kind);
  range = Some (record { start_inclusive = width_by i.kind; end_inclusive = width_by i.kind });
  value_names = 0;
  defaults = defaults_by i.kind;
  missing = missing_by i.kind;
  trailing_var_arg = false;
  parser = Some (parser_by i.kind);
  ignore_case = false;
  required = i.is_due;
  is_simple = true;
  is_free = true;
}

-- the built command of these items, by its name
abbrev pub built_shape : Text → List Item → Shape
built_shape name items = record (new_shape name) {
  rules = map item_rule items;
  no_binary_name = true;
  disable_help_flag = true;
  disable_help_subcommand = true;
  is_built = true;
}

-- the same, without commands below it
abbrev pub built_app : Text → List Item → App
built_app name items = record { top = built_shape name items; subs = [] }

-- ---- its matches

-- `clap` took the words, and these are its matches; or it did not
unfoldable pub Matched : App → List Text → Option ArgMatches → Type 0
Matched app words None = (fault_of app words ≡ []) → ⊥
Matched app words (Some matches) = (fault_of app words ≡ []) × (rows_of (found_of matches) ≡ matches_of app words)
