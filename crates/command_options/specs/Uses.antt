-- The reading of words by what a command takes: own profile. A word `--name=value`, or two words `--name` and `value`, is a use of
-- an item with a value; a word `--name` is a use of a switch; any other word is a use of the next item that is a plain word.
use Rattle.std.specs.Prelude.{◌==◌, ◌+◌, ◌&&◌, ◌||◌, ℕ, Bool, true, false, not, List, [], ◌∷◌}
use Rattle.std.specs.Prelude.{Option, Some, None, if◌then◌else◌, option_map, find}
use Rattle.std.specs.List.{list_all, list_any}
use Rattle.std.specs.Str.{bytes_eq}
use Rattle.command_options.specs.declared.item.Kind.{Kind}
use Rattle.command_options.specs.declared.item.Kind.TheVariants.{Valued, Switch, Positional}
use Rattle.command_options.specs.Items.{Item, Text}
use Rattle.command_options.specs.Words.{Form, plain, named, dashed, form_of, has_no_stray_dash}

-- a use of an item: its name, and the value that it is given, where it has one
abbrev pub Use : Type 0
Use = Text × Option Text

-- ---- the item that a word uses

-- an option with a value or a switch, and no plain word
abbrev pub is_option : Kind → Bool
is_option (Positional n) = false
is_option _ = true

-- the plain word of number p
abbrev pub is_positional : ℕ → Kind → Bool
is_positional p (Positional n) = n == p
is_positional p _ = false

-- the option or switch of this name
abbrev pub option_named : List Item → Text → Option Item
option_named items name = find (λ i. is_option i.kind && bytes_eq i.name name) items

-- the item that is the plain word of number p
abbrev pub item_at : List Item → ℕ → Option Item
item_at items p = find (λ i. is_positional p i.kind) items

-- ---- what one word comes to

-- a use, and the number of the next plain word; an option that waits for its value; or nothing that may be there
pub data Met : Type 0 where
  whole : Use → ℕ → Met
  waits : Text → ℕ → Met
  refused : Met

-- a word `--name` or `--name=value`, by the kind of the item of this name: a value is for an option with one, and its lack for a switch;
-- an option with a value that has none here waits for the next word
abbrev pub met_kind : Kind → Text → Option Text → ℕ → Met
met_kind Valued name None p = waits name p
met_kind Valued name (Some value) p = whole (name, Some value) p
met_kind Switch name None p = whole (name, None) p
met_kind Switch name (Some value) p = refused
met_kind (Positional n) name value p = refused

-- the same, where there may be no item of the name
abbrev pub met_named : Option Item → Option Text → ℕ → Met
met_named None value p = refused
met_named (Some i) value p = met_kind i.kind i.name value p

-- a plain word: a use of the item with the next number, if there is one
abbrev pub met_positional : Option Item → Text → ℕ → Met
met_positional None word p = refused
met_positional (Some i) word p = whole (i.name, Some word) (p + 1)

-- a word where no option waits for its value
abbrev pub met_idle : List Item → ℕ → Form → Text → Met
met_idle items p plain word = met_positional (item_at items p) word p
met_idle items p (named name value) word = met_named (option_named items name) value p
met_idle items p dashed word = refused

-- a word where the option of this name waits for its value, which begins with no dash
abbrev pub met_waiting : Text → ℕ → Form → Text → Met
met_waiting name p plain word = whole (name, Some word) p
met_waiting name p _ word = refused

-- a word, where this option waits for its value, or none does
abbrev pub met : List Item → ℕ → Option Text → Text → Met
met items p None word = met_idle items p (form_of word) word
met items p (Some name) word = met_waiting name p (form_of word) word

-- ---- what all words come to

-- what one word comes to, and then the words after it
abbrev pub then_uses : Met → (ℕ → Option Text → Option (List Use)) → Option (List Use)
then_uses (whole u p) next = option_map (λ us. u ∷ us) (next p None)
then_uses (waits name p) next = next p (Some name)
then_uses refused next = None

-- the uses of the words, where the next plain word has number p, and this option waits for its value
unfoldable pub uses : List Item → List Text → ℕ → Option Text → Option (List Use)
uses items [] p None = Some []
uses items [] p (Some name) = None
uses items (word ∷ words) p waiting = then_uses (met items p waiting word) (uses items words)

-- one of the uses is of the item of this name
abbrev pub has_use : Text → List Use → Bool
has_use name us = list_any (λ u. bytes_eq u.0 name) us

-- two of the uses are of one item
abbrev pub has_repeat : List Use → Bool
has_repeat [] = false
has_repeat (u ∷ us) = has_use u.0 us || has_repeat us

-- each item is used once at most, and what is due is used
abbrev pub fits : List Item → List Use → Bool
fits items us = not (has_repeat us) && list_all (λ i. not i.is_due || has_use i.name us) items

-- the uses, if the words spell some and they fit
abbrev pub fitting : List Item → Option (List Use) → Option (List Use)
fitting items None = None
fitting items (Some us) = if fits items us then Some us else None

-- the reading of the words after a command's name: the uses that they spell in order, where no word begins with a dash but for
-- `--name` and `--name=value`, each item is used once at most, and what is due is used; other words have no reading
unfoldable pub reading : List Item → List Text → Option (List Use)
reading items words = if has_no_stray_dash words then fitting items (uses items words 1 None) else None
