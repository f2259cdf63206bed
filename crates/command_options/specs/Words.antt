-- What a word looks like.
use Rattle.std.specs.Prelude.{◌==◌, Bool, true, false, not, List, [], ◌∷◌, Option, Some, None, if◌then◌else◌}
use Rattle.std.specs.List.{list_all, list_any, before_first, after_first}
use Rattle.command_options.specs.Items.{Text}

-- a word begins with no dash; or it is `--name` or `--name=value`; or it begins with a dash otherwise, as `-`, `--` and `-x` do
pub data Form : Type 0 where
  plain : Form
  named : Text → Option Text → Form
  dashed : Form

-- the form of a word by what comes after two dashes: the name ends before the first `=`
abbrev pub long_form : Text → Form
long_form [] = dashed
long_form (b ∷ rest) =
    named (before_first (λ x. x == 61) (b ∷ rest))
    (if list_any (λ x. x == 61) (b ∷ rest) then Some (after_first (λ x. x == 61) (b ∷ rest)) else None)

-- the form of a word by what comes after one dash
abbrev pub dash_form : Text → Form
dash_form [] = dashed
dash_form (b ∷ rest) = if b == 45 then long_form rest else dashed

-- the form of a word
abbrev pub form_of : Text → Form
form_of [] = plain
form_of (b ∷ rest) = if b == 45 then dash_form rest else plain

-- the word begins with a dash, and isn't `--name` or `--name=value`
abbrev pub is_dashed : Form → Bool
is_dashed dashed = true
is_dashed _ = false

-- no word begins with a dash but for `--name` and `--name=value`
unfoldable pub has_no_stray_dash : List Text → Bool
has_no_stray_dash words = list_all (λ word. not (is_dashed (form_of word))) words
