-- An option of a command, written out whole.
use Rattle.std.specs.Prelude.{◌≡◌, List, [], ◌∷◌, Some, None, option_map}
use Rattle.command_options.specs.declared.item.Kind.{Kind}
use Rattle.command_options.specs.declared.item.Kind.TheVariants.{Valued, Switch}
use Rattle.command_options.specs.Items.{Item, Text}
use Rattle.command_options.specs.Words.{form_of, named, plain}
use Rattle.command_options.specs.Uses.{Use, option_named}

-- the option or switch of this name is of this kind
abbrev pub HasKind : List Item → Text → Kind → Type 0
HasKind items name kind = option_map (λ i. i.kind) (option_named items name) ≡ Some kind

-- the words are this use, written out: `--name=value`; `--name` of a switch; or `--name` and a value that begins with no dash
abbrev pub IsWhole : List Item → List Text → Use → Type 0
IsWhole items [] u = ⊥
IsWhole items (word ∷ []) (name, Some value) = (form_of word ≡ named name (Some value)) × HasKind items name Valued
IsWhole items (word ∷ []) (name, None) = (form_of word ≡ named name None) × HasKind items name Switch
IsWhole items (word ∷ next ∷ []) (name, Some value) =
    (form_of word ≡ named name None) × (form_of next ≡ plain) × (next ≡ value) × HasKind items name Valued
IsWhole items (word ∷ next ∷ []) (name, None) = ⊥
IsWhole items (_ ∷ _ ∷ _ ∷ _) u = ⊥
