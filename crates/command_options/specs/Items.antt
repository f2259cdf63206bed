-- What a command takes: a list of items.
use Rattle.std.specs.Prelude.{◌==◌, ◌+◌, ◌&&◌, ℕ, Bool, true, not, List, [], ◌∷◌, map, nat_lt}
use Rattle.std.specs.List.{list_any}
use Rattle.std.specs.Str.{bytes_eq}
use Rattle.command_options.specs.declared.item.Kind.{Kind}
use Rattle.command_options.specs.declared.item.Kind.TheVariants.{Positional}
use Rattle.command_options.specs.declared.item.Item.{Item as CodeItem}

-- the bytes of a text
abbrev pub Text : Type 0
Text = List ℕ

-- one item: its name, how it is given, and whether it is due
pub record Item : Type 0 where
  pub name : Text
  pub kind : Kind
  pub is_due : Bool

-- the items that the code has as data
abbrev pub item_of : CodeItem → Item
item_of i = record { name = i.name.now; kind = i.kind; is_due = i.is_due }

-- all items of a list that the code has as data
abbrev pub items_of : List CodeItem → List Item
items_of items = map item_of items

-- ---- a list of items that a command may have

-- an item of the list has this name
abbrev pub has_name : Text → List Item → Bool
has_name name items = list_any (λ i. bytes_eq i.name name) items

-- no two items have one name
abbrev pub are_distinct : List Item → Bool
are_distinct [] = true
are_distinct (i ∷ items) = not (has_name i.name items) && are_distinct items

-- an item that is the plain word of a number has this one, which is below 100; the others have none
abbrev pub is_numbered : ℕ → Kind → Bool
is_numbered n (Positional k) = k == n && nat_lt k 100
is_numbered n _ = true

-- the number of the next plain word
abbrev pub number_after : ℕ → Kind → ℕ
number_after n (Positional k) = n + 1
number_after n _ = n

-- the plain words are numbered from n on, in their order
abbrev pub are_numbered : ℕ → List Item → Bool
are_numbered n [] = true
are_numbered n (i ∷ items) = is_numbered n i.kind && are_numbered (number_after n i.kind) items

-- the items have names of their own, and the plain words are numbered from 1 on
abbrev pub is_lawful : List Item → Bool
is_lawful items = are_distinct items && are_numbered 1 items
