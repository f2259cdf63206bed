-- Finite maps from texts to texts, as lists of bindings that rise by their keys.
use Rattle.std.specs.Prelude.{ℕ, Bool, List, [], ◌∷◌, Option, Some, None, is_some, if◌then◌else◌}
use Rattle.std.specs.Str.{bytes_eq}
use Rattle.name_map.specs.declared.binding.Binding.{Binding}
use Rattle.turn_cell.specs.Numbers.{Each}
use Rattle.name_map.specs.Keys.{is_below, Below}

-- a key with its target
abbrev pub binding : List ℕ → List ℕ → Binding
binding key target = record { key = key; target = target }

-- a binding's key
abbrev pub key_of : Binding → List ℕ
key_of b = b.key

-- a binding's target
abbrev pub target_of : Binding → List ℕ
target_of b = b.target

-- each key is below all that come after it, so no key comes twice
abbrev pub Rises : List Binding → Type 0
Rises [] = Unit {0}
Rises (b ∷ bs) = Each (λ c. Below b.key c.key) bs × Rises bs

-- the target of a key
abbrev pub find : List ℕ → List Binding → Option (List ℕ)
find key [] = None
find key (b ∷ bs) = if bytes_eq b.key key then Some b.target else find key bs

-- whether a key is there
abbrev pub has : List ℕ → List Binding → Bool
has key bs = is_some (find key bs)

-- with a key bound to a target, in the place of what it was bound to, or else before the first key above it
abbrev pub put : List ℕ → List ℕ → List Binding → List Binding
put key target [] = binding key target ∷ []
put key target (b ∷ bs) =
    if is_below b.key key then b ∷ put key target bs
    else if bytes_eq b.key key then binding key target ∷ bs
    else binding key target ∷ b ∷ bs

-- without a key
abbrev pub out : List ℕ → List Binding → List Binding
out key [] = []
out key (b ∷ bs) = if bytes_eq b.key key then out key bs else b ∷ out key bs

-- the first key above a text, which is the least one where the list rises
abbrev pub above : List ℕ → List Binding → Option (List ℕ)
above text [] = None
above text (b ∷ bs) = if is_below text b.key then Some b.key else above text bs
