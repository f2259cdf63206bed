-- Items, as tagged data and service contexts are, and lists of any values after their count: CORBA 3.0.3, sections
-- 13.6.2, 13.7 and 15.3.2.
use Rattle.std.specs.Prelude.{ℕ, ◌^◌, ◌<◌, ◌==◌, List, [], ◌∷◌, length, find, Option, Ok, Err, IsOk}
use Rattle.std.specs.Int.{w32}
use Rattle.std.specs.List.{AllByRecursion, flat_map}
use Rattle.orb_base.specs.Tagged.{Context, Tagged}
use Rattle.cdr_core.specs.Field.{Field, number, octets_fields}
use Rattle.cdr_core.specs.Cursor.{Cursor, Reads}
use Rattle.cdr_core.specs.Passing.{Spans}
use Rattle.cdr_core.specs.Reading.{number_at, count_at, octets_at}
use Rattle.cdr_core.specs.Sequence.{◌>>=◌, times}

-- a number and octets
abbrev pub Item : Type 0
Item = ℕ × List ℕ

-- an item: a number of four bytes, and an octet sequence
abbrev pub item_fields : Item → List Field
item_fields item = number w32 item.0 ∷ octets_fields item.1

-- an item that the widths can hold
abbrev pub FitsItem : Item → Type 0
FitsItem item = (item.0 < 2 ^ 32) × (length item.1 < 2 ^ 32)

-- the bytes between two cursors spell an item
abbrev pub Spells : Cursor → Cursor → Item → Type 0
Spells c d item = FitsItem item × Spans c d (item_fields item)

-- the item at a cursor
unfoldable pub item_at : Cursor → Reads Item
item_at c = do
  tag ← number_at w32 c
  bytes ← octets_at tag.1
  Ok ((tag.0, bytes.0), bytes.1)

-- what is made of the item at a cursor
abbrev pub made_at : {A : Type 0} → (Item → A) → Cursor → Reads A
made_at made c = item_at c >>= λ x. Ok (made x.0, x.1)

-- a list: the count of its values, and one after the other
abbrev pub list_fields : {A : Type 0} → (A → List Field) → List A → List Field
list_fields fields list = number w32 (length list) ∷ flat_map fields list

-- as many as an unsigned long counts, each of which fits
abbrev pub FitsList : {A : Type 0} → (A → Type 0) → List A → Type 0
FitsList Fits list = (length list < 2 ^ 32) × AllByRecursion Fits list

-- the list at a cursor
unfoldable pub list_at : {A : Type 0} → (Cursor → Reads A) → Cursor → Reads (List A)
list_at one c = count_at c >>= λ count. times one count.0 count.1

-- what is read, or the empty list where there is no reading
abbrev pub read_or_none : {A : Type 0} → Reads (List A) → List A
read_or_none (Ok x) = x.0
read_or_none (Err e) = []

-- the list at a cursor, of what is made of its items
abbrev pub listed : {A : Type 0} → (Item → A) → Cursor → List A
listed made c = read_or_none (list_at (made_at made) c)

-- a list has a reading at the cursor
abbrev pub IsAtList : {A : Type 0} → (Item → A) → Cursor → Type 0
IsAtList made c = IsOk (list_at (made_at made) c)

-- a list of values, each spelled as its item
abbrev pub are_spelled_as : {A : Type 0} → (A → Item) → List A → List Field
are_spelled_as item_of list = list_fields (λ x. item_fields (item_of x)) list

-- as many as an unsigned long counts, each of as many octets at most
abbrev pub AreCounted : {A : Type 0} → (A → Item) → List A → Type 0
AreCounted item_of list = (length list < 2 ^ 32) × AllByRecursion (λ x. length (item_of x).1 < 2 ^ 32) list

-- tagged data as an item
abbrev pub item_of_tagged : Tagged → Item
item_of_tagged tagged = (tagged.tag, tagged.bytes)

-- tagged data of an item
abbrev pub tagged_of : Item → Tagged
tagged_of item = record { tag = item.0; bytes = item.1 }

-- tagged data: its tag and its bytes
abbrev pub tagged_fields : Tagged → List Field
tagged_fields tagged = item_fields (item_of_tagged tagged)

-- tagged data that the widths can hold
abbrev pub FitsTagged : Tagged → Type 0
FitsTagged tagged = FitsItem (item_of_tagged tagged)

-- a service context as an item
abbrev pub item_of_context : Context → Item
item_of_context context = (context.id, context.bytes)

-- a service context of an item
abbrev pub context_of : Item → Context
context_of item = record { id = item.0; bytes = item.1 }

-- a service context: its id and its bytes
abbrev pub context_fields : Context → List Field
context_fields context = item_fields (item_of_context context)

-- a service context that the widths can hold
abbrev pub FitsContext : Context → Type 0
FitsContext context = FitsItem (item_of_context context)

-- the first of these whose number is so, if there is one
abbrev pub first_of : {A : Type 0} → (A → ℕ) → ℕ → List A → Option A
first_of key wanted list = find (λ a. key a == wanted) list
