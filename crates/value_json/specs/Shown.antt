-- What a value of a type is as JSON: own profile. What is no value of its type is null.
use Rattle.std.specs.Prelude.{ℕ, pos, List, [], ◌∷◌, codes, Option, Some, None}
use Rattle.std.specs.Int.{from_bool}
use Rattle.serde_json.specs.Data.{Data, Items, no_items, item, put}
use Rattle.serde_json.specs.Data as json
use Rattle.cdr_values.specs.Choice.{choose, kind_at}
use Rattle.cdr_values.specs.Trees.{Kind, scalar, words, sequence, array, structure, union, Members, no_members, member, Value, truth, number, letter, text, items, chosen, label, Values, no_values, value}
use Rattle.value_json.specs.Numerals.{number_data}
use Rattle.value_json.specs.Texts.{text_of, text_data}

-- a string is the characters of its byte codes
abbrev pub words_data : List ℕ → Kind → Data
words_data bytes (words bound) = text_data bytes
words_data bytes (scalar s) = json.null
words_data bytes (sequence k bound) = json.null
words_data bytes (array k n) = json.null
words_data bytes (structure name ms) = json.null
words_data bytes (union name d cs) = json.null

-- sequences and arrays are arrays, a struct is an object of its members, and a union one of `case`, its discriminator, and
-- of `value`, where a member is chosen
abbrev mutual
  pub shown : Value → Kind → Data
  shown (truth b) k = number_data k (pos (from_bool b))
  shown (number z) k = number_data k z
  shown (letter c) k = number_data k (pos c)
  shown (label n) k = number_data k (pos n)
  shown (text bytes) k = words_data bytes k
  shown (items vs) (scalar s) = json.null
  shown (items vs) (words bound) = json.null
  shown (items vs) (sequence k bound) = json.array (shown_each vs k)
  shown (items vs) (array k n) = json.array (shown_each vs k)
  shown (items vs) (structure name ms) = json.object (shown_members vs ms json.no_members)
  shown (items vs) (union name d cs) = json.null
  shown (chosen z vs) (scalar s) = json.null
  shown (chosen z vs) (words bound) = json.null
  shown (chosen z vs) (sequence k bound) = json.null
  shown (chosen z vs) (array k n) = json.null
  shown (chosen z vs) (structure name ms) = json.null
  shown (chosen z vs) (union name d cs) =
      json.object (json.member (codes "case") (number_data d z) (shown_chosen vs (kind_at (choose z cs) cs)))

  -- values of one type, in order
  pub shown_each : Values → Kind → Items
  shown_each no_values k = no_items
  shown_each (value v vs) k = item (shown v k) (shown_each vs k)

  -- the members of a struct, put one after another into an object, which keeps its keys in ascending order
  pub shown_members : Values → Members → json.Members → json.Members
  shown_members no_values ms os = os
  shown_members (value v vs) no_members os = os
  shown_members (value v vs) (member name k ms) os = shown_members vs ms (put (text_of name) (shown v k) os)

  -- the member of a union, where its number chooses one
  pub shown_chosen : Values → Option Kind → json.Members
  shown_chosen no_values o = json.no_members
  shown_chosen (value v vs) None = json.no_members
  shown_chosen (value v vs) (Some k) = json.member (codes "value") (shown v k) json.no_members

-- the same of a type whose values are numbers
abbrev pub plain_data : Kind → Value → Data
plain_data k (truth b) = number_data k (pos (from_bool b))
plain_data k (number z) = number_data k z
plain_data k (letter c) = number_data k (pos c)
plain_data k (label n) = number_data k (pos n)
plain_data k (text bytes) = json.null
plain_data k (items vs) = json.null
plain_data k (chosen z vs) = json.null

-- the member of a union as JSON, where there is one
abbrev pub value_member : Option Data → json.Members
value_member None = json.no_members
value_member (Some d) = json.member (codes "value") d json.no_members

-- items in order, and more after them
abbrev pub ahead : List Data → Items → Items
ahead [] more = more
ahead (d ∷ ds) more = item d (ahead ds more)
