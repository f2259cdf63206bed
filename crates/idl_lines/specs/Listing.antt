-- The listing of what a text of IDL declares: own profile.
use Rattle.std.specs.Prelude.{ℕ, List, [], ◌∷◌, ◌++◌, codes, length, slice_get}
use Rattle.std.specs.List.{flat_map}
use Rattle.std.specs.Option.{option_map_or}
use Rattle.std.specs.Fmt.{decimal}
use Rattle.idl_types.specs.Things.{OperationView, Thing, constant, named, exception, interface, id_of, operations_of}
use Rattle.text_streams.specs.Shown.{shown}
use Rattle.idl_lines.specs.Counts.{ins, outs}

-- what a thing is, in a word
abbrev pub word_of : Thing → List ℕ
word_of (constant c) = codes "const"
word_of (named t) = codes "type"
word_of (exception e) = codes "exception"
word_of (interface i) = codes "interface"

-- the line of a thing: its word and its id
abbrev pub head_line : Thing → List ℕ
head_line thing = word_of thing ++ codes " " ++ shown (id_of thing) ++ codes "\n"

-- the line of an operation: its name, how many parameters go from and to the client, and how many exceptions it raises
abbrev pub operation_line : OperationView → List ℕ
operation_line o =
    codes "op " ++ shown o.name ++ codes " in " ++ decimal (ins o.params) ++ codes " out " ++ decimal (outs o.params)
    ++ codes " raises " ++ decimal (length o.raises) ++ codes "\n"

-- the lines of a thing: its own, and those of its operations in order, the inherited ones first; only an interface has any
abbrev pub lines_of : Thing → List ℕ
lines_of thing = head_line thing ++ flat_map operation_line (operations_of thing)

-- the lines of the thing at an index; there are none after the last one
abbrev pub lines_at : List Thing → ℕ → List ℕ
lines_at things at = option_map_or lines_of (slice_get things at) []

-- the lines of the first thing, and then the listing of the things after it
abbrev pub listing : List Thing → List ℕ
listing [] = []
listing (thing ∷ things) = lines_of thing ++ listing things
