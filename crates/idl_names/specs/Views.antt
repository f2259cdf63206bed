-- What the state of the program stands for.
use Rattle.std.specs.Prelude.{map}
use Rattle.std.specs.Option.{option_map}
use Rattle.cdr_values.specs.Kinds.{kind_of, members_view, cases_view}
use Rattle.idl_constants.specs.Views.{value_of}
use Rattle.idl_scopes.specs.Inherited.{list_of}
use Rattle.idl_scopes.specs.Views.{table_of}
use Rattle.idl_names.specs.Sizes as z
use Rattle.idl_names.specs.State as t
use Rattle.idl_types.specs.Views.{param_of, operation_of}
use Rattle.idl_names.specs.declared.sizes.SizedType.{SizedType}
use Rattle.idl_names.specs.declared.state.Thing.{Thing}
use Rattle.idl_names.specs.declared.state.Thing.TheVariants as v
use Rattle.idl_names.specs.declared.state.Search.{Search}
use Rattle.idl_names.specs.declared.state.Search.TheVariants as s
use Rattle.idl_names.specs.declared.state.Valued.{Valued}
use Rattle.idl_names.specs.declared.state.Parts.{Parts}
use Rattle.idl_names.specs.declared.state.Names.{Names}

-- a type with its leaves and levels
abbrev pub sized_of : SizedType → z.Sized
sized_of k = record { kind = kind_of k.kind; leaves = k.leaves; levels = k.levels }

-- what a declaration stands for
abbrev pub thing_of : Thing → t.Thing
thing_of v.Nothing = t.nothing
thing_of (v.Interface bases os) = t.interface bases.items os.items
thing_of (v.Type k) = t.type (sized_of k)
thing_of (v.Exception members) = t.exception (members_view members.items)
thing_of (v.Constant k c) = t.constant (kind_of k) (value_of c)
thing_of (v.Enumerator enum n) = t.enumerator enum n
thing_of (v.Operations os n) = t.operations (map operation_of os.items) n

-- the scoped name that is read
abbrev pub search_of : Search → t.Search
search_of s.Fresh = t.fresh
search_of s.Rooted = t.rooted
search_of (s.Found i) = t.found i

-- a value with its places
abbrev pub valued_of : Valued → t.Valued
valued_of x = record { value = value_of x.value; at = x.at; literal = x.literal }

-- the parts of a declaration
abbrev pub parts_of : Parts → t.Parts
parts_of p = record { bases = p.bases.items; given = list_of p.given; members = members_view p.members.items; enumerators = p.enumerators.items; discriminator = kind_of p.discriminator; cases = cases_view p.cases.items; taken = p.taken.keys; labels = p.labels.items; is_default = p.is_default; readonly = p.readonly; oneway = p.oneway; way = p.way; head = p.head; result = option_map kind_of p.result; params = map param_of p.params.items; raises = p.raises.items; leaves = p.leaves; levels = p.levels }

-- all that is known
abbrev pub built_of : Names → t.Built
built_of n = record { scopes = table_of n.scopes; things = map thing_of n.things.items; here = n.here; leaves = n.leaves; search = search_of n.search; last = n.last; type = sized_of n.newest; bound = n.bound; value = valued_of n.value; lengths = n.lengths.items; parts = parts_of n.parts }
