-- The keys of each table of a configuration, in the order in which they are judged: own profile.
use Rattle.std.specs.Prelude.{ℕ, List, [], ◌∷◌, codes}
use Rattle.config_tables.specs.Rules.{lacks, says, is_on, Need, due, free, exactly_where, along_with, Scalar, text, word, truth, number, native, Rule, Kind, one, entries, section, sections, key_of}

-- the greatest length that a text or a list can have: no limit of ours
abbrev pub any_length : ℕ
any_length = 18446744073709551615

-- a text of any length
abbrev pub any_text : Scalar
any_text = text 0 any_length

-- a CORBA priority
abbrev pub priority : Scalar
priority = number 0 32767

-- a number of threads
abbrev pub threads : Scalar
threads = number 0 64

-- a row of a map
abbrev pub row_rules : List (Rule Scalar)
row_rules = key_of (codes "low") due priority ∷ key_of (codes "high") due priority ∷ key_of (codes "native") due native ∷ []

-- a lane
abbrev pub lane_rules : List (Rule Scalar)
lane_rules = key_of (codes "priority") due priority ∷ key_of (codes "static") due threads ∷ key_of (codes "dynamic") due threads ∷ []

-- a band
abbrev pub band_rules : List (Rule Scalar)
band_rules = key_of (codes "low") due priority ∷ key_of (codes "high") due priority ∷ []

-- a row of a transform
abbrev pub inbound_rules : List (Rule Scalar)
inbound_rules = key_of (codes "low") due priority ∷ key_of (codes "high") due priority ∷ key_of (codes "to") due priority ∷ []

-- the document's own keys
abbrev pub top_rules : List (Rule Kind)
top_rules =
    key_of (codes "idl") (along_with (codes "scripts")) (one any_text)
    ∷ key_of (codes "scripts") (along_with (codes "idl")) (one any_text)
    ∷ key_of (codes "map") free section
    ∷ key_of (codes "pool") due section
    ∷ key_of (codes "server") free section
    ∷ key_of (codes "adapter") due (sections 1 64)
    ∷ key_of (codes "object") due (sections 1 1024)
    ∷ []

-- a linear map has four ends, and a table map has rows
abbrev pub if_linear : Need
if_linear = exactly_where (says (codes "kind") (codes "linear"))

-- a key of a table map alone
abbrev pub if_table : Need
if_table = exactly_where (says (codes "kind") (codes "table"))

-- the keys of the map
abbrev pub map_rules : List (Rule Kind)
map_rules =
    key_of (codes "kind") due (one (word (codes "linear" ∷ codes "table" ∷ [])))
    ∷ key_of (codes "corba_low") if_linear (one priority)
    ∷ key_of (codes "corba_high") if_linear (one priority)
    ∷ key_of (codes "native_low") if_linear (one native)
    ∷ key_of (codes "native_high") if_linear (one native)
    ∷ key_of (codes "rows") if_table (entries 0 any_length row_rules)
    ∷ []

-- the limits of the buffer are exactly with buffering; a pool has lanes, or threads and a priority of its own
abbrev pub if_buffering : Need
if_buffering = exactly_where (is_on (codes "buffering"))

-- a key of a pool without lanes alone
abbrev pub if_unlaned : Need
if_unlaned = exactly_where (lacks (codes "lanes"))

-- the keys of the pool
abbrev pub pool_rules : List (Rule Kind)
pool_rules =
    key_of (codes "borrowing") free (one truth)
    ∷ key_of (codes "buffering") free (one truth)
    ∷ key_of (codes "max_buffered_requests") if_buffering (one (number 1 4096))
    ∷ key_of (codes "max_request_buffer_size") if_buffering (one (number 1 16777216))
    ∷ key_of (codes "lanes") free (entries 1 16 lane_rules)
    ∷ key_of (codes "static") if_unlaned (one threads)
    ∷ key_of (codes "dynamic") if_unlaned (one threads)
    ∷ key_of (codes "default_priority") if_unlaned (one priority)
    ∷ []

-- the keys of the server
abbrev pub server_rules : List (Rule Kind)
server_rules =
    key_of (codes "slots") free (one (number 1 16))
    ∷ key_of (codes "per_slot") free (one (number 1 128))
    ∷ key_of (codes "max_calls") free (one (number 1 65536))
    ∷ key_of (codes "max_bytes") free (one (number 1 67108864))
    ∷ []

-- the keys of an adapter
abbrev pub adapter_rules : List (Rule Kind)
adapter_rules =
    key_of (codes "name") due (one any_text)
    ∷ key_of (codes "model") due (one (word (codes "CLIENT_PROPAGATED" ∷ codes "SERVER_DECLARED" ∷ [])))
    ∷ key_of (codes "priority") due (one priority)
    ∷ key_of (codes "bands") free (entries 1 16 band_rules)
    ∷ key_of (codes "inbound") free (entries 1 32 inbound_rules)
    ∷ []

-- the keys of an object
abbrev pub object_rules : List (Rule Kind)
object_rules =
    key_of (codes "key") due (one (text 1 64))
    ∷ key_of (codes "adapter") due (one any_text)
    ∷ key_of (codes "interface") due (one any_text)
    ∷ key_of (codes "priority") free (one priority)
    ∷ []

-- the tables that are judged after the document's own keys
abbrev pub section_rules : List (List ℕ × List (Rule Kind))
section_rules =
    (codes "map", map_rules)
    ∷ (codes "pool", pool_rules)
    ∷ (codes "server", server_rules)
    ∷ (codes "adapter", adapter_rules)
    ∷ (codes "object", object_rules)
    ∷ []
