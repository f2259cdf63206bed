-- What each command takes: own profile.
use Rattle.std.specs.Prelude.{true, false, List, [], ◌∷◌, codes}
use Rattle.command_options.specs.declared.item.Kind.{Kind}
use Rattle.command_options.specs.declared.item.Kind.TheVariants.{Valued, Switch, Positional}
use Rattle.command_options.specs.Items.{Item, Text}

-- an item that the words may give
abbrev pub may_have : Kind → Text → Item
may_have kind name = record { name = name; kind = kind; is_due = false }

-- an item that the words have to give
abbrev pub must_have : Kind → Text → Item
must_have kind name = record { name = name; kind = kind; is_due = true }

-- `pipe [--config FILE] [--batch N] [--history] [--trace]`
abbrev pub pipe_items : List Item
pipe_items =
    may_have Valued (codes "config") ∷ may_have Valued (codes "batch") ∷ may_have Switch (codes "history") ∷ may_have Switch (codes "trace")
    ∷ []

-- `serve --config FILE --listen HOST:PORT [--runs N] [--trace]`
abbrev pub serve_items : List Item
serve_items =
    must_have Valued (codes "config") ∷ must_have Valued (codes "listen") ∷ may_have Valued (codes "runs") ∷ may_have Switch (codes "trace")
    ∷ []

-- `names --listen HOST:PORT`
abbrev pub names_items : List Item
names_items = must_have Valued (codes "listen") ∷ []

-- `refs [--at HOST:PORT] [--config FILE]`
abbrev pub refs_items : List Item
refs_items = may_have Valued (codes "at") ∷ may_have Valued (codes "config") ∷ []

-- `dump`
abbrev pub dump_items : List Item
dump_items = []

-- `audit`
abbrev pub audit_items : List Item
audit_items = []

-- `idl --file FILE`
abbrev pub idl_items : List Item
idl_items = must_have Valued (codes "file") ∷ []

-- `call --ref TEXT --op NAME [--args JSON] [--priority N] [--idl FILE] [--interface ID] [--callers N]`
abbrev pub call_items : List Item
call_items =
    must_have Valued (codes "ref") ∷ must_have Valued (codes "op") ∷ may_have Valued (codes "args") ∷ may_have Valued (codes "priority")
    ∷ may_have Valued (codes "idl") ∷ may_have Valued (codes "interface") ∷ may_have Valued (codes "callers") ∷ []

-- `load SEED COUNT [--config FILE] [--batch N] [--fragment N]`
abbrev pub load_items : List Item
load_items =
    must_have (Positional 1) (codes "seed") ∷ must_have (Positional 2) (codes "count") ∷ may_have Valued (codes "config")
    ∷ may_have Valued (codes "batch") ∷ may_have Valued (codes "fragment") ∷ []
