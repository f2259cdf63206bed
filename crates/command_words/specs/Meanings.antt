-- What each command means by what its words give its items: own profile.
use Rattle.std.specs.Prelude.{ℕ, Bool, codes, is_some, Option, Some, None}
use Rattle.std.specs.Option.{option_and_then}
use Rattle.object_lines.specs.Addresses.{Place, address_of}
use Rattle.load_runs.specs.declared.load_plan.LoadPlan.{LoadPlan}
use Rattle.pipe_runs.specs.declared.shown.Shown.{Shown}
use Rattle.pipe_runs.specs.declared.shown.Shown.TheVariants as shown
use Rattle.client_runs.specs.declared.call_words.CallWords.{CallWords}
use Rattle.command_options.specs.Items.{Text}
use Rattle.command_options.specs.Numbers.{number_of}
use Rattle.command_words.specs.Numbers.{batch_by, runs_by, callers_by, priority_by, count_of, fragment_by}
use Rattle.command_words.specs.declared.meaning.Meaning.{Meaning}
use Rattle.command_words.specs.declared.meaning.Meaning.TheVariants.{Pipe, Serve, Names, Dump, Audit, Refs, RefsAt, Idl}
use Rattle.command_words.specs.declared.meaning.Meaning.TheVariants.{Call, SharedCall, Load, Unread}

-- what words give the items of a command: for each name its text, where the item is used
abbrev pub Gives : Type 0
Gives = Text → Option Text

-- ---- `pipe [--config FILE] [--batch N]`, and `--history` or `--trace`

-- what is written, by the switches for the text of the history and for its trace: the bytes without them, and nothing with both
abbrev pub shown_by : Option Text → Option Text → Option Shown
shown_by None None = Some shown.Bytes
shown_by (Some _) None = Some shown.Text
shown_by None (Some _) = Some shown.Trace
shown_by (Some _) (Some _) = None

-- the pipe, where its batch is a number that it may be, and where one thing is written
abbrev pub piped : Option Text → Option ℕ → Option Shown → Meaning
piped config (Some batch) (Some shown) = Pipe (record { config = config; batch = batch; shown = shown })
piped config (Some batch) None = Unread
piped config None shown = Unread

-- the pipe, by the texts of its options
abbrev pub pipe_by : Gives → Meaning
pipe_by gives =
    piped (gives (codes "config")) (batch_by (gives (codes "batch"))) (shown_by (gives (codes "history")) (gives (codes "trace")))

-- ---- `serve --config FILE --listen HOST:PORT [--runs N] [--trace]`

-- the server of a configuration, where its place is an address and its runs are a number that they may be; with the trace of each run, or
-- without
abbrev pub served_at : Option Text → Option Place → Option ℕ → Bool → Meaning
served_at (Some config) (Some at) (Some runs) trace =
    Serve (record { config = config; at = at; plan = record { runs = runs; trace = trace } })
served_at (Some config) (Some at) None trace = Unread
served_at (Some config) None runs trace = Unread
served_at None at runs trace = Unread

-- the server, by the texts of its options
abbrev pub serve_by : Gives → Meaning
serve_by gives =
    served_at (gives (codes "config")) (option_and_then address_of (gives (codes "listen"))) (runs_by (gives (codes "runs")))
    (is_some (gives (codes "trace")))

-- ---- `names --listen HOST:PORT`

-- the name service at a place, where it is an address
abbrev pub named_at : Option Place → Meaning
named_at (Some at) = Names at
named_at None = Unread

-- the name service, by the text of its option
abbrev pub names_by : Gives → Meaning
names_by gives = named_at (option_and_then address_of (gives (codes "listen")))

-- ---- `refs`, or `refs --at HOST:PORT [--config FILE]`

-- the references at a place, where it is an address
abbrev pub refs_at : Option Place → Option Text → Meaning
refs_at (Some place) config = RefsAt place config
refs_at None config = Unread

-- without a place there is no configuration
abbrev pub refs_of : Option Text → Option Text → Meaning
refs_of (Some place) config = refs_at (address_of place) config
refs_of None (Some config) = Unread
refs_of None None = Refs

-- the references, by the texts of their options
abbrev pub refs_by : Gives → Meaning
refs_by gives = refs_of (gives (codes "at")) (gives (codes "config"))

-- ---- `dump`

-- the dump, which has no options
abbrev pub dump_by : Gives → Meaning
dump_by gives = Dump

-- ---- `audit`

-- the audit, which has no options
abbrev pub audit_by : Gives → Meaning
audit_by gives = Audit

-- ---- `idl --file FILE`

-- the listing of a file of interfaces, which has to be named
abbrev pub listed : Option Text → Meaning
listed (Some name) = Idl name
listed None = Unread

-- the listing, by the text of its option
abbrev pub idl_by : Gives → Meaning
idl_by gives = listed (gives (codes "file"))

-- ---- `call --ref TEXT --op NAME [--args JSON] [--priority N] [--idl FILE] [--interface ID] [--callers N]`

-- a call, which callers make over one link where their number is given
abbrev pub called_by : CallWords → Option ℕ → Meaning
called_by words None = Call words
called_by words (Some callers) = SharedCall words callers

-- the call of an operation of a reference, where its priority and its callers are numbers that they may be
abbrev pub called : (remote op args : Option Text) → Option (Option ℕ) → (file id : Option Text) → Option (Option ℕ) → Meaning
called (Some remote) (Some op) args (Some priority) file id (Some callers) =
    called_by (record { reference = remote; operation = op; arguments = args; priority = priority; idl = file; interface = id }) callers
called (Some remote) (Some op) args (Some priority) file id None = Unread
called (Some remote) (Some op) args None file id callers = Unread
called (Some remote) None args priority file id callers = Unread
called None op args priority file id callers = Unread

-- the call, by the texts of its options
abbrev pub call_by : Gives → Meaning
call_by gives =
    called (gives (codes "ref")) (gives (codes "op")) (gives (codes "args")) (priority_by (gives (codes "priority")))
    (gives (codes "idl")) (gives (codes "interface")) (callers_by (gives (codes "callers")))

-- ---- `load SEED COUNT [--config FILE] [--batch N] [--fragment N]`

-- what a load is to be, where each of its numbers is such as it may be
abbrev pub planned : Option ℕ → Option ℕ → Option ℕ → Option (Option ℕ) → Option LoadPlan
planned (Some seed) (Some count) (Some batch) (Some fragment) =
    Some (record { seed = seed; count = count; batch = batch; fragment = fragment })
planned _ _ _ _ = None

-- what a load is to be, by the texts of its items
abbrev pub plan_by : Gives → Option LoadPlan
plan_by gives =
    planned (option_and_then number_of (gives (codes "seed"))) (option_and_then count_of (gives (codes "count")))
    (batch_by (gives (codes "batch"))) (fragment_by (gives (codes "fragment")))

-- the load of a setup, where there is a plan of it
abbrev pub loaded : Option Text → Option LoadPlan → Meaning
loaded config (Some plan) = Load (record { config = config; plan = plan })
loaded config None = Unread

-- the load, by the texts of its items
abbrev pub load_by : Gives → Meaning
load_by gives = loaded (gives (codes "config")) (plan_by gives)
