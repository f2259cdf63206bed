-- What a plan of a call says.
use Rattle.std.specs.Prelude.{◌≡◌, List, Option, Some, None, Result, Ok, Err}
use Rattle.orb_base.specs.Span.{Span}
use Rattle.cdr_values.specs.Values.{values_view}
use Rattle.idl_types.specs.Things.{Thing}
use Rattle.idl_types.specs.Views.{operation_of}
use Rattle.client_stub.specs.Asking.{Asked}
use Rattle.client_stub.specs.Choosing.{band_for}
use Rattle.client_stub.specs.Sending.{IsSendable}
use Rattle.client_runs.specs.Judging.{AsksFor, Refuses, with_band}
use Rattle.client_runs.specs.declared.call_end.CallEnd.{CallEnd}
use Rattle.client_runs.specs.declared.call_end.CallEnd.TheVariants.{Local, NoMemory}
use Rattle.client_runs.specs.declared.call_end.LocalFault.TheVariants.{BadArguments, NoBand}
use Rattle.client_runs.specs.declared.call_words.CallWords.{CallWords}
use Rattle.client_runs.specs.declared.plan.Plan.{Plan}

-- the call of a plan
abbrev pub asked_in : Plan → Asked
asked_in p = record {
  remote = p.remote;
  operation = operation_of p.operation.now;
  arguments = values_view p.arguments.items;
  priority = p.priority;
  band = p.band;
}

-- the band that a call binds, or none; or no band holds its priority
abbrev pub Binds : Result (Option Span) CallEnd → Asked → Type 0
Binds (Ok band) asked = band_for asked.remote asked.priority ≡ Some band
Binds (Err end) asked = (end ≡ Local NoBand) × (band_for asked.remote asked.priority ≡ None)

-- a call without a band gets its band, if one is due; or a request of it would be too long, or no band holds its priority
abbrev pub JudgedAs : Result Plan CallEnd → Asked → Type 0
JudgedAs (Ok plan) unbound =
    IsSendable unbound × (band_for unbound.remote unbound.priority ≡ Some plan.band) × (asked_in plan ≡ with_band plan.band unbound)
JudgedAs (Err (Local BadArguments)) unbound = ¬ IsSendable unbound
JudgedAs (Err (Local NoBand)) unbound = IsSendable unbound × (band_for unbound.remote unbound.priority ≡ None)
JudgedAs (Err _) unbound = ⊥

-- the call that the words ask for, or their first fault; out of memory, nothing is said
abbrev pub Judges : Result Plan CallEnd → CallWords → List Thing → Type 0
Judges (Ok plan) words things = AsksFor words things (asked_in plan)
Judges (Err (Local fault)) words things = Refuses fault words things
Judges (Err NoMemory) words things = Unit {0}
Judges (Err _) words things = ⊥
