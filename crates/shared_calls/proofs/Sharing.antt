-- What came of the words, by what came of connecting.
use Rattle.std.proofs.Common.{◌≡◌, ◌⊎◌, ℕ, List, None, refl, inl, inr}
use Rattle.std.specs.Prelude.{Ok, Err, IsSome}
use Rattle.orb_base.specs.Filing.{FilesState}
use Rattle.orb_base.specs.Outside.{SourceState, SinkState, IsNewSource, IsNewSink}
use Rattle.orb_nets.specs.Nets.{NetState, Asks, Connects, CountsNetFault}
use Rattle.orb_nets.specs.declared.net_fault.NetFault.{NetFault}
use Rattle.idl_types.specs.declared.repository.Repository.{Repository}
use Rattle.idl_types.specs.Contents.{things_of}
use Rattle.idl_types.specs.Things.{Thing}
use Rattle.client_stub.specs.Asking.{Asked}
use Rattle.client_runs.specs.Interfaces.{Knows}
use Rattle.client_runs.specs.Judging.{AsksFor}
use Rattle.client_runs.specs.Plans.{Judges}
use Rattle.client_runs.specs.Runs.{end_of}
use Rattle.client_runs.specs.declared.call_end.CallEnd.{CallEnd}
use Rattle.client_runs.specs.declared.call_end.CallEnd.TheVariants as end
use Rattle.client_runs.specs.declared.call_end.LocalFault.TheVariants as local
use Rattle.shared_calls.specs.Runs.{Team, Ran, RanNot, ConnectsOnce, Unconnected, SharesPlan, SharesBy, SharesWith}
use Rattle.shared_calls.specs.declared.shared_call.SharedCall.{SharedCall}

module _ {I O : Type 0} (source : I → SourceState) (sink : O → SinkState) where
  -- the net gave a link
  pub connected : (asked : Asked) (callers : ℕ) (shared : SharedCall I O) (link : I × O) (net net' : NetState I O) (out out' : SinkState)
      → Asks (record { host = asked.remote.host; port = asked.remote.port; slots = None }) net net' → Connects (Ok link) net net'
      → CountsNetFault {R = I × O} (Ok link) net net' → IsNewSource (source link.0) → IsNewSink (sink link.1)
      → Ran source sink asked callers shared link out out' ⊎ RanNot source sink shared link out out' → ConnectsOnce source sink asked callers shared net net' out out'
  connected asked callers shared link net net' out out' request connects faults fresh_source fresh_sink over = record {
    answer = Ok link;
    request = request;
    connects = connects;
    faults = faults;
    comes = (fresh_source, fresh_sink, over);
  }

  -- or none
  pub not_connected : (asked : Asked) (callers : ℕ) (shared : SharedCall I O) (why : NetFault) (net net' : NetState I O) (out : SinkState)
      → Asks (record { host = asked.remote.host; port = asked.remote.port; slots = None }) net net' → Connects (Err why) net net'
      → CountsNetFault {R = I × O} (Err why) net net' → shared.end ≡ end_of why → shared.run ≡ None → shared.link ≡ None
      → ConnectsOnce source sink asked callers shared net net' out out
  not_connected asked callers shared why net net' out request connects faults so none unlinked = record {
    answer = Err why;
    request = request;
    connects = connects;
    faults = faults;
    comes = (so, none, unlinked, refl);
  }

  -- a call without a band
  pub planned : (asked : Asked) (callers : ℕ) (shared : SharedCall I O) (net net' : NetState I O) (out out' : SinkState) → asked.band ≡ None
      → ConnectsOnce source sink asked callers shared net net' out out' ⊎ Unconnected source sink shared end.NoMemory net net' out out'
      → SharesPlan source sink asked callers shared net net' out out'
  planned asked callers shared net net' out out' none h = elim h [
    | inl made ↦ inl (none, made)
    | inr lacks ↦ inr (inr lacks)
  ]

  -- or one with a band
  pub banded : (asked : Asked) (callers : ℕ) (shared : SharedCall I O) (net : NetState I O) (out : SinkState) → IsSome asked.band
      → shared.end ≡ end.Local local.SharedBand → shared.run ≡ None → shared.link ≡ None → SharesPlan source sink asked callers shared net net out out
  banded asked callers shared net out some so none unlinked =
      inr (inl (some, record { why = so; none = none; unlinked = unlinked; unasked = refl; output = refl }))

  -- the words ask for a call
  pub planned_shares : (team : Team) (things : List Thing) (asked : Asked) (shared : SharedCall I O) (net net' : NetState I O) (out out' : SinkState)
      → AsksFor team.words things asked → SharesPlan source sink asked team.callers shared net net' out out'
      → SharesBy source sink team things shared net net' out out'
  planned_shares team things asked shared net net' out out' asks h = elim h [
    | inl made ↦ inl (record { asked = asked; asks = asks; unbound = made.0; once = made.1 })
    | inr other ↦ elim other [
      | inl band ↦ inr (inl (local.SharedBand, record { asked = asked; asks = asks; band = band.0 }, band.1))
      | inr lacks ↦ inr (inr lacks)
    ]
  ]

  -- the words ask for no call
  pub unplanned : (team : Team) (things : List Thing) (e : CallEnd) (shared : SharedCall I O) (net : NetState I O) (out : SinkState)
      → Judges (Err e) team.words things → shared.end ≡ e → shared.run ≡ None → shared.link ≡ None → SharesBy source sink team things shared net net out out
  unplanned team things (end.Local local.BadReference) shared net out h why none unlinked =
      inr (inl (local.BadReference, h, record { why = why; none = none; unlinked = unlinked; unasked = refl; output = refl }))
  unplanned team things (end.Local local.NoInterface) shared net out h why none unlinked =
      inr (inl (local.NoInterface, h, record { why = why; none = none; unlinked = unlinked; unasked = refl; output = refl }))
  unplanned team things (end.Local local.NoOperation) shared net out h why none unlinked =
      inr (inl (local.NoOperation, h, record { why = why; none = none; unlinked = unlinked; unasked = refl; output = refl }))
  unplanned team things (end.Local local.BadArguments) shared net out h why none unlinked =
      inr (inl (local.BadArguments, h, record { why = why; none = none; unlinked = unlinked; unasked = refl; output = refl }))
  unplanned team things (end.Local local.NoBand) shared net out h why none unlinked =
      inr (inl (local.NoBand, h, record { why = why; none = none; unlinked = unlinked; unasked = refl; output = refl }))
  unplanned team things (end.Local local.SharedBand) shared net out h why none unlinked = absurd h
  unplanned team things end.NoMemory shared net out h why none unlinked =
      inr (inr (record { why = why; none = none; unlinked = unlinked; unasked = refl; output = refl }))
  unplanned team things (end.File fault) shared net out h why none unlinked = absurd h
  unplanned team things end.NetFault shared net out h why none unlinked = absurd h
  unplanned team things (end.Called fault) shared net out h why none unlinked = absurd h
  unplanned team things end.WriteFault shared net out h why none unlinked = absurd h
  unplanned team things end.Done shared net out h why none unlinked = absurd h

  -- nothing is known
  pub unknown : (team : Team) (e : CallEnd) (shared : SharedCall I O) (files files' : FilesState) (net : NetState I O) (out : SinkState)
      → Knows (Err e) team.words.idl files files' → shared.end ≡ e → shared.run ≡ None → shared.link ≡ None
      → SharesWith source sink team shared files files' net net out out
  unknown team e shared files files' net out h why none unlinked =
      inr (e, h, record { why = why; none = none; unlinked = unlinked; unasked = refl; output = refl })

  -- or something is
  pub known_shares : (team : Team) (r : Repository) (shared : SharedCall I O) (files files' : FilesState) (net net' : NetState I O)
      (out out' : SinkState) → Knows (Ok r) team.words.idl files files' → SharesBy source sink team (things_of r) shared net net' out out'
      → SharesWith source sink team shared files files' net net' out out'
  known_shares team r shared files files' net net' out out' h shares = inl (r, h, shares)
