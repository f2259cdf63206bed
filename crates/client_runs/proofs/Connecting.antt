-- What came of the words, by what came of connecting.
use Rattle.std.proofs.Common.{◌≡◌, List, None, refl, inl, inr}
use Rattle.std.specs.Prelude.{Ok, Err}
use Rattle.orb_base.specs.Filing.{FilesState}
use Rattle.orb_base.specs.Outside.{SourceState, SinkState, IsNewSource, IsNewSink}
use Rattle.orb_nets.specs.Nets.{NetState, Asks, Connects, CountsNetFault}
use Rattle.orb_nets.specs.declared.net_fault.NetFault.{NetFault}
use Rattle.idl_types.specs.declared.repository.Repository.{Repository}
use Rattle.idl_types.specs.Contents.{things_of}
use Rattle.idl_types.specs.Things.{Thing}
use Rattle.client_stub.specs.Asking.{Asked}
use Rattle.client_runs.specs.Interfaces.{Knows}
use Rattle.client_runs.specs.Plans.{Judges}
use Rattle.client_runs.specs.Runs.{end_of, CallsOver, ConnectsOnce, CallsBy, CallsWith}
use Rattle.client_runs.specs.declared.call_end.CallEnd.{CallEnd}
use Rattle.client_runs.specs.declared.call_end.CallEnd.TheVariants as end
use Rattle.client_runs.specs.declared.call_words.CallWords.{CallWords}
use Rattle.client_runs.specs.declared.called.Called.{Called}

module _ {I O : Type 0} (source : I → SourceState) (sink : O → SinkState) where
  -- the net gave a connection
  pub connected : (asked : Asked) (called : Called I O) (link : I × O) (net net' : NetState I O) (out out' : SinkState)
      → Asks (record { host = asked.remote.host; port = asked.remote.port; slots = None }) net net' → Connects (Ok link) net net'
      → CountsNetFault {R = I × O} (Ok link) net net' → IsNewSource (source link.0) → IsNewSink (sink link.1)
      → CallsOver source sink asked called link out out' → ConnectsOnce source sink asked called net net' out out'
  connected asked called link net net' out out' request connects faults fresh_source fresh_sink over = record {
    answer = Ok link;
    request = request;
    connects = connects;
    faults = faults;
    comes = (fresh_source, fresh_sink, over);
  }

  -- or none
  pub not_connected : (asked : Asked) (called : Called I O) (why : NetFault) (net net' : NetState I O) (out : SinkState)
      → Asks (record { host = asked.remote.host; port = asked.remote.port; slots = None }) net net' → Connects (Err why) net net'
      → CountsNetFault {R = I × O} (Err why) net net' → called.end ≡ end_of why → called.link ≡ None
      → ConnectsOnce source sink asked called net net' out out
  not_connected asked called why net net' out request connects faults so none = record {
    answer = Err why;
    request = request;
    connects = connects;
    faults = faults;
    comes = (so, none, refl);
  }

  -- the words ask for no call
  pub unplanned : (words : CallWords) (things : List Thing) (e : CallEnd) (called : Called I O) (net : NetState I O) (out : SinkState)
      → Judges (Err e) words things → called.end ≡ e → called.link ≡ None → CallsBy source sink words things called net net out out
  unplanned words things (end.Local fault) called net out h why none =
      inr (inl (fault, h, record { why = why; none = none; unasked = refl; output = refl }))
  unplanned words things end.NoMemory called net out h why none =
      inr (inr (record { why = why; none = none; unasked = refl; output = refl }))
  unplanned words things (end.File fault) called net out h why none = absurd h
  unplanned words things end.NetFault called net out h why none = absurd h
  unplanned words things (end.Called fault) called net out h why none = absurd h
  unplanned words things end.WriteFault called net out h why none = absurd h
  unplanned words things end.Done called net out h why none = absurd h

  -- nothing is known
  pub unknown : (words : CallWords) (e : CallEnd) (called : Called I O) (files files' : FilesState) (net : NetState I O) (out : SinkState)
      → Knows (Err e) words.idl files files' → called.end ≡ e → called.link ≡ None
      → CallsWith source sink words called files files' net net out out
  unknown words e called files files' net out h why none =
      inr (e, h, record { why = why; none = none; unasked = refl; output = refl })

  -- or something is
  pub known_calls : (words : CallWords) (r : Repository) (called : Called I O) (files files' : FilesState) (net net' : NetState I O)
      (out out' : SinkState) → Knows (Ok r) words.idl files files' → CallsBy source sink words (things_of r) called net net' out out'
      → CallsWith source sink words called files files' net net' out out'
  known_calls words r called files files' net net' out out' h calls = inl (r, h, calls)
