-- One call of the command line: what it does to the files, the net, the connection and the output. Own profile.
use Rattle.std.specs.Prelude.{◌≡◌, ◌⊎◌, List, Some, None, Result, Ok, Err}
use Rattle.orb_base.specs.Filing.{FilesState}
use Rattle.orb_base.specs.Outside.{SourceState, SinkState, IsNewSource, IsNewSink}
use Rattle.orb_nets.specs.Nets.{NetState, Asks, Connects, CountsNetFault}
use Rattle.orb_nets.specs.declared.net_fault.NetFault.{NetFault}
use Rattle.orb_nets.specs.declared.net_fault.NetFault.TheVariants as fault
use Rattle.idl_types.specs.declared.repository.Repository.{Repository}
use Rattle.idl_types.specs.Contents.{things_of}
use Rattle.idl_types.specs.Things.{Thing}
use Rattle.client_stub.specs.Asking.{Asked}
use Rattle.client_runs.specs.Exchanges.{CallsOnce}
use Rattle.client_runs.specs.Interfaces.{Knows}
use Rattle.client_runs.specs.Judging.{AsksFor, Refuses}
use Rattle.client_runs.specs.declared.call_end.CallEnd.{CallEnd}
use Rattle.client_runs.specs.declared.call_end.CallEnd.TheVariants.{Local, NetFault as NetFailed, NoMemory}
use Rattle.client_runs.specs.declared.call_end.LocalFault.{LocalFault}
use Rattle.client_runs.specs.declared.call_words.CallWords.{CallWords}
use Rattle.client_runs.specs.declared.called.Called.{Called}

-- how a call comes out to which the net gave no connection
abbrev pub end_of : NetFault → CallEnd
end_of fault.Failed = NetFailed
end_of fault.NoMemory = NoMemory

module _ {I O : Type 0} (source : I → SourceState) (sink : O → SinkState) where
  -- the call went over this connection, which is handed back as it left it
  pub record CallsOver (asked : Asked) (called : Called I O) (link : I × O) (out out' : SinkState) : Type 0 where
    pub left : I × O
    pub held : called.link ≡ Some left
    pub once : CallsOnce called.end asked (source link.0) (source left.0) (sink link.1) (sink left.1) out out'

  -- what came of connecting: the call over the new connection; without one nothing was written, for the net's reason
  abbrev pub Comes : Asked → Called I O → Result (I × O) NetFault → SinkState → SinkState → Type 0
  Comes asked called (Ok link) out out' =
      IsNewSource (source link.0) × IsNewSink (sink link.1) × CallsOver asked called link out out'
  Comes asked called (Err why) out out' = (called.end ≡ end_of why) × (called.link ≡ None) × (out' ≡ out)

  -- the net was asked once, for the host and the port of the remote object
  pub record ConnectsOnce (asked : Asked) (called : Called I O) (net net' : NetState I O) (out out' : SinkState) : Type 0 where
    pub answer : Result (I × O) NetFault
    pub request : Asks (record { host = asked.remote.host; port = asked.remote.port; slots = None }) net net'
    pub connects : Connects answer net net'
    pub faults : CountsNetFault answer net net'
    pub comes : Comes asked called answer out out'

  -- the net wasn't asked, and nothing was written, for this reason
  pub record Unconnected (called : Called I O) (end : CallEnd) (net net' : NetState I O) (out out' : SinkState) : Type 0 where
    pub why : called.end ≡ end
    pub none : called.link ≡ None
    pub unasked : net' ≡ net
    pub output : out' ≡ out

  -- what came of the words by the things that are known: the call that they ask for, or their first fault, or memory ran out before the
  -- net was asked
  abbrev pub CallsBy : CallWords → List Thing → Called I O → NetState I O → NetState I O → SinkState → SinkState → Type 0
  CallsBy words things called net net' out out' =
      ((asked : Asked) × AsksFor words things asked × ConnectsOnce asked called net net' out out')
      ⊎ ((fault : LocalFault) × Refuses fault words things × Unconnected called (Local fault) net net' out out')
      ⊎ Unconnected called NoMemory net net' out out'

  -- what came of the words: by what the file that they name declares and by the built-in module, or nothing is known, for the file's
  -- reason or out of memory
  abbrev pub CallsWith : CallWords → Called I O → FilesState → FilesState → NetState I O → NetState I O → SinkState → SinkState
      → Type 0
  CallsWith words called files files' net net' out out' =
      ((r : Repository) × Knows (Ok r) words.idl files files' × CallsBy words (things_of r) called net net' out out')
      ⊎ ((end : CallEnd) × Knows (Err end) words.idl files files' × Unconnected called end net net' out out')
