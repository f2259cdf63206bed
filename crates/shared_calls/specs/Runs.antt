-- A call of the command line that several callers make over one link: what it does to the files, the net, the link and the output.
-- Own profile.
use Rattle.std.specs.Prelude.{◌≡◌, ◌⊎◌, ◌+◌, ℕ, List, length, Some, None, Result, Ok, Err, IsSome}
use Rattle.orb_base.specs.Filing.{FilesState}
use Rattle.orb_base.specs.Outside.{SourceState, SinkState, IsNewSource, IsNewSink}
use Rattle.orb_nets.specs.Nets.{NetState, Asks as NetAsks, Connects, CountsNetFault}
use Rattle.orb_nets.specs.declared.net_fault.NetFault.{NetFault}
use Rattle.idl_types.specs.declared.repository.Repository.{Repository}
use Rattle.idl_types.specs.Contents.{things_of}
use Rattle.idl_types.specs.Things.{Thing}
use Rattle.client_stub.specs.Asking.{Asked}
use Rattle.client_runs.specs.Interfaces.{Knows}
use Rattle.client_runs.specs.Judging.{AsksFor, Refuses}
use Rattle.client_runs.specs.Runs.{end_of}
use Rattle.client_runs.specs.declared.call_end.CallEnd.{CallEnd}
use Rattle.client_runs.specs.declared.call_end.CallEnd.TheVariants.{Local, NoMemory}
use Rattle.client_runs.specs.declared.call_end.LocalFault.{LocalFault}
use Rattle.client_runs.specs.declared.call_end.LocalFault.TheVariants.{SharedBand}
use Rattle.client_runs.specs.declared.call_words.CallWords.{CallWords}
use Rattle.mux_runs.specs.Runs.{IsLawful, CallsIn, SentIn, HeardIn, AreOwn}
use Rattle.mux_runs.specs.declared.jobs.Asking.{Asking}
use Rattle.mux_runs.specs.declared.run.MuxRun.{MuxRun}
use Rattle.shared_calls.specs.Asking.{AllAsk}
use Rattle.shared_calls.specs.Results.{results_of}
use Rattle.shared_calls.specs.Lines.{WritesLines}
use Rattle.shared_calls.specs.declared.shared_call.SharedCall.{SharedCall}

-- the words of a call, and how many callers make it
pub record Team : Type 0 where
  pub words : CallWords
  pub callers : ℕ

-- the words ask for a call that binds a band first
pub record AsksWithBand (words : CallWords) (things : List Thing) : Type 0 where
  pub asked : Asked
  pub asks : AsksFor words things asked
  pub band : IsSome asked.band

-- this is the first fault of the words, where several callers share a link: a band comes last
abbrev pub RefusesShared : LocalFault → CallWords → List Thing → Type 0
RefusesShared SharedBand words things = AsksWithBand words things
RefusesShared fault words things = Refuses fault words things

module _ {I O : Type 0} (source : I → SourceState) (sink : O → SinkState) where
  -- so many callers made this call over this link, each once: all calls of callers, writer and reader are one legal history; what came of
  -- each caller's call is in it; what was sent is what it gave to the writer, and what arrived are the replies of the bytes that were read;
  -- and a caller that got a reply got the first of its own id after its start
  pub record RanOver (asked : Asked) (callers : ℕ) (run : MuxRun I O) (link : I × O) : Type 0 where
    pub calls : List Asking
    pub alike : AllAsk asked calls
    pub many : length calls ≡ callers
    pub lawful : IsLawful callers run.history.items
    pub called : CallsIn run.history.items 1 calls run.ends.items
    pub sent : SentIn run.history.items (callers + 1) run.write (sink link.1) (sink run.sink)
    pub heard : HeardIn run.history.items (callers + 2) run.why (source link.0) (source run.source)
    pub own : AreOwn run.history.items 1 run.ends.items

  -- over a link the callers ran, and the lines of their results were written
  pub record Ran (asked : Asked) (callers : ℕ) (shared : SharedCall I O) (link : I × O) (out out' : SinkState) : Type 0 where
    pub run : MuxRun I O
    pub is : shared.run ≡ Some run
    pub held : shared.link ≡ None
    pub over : RanOver asked callers run link
    pub lines : WritesLines shared.end asked.operation (results_of asked.operation run.ends.items) out out'

  -- or memory was out before any thread was made: the link is as it was, and nothing was written
  pub record RanNot (shared : SharedCall I O) (link : I × O) (out out' : SinkState) : Type 0 where
    pub why : shared.end ≡ NoMemory
    pub none : shared.run ≡ None
    pub held : shared.link ≡ Some link
    pub output : out' ≡ out

  -- what came of connecting: one of both over the new link; without one nothing was written, for the net's reason
  abbrev pub Comes : Asked → ℕ → SharedCall I O → Result (I × O) NetFault → SinkState → SinkState → Type 0
  Comes asked callers shared (Ok link) out out' =
      IsNewSource (source link.0) × IsNewSink (sink link.1) × (Ran asked callers shared link out out' ⊎ RanNot shared link out out')
  Comes asked callers shared (Err why) out out' =
      (shared.end ≡ end_of why) × (shared.run ≡ None) × (shared.link ≡ None) × (out' ≡ out)

  -- the net was asked once, for the host and the port of the remote object
  pub record ConnectsOnce (asked : Asked) (callers : ℕ) (shared : SharedCall I O) (net net' : NetState I O) (out out' : SinkState)
      : Type 0 where
    pub answer : Result (I × O) NetFault
    pub request : NetAsks (record { host = asked.remote.host; port = asked.remote.port; slots = None }) net net'
    pub connects : Connects answer net net'
    pub faults : CountsNetFault answer net net'
    pub comes : Comes asked callers shared answer out out'

  -- the net wasn't asked, and nothing was written, for this reason
  pub record Unconnected (shared : SharedCall I O) (end : CallEnd) (net net' : NetState I O) (out out' : SinkState) : Type 0 where
    pub why : shared.end ≡ end
    pub none : shared.run ≡ None
    pub unlinked : shared.link ≡ None
    pub unasked : net' ≡ net
    pub output : out' ≡ out

  -- a call without a band is made by so many callers, or memory ran out before the net was asked; one with a band isn't made
  abbrev pub SharesPlan : Asked → ℕ → SharedCall I O → NetState I O → NetState I O → SinkState → SinkState → Type 0
  SharesPlan asked callers shared net net' out out' =
      ((asked.band ≡ None) × ConnectsOnce asked callers shared net net' out out')
      ⊎ (IsSome asked.band × Unconnected shared (Local SharedBand) net net' out out')
      ⊎ Unconnected shared NoMemory net net' out out'

  -- the words ask for a call without a band, and so many callers made it
  pub record Shares (team : Team) (things : List Thing) (shared : SharedCall I O) (net net' : NetState I O) (out out' : SinkState)
      : Type 0 where
    pub asked : Asked
    pub asks : AsksFor team.words things asked
    pub unbound : asked.band ≡ None
    pub once : ConnectsOnce asked team.callers shared net net' out out'

  -- what came of the words by the things that are known: the call that they ask for, or their first fault, or memory ran out before the
  -- net was asked
  abbrev pub SharesBy : Team → List Thing → SharedCall I O → NetState I O → NetState I O → SinkState → SinkState → Type 0
  SharesBy team things shared net net' out out' =
      Shares team things shared net net' out out'
      ⊎ ((fault : LocalFault) × RefusesShared fault team.words things × Unconnected shared (Local fault) net net' out out')
      ⊎ Unconnected shared NoMemory net net' out out'

  -- what came of the words: by what the file that they name declares and by the built-in module, or nothing is known, for the file's
  -- reason or out of memory
  abbrev pub SharesWith : Team → SharedCall I O → FilesState → FilesState → NetState I O → NetState I O → SinkState → SinkState → Type 0
  SharesWith team shared files files' net net' out out' =
      ((r : Repository) × Knows (Ok r) team.words.idl files files' × SharesBy team (things_of r) shared net net' out out')
      ⊎ ((end : CallEnd) × Knows (Err end) team.words.idl files files' × Unconnected shared end net net' out out')
