-- What a dump reads and writes.
use Rattle.std.specs.Prelude.{◌≡◌, ◌≤◌, ℕ, Bool, List, ◌++◌, Option, Some, None, length, Result, Ok, Err}
use Rattle.orb_base.specs.Outside.{SourceState, SinkState}
use Rattle.orb_base.specs.declared.no_memory.NoMemory.{NoMemory}
use Rattle.giop_dump.specs.declared.dump_end.DumpEnd.{DumpEnd}
use Rattle.giop_dump.specs.declared.dump_end.DumpEnd.TheVariants.{Done, Refused, Spent, ReadFault, WriteFault}
use Rattle.giop_dump.specs.declared.dump_end.TheConstants.{MAX_DUMPED, READ_LEN}
use Rattle.giop_dump.specs.Ending.{refusal_of, dumped, dump_text, dump_ending}
use Rattle.text_streams.specs.Streams.{Gave, WroteText, MeetsEnd}
use Rattle.text_streams.specs.Faults.{NoneFailed, ReadFailed, WriteFailed}

-- a dump of these bytes ends so, or goes on to read, and all of its text was written
abbrev pub Ends : Option DumpEnd → List ℕ → Bool → SinkState → SinkState → Type 0
Ends end bytes ended out out' = (dump_ending bytes ended ≡ end) × WroteText (dump_text bytes) out out'

-- the first part of a text was written whole, and of what follows it a prefix
pub record WroteOn (first text : List ℕ) (out out' : SinkState) : Type 0 where
  pub front : List ℕ
  pub rest : List ℕ
  pub parts : text ≡ first ++ (front ++ rest)
  pub wrote : WroteText (first ++ front) out out'

-- each answer of a dump of these bytes has its cause. `earlier` are those before the last read: at a failed write their text
-- is there whole, and when out of memory it alone
abbrev pub DumpsBytes : Result DumpEnd NoMemory → List ℕ → List ℕ → Bool → SinkState → SinkState → Type 0
DumpsBytes (Ok Done) earlier bytes ended out out' = Ends (Some Done) bytes ended out out'
DumpsBytes (Ok (Refused r)) earlier bytes ended out out' = Ends (Some (Refused r)) bytes ended out out'
DumpsBytes (Ok Spent) earlier bytes ended out out' = Ends (Some Spent) bytes ended out out'
DumpsBytes (Ok ReadFault) earlier bytes ended out out' = Ends None bytes ended out out'
DumpsBytes (Ok WriteFault) earlier bytes ended out out' = WroteOn (dump_text earlier) (dump_text bytes) out out'
DumpsBytes (Err _) earlier bytes ended out out' = WroteText (dump_text earlier) out out'

-- which count of faults rose in the call
abbrev pub FaultsOf : Result DumpEnd NoMemory → SourceState → SourceState → SinkState → SinkState → Type 0
FaultsOf (Ok Done) old new out out' = NoneFailed old new out out'
FaultsOf (Ok (Refused _)) old new out out' = NoneFailed old new out out'
FaultsOf (Ok Spent) old new out out' = NoneFailed old new out out'
FaultsOf (Ok ReadFault) old new out out' = ReadFailed old new out out'
FaultsOf (Ok WriteFault) old new out out' = WriteFailed old new out out'
FaultsOf (Err _) old new out out' = NoneFailed old new out out'

-- a dump took some bytes, those of its last read after earlier ones of which nothing is refused; and what it answers and
-- wrote is what those bytes say
pub record Dumps (answer : Result DumpEnd NoMemory) (old new : SourceState) (out out' : SinkState) : Type 0 where
  pub bytes : List ℕ
  pub earlier : List ℕ
  pub last : List ℕ
  pub ended : Bool
  pub gave : Gave bytes old new
  pub few : length bytes ≤ MAX_DUMPED
  pub parts : bytes ≡ earlier ++ last
  pub one_read : length last ≤ READ_LEN
  pub sound : refusal_of (dumped earlier) ≡ None
  pub met : MeetsEnd ended old new
  pub faults : FaultsOf answer old new out out'
  pub came : DumpsBytes answer earlier bytes ended out out'
