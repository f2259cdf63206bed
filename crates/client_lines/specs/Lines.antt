-- The connection of a client, as far as it was read: own profile.
use Rattle.std.specs.Prelude.{◌≡◌, ◌≤◌, ◌<◌, ℕ, ◌+◌, Bool, List, [], ◌∷◌, ◌++◌, length, Option, Some, None, Result, Ok, Err}
use Rattle.orb_base.specs.Outside.{SourceState, Rose}
use Rattle.orb_base.specs.declared.no_memory.NoMemory.{NoMemory}
use Rattle.heard_messages.specs.Hearers.{Hearer, IsGoing}
use Rattle.heard_messages.specs.Hearing.{HeardBy}
use Rattle.heard_messages.specs.Inputs.{HearsStream}
use Rattle.heard_messages.specs.declared.read_end.ReadEnd.{ReadEnd}
use Rattle.heard_messages.specs.declared.read_end.ReadEnd.TheVariants.{Ended, Cut, Broken, Spent, ReadFault}
use Rattle.heard_messages.specs.declared.read_end.TheConstants.{MAX_TAKEN}
use Rattle.text_streams.specs.Streams.{Gave, MeetsEnd}
use Rattle.client_lines.specs.Answer.{Answer}
use Rattle.client_lines.specs.Awaiting as Spec
use Rattle.client_lines.specs.declared.awaited.Awaited.{Awaited}
use Rattle.client_lines.specs.declared.caller.Caller.{Caller}
use Rattle.client_lines.specs.declared.next.Next.{Next}
use Rattle.client_lines.specs.declared.next.Next.TheVariants.{Answers, Over}

-- what was heard; the answers that were given out, and those that wait after them; how the bytes ended the reading, if they did; and how
-- many bytes were taken
pub record Line : Type 0 where
  pub hearer : Hearer Caller Awaited Answer
  pub given : List Answer
  pub waiting : List Answer
  pub ending : Option ReadEnd
  pub taken : ℕ

-- the bytes that were taken
abbrev pub fed : Line → List ℕ
fed l = l.hearer.framer.fed

-- whether a band is bound first
abbrev pub binds : Line → Bool
binds l = l.hearer.judge.binds

-- the answers, and how the reading was ended, if it was, are what the bytes say
pub record IsHeard (l : Line) : Type 0 where
  pub heard : HeardBy (Spec.means (binds l)) (Spec.first (binds l)) (fed l) (l.given ++ l.waiting) l.ending
  pub calls_are : l.hearer.calls ≡ l.given ++ l.waiting
  pub count_is : l.taken ≡ length (fed l)
  pub few : l.taken ≤ MAX_TAKEN
  pub going : l.ending ≡ None → IsGoing (λ (c : Caller). Spec.first c.binds) (λ (c : Caller). Spec.means c.binds) l.hearer

-- nothing was read
pub record IsNew (binding : Bool) (l : Line) : Type 0 where
  pub binds_so : binds l ≡ binding
  pub none_fed : fed l ≡ []
  pub none_given : l.given ≡ []
  pub none_waits : l.waiting ≡ []
  pub heard : IsHeard l

-- these bytes were taken from a source, and neither its end nor a fault was met
pub record Took (bytes : List ℕ) (old new : SourceState) : Type 0 where
  pub gave : Gave bytes old new
  pub no_end : new.ends ≡ old.ends
  pub no_fault : new.faults ≡ old.faults

-- a fault of the source is how the reading came out, or none was met
abbrev pub CountsFault : ReadEnd → SourceState → SourceState → Type 0
CountsFault ReadFault old new = Rose old.faults new.faults
CountsFault Ended old new = new.faults ≡ old.faults
CountsFault (Cut offset) old new = new.faults ≡ old.faults
CountsFault (Broken offset fault) old new = new.faults ≡ old.faults
CountsFault Spent old new = new.faults ≡ old.faults

-- the reading went on: these bytes were taken, and no answer was given out
pub record ReadOn (l l' : Line) (old new : SourceState) : Type 0 where
  pub same : binds l' ≡ binds l
  pub given_is : l'.given ≡ l.given
  pub piece : List ℕ
  pub fed_is : fed l' ≡ fed l ++ piece
  pub took : Took piece old new
  pub heard : IsHeard l'

-- the next answer was given out, maybe after some bytes were taken
pub record GivesOut (l l' : Line) (answer : Answer) (old new : SourceState) : Type 0 where
  pub same : binds l' ≡ binds l
  pub given_is : l'.given ≡ l.given ++ answer ∷ []
  pub piece : List ℕ
  pub fed_is : fed l' ≡ fed l ++ piece
  pub took : Took piece old new
  pub heard : IsHeard l'

-- the reading came out so, maybe after some bytes were taken: no answer follows those that were given out
pub record IsOver (l : Line) (end : ReadEnd) (old new : SourceState) : Type 0 where
  pub piece : List ℕ
  pub ended : Bool
  pub stream : HearsStream (Spec.means (binds l)) (Spec.first (binds l)) (fed l ++ piece) ended l.given end
  pub few : length (fed l ++ piece) ≤ MAX_TAKEN
  pub gave : Gave piece old new
  pub met : MeetsEnd ended old new
  pub counts : CountsFault end old new

-- out of memory, at the last bytes that were taken: no answer follows those that were given out in the bytes before them
pub record LacksMemory (l : Line) (old new : SourceState) : Type 0 where
  pub piece : List ℕ
  pub last : List ℕ
  pub ending : Option ReadEnd
  pub heard : HeardBy (Spec.means (binds l)) (Spec.first (binds l)) (fed l ++ piece) l.given ending
  pub few : length ((fed l ++ piece) ++ last) ≤ MAX_TAKEN
  pub took : Took (piece ++ last) old new

-- one piece was heard, and no answer was given out
pub record HeardMore (l l' : Line) (piece : List ℕ) : Type 0 where
  pub same : binds l' ≡ binds l
  pub given_is : l'.given ≡ l.given
  pub fed_is : fed l' ≡ fed l ++ piece
  pub taken_is : l'.taken ≡ l.taken + length piece
  pub heard : IsHeard l'

-- the first answer that waited was given out
pub record Gives (l l' : Line) (answer : Answer) : Type 0 where
  pub same : binds l' ≡ binds l
  pub given_is : l'.given ≡ l.given ++ answer ∷ []
  pub fed_is : fed l' ≡ fed l
  pub heard : IsHeard l'

-- one read: bytes were heard, or the reading came out so
abbrev pub Reads : Result (Option ReadEnd) NoMemory → Line → Line → SourceState → SourceState → Type 0
Reads (Ok None) l l' old new = ReadOn l l' old new × (l.taken < l'.taken)
Reads (Ok (Some end)) l l' old new = IsOver l end old new
Reads (Err _) l l' old new = LacksMemory l old new

-- the next answer, or how the reading came out
abbrev pub Nexts : Result Next NoMemory → Line → Line → SourceState → SourceState → Type 0
Nexts (Ok (Answers a)) l l' old new = GivesOut l l' a old new
Nexts (Ok (Over end)) l l' old new = IsOver l end old new
Nexts (Err _) l l' old new = LacksMemory l old new
