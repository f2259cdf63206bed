-- Where nothing failed, nothing was left out.
use Rattle.std.proofs.Common.{◌≡◌, ◌≢◌, inl, inr, ℕ, List, refl, sym, subst}
use Rattle.orb_base.specs.Outside.{SourceState, SinkState, Rose}
use Rattle.heard_messages.specs.declared.read_end.ReadEnd.{ReadEnd}
use Rattle.heard_messages.specs.declared.read_end.ReadEnd.TheVariants.{Ended, Cut, Broken, Spent, ReadFault}
use Rattle.halls.specs.Laws.{NothingIsLeftOut}
use Rattle.halls.specs.Sides.{FaultsBy, Says, SaysLast}
use Rattle.halls.specs.Steps.{Step, Making, StopsAtLast}
use Rattle.halls.specs.declared.ends.HallRead.TheVariants as read
use Rattle.halls.specs.declared.ends.HallWrite.{HallWrite}
use Rattle.halls.specs.declared.ends.HallWrite.TheVariants as write

-- how a writing comes out isn't a failed write where it is another
done_not : (w : HallWrite) → w ≡ write.Done → w ≢ write.WriteFault
done_not w is h = absurd (cc)

closed_not : (w : HallWrite) → w ≡ write.Closed → w ≢ write.WriteFault
closed_not w is h = absurd (cc)

error_not : (w : HallWrite) → w ≡ write.Error → w ≢ write.WriteFault
error_not w is h = absurd (cc)

-- the count of faults of the sink, which no write before the last message raised
later : (old mid new : SinkState) → mid.faults ≡ old.faults → Rose mid.faults new.faults → Rose old.faults new.faults
later old mid new same rose = subst (λ (n : ℕ). Rose n new.faults) same rose

says_closed : (bytes : List ℕ) (w : HallWrite) (mid new : SinkState) → Says write.Closed bytes w mid new → (¬ Rose mid.faults new.faults) → w ≢ write.WriteFault
says_closed bytes w mid new (inl s) none = closed_not w s.0
says_closed bytes w mid new (inr s) none = absurd (none s.1.1)

says_error : (bytes : List ℕ) (w : HallWrite) (mid new : SinkState) → Says write.Error bytes w mid new → (¬ Rose mid.faults new.faults) → w ≢ write.WriteFault
says_error bytes w mid new (inl s) none = error_not w s.0
says_error bytes w mid new (inr s) none = absurd (none s.1.1)

says_well : (end : ReadEnd) (w : HallWrite) (mid new : SinkState) → SaysLast (read.Read end) w mid new → (¬ Rose mid.faults new.faults) → w ≢ write.WriteFault
says_well Ended w mid new s none = done_not w s.0
says_well (Cut offset) w mid new s none = done_not w s.0
says_well (Broken offset fault) w mid new s none = says_error _ w mid new s none
says_well Spent w mid new s none = says_closed _ w mid new s none
says_well ReadFault w mid new s none = done_not w s.0

no_fault_of : (end : ReadEnd) (from to : SourceState) → FaultsBy (read.Read end) from to → (¬ Rose from.faults to.faults) → end ≢ ReadFault
no_fault_of Ended from to f none h = absurd (cc)
no_fault_of (Cut offset) from to f none h = absurd (cc)
no_fault_of (Broken offset fault) from to f none h = absurd (cc)
no_fault_of Spent from to f none h = absurd (cc)
no_fault_of ReadFault from to f none h = absurd (none f)

stops_not : (old new : Making) (last : SinkState) (steps : List Step) → StopsAtLast steps old (record { hand = new.hand; sink = last }) → new.sink ≡ last
    → (¬ Rose old.sink.faults new.sink.faults) → ⊥
stops_not old new last steps x same none =
    none (subst (λ (s : SinkState). Rose old.sink.faults s.faults) (sym same) (later old.sink x.mid.sink last x.makes.wrote.1 x.wrote.1))

pub nothing_left_out : NothingIsLeftOut
nothing_left_out (read.Read end, w) setup conn from to old new s no_read no_write going enough = record {
  end = end;
  comes = refl;
  no_read_fault = no_fault_of end from to s.reads.faults no_read;
  no_write_fault = says_well end w s.mid new.sink s.says (λ rose. no_write (later old.sink s.mid new.sink s.reads.takes.made.wrote.1 rose));
  bytes = s.reads.bytes;
  gave = s.reads.takes_bytes.gave;
  ended = s.reads.ended;
  calls = s.reads.calls;
  hears = s.reads.hears;
  steps = s.reads.takes.steps;
  calls_are = s.reads.takes.calls_by;
  mid = s.mid;
  made = s.reads.takes.made;
}
nothing_left_out (read.RunClosed, w) setup conn from to old new s no_read no_write going enough = absurd (going refl)
nothing_left_out (read.NoMemory, w) setup conn from to old new s no_read no_write going enough = absurd (enough refl)
nothing_left_out (read.Stopped, w) setup conn from to old new s no_read no_write going enough =
    absurd (stops_not old new s.mid s.reads.takes.steps s.reads.takes.made s.says.1 no_write)
