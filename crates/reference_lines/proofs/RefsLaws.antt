-- What was read is a reference's text, or too long for one.
use Rattle.std.proofs.Common.{◌≡◌, ℕ, ◌+◌, ◌-◌, ◌≤◌, ◌<◌, Bool, true, false, cond, List, [], length, take, refl, subst, arith}
use Rattle.std.specs.Prelude.{IfSome, Result, Ok, Err}
use Rattle.std.proofs.lemmas.List.{length-take}
use Rattle.orb_base.specs.Outside.{SourceState, SinkState, Rose}
use Rattle.orb_base.specs.declared.no_memory.NoMemory.{NoMemory}
use Rattle.reference_lines.specs.declared.refs_end.RefsEnd.{RefsEnd}
use Rattle.reference_lines.specs.declared.refs_end.RefsEnd.TheVariants as end
use Rattle.text_streams.specs.Streams.{Gave, GaveFew}
use Rattle.reference_lines.specs.RefsText.{ends_line, text_of}
use Rattle.reference_lines.specs.Refs.{MetEnd, WritesLines, CutsOff, ReadsText, RefsBytes, Refs}

-- a text is shorter than its input by one byte at most
text_by : (input : List ℕ) (v : Bool) → length input ≤ length (cond v (take (length input - 1) input) input) + 1
text_by input true = omega (arith, length-take (length input - 1) input)
text_by input false = omega arith

long_text : (input : List ℕ) → length input ≤ length (text_of input) + 1
unfolding text_of
long_text input = text_by input (ends_line input)

-- more bytes came than an input may have
pub too_many : (s s' : SourceState) (o : SinkState) (bytes : List ℕ) → length bytes ≡ 65538 → Gave bytes s s'
    → Refs (Ok end.TooLong) s s' o o
too_many s s' o bytes many gave = record {
  bytes = bytes;
  gave = gave;
  few = omega arith;
  came = (omega (arith, long_text bytes), refl);
}

-- the whole input came, and its text is too long
pub too_long : (input text : List ℕ) (s s' : SourceState) (o : SinkState) → length input ≤ 65537
    → Gave input s s' → text ≡ text_of input → 65536 < length text → Refs (Ok end.TooLong) s s' o o
too_long input text s s' o few gave is long = record {
  bytes = input;
  gave = gave;
  few = omega arith;
  came = (subst (λ (t : List ℕ). 65536 < length t) is long, refl);
}

-- or was read
came_of : (answer : Result RefsEnd NoMemory) (input text : List ℕ) (s s' : SourceState) (o o' : SinkState)
    → MetEnd s s' → s'.faults ≡ s.faults → text ≡ text_of input → length text ≤ 65536
    → WritesLines answer text o o' → RefsBytes answer input s s' o o'
came_of (Ok end.Done) input text s s' o o' met none is short wrote =
    subst (λ (t : List ℕ). ReadsText (Ok end.Done) t s s' o o') is (met, none, short, wrote)
came_of (Ok (end.Refused f)) input text s s' o o' met none is short wrote =
    subst (λ (t : List ℕ). ReadsText (Ok (end.Refused f)) t s s' o o') is (met, none, short, wrote)
came_of (Ok end.WriteFault) input text s s' o o' met none is short wrote =
    subst (λ (t : List ℕ). ReadsText (Ok end.WriteFault) t s s' o o') is (met, none, short, wrote)
came_of (Ok end.TooLong) input text s s' o o' met none is short wrote = absurd wrote
came_of (Ok end.ReadFault) input text s s' o o' met none is short wrote = absurd wrote
came_of (Err e) input text s s' o o' met none is short wrote = (none, wrote)

pub read_text : (answer : Result RefsEnd NoMemory) (input text : List ℕ) (s s' : SourceState) (o o' : SinkState)
    → length input ≤ 65537 → Gave input s s' → MetEnd s s' → s'.faults ≡ s.faults → text ≡ text_of input
    → length text ≤ 65536 → WritesLines answer text o o' → Refs answer s s' o o'
read_text answer input text s s' o o' few gave met none is short wrote = record {
  bytes = input;
  gave = gave;
  few = omega arith;
  came = came_of answer input text s s' o o' met none is short wrote;
}

-- some bytes came before a fault
failed_so : (answer : RefsEnd) (input text : List ℕ) (s s' : SourceState) (o : SinkState)
    → s'.ends ≡ s.ends → Rose s.faults s'.faults → text ≡ text_of input → CutsOff answer text → RefsBytes (Ok answer) input s s' o o
failed_so end.TooLong input text s s' o no_end rose is cut = (subst (λ (t : List ℕ). 65536 < length t) is cut, refl)
failed_so end.ReadFault input text s s' o no_end rose is cut = (subst (λ (t : List ℕ). length t ≤ 65536) is cut, no_end, rose, refl)
failed_so end.Done input text s s' o no_end rose is cut = absurd cut
failed_so (end.Refused f) input text s s' o no_end rose is cut = absurd cut
failed_so end.WriteFault input text s s' o no_end rose is cut = absurd cut

pub failed : (answer : RefsEnd) (input text : List ℕ) (s s' : SourceState) (o : SinkState) → length input ≤ 65537
    → Gave input s s' → s'.ends ≡ s.ends → Rose s.faults s'.faults → text ≡ text_of input → CutsOff answer text
    → Refs (Ok answer) s s' o o
failed answer input text s s' o few gave no_end rose is cut = record {
  bytes = input;
  gave = gave;
  few = omega arith;
  came = failed_so answer input text s s' o no_end rose is cut;
}

-- or before memory was wanting
pub wanting : (e : NoMemory) (s s' : SourceState) (o : SinkState) → GaveFew 65538 s s' → s'.faults ≡ s.faults
    → Refs (Err e) s s' o o
wanting e s s' o few none = record {
  bytes = few.bytes;
  gave = few.gave;
  few = few.few;
  came = (none, refl);
}
