-- What further bytes do to a dump.
use Rattle.std.specs.Prelude.{◌≡◌, ℕ, List, ◌++◌, Some}
use Rattle.giop_messages.specs.Front.{IsFront}
use Rattle.giop_dump.specs.declared.refusal.Refusal.{Refusal}
use Rattle.giop_dump.specs.Ending.{refusal_of, dumped, dump_text}

-- the text of some bytes begins the text of all bytes that go on from them
abbrev pub TextGrows : Type 0
TextGrows = (bytes more : List ℕ) → IsFront (dump_text bytes) (dump_text (bytes ++ more))

-- what refuses some bytes refuses all bytes that go on from them, and no line is added
abbrev pub RefusalStays : Type 0
RefusalStays = (bytes more : List ℕ) (r : Refusal) → refusal_of (dumped bytes) ≡ Some r
    → (refusal_of (dumped (bytes ++ more)) ≡ Some r) × (dump_text (bytes ++ more) ≡ dump_text bytes)
