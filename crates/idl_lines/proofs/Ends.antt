-- What comes of a file, by what was read and written.
use Rattle.std.proofs.Common.{◌≡◌, List, subst, sym}
use Rattle.std.specs.Prelude.{Result, Ok, Err}
use Rattle.orb_base.specs.Outside.{SinkState}
use Rattle.idl_grammar.specs.declared.fault.IdlFault.{IdlFault}
use Rattle.idl_types.specs.Things.{Thing}
use Rattle.idl_lines.specs.declared.idl_end.IdlEnd.{IdlEnd}
use Rattle.idl_lines.specs.declared.idl_end.IdlEnd.TheVariants.{Done, Refused, Absent, TooLong, ReadFault, WriteFault, NoMemory}
use Rattle.idl_lines.specs.Texts.{OnlyReads, ReadsExactly}
use Rattle.idl_lines.specs.Ending.{Ends, ListsExactly, OnlyLists}

-- where things are declared that were read, their listing was written
pub only_of : (end : IdlEnd) (read things : List Thing) (out out' : SinkState) → read ≡ things → Ends end read out out' → OnlyLists end things out out'
only_of end read things out out' e h =
    let P : List Thing → Type 0 = λ (ts : List Thing). OnlyLists end ts out out' in
    subst P e (from_ends end h)
  where
    from_ends : (end : IdlEnd) → Ends end read out out' → OnlyLists end read out out'
    from_ends Done h = h.0
    from_ends WriteFault h = h.0
    from_ends NoMemory h = tt
    from_ends (Refused f) h = absurd h
    from_ends Absent h = absurd h
    from_ends TooLong h = absurd h
    from_ends ReadFault h = absurd h

-- or the store failed, or memory was wanting
pub only_none : (end : IdlEnd) (things : List Thing) (out out' : SinkState) → OnlyReads (Err end) things → OnlyLists end things out out'
only_none Done things out out' h = absurd h
only_none WriteFault things out out' h = absurd h
only_none (Refused f) things out out' h = absurd h
only_none Absent things out out' h = absurd h
only_none TooLong things out out' h = absurd h
only_none ReadFault things out out' h = tt
only_none NoMemory things out out' h = tt

-- what reading by the grammar gives is listed
pub exact_of : (end : IdlEnd) (read : List Thing) (asked : Result (List Thing) IdlFault) (out out' : SinkState) → asked ≡ Ok read
    → Ends end read out out' → ListsExactly end asked out out'
exact_of end read asked out out' e h =
    let P : Result (List Thing) IdlFault → Type 0 = λ (r : Result (List Thing) IdlFault). ListsExactly end r out out' in
    subst P (sym e) (from_ends end h)
  where
    from_ends : (end : IdlEnd) → Ends end read out out' → ListsExactly end (Ok read) out out'
    from_ends Done h = h.0
    from_ends WriteFault h = h.0
    from_ends NoMemory h = tt
    from_ends (Refused f) h = absurd h
    from_ends Absent h = absurd h
    from_ends TooLong h = absurd h
    from_ends ReadFault h = absurd h

-- or its fault is given
pub exact_none : (end : IdlEnd) (asked : Result (List Thing) IdlFault) (out out' : SinkState) → ReadsExactly (Err end) asked → ListsExactly end asked out out'
exact_none Done asked out out' h = absurd h
exact_none WriteFault asked out out' h = absurd h
exact_none (Refused f) asked out out' h = h
exact_none Absent asked out out' h = absurd h
exact_none TooLong asked out out' h = absurd h
exact_none ReadFault asked out out' h = tt
exact_none NoMemory asked out out' h = tt
