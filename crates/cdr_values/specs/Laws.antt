-- What spelling and reading typed values have to do with each other: CORBA 3.0.3, section 15.3.
use Rattle.std.specs.Prelude.{◌≡◌, ◌+◌, ◌↔◌, ℕ, List, ◌++◌, length, IsTrue, Result, Ok, Err}
use Rattle.orb_base.specs.declared.order.Order.{Order}
use Rattle.cdr_core.specs.declared.fault.CdrFault.{CdrFault}
use Rattle.cdr_core.specs.Cursor.{Cursor, AreBytes, cursor}
use Rattle.cdr_values.specs.declared.fault.DecodeFault.{DecodeFault}
use Rattle.cdr_values.specs.declared.fault.DecodeFault.TheVariants.{Cdr, NoMemory}
use Rattle.cdr_values.specs.declared.value.IdlValue.{IdlValue}
use Rattle.cdr_values.specs.Trees.{Kind, Value}
use Rattle.cdr_values.specs.Values.{value_of}
use Rattle.cdr_values.specs.Passing.{Passed}
use Rattle.cdr_values.specs.Spelling.{fields_of}
use Rattle.cdr_values.specs.Spelling as spelling
use Rattle.cdr_values.specs.Lawful.{is_lawful}
use Rattle.cdr_values.specs.FirstFault.{Fails}
use Rattle.cdr_values.specs.Reading.{read}

-- a fault is the first one of the bytes; out of memory says nothing
abbrev pub IsFirst : DecodeFault → Kind → Cursor → Type 0
IsFirst (Cdr f) k c = Fails k c f
IsFirst NoMemory k c = Unit {0}

-- the answer is this value and so many bytes, or out of memory
abbrev pub IsThat : Result (IdlValue × ℕ) DecodeFault → Value → ℕ → Type 0
IsThat (Ok x) v n = (value_of x.0 ≡ v) × (x.1 ≡ n)
IsThat (Err (Cdr f)) v n = ⊥
IsThat (Err NoMemory) v n = Unit {0}

-- the answer is this fault, or out of memory
abbrev pub IsFault : Result (IdlValue × ℕ) DecodeFault → CdrFault → Type 0
IsFault (Ok x) f = ⊥
IsFault (Err (Cdr g)) f = g ≡ f
IsFault (Err NoMemory) f = Unit {0}

-- where a prefix of the bytes spells a value of a lawful type, that value and that prefix are the answer
abbrev pub AnswersOnly : Result (IdlValue × ℕ) DecodeFault → Order → ℕ → Kind → List ℕ → Type 0
AnswersOnly result order place k bytes =
    IsTrue (is_lawful k) → (v : Value) (front behind : List ℕ) → spelling.Cdr order place k v front → bytes ≡ front ++ behind → IsThat result v (length front)

-- where no value of a lawful type comes before, for this first fault, that fault is the answer
abbrev pub TellsFirst : Result (IdlValue × ℕ) DecodeFault → Order → ℕ → Kind → List ℕ → Type 0
TellsFirst result order place k bytes = IsTrue (is_lawful k) → (f : CdrFault) → Fails k (cursor order place bytes) f → IsFault result f

-- in one order, at one place and of one lawful type at most one value is spelled by a prefix of the bytes, and one prefix
-- spells it
abbrev pub ReadsOneWay : Type 0
ReadsOneWay = (order : Order) (place : ℕ) (k : Kind) (v w : Value) (x y behind_x behind_y : List ℕ) → IsTrue (is_lawful k)
    → spelling.Cdr order place k v x → spelling.Cdr order place k w y → x ++ behind_x ≡ y ++ behind_y → (v ≡ w) × (x ≡ y)

-- what is spelled, with pads of any content, is read back as that value, whatever follows
abbrev pub ReadsBack : Type 0
ReadsBack = (order : Order) (place : ℕ) (k : Kind) (v : Value) (x behind : List ℕ) → IsTrue (is_lawful k) → spelling.Cdr order place k v x
    → read k (cursor order place (x ++ behind)) ≡ Ok (v, cursor order (place + length x) behind)

-- a reading answers a value exactly where the bytes before spell it, and a fault exactly where it is the first
pub record IsExact (k : Kind) (c : Cursor) : Type 0 where
  pub found : (v : Value) (d : Cursor) → (read k c ≡ Ok (v, d)) ↔ Passed c d (fields_of v k)
  pub fails : (f : CdrFault) → (read k c ≡ Err f) ↔ Fails k c f

-- so it is for every lawful type, from each place in bytes
abbrev pub ReadsExactly : Type 0
ReadsExactly = (k : Kind) (c : Cursor) → IsTrue (is_lawful k) → AreBytes c.rest → IsExact k c
