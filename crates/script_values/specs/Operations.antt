-- What operations give. The check leaves no operation at a value of another kind; there any value is.
use Rattle.std.specs.Prelude.{ℕ, ℤ, pos, negsuc, ◌+ℤ◌, ◌-ℤ◌, ◌*ℤ◌, neg_ℤ, ◌^◌, int_div, int_rem, int_lt, int_le, Bool, false, not, List, [], ◌∷◌, length, nat_lt, nat_eq, Result, Ok, Err, Option, Some, None, if◌then◌else◌, slice_get}
use Rattle.std.specs.Str.{bytes_eq}
use Rattle.std.specs.Ordering.{int_eq}
use Rattle.script_grammar.specs.declared.operator.Unary.{Unary}
use Rattle.script_grammar.specs.declared.operator.Unary.TheVariants.{Negate, Not, Len, Group}
use Rattle.script_grammar.specs.declared.operator.Binary.{Binary}
use Rattle.script_grammar.specs.declared.operator.Binary.TheVariants as op
use Rattle.cdr_values.specs.Trees.{Value, truth, number, letter, text, items, chosen, label, Values, list_of}
use Rattle.script_values.specs.declared.limit.Limit.{Limit}
use Rattle.script_values.specs.declared.limit.Limit.TheVariants.{Arithmetic, Index}

-- what comes of it: this, or a limit is met
abbrev pub Comes : Type 0 → Type 0
Comes A = Result A Limit

infixl 10 ◌>>=◌
-- the second is asked of what the first gave
abbrev pub ◌>>=◌ : {A B : Type 0} → Comes A → (A → Comes B) → Comes B
(Ok x) >>= f = f x
(Err e) >>= f = Err e

-- ---- what a value is taken for

-- a number, and 0 for any other value
abbrev pub as_number : Value → ℤ
as_number (number z) = z
as_number (truth b) = pos 0
as_number (letter n) = pos 0
as_number (text t) = pos 0
as_number (items vs) = pos 0
as_number (chosen z vs) = pos 0
as_number (label n) = pos 0

-- a truth, and FALSE for any other value
abbrev pub as_truth : Value → Bool
as_truth (truth b) = b
as_truth (number z) = false
as_truth (letter n) = false
as_truth (text t) = false
as_truth (items vs) = false
as_truth (chosen z vs) = false
as_truth (label n) = false

-- the items of a value, and none of any other value
abbrev pub as_items : Value → List Value
as_items (items vs) = list_of vs
as_items (truth b) = []
as_items (number z) = []
as_items (letter n) = []
as_items (text t) = []
as_items (chosen z vs) = []
as_items (label n) = []

-- what stands for no value
abbrev pub blank : Value
blank = truth false

-- a value, or what stands for none
abbrev pub or_blank : Option Value → Value
or_blank (Some v) = v
or_blank None = blank

-- ---- numbers of 128 bits

-- from -2^127 to 2^127 - 1
abbrev pub in_range : ℤ → Bool
in_range (pos n) = nat_lt n (2 ^ 127)
in_range (negsuc n) = nat_lt n (2 ^ 127)

-- a number in this range
unfoldable pub checked : ℤ → Comes ℤ
checked z = if in_range z then Ok z else Err Arithmetic

-- a quotient, toward zero
unfoldable pub divided : ℤ → ℤ → Comes ℤ
divided a b = if int_eq b (pos 0) then Err Arithmetic else checked (int_div a b)

-- a remainder, with the dividend's sign
unfoldable pub remainder : ℤ → ℤ → Comes ℤ
remainder a b = if int_eq b (pos 0) then Err Arithmetic else Ok (int_rem a b)

-- a number as a value
abbrev pub as_value : Comes ℤ → Comes Value
as_value z = z >>= λ n. Ok (number n)

-- ---- operations

-- how many bytes a text has, or items a list
abbrev pub len_of : Value → ℕ
len_of (text t) = length t
len_of (items vs) = length (list_of vs)
len_of _ = 0

-- the value at an index
abbrev pub member_at : List Value → ℕ → Value
member_at vs n = or_blank (slice_get vs n)

-- what an operator of one operand gives
abbrev pub applied : Unary → Value → Comes Value
applied Negate v = as_value (checked (neg_ℤ (as_number v)))
applied Not v = Ok (truth (not (as_truth v)))
applied Len v = Ok (number (pos (len_of v)))
applied Group v = Ok v

-- whether two values of one kind are the same
abbrev pub same : Value → Value → Bool
same (number a) (number b) = int_eq a b
same (truth a) (truth b) = if a then b else not b
same (text a) (text b) = bytes_eq a b
same (letter a) (letter b) = nat_eq a b
same (label a) (label b) = nat_eq a b
same _ _ = false

-- an index from 0, where it is inside
abbrev pub place_in : ℤ → ℕ → Option ℕ
place_in (pos n) len = if nat_lt n len then Some n else None
place_in (negsuc n) len = None

-- a value that is there
abbrev pub found : Option Value → Comes Value
found (Some v) = Ok v
found None = Err Index

-- the item at an index
abbrev pub item_at : List Value → Option ℕ → Comes Value
item_at vs (Some n) = found (slice_get vs n)
item_at vs None = Err Index

-- the number that an operator makes of two
abbrev pub computed : Binary → ℤ → ℤ → Comes ℤ
computed op.Add a b = checked (a +ℤ b)
computed op.Subtract a b = checked (a -ℤ b)
computed op.Multiply a b = checked (a *ℤ b)
computed op.Divide a b = divided a b
computed op.Remainder a b = remainder a b
computed _ a b = Ok (pos 0)

-- the truth that an operator makes of two values
abbrev pub compared : Binary → Value → Value → Bool
compared op.Same a b = same a b
compared op.Differs a b = not (same a b)
compared op.Less a b = int_lt (as_number a) (as_number b)
compared op.AtMost a b = int_le (as_number a) (as_number b)
compared op.Greater a b = int_lt (as_number b) (as_number a)
compared op.AtLeast a b = int_le (as_number b) (as_number a)
compared _ a b = false

-- the item of a list at a number
abbrev pub indexed : Value → Value → Comes Value
indexed a b = item_at (as_items a) (place_in (as_number b) (length (as_items a)))

-- what an operator of two operands gives
abbrev pub joined : Binary → Value → Value → Comes Value
joined op.Add a b = as_value (computed op.Add (as_number a) (as_number b))
joined op.Subtract a b = as_value (computed op.Subtract (as_number a) (as_number b))
joined op.Multiply a b = as_value (computed op.Multiply (as_number a) (as_number b))
joined op.Divide a b = as_value (computed op.Divide (as_number a) (as_number b))
joined op.Remainder a b = as_value (computed op.Remainder (as_number a) (as_number b))
joined op.Index a b = indexed a b
joined o a b = Ok (truth (compared o a b))
