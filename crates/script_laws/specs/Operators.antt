-- Operators on values of the kinds that they are for, and on no others.
use Rattle.std.specs.Prelude.{ℕ, ℤ, pos, ◌+ℤ◌, ◌-ℤ◌, ◌*ℤ◌, neg_ℤ, int_lt, int_le, Bool, true, false, not, length, nat_eq, Some, None, Ok, if◌then◌else◌, slice_get}
use Rattle.std.specs.Str.{bytes_eq}
use Rattle.std.specs.Ordering.{int_eq}
use Rattle.script_grammar.specs.declared.operator.Unary.{Unary}
use Rattle.script_grammar.specs.declared.operator.Unary.TheVariants.{Negate, Not, Len, Group}
use Rattle.script_grammar.specs.declared.operator.Binary.{Binary}
use Rattle.script_grammar.specs.declared.operator.Binary.TheVariants as op
use Rattle.cdr_values.specs.Trees.{Value, truth, number, letter, text, items, label, Values, list_of}
use Rattle.script_values.specs.Operations.{checked, divided, remainder, as_value, place_in, item_at}
use Rattle.script_laws.specs.Defined.{Defined, ◌and_then◌, there}

-- a truth
abbrev pub told : Bool → Defined Value
told b = Some (Ok (truth b))

-- minus is for numbers, `!` for truths, `len` for texts and lists, and parentheses for every value
abbrev pub defined_unary : Unary → Value → Defined Value
defined_unary Negate (number z) = Some (as_value (checked (neg_ℤ z)))
defined_unary Not (truth b) = told (not b)
defined_unary Len (text t) = Some (Ok (number (pos (length t))))
defined_unary Len (items vs) = Some (Ok (number (pos (length (list_of vs)))))
defined_unary Group v = Some (Ok v)
defined_unary _ _ = None

-- of two numbers: the five that count, within 128 bits, and the six that compare
abbrev pub of_numbers : Binary → ℤ → ℤ → Defined Value
of_numbers op.Add a b = Some (as_value (checked (a +ℤ b)))
of_numbers op.Subtract a b = Some (as_value (checked (a -ℤ b)))
of_numbers op.Multiply a b = Some (as_value (checked (a *ℤ b)))
of_numbers op.Divide a b = Some (as_value (divided a b))
of_numbers op.Remainder a b = Some (as_value (remainder a b))
of_numbers op.Same a b = told (int_eq a b)
of_numbers op.Differs a b = told (not (int_eq a b))
of_numbers op.Less a b = told (int_lt a b)
of_numbers op.AtMost a b = told (int_le a b)
of_numbers op.Greater a b = told (int_lt b a)
of_numbers op.AtLeast a b = told (int_le b a)
of_numbers _ a b = None

-- of two that are the same, or not: `==` and `!=` alone
abbrev pub of_alike : Binary → Bool → Defined Value
of_alike op.Same b = told b
of_alike op.Differs b = told (not b)
of_alike _ b = None

-- of a list and a number: the item at that index, or the limit that there is none
abbrev pub of_list : Binary → Values → Value → Defined Value
of_list op.Index vs (number z) = Some (item_at (list_of vs) (place_in z (length (list_of vs))))
of_list _ vs v = None

-- of two values of one kind, or of a list and a number
abbrev pub defined_binary : Binary → Value → Value → Defined Value
defined_binary o (number a) (number b) = of_numbers o a b
defined_binary o (truth a) (truth b) = of_alike o (if a then b else not b)
defined_binary o (text a) (text b) = of_alike o (bytes_eq a b)
defined_binary o (letter a) (letter b) = of_alike o (nat_eq a b)
defined_binary o (label a) (label b) = of_alike o (nat_eq a b)
defined_binary o (items vs) v = of_list o vs v
defined_binary _ _ _ = None

-- a truth, and no other value
abbrev pub as_told : Value → Defined Value
as_told (truth b) = told b
as_told _ = None

-- `&&` and `||` are for truths, and ask the second only where the first doesn't decide; other operators ask both
abbrev pub defined_beside : Binary → Defined Value → Value → Defined Value
defined_beside op.And b (truth x) = if x then b and_then as_told else told false
defined_beside op.And b _ = None
defined_beside op.Or b (truth x) = if x then told true else b and_then as_told
defined_beside op.Or b _ = None
defined_beside o b x = b and_then defined_binary o x

-- the member at an index, which is there
abbrev pub defined_member : ℕ → Value → Defined Value
defined_member n (items vs) = there (slice_get (list_of vs) n)
defined_member n _ = None
