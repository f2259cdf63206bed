-- Which values a type has: CORBA 3.0.3, chapter 3, constant declarations and basic types.
use Rattle.std.specs.Prelude.{◌≡◌, ◌≤◌, ℕ, ℤ, pos, negsuc, ◌==◌, ◌&&◌, ◌||◌, nat_le, int_le, Bool, List, length, Result, Ok, Err, if◌then◌else◌}
use Rattle.std.specs.Str.{bytes_eq}
use Rattle.cdr_values.specs.Trees.{size1, size2, size4, size8, boolean, char, unsigned, signed, enumeration, Scalar, Kind, scalar, words}
use Rattle.idl_constants.specs.ConstValues.{Value, number, character, text, truth, choice}
use Rattle.idl_constants.specs.declared.misfit.Misfit.{Misfit}
use Rattle.idl_constants.specs.declared.misfit.Misfit.TheVariants.{WrongKind, OutOfRange}

-- it fits, or it doesn't and why
abbrev pub Fit : Type 0
Fit = Result (Unit {0}) Misfit

-- a number from the one to the other
abbrev pub between : ℤ → ℤ → ℤ → Fit
between low high z = if int_le low z && int_le z high then Ok tt else Err OutOfRange

-- a number within these ends; any other value is of another kind
abbrev pub fit_number : ℤ → ℤ → Value → Fit
fit_number low high (number z) = between low high z
fit_number low high value = Err WrongKind

-- TRUE or FALSE
abbrev pub fit_truth : Value → Fit
fit_truth (truth b) = Ok tt
fit_truth value = Err WrongKind

-- one character
abbrev pub fit_character : Value → Fit
fit_character (character c) = Ok tt
fit_character value = Err WrongKind

-- so many bytes against a bound, where 0 is none
abbrev pub within : ℕ → ℕ → Fit
within bound len = if bound == 0 || nat_le len bound then Ok tt else Err OutOfRange

-- a text of at most so many bytes
abbrev pub fit_text : ℕ → Value → Fit
fit_text bound (text t) = within bound (length t)
fit_text bound value = Err WrongKind

-- enumerators of one enum
abbrev pub same_enum : List ℕ → List ℕ → Fit
same_enum id of = if bytes_eq id of then Ok tt else Err WrongKind

-- an enumerator of the enum with this id
abbrev pub fit_choice : List ℕ → Value → Fit
fit_choice id (choice of n) = same_enum id of
fit_choice id value = Err WrongKind

-- the values of a type
abbrev pub fit_scalar : Scalar → Value → Fit
fit_scalar boolean value = fit_truth value
fit_scalar char value = fit_character value
fit_scalar (unsigned size1) value = fit_number (pos 0) (pos 255) value
fit_scalar (unsigned size2) value = fit_number (pos 0) (pos 65535) value
fit_scalar (unsigned size4) value = fit_number (pos 0) (pos 4294967295) value
fit_scalar (unsigned size8) value = fit_number (pos 0) (pos 18446744073709551615) value
fit_scalar (signed size1) value = Err WrongKind
fit_scalar (signed size2) value = fit_number (negsuc 32767) (pos 32767) value
fit_scalar (signed size4) value = fit_number (negsuc 2147483647) (pos 2147483647) value
fit_scalar (signed size8) value = fit_number (negsuc 9223372036854775807) (pos 9223372036854775807) value
fit_scalar (enumeration id labels) value = fit_choice id value

-- the values of a scalar, or texts within a bound; no other type has constants
abbrev pub fit : Kind → Value → Fit
fit (scalar k) value = fit_scalar k value
fit (words bound) value = fit_text bound value
fit kind value = Err WrongKind

-- a bound or a length is a number from 1 to 65,536
abbrev pub IsBound : Result ℕ Misfit → Value → Type 0
IsBound (Ok n) value = (value ≡ number (pos n)) × (1 ≤ n) × (n ≤ 65536)
IsBound (Err misfit) value = fit_number (pos 1) (pos 65536) value ≡ Err misfit
