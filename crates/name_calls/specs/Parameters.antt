-- The parameters of requests to a name service: strings, one after the other (CORBA 3.0.3, sections 15.3 and 15.4.2.2). Bytes after
-- the last parameter mean nothing.
use Rattle.std.specs.Prelude.{ℕ, List, nat_le, ◌&&◌, Bool, length, Ok}
use Rattle.cdr_core.specs.Cursor.{Cursor, Reads}
use Rattle.cdr_core.specs.Reading.{string_at}
use Rattle.cdr_core.specs.Sequence.{◌>>=◌}
use Rattle.name_calls.specs.declared.limits.TheConstants.{MAX_KEY, MAX_TARGET}

-- two strings
unfoldable pub strings_at : Cursor → Reads (List ℕ × List ℕ)
strings_at c = string_at c >>= λ x. string_at x.1 >>= λ y. Ok ((x.0, y.0), y.1)

-- whether a key may be bound to a target: both are short, and the key isn't empty
abbrev pub keep_limits : List ℕ → List ℕ → Bool
keep_limits key target = nat_le 1 (length key) && (nat_le (length key) MAX_KEY && nat_le (length target) MAX_TARGET)
