-- Where a count was, told by where the reader is after it.
use Rattle.std.proofs.Common.{◌≡◌, ℕ, ◌+◌, ◌-◌, ◌≤◌, List, ◌∷◌, [], length, sym, ◌∙◌, arith}
use Rattle.std.specs.Int.{w32}
use Rattle.std.proofs.lemmas.List.{length_push}
use Rattle.cdr_core.specs.Cursor.{Cursor, aligned}
use Rattle.cdr_core.specs.Field.{number, string_fields}
use Rattle.cdr_core.specs.Basic.{unsigned, text}
use Rattle.cdr_core.specs.Passing.{Passes}
use Rattle.cdr_core.proofs.Spelled.{length-spelled, pad_one}

pub record Behind (c d : Cursor) (n : ℕ) : Type 0 where
  pub far : n ≤ d.place
  pub place : aligned 4 c.place ≡ d.place - n

pub behind_number : (c d : Cursor) (n : ℕ) → Passes c d (unsigned w32 n) → Behind c d 4
behind_number c d n p =
    let s = p.spans in
    let len = length-spelled c.order c.place (number w32 n ∷ []) s.spelling s.spelled in
    record { far = omega (arith, len, s.place); place = omega (arith, len, s.place) }

pub behind_text : (c d : Cursor) (t : List ℕ) → Passes c d (text t) → Behind c d (length t + 5)
behind_text c d t p =
    let s = p.spans in
    let len = length-spelled c.order c.place (string_fields t) s.spelling s.spelled in
    let one = pad_one (aligned 4 c.place + 4) in
    let more = length_push t 0 in
    record { far = omega (arith, len, s.place, one, more); place = omega (arith, len, s.place, one, more) }
