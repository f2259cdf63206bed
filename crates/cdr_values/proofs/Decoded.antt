-- What a decoding answers, by the reading.
use Rattle.std.proofs.Common.{◌≡◌, ℕ, ◌+◌, ◌-◌, ◌≤◌, List, ◌++◌, length, take, drop, Ok, refl, sym, ap, subst, ◌∙◌, arith, length-append}
use Rattle.std.proofs.lemmas.List.{take_at, drop_at}
use Rattle.orb_base.specs.declared.order.Order.{Order}
use Rattle.cdr_core.specs.Cursor.{Cursor, AreBytes, Reads, cursor}
use Rattle.cdr_values.specs.Trees.{Kind, Value}
use Rattle.cdr_values.specs.Spelling.{Cdr}
use Rattle.cdr_values.specs.Reading.{read}
use Rattle.cdr_values.proofs.Taking.{read_takes}

-- the reading stops so many bytes on, and those spell the value
pub record Stops (order : Order) (at : ℕ) (k : Kind) (v : Value) (bytes : List ℕ) (d : Cursor) : Type 0 where
  pub far : at ≤ d.place
  pub within : d.place - at ≤ length bytes
  pub is : read k (cursor order at bytes) ≡ Ok (v, cursor order (at + (d.place - at)) (drop (d.place - at) bytes))
  pub spelled : Cdr order at k v (take (d.place - at) bytes)

abbrev answer : Value → Cursor → Reads Value
answer v d = Ok (v, d)

pub stops : (order : Order) (at : ℕ) (k : Kind) (v : Value) (bytes : List ℕ) (d : Cursor) → AreBytes bytes → read k (cursor order at bytes) ≡ Ok (v, d) → Stops order at k v bytes d
stops order at k v bytes d fits e =
    let p = read_takes k (cursor order at bytes) v d fits e in
    let s = p.spans in
    let n = d.place - at in
    let len : length s.spelling ≡ n = omega (arith, s.place) in
    let front : take n bytes ≡ s.spelling = ap (take n) s.parts ∙ take_at s.spelling d.rest n len in
    let rest : drop n bytes ≡ d.rest = ap (drop n) s.parts ∙ drop_at s.spelling d.rest n len in
    let place : at + n ≡ d.place = omega (arith, s.place) in
    record {
      far = omega (arith, s.place);
      within = omega (arith, len, ap length s.parts, length-append s.spelling d.rest);
      is = rw (rest, place) (e ∙ ap (λ (o : Order). answer v (cursor o d.place d.rest)) s.order);
      spelled = rw front (p.fields, p.asks, s.spelled);
    }
