-- A value that is taken at a place modulo 8 is that of the reading at the place.
use Rattle.std.proofs.Common.{◌≡◌, ℕ, ◌+◌, ◌%◌, drop, Ok, Err, refl, sym, ap, ◌∙◌, arith}
use Rattle.cdr_core.specs.declared.fault.CdrFault.{CdrFault}
use Rattle.cdr_core.specs.Cursor.{Cursor, cursor, Reads}
use Rattle.cdr_core.proofs.CallerLemmas.{ok_is}
use Rattle.cdr_values.specs.Trees.{Kind, Value}
use Rattle.cdr_values.specs.Reading.{read}
use Rattle.cdr_values.specs.Gives.{Refuses}
use Rattle.cdr_values.specs.declared.fault.DecodeFault.{DecodeFault}
use Rattle.cdr_values.specs.declared.fault.DecodeFault.TheVariants.{Cdr, NoMemory}
use Rattle.dynamic_servants.specs.declared.body.Body.{Body}
use Rattle.dynamic_servants.specs.Beginning.{StandsAt, Unread}
use Rattle.dynamic_servants.proofs.Eighths.{Alike, moved, read_turns}

here_is : (b : Body) (c : Cursor) → StandsAt b c → moved b.place c ≡ cursor b.order b.place b.rest.now
here_is b c at = rw (at.order, at.rest) refl

near : (b : Body) (c : Cursor) → StandsAt b c → b.place % 8 ≡ c.place % 8
near b c at = let e = at.place in omega (arith, e)

-- what one of two alike gives, the other gives at its own place
given : {A : Type 0} (r s : Reads A) (v : A) (d : Cursor) → Alike r s → s ≡ Ok (v, d) → (e : Cursor) × (r ≡ Ok (v, e)) × (d.order ≡ e.order) × (d.rest ≡ e.rest) × (d.place % 8 ≡ e.place % 8)
given {A} (Ok x) (Ok y) v d h is =
    let same : (v, d) ≡ (x.0, moved h.0 x.1) = sym (ok_is y (v, d) is) ∙ h.2 in
    let cursors : d ≡ moved h.0 x.1 = ap (λ (z : A × Cursor). z.1) same in (
      x.1,
      ap (λ (a : A). Ok (a, x.1)) (sym (ap (λ (z : A × Cursor). z.0) same)),
      ap (λ (z : Cursor). z.order) cursors,
      ap (λ (z : Cursor). z.rest) cursors,
      ap (λ (z : Cursor). z.place % 8) cursors ∙ h.1,
    )
given (Ok x) (Err f) v d h is = absurd h
given (Err e) (Ok y) v d h is = absurd h
given (Err e) (Err f) v d h is = absurd cc

refused : {A : Type 0} (r s : Reads A) (f : CdrFault) → Alike r s → s ≡ Err f → (g : CdrFault) × (r ≡ Err g)
refused (Ok x) (Ok y) f h is = absurd cc
refused (Ok x) (Err e) f h is = absurd h
refused (Err e) (Ok y) f h is = absurd h
refused (Err e) (Err g) f h is = (e, refl)

pub untaken : (e : DecodeFault) (k : Kind) (b : Body) (c : Cursor) → StandsAt b c → Refuses e (read k (cursor b.order b.place b.rest.now)) → Unread e (read k c)
untaken NoMemory k b c at h = tt
untaken (Cdr f) k b c at h = refused (read k c) (read k (moved b.place c)) f (read_turns k c b.place (near b c at)) (ap (read k) (here_is b c at) ∙ h)

pub taken : (v : Value) (n : ℕ) (k : Kind) (b new : Body) (c : Cursor) → StandsAt b c
    → read k (cursor b.order b.place b.rest.now) ≡ Ok (v, cursor b.order (b.place + n) (drop n b.rest.now))
    → new.order ≡ b.order → new.place ≡ (b.place + n) % 8 → new.rest.now ≡ drop n b.rest.now
    → (d : Cursor) × (read k c ≡ Ok (v, d)) × StandsAt new d
taken v n k b new c at is order place rest =
    let h = given (read k c) (read k (moved b.place c)) v (cursor b.order (b.place + n) (drop n b.rest.now)) (read_turns k c b.place (near b c at)) (ap (read k) (here_is b c at) ∙ is) in
    (h.0, h.1, record { order = sym h.2 ∙ sym order; rest = sym h.3 ∙ sym rest; place = place ∙ h.4 })
