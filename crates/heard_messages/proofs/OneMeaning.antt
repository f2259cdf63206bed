-- Messages mean one thing, and later ones add to it.
use Rattle.std.proofs.Common.{◌≡◌, ℕ, ◌+◌, List, [], ◌∷◌, ◌++◌, length, Option, Some, None, refl, sym, ap, ◌∙◌, subst, arith, append_assoc, length-append}
use Rattle.std.specs.Prelude.{option_to_list}
use Rattle.orb_base.specs.declared.order.Order.{Order}
use Rattle.giop_frames.specs.Messages as Frames
use Rattle.giop_messages.specs.Message.{Message}
use Rattle.heard_messages.specs.Hearing.{Meaning, after_calls, HearsOn, IsOneWay, Hears}
use Rattle.heard_messages.specs.Laws.{GoesOn}
use Rattle.heard_messages.specs.declared.means.Means.{Means}
use Rattle.heard_messages.specs.declared.means.Means.TheVariants.{Goes, Ends, Breaks}
use Rattle.heard_messages.specs.declared.read_end.ReadEnd.{ReadEnd}
use Rattle.heard_messages.proofs.Messages.{meant_one}

module _ {B C : Type 0} (means : B → ℕ → Order → ℕ → Message → Means B C → Type 0) where
  -- ---- one meaning

  one_on : (ms : List Frames.Message) (bound : B) (serial at : ℕ) (x : Means B C) (a b : Meaning B C)
      → ((bound : B) (n : ℕ) (c d : Meaning B C) → Hears means ms bound n c → Hears means ms bound n d → c ≡ d)
      → HearsOn (Hears means ms) bound serial at x a → HearsOn (Hears means ms) bound serial at x b → a ≡ b
  one_on ms bound serial at (Goes next call) a b one h k =
      h.2 ∙ ap (after_calls (option_to_list call)) (one next (serial + length (option_to_list call)) h.0 k.0 h.1 k.1) ∙ sym k.2
  one_on ms bound serial at Ends a b one h k = h ∙ sym k
  one_on ms bound serial at (Breaks fault) a b one h k = h ∙ sym k

  pub hears_one : IsOneWay means → (ms : List Frames.Message) (bound : B) (serial : ℕ) (a b : Meaning B C) → Hears means ms bound serial a → Hears means ms bound serial b → a ≡ b
  hears_one one [] bound serial a b h k = h ∙ sym k
  hears_one one (m ∷ ms) bound serial a b h k =
      let same = meant_one means one bound serial m h.0 k.0 h.1 k.1 in
      one_on ms bound serial m.at k.0 a b (hears_one one ms) (subst (λ (x : Means B C). HearsOn (Hears means ms) bound serial m.at x a) same h.2) k.2

  -- ---- further messages

  -- what is heard after the calls of a message
  goes_after : (o : Option ReadEnd) (new : List Frames.Message) (serial : ℕ) (calls : List C) (earlier all : Meaning B C)
      → GoesOn means o new (serial + length calls) earlier all → GoesOn means o new serial (after_calls calls earlier) (after_calls calls all)
  goes_after None new serial calls earlier all h =
      let counts : (serial + length calls) + length earlier.calls ≡ serial + length (calls ++ earlier.calls) = omega (arith, length-append calls earlier.calls) in (
        h.0,
        subst (λ (n : ℕ). Hears means new earlier.bound n h.0) counts h.1,
        ap (after_calls calls) h.2 ∙ (λ i. record { calls = sym (append_assoc calls earlier.calls h.0.calls) i; bound = h.0.bound; ending = h.0.ending }),
      )
  goes_after (Some e) new serial calls earlier all h = ap (after_calls calls) h

  goes_by : (ms new : List Frames.Message) (bound : B) (serial at : ℕ) (x : Means B C) (earlier all : Meaning B C)
      → ((bound : B) (n : ℕ) (a b : Meaning B C) → Hears means ms bound n a → Hears means (ms ++ new) bound n b → GoesOn means a.ending new n a b)
      → HearsOn (Hears means ms) bound serial at x earlier → HearsOn (Hears means (ms ++ new)) bound serial at x all → GoesOn means earlier.ending new serial earlier all
  goes_by ms new bound serial at (Goes next call) earlier all goes h k =
      let calls : List C = option_to_list call in
      let later = goes next (serial + length calls) h.0 k.0 h.1 k.1 in
      let both : GoesOn means h.0.ending new serial (after_calls calls h.0) (after_calls calls k.0) = goes_after h.0.ending new serial calls h.0 k.0 later in
      subst (λ (z : Meaning B C). GoesOn means z.ending new serial z all) (sym h.2)
      (subst (λ (z : Meaning B C). GoesOn means h.0.ending new serial (after_calls calls h.0) z) (sym k.2) both)
  goes_by ms new bound serial at Ends earlier all goes h k = subst (λ (z : Meaning B C). GoesOn means z.ending new serial z all) (sym h) k
  goes_by ms new bound serial at (Breaks fault) earlier all goes h k = subst (λ (z : Meaning B C). GoesOn means z.ending new serial z all) (sym h) k

  pub goes_on : IsOneWay means → (ms new : List Frames.Message) (bound : B) (serial : ℕ) (earlier all : Meaning B C) → Hears means ms bound serial earlier
      → Hears means (ms ++ new) bound serial all → GoesOn means earlier.ending new serial earlier all
  goes_on one [] new bound serial earlier all h k =
      subst (λ (z : Meaning B C). GoesOn means z.ending new serial z all) (sym h) (all, subst (λ (n : ℕ). Hears means new bound n all) (omega arith) k, refl)
  goes_on one (m ∷ ms) new bound serial earlier all h k =
      let same = meant_one means one bound serial m h.0 k.0 h.1 k.1 in
      goes_by ms new bound serial m.at k.0 earlier all (λ b n x y. goes_on one ms new b n x y)
      (subst (λ (x : Means B C). HearsOn (Hears means ms) bound serial m.at x earlier) same h.2) k.2
