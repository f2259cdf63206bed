-- Texts of the numbers below one, one after another.
use Rattle.std.proofs.Common.{◌≡◌, ℕ, ◌+◌, List, ◌++◌, sym, ap, ◌∙◌, append_assoc, append-nil, add-one}
use Rattle.trace_picture.specs.Grounds.{each}

pub none_yet : (old : List ℕ) (text : ℕ → List ℕ) → old ≡ old ++ each text 0
none_yet old text = sym (append-nil old)

pub one_more : (old so new : List ℕ) (text : ℕ → List ℕ) (k : ℕ) → so ≡ old ++ each text k → new ≡ so ++ text k → new ≡ old ++ each text (k + 1)
one_more old so new text k is more = more ∙ ap (λ (z : List ℕ). z ++ text k) is ∙ append_assoc old (each text k) (text k) ∙ rw add-one
