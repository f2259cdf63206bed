-- The header of a joined message.
use Rattle.std.proofs.Common.{◌≡◌, ℕ, ◌-◌, ◌≤◌, List, [], ◌∷◌, ◌++◌, length, refl, ap, ◌∙◌, arith, take, drop}
use Rattle.std.specs.Prelude.{slice_index}
use Rattle.std.specs.Int.{w32}
use Rattle.std.proofs.Math.Seq.{take-append_seam}
use Rattle.orb_base.specs.declared.order.Order.{Order}
use Rattle.cdr_core.specs.Field.{number_bytes}
use Rattle.cdr_core.proofs.CallerLemmas.{length-number_bytes}
use Rattle.giop_frames.specs.Messages.{sealed}
use Rattle.giop_frames.specs.Steps.{written}

abbrev under : List ℕ → ℕ → List ℕ → List ℕ
under bytes flags size = take 6 bytes ++ flags ∷ slice_index bytes 7 ∷ size ++ drop 12 bytes

four : (bytes : List ℕ) (flags : ℕ) (size : List ℕ) → length size ≡ 4 → 12 ≤ length bytes → written bytes flags size ≡ under bytes flags size
four ([]) flags size l h = absurd (omega arith)
four (b0 ∷ []) flags size l h = absurd (omega arith)
four (b0 ∷ b1 ∷ []) flags size l h = absurd (omega arith)
four (b0 ∷ b1 ∷ b2 ∷ []) flags size l h = absurd (omega arith)
four (b0 ∷ b1 ∷ b2 ∷ b3 ∷ []) flags size l h = absurd (omega arith)
four (b0 ∷ b1 ∷ b2 ∷ b3 ∷ b4 ∷ []) flags size l h = absurd (omega arith)
four (b0 ∷ b1 ∷ b2 ∷ b3 ∷ b4 ∷ b5 ∷ []) flags size l h = absurd (omega arith)
four (b0 ∷ b1 ∷ b2 ∷ b3 ∷ b4 ∷ b5 ∷ b6 ∷ []) flags size l h = absurd (omega arith)
four (b0 ∷ b1 ∷ b2 ∷ b3 ∷ b4 ∷ b5 ∷ b6 ∷ b7 ∷ []) flags size l h = absurd (omega arith)
four (b0 ∷ b1 ∷ b2 ∷ b3 ∷ b4 ∷ b5 ∷ b6 ∷ b7 ∷ b8 ∷ []) flags size l h = absurd (omega arith)
four (b0 ∷ b1 ∷ b2 ∷ b3 ∷ b4 ∷ b5 ∷ b6 ∷ b7 ∷ b8 ∷ b9 ∷ []) flags size l h = absurd (omega arith)
four (b0 ∷ b1 ∷ b2 ∷ b3 ∷ b4 ∷ b5 ∷ b6 ∷ b7 ∷ b8 ∷ b9 ∷ b10 ∷ []) flags size l h = absurd (omega arith)
four (b0 ∷ b1 ∷ b2 ∷ b3 ∷ b4 ∷ b5 ∷ b6 ∷ b7 ∷ b8 ∷ b9 ∷ b10 ∷ b11 ∷ bytes) flags (s0 ∷ s1 ∷ s2 ∷ s3 ∷ []) l h = refl
four (b0 ∷ b1 ∷ b2 ∷ b3 ∷ b4 ∷ b5 ∷ b6 ∷ b7 ∷ b8 ∷ b9 ∷ b10 ∷ b11 ∷ bytes) flags ([]) l h = absurd (omega arith)
four (b0 ∷ b1 ∷ b2 ∷ b3 ∷ b4 ∷ b5 ∷ b6 ∷ b7 ∷ b8 ∷ b9 ∷ b10 ∷ b11 ∷ bytes) flags (s0 ∷ []) l h = absurd (omega arith)
four (b0 ∷ b1 ∷ b2 ∷ b3 ∷ b4 ∷ b5 ∷ b6 ∷ b7 ∷ b8 ∷ b9 ∷ b10 ∷ b11 ∷ bytes) flags (s0 ∷ s1 ∷ []) l h = absurd (omega arith)
four (b0 ∷ b1 ∷ b2 ∷ b3 ∷ b4 ∷ b5 ∷ b6 ∷ b7 ∷ b8 ∷ b9 ∷ b10 ∷ b11 ∷ bytes) flags (s0 ∷ s1 ∷ s2 ∷ []) l h = absurd (omega arith)
four (b0 ∷ b1 ∷ b2 ∷ b3 ∷ b4 ∷ b5 ∷ b6 ∷ b7 ∷ b8 ∷ b9 ∷ b10 ∷ b11 ∷ bytes) flags (s0 ∷ s1 ∷ s2 ∷ s3 ∷ s4 ∷ size) l h = absurd (omega arith)

pub sealed_is : (order : Order) (bytes size : List ℕ) (flags : ℕ) → 12 ≤ length bytes → size ≡ number_bytes order w32 (length bytes - 12) → flags ≡ slice_index bytes 6 - 2
    → written bytes flags size ≡ sealed order bytes
unfolding sealed
sealed_is order bytes size flags h s f =
    ap (written bytes flags) s ∙ four bytes flags (number_bytes order w32 (length bytes - 12)) (length-number_bytes order w32 (length bytes - 12)) h
    ∙ ap (λ (x : ℕ). under bytes x (number_bytes order w32 (length bytes - 12))) f

pub sealed_by : (order : Order) (bytes all size result : List ℕ) → result ≡ written all (slice_index all 6 - 2) size → all ≡ bytes → size ≡ number_bytes order w32 (length bytes - 12)
    → 12 ≤ length bytes → result ≡ sealed order bytes
sealed_by order bytes all size result w e s h =
    w ∙ ap (λ (x : List ℕ). written x (slice_index x 6 - 2) size) e ∙ sealed_is order bytes size (slice_index bytes 6 - 2) h s refl

pub front_is : (n : ℕ) (w x : List ℕ) → n ≡ length w → take n (w ++ x) ≡ w
front_is n w x e = ap (λ (k : ℕ). take k (w ++ x)) e ∙ take-append_seam w x
