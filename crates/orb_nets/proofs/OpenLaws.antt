-- Lemmas on the acceptors that a listen opens.
use Rattle.std.proofs.Common.{◌≡◌, ℕ, ◌+◌, ◌<◌, List, [], ◌∷◌, ◌++◌, Some, drop, slice_index_or, below_more, ◌∙◌, ap, arith}
use Rattle.std.proofs.lemmas.List.{get_or_append_left, get_or_at, get_or-drop, drop-drop, length-append}
use Rattle.orb_base.specs.Links.{AcceptorState}
use Rattle.orb_nets.specs.Nets.{Opens, opened}

-- one acceptor more
pub opens_more : {A I O : Type 0} (state : A → AcceptorState I O) (n each : ℕ) (slots : List (List (I × O))) (all : List A) (a : A) →
    Opens state n each (Some slots) all → state a ≡ opened each n (Some slots) → Opens state (n + 1) each (Some slots) (all ++ a ∷ [])
opens_more {A} {I} {O} state n each slots all a old new =
    let P : ℕ → Type 0 = λ nth. (d : A) → state (slice_index_or (all ++ a ∷ []) nth d) ≡ opened each nth (Some slots) in
    let first : (nth : ℕ) → nth < n → P nth = λ nth below d. ap state (get_or_append_left all (a ∷ []) d nth (omega (arith, below, old.0))) ∙ old.1 nth d below in
    let last : P n = λ d. ap state (get_or_at all a [] d n old.0) ∙ new in
    (length-append all (a ∷ []) ∙ omega (arith, old.0), λ nth d below. below_more P n first last nth below d)

-- what is first after so many is there by its number
pub first_behind : {X : Type 0} (xs : List (List X)) (n : ℕ) → slice_index_or (drop n xs) 0 [] ≡ slice_index_or xs n []
first_behind xs n = get_or-drop n xs 0 [] ∙ ap (λ nth. slice_index_or xs nth []) (omega arith)

-- so many, and one more
pub drop_one_more : {X : Type 0} (xs : List X) (n : ℕ) → drop 1 (drop n xs) ≡ drop (n + 1) xs
drop_one_more xs n = drop-drop 1 n xs
