-- Walks along the things of a repository, and along the operations of an interface.
use Rattle.std.proofs.Common.{◌≡◌, ℕ, zero, suc, ◌+◌, ◌<◌, ◌≤◌, List, [], ◌∷◌, ◌++◌, length, take, drop, map, refl, arith, sym, ap, ◌∙◌, append_assoc}
use Rattle.std.specs.List.{flat_map}
use Rattle.std.proofs.lemmas.List.{append-nil, drop_all, take_all}
use Rattle.std.proofs.lemmas.List.Folds.{flat_map-map}
use Rattle.idl_types.specs.declared.operation.Operation.{Operation}
use Rattle.idl_types.specs.Things.{Thing}
use Rattle.idl_types.specs.Views.{operation_of}
use Rattle.idl_lines.specs.Listing.{operation_line, lines_at, listing}

-- the lines of all operations
pub all_operations : (os : List Operation) (n : ℕ) → length os ≤ n
    → flat_map (λ o. operation_line (operation_of o)) (take n os) ≡ flat_map operation_line (map operation_of os)
all_operations os n past =
    ap (λ xs. flat_map (λ (o : Operation). operation_line (operation_of o)) xs) (take_all n os past) ∙ sym (flat_map-map operation_line operation_of os)

-- the listing of the things from an index on begins with the lines of the thing there
next_lines : (things : List Thing) (n : ℕ) → n < length things → listing (drop n things) ≡ lines_at things n ++ listing (drop (n + 1) things)
next_lines [] n there = absurd (omega arith)
next_lines (thing ∷ things) zero there = refl
next_lines (thing ∷ things) (suc n) there =
    let e : suc (n + 1) ≡ suc n + 1 = omega arith in
    next_lines things n (omega arith) ∙ ap (λ k. lines_at things n ++ listing (drop k (thing ∷ things))) e

-- the lines so far with those of the next thing, and the listing of the things after it
pub more_lines : (things : List Thing) (n : ℕ) (front all : List ℕ) → n < length things
    → front ++ listing (drop n things) ≡ all → (front ++ lines_at things n) ++ listing (drop (n + 1) things) ≡ all
more_lines things n front all there so_far =
    append_assoc front (lines_at things n) (listing (drop (n + 1) things))
    ∙ ap (λ xs. front ++ xs) (sym (next_lines things n there)) ∙ so_far

-- the lines of all things
pub all_lines : (things : List Thing) (n : ℕ) (front all : List ℕ) → length things ≤ n → front ++ listing (drop n things) ≡ all → front ≡ all
all_lines things n front all past so_far =
    sym (append-nil front) ∙ ap (λ xs. front ++ listing xs) (sym (drop_all n things past)) ∙ so_far
