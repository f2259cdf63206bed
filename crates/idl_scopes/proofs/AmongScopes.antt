-- Looking up in several scopes, as far as the loop has come.
use Rattle.std.proofs.Common.{◌≡◌, ◌≤◌, ◌+◌, ◌<◌, ℕ, List, [], ◌∷◌, ◌++◌, length, drop, Option, Some, None, refl, sym, ap, ◌∙◌}
use Rattle.std.specs.List.{slice_index_or}
use Rattle.std.proofs.lemmas.List.{at_drop_more, drop_all}
use Rattle.idl_scopes.specs.Table.{Table}
use Rattle.idl_scopes.specs.Finding.{own, among, or_else}

pub among_found : (t : Table) (name xs : List ℕ) (n i : ℕ) (total : Option ℕ) → n < length xs → own t name (slice_index_or xs n 0) ≡ Some i
    → among t name (drop n xs) ≡ total → Some i ≡ total
among_found t name xs n i total lt is so_far =
    sym (at_drop_more (among t name) xs n 0 lt ∙ ap (λ o. or_else o (among t name (drop (n + 1) xs))) is) ∙ so_far

pub among_next : (t : Table) (name xs : List ℕ) (n : ℕ) (total : Option ℕ) → n < length xs → own t name (slice_index_or xs n 0) ≡ None
    → among t name (drop n xs) ≡ total → among t name (drop (n + 1) xs) ≡ total
among_next t name xs n total lt is so_far =
    sym (at_drop_more (among t name) xs n 0 lt ∙ ap (λ o. or_else o (among t name (drop (n + 1) xs))) is) ∙ so_far

pub among_end : (t : Table) (name xs : List ℕ) (n : ℕ) (total : Option ℕ) → length xs ≤ n → among t name (drop n xs) ≡ total → None ≡ total
among_end t name xs n total le so_far = ap (among t name) (sym (drop_all n xs le)) ∙ so_far

or_else_both : (a b c : Option ℕ) → or_else (or_else a b) c ≡ or_else a (or_else b c)
or_else_both (Some i) b c = refl
or_else_both None b c = refl

-- scopes, and then others
pub among_both : (t : Table) (name xs ys : List ℕ) → among t name (xs ++ ys) ≡ or_else (among t name xs) (among t name ys)
among_both t name [] ys = refl
among_both t name (x ∷ xs) ys = ap (or_else (own t name x)) (among_both t name xs ys) ∙ sym (or_else_both (own t name x) (among t name xs) (among t name ys))
