-- Looking up in scopes that are in parts, as far as a loop has come.
use Rattle.std.proofs.Common.{◌≡◌, ◌≤◌, ◌+◌, ◌<◌, ◌||◌, ℕ, Bool, true, false, List, ◌++◌, length, drop, Option, Some, None, sym, ap, ◌∙◌}
use Rattle.std.specs.Prelude.{Vec}
use Rattle.std.specs.declared.alloc.Global.{Global}
use Rattle.std.specs.List.{slice_index_or, list_any}
use Rattle.std.proofs.lemmas.List.{at_drop_more, drop_all}
use Rattle.std.proofs.lemmas.List.Folds.{list_any-append}
use Rattle.idl_scopes.specs.Table.{Table}
use Rattle.idl_scopes.specs.Finding.{among, or_else}
use Rattle.idl_scopes.specs.Pieces.{in_parts}
use Rattle.idl_scopes.proofs.AmongScopes.{among_both}

module _ (t : Table) (name : List ℕ) (parts : List (Vec ℕ Global)) (n : ℕ) (d : Vec ℕ Global) (items : List ℕ) (total : Option ℕ) where
  step : n < length parts → (slice_index_or parts n d).items ≡ items → among t name (in_parts (drop n parts)) ≡ or_else (among t name items) (among t name (in_parts (drop (n + 1) parts)))
  step lt is =
      at_drop_more (λ (ps : List (Vec ℕ Global)). among t name (in_parts ps)) parts n d lt
      ∙ ap (λ (xs : List ℕ). among t name (xs ++ in_parts (drop (n + 1) parts))) is
      ∙ among_both t name items (in_parts (drop (n + 1) parts))

  pub part_found : (i : ℕ) → n < length parts → (slice_index_or parts n d).items ≡ items → among t name items ≡ Some i → among t name (in_parts (drop n parts)) ≡ total → Some i ≡ total
  part_found i lt is found reached = sym (step lt is ∙ ap (λ o. or_else o (among t name (in_parts (drop (n + 1) parts)))) found) ∙ reached

  pub part_next : n < length parts → (slice_index_or parts n d).items ≡ items → among t name items ≡ None → among t name (in_parts (drop n parts)) ≡ total → among t name (in_parts (drop (n + 1) parts)) ≡ total
  part_next lt is none reached = sym (step lt is ∙ ap (λ o. or_else o (among t name (in_parts (drop (n + 1) parts)))) none) ∙ reached

pub part_end : (t : Table) (name : List ℕ) (parts : List (Vec ℕ Global)) (n : ℕ) (total : Option ℕ) → length parts ≤ n → among t name (in_parts (drop n parts)) ≡ total → None ≡ total
part_end t name parts n total le reached = ap (λ (ps : List (Vec ℕ Global)). among t name (in_parts ps)) (sym (drop_all n parts le)) ∙ reached

module _ (p : ℕ → Bool) (parts : List (Vec ℕ Global)) (n : ℕ) (d : Vec ℕ Global) (items : List ℕ) (total : Bool) where
  any_step : n < length parts → (slice_index_or parts n d).items ≡ items → list_any p (in_parts (drop n parts)) ≡ (list_any p items || list_any p (in_parts (drop (n + 1) parts)))
  any_step lt is =
      at_drop_more (λ (ps : List (Vec ℕ Global)). list_any p (in_parts ps)) parts n d lt
      ∙ ap (λ (xs : List ℕ). list_any p (xs ++ in_parts (drop (n + 1) parts))) is
      ∙ list_any-append p items (in_parts (drop (n + 1) parts))

  pub any_in_part : n < length parts → (slice_index_or parts n d).items ≡ items → list_any p items ≡ true → list_any p (in_parts (drop n parts)) ≡ total → true ≡ total
  any_in_part lt is found reached = sym (any_step lt is ∙ ap (λ b. b || list_any p (in_parts (drop (n + 1) parts))) found) ∙ reached

  pub none_in_part : n < length parts → (slice_index_or parts n d).items ≡ items → list_any p items ≡ false → list_any p (in_parts (drop n parts)) ≡ total → list_any p (in_parts (drop (n + 1) parts)) ≡ total
  none_in_part lt is none reached = sym (any_step lt is ∙ ap (λ b. b || list_any p (in_parts (drop (n + 1) parts))) none) ∙ reached

module _ (t : Table) (name front parts back : List ℕ) where
  pub in_front : (first : List ℕ) (o : Option ℕ) (i : ℕ) → first ≡ front → o ≡ among t name first → o ≡ Some i → Some i ≡ among t name (front ++ (parts ++ back))
  in_front first o i are is found =
      sym (ap (λ (p : Option ℕ). or_else p (among t name (parts ++ back))) (sym (is ∙ ap (among t name) are) ∙ found)) ∙ sym (among_both t name front (parts ++ back))

  behind_front : (first : List ℕ) (o : Option ℕ) → first ≡ front → o ≡ among t name first → o ≡ None → among t name (parts ++ back) ≡ among t name (front ++ (parts ++ back))
  behind_front first o are is none =
      sym (ap (λ (p : Option ℕ). or_else p (among t name (parts ++ back))) (sym (is ∙ ap (among t name) are) ∙ none)) ∙ sym (among_both t name front (parts ++ back))

  pub in_a_part : (first : List ℕ) (o p : Option ℕ) (i : ℕ) → first ≡ front → o ≡ among t name first → o ≡ None → p ≡ among t name parts → p ≡ Some i → Some i ≡ among t name (front ++ (parts ++ back))
  in_a_part first o p i are is none next found =
      sym (ap (λ (q : Option ℕ). or_else q (among t name back)) (sym next ∙ found)) ∙ sym (among_both t name parts back) ∙ behind_front first o are is none

  pub in_back : (first last : List ℕ) (o p q : Option ℕ) → first ≡ front → o ≡ among t name first → o ≡ None → p ≡ among t name parts → p ≡ None → last ≡ back → q ≡ among t name last
      → q ≡ among t name (front ++ (parts ++ back))
  in_back first last o p q are is none next none_there there so =
      so ∙ ap (among t name) there ∙ sym (ap (λ (r : Option ℕ). or_else r (among t name back)) (sym next ∙ none_there)) ∙ sym (among_both t name parts back) ∙ behind_front first o are is none
