-- Words of which one holds a NUL, from the first to the last.
use Rattle.std.proofs.Common.{◌≡◌, ◌∙◌, ◌<◌, ◌≤◌, ◌+◌, ◌||◌, ℕ, true, false, List, drop, drop-cons, get_or, length, map, refl, sym, ap}
use Rattle.std.specs.Prelude.{is_some}
use Rattle.std.proofs.Math.Numerals.{add-one}
use Rattle.std.proofs.lemmas.List.{drop_all}
use Rattle.orb_base.specs.NulFree.{nul_at}
use Rattle.command_options.specs.Items.{Text}
use Rattle.command_options.specs.Nul.{has_nul}

-- the words from number k on are the k-th and those after it
from_word : {A : Type 0} (text : A → Text) (words : List A) (k : ℕ) (d : A) → k < length words
    → has_nul (map text (drop k words)) ≡ (is_some (nul_at (text (get_or words k d))) || has_nul (map text (drop (k + 1) words)))
from_word text words k d low =
    ap (λ ws. has_nul (map text ws)) (drop-cons words k d low)
    ∙ ap (λ j. is_some (nul_at (text (get_or words k d))) || has_nul (map text (drop j words))) (sym (add-one k))

pub nul_word : {A : Type 0} (text : A → Text) (words : List A) (k : ℕ) (d : A) → k < length words → is_some (nul_at (text (get_or words k d))) ≡ true
    → has_nul (map text (drop k words)) ≡ true
nul_word text words k d low e = from_word text words k d low ∙ rw e refl

pub clean_word : {A : Type 0} (text : A → Text) (words : List A) (k : ℕ) (d : A) → k < length words → is_some (nul_at (text (get_or words k d))) ≡ false
    → has_nul (map text (drop k words)) ≡ has_nul (map text (drop (k + 1) words))
clean_word text words k d low e = from_word text words k d low ∙ rw e refl

pub no_words : {A : Type 0} (text : A → Text) (words : List A) (k : ℕ) → length words ≤ k → has_nul (map text (drop k words)) ≡ false
no_words text words k e = ap (λ ws. has_nul (map text ws)) (drop_all k words e)
