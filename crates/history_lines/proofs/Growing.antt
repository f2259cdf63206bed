-- The text of a history, line by line.
use Rattle.std.proofs.Common.{◌≡◌, ℕ, ◌+◌, ◌<◌, ◌≤◌, List, [], ◌∷◌, ◌++◌, length, take, get_or, sym, ap, ◌∙◌}
use Rattle.std.proofs.lemmas.List.{flat_map_more, take_more, take_all}
use Rattle.lane_machine.specs.Entries.{One}
use Rattle.lane_machine.specs.Histories.{History}
use Rattle.history_lines.specs.Lines.{entry_line, history_text}

-- one more line
pub grown : (i : ℕ) (h : History) (text text' : List ℕ) (e : One) → text ≡ history_text (take i h) → i < length h → e ≡ get_or h i e → text' ≡ text ++ entry_line e → text' ≡ history_text (take (i + 1) h)
grown i h text text' e so within here more =
    let t : take (i + 1) h ≡ take i h ++ e ∷ [] = take_more h i e within ∙ ap (λ x. take i h ++ x ∷ []) (sym here) in
    more ∙ ap (λ x. x ++ entry_line e) so ∙ flat_map_more entry_line [] (take i h) e ∙ sym (ap history_text t)

-- all lines
pub whole : (i : ℕ) (h : History) (text : List ℕ) → text ≡ history_text (take i h) → length h ≤ i → text ≡ history_text h
whole i h text so past = so ∙ ap history_text (take_all i h past)
