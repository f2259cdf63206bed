-- Keys of a table and of the members that it stands for.
use Rattle.std.proofs.Common.{◌≡◌, ℕ, Bool, true, false, not, ◌||◌, List, [], ◌∷◌, map, Option, Some, None, cond, option_map, String, Global, string_bytes, Bor, refl, ap, ◌∙◌, sym}
use Rattle.std.specs.List.{list_any, find}
use Rattle.std.specs.Option.{option_copied}
use Rattle.std.specs.Map.{keys_of}
use Rattle.toml.specs.View.{members_view}
use Rattle.toml.specs.declared.value.Value.{Value}
use Rattle.config_tables.specs.Keys.{same_text, is_among, unknown_key}

-- a test of some texts after references
pub any_known : (ks : List (Bor (List ℕ))) (t : List ℕ) → list_any (λ k. same_text k.now t) ks ≡ is_among (map (λ k. k.now) ks) t
any_known [] t = refl
any_known (k ∷ ks) t = ap (λ b. same_text k.now t || b) (any_known ks t)

found_next : (b c : Bool) (s : String Global) (x : Option (String Global)) (y : Option (List ℕ)) → b ≡ c → option_map string_bytes x ≡ y
    → option_map string_bytes (cond (not b) (Some s) x) ≡ cond (not c) (Some (string_bytes s)) y
found_next true c s x y same later = rw (← same) later
found_next false c s x y same later = rw (← same)

pub first_unknown : (ks : List (Bor (List ℕ))) (es : List (String Global × Value))
    → option_map string_bytes (find (λ k. not (list_any (λ l. same_text l.now (string_bytes k)) ks)) (keys_of es)) ≡ unknown_key (map (λ k. k.now) ks) (members_view es)
first_unknown ks [] = refl
first_unknown ks (e ∷ es) = found_next _ _ e.0 _ _ (any_known ks (string_bytes e.0)) (first_unknown ks es)

shown_bytes : (r : Option (Bor (String Global))) → option_map (λ k. string_bytes k.now) r ≡ option_map string_bytes (option_copied r)
shown_bytes None = refl
shown_bytes (Some k) = refl

pub unknown_at : (r : Option (Bor (String Global))) (ks : List (Bor (List ℕ))) (es : List (String Global × Value))
    → option_copied r ≡ find (λ k. not (list_any (λ l. same_text l.now (string_bytes k)) ks)) (keys_of es)
    → unknown_key (map (λ k. k.now) ks) (members_view es) ≡ option_map (λ k. string_bytes k.now) r
unknown_at r ks es found = sym (shown_bytes r ∙ ap (option_map string_bytes) found ∙ first_unknown ks es)
