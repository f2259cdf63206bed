-- Texts that grow line by line.
use Rattle.std.proofs.Common.{◌≡◌, ℕ, ◌+◌, ◌<◌, ◌≤◌, List, [], ◌∷◌, ◌++◌, length, take, get_or, sym, ap, ◌∙◌, append-nil}
use Rattle.std.specs.List.{flat_map}
use Rattle.std.proofs.lemmas.List.{flat_map_more, take_more, take_all}
use Rattle.orb_base.specs.declared.lane_spec.LaneSpec.{LaneSpec}
use Rattle.trace_lines.specs.Texts.{lane_text}

-- no lane yet
pub no_lanes : (text : List ℕ) (lanes : List LaneSpec) → text ≡ text ++ flat_map lane_text (take 0 lanes)
no_lanes text lanes = sym (append-nil text)

-- one more lane
pub lane_added : (head : List ℕ) (lanes : List LaneSpec) (i : ℕ) (x : LaneSpec) (text text' : List ℕ) → text ≡ head ++ flat_map lane_text (take i lanes) → i < length lanes
    → x ≡ get_or lanes i x → text' ≡ text ++ lane_text x → text' ≡ head ++ flat_map lane_text (take (i + 1) lanes)
lane_added head lanes i x text text' so within here more =
    let t : take (i + 1) lanes ≡ take i lanes ++ x ∷ [] = take_more lanes i x within ∙ ap (λ z. take i lanes ++ z ∷ []) (sym here) in
    more ∙ ap (λ z. z ++ lane_text x) so ∙ flat_map_more lane_text head (take i lanes) x ∙ ap (λ z. head ++ flat_map lane_text z) (sym t)

-- all lanes
pub lanes_added : (head : List ℕ) (lanes : List LaneSpec) (i : ℕ) (text : List ℕ) → text ≡ head ++ flat_map lane_text (take i lanes) → length lanes ≤ i → text ≡ head ++ flat_map lane_text lanes
lanes_added head lanes i text so past = so ∙ ap (λ z. head ++ flat_map lane_text z) (take_all i lanes past)
