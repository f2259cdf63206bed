-- The shapes of lines, one after another.
use Rattle.std.proofs.Common.{◌≡◌, ℕ, ◌+◌, ◌<◌, ◌≤◌, List, [], ◌∷◌, ◌++◌, length, take, drop, get_or, sym, ap, ◌∙◌, arith, append_assoc, append-nil}
use Rattle.std.specs.Prelude.{map, Option, Some}
use Rattle.std.proofs.lemmas.List.{take_more, drop_more, drop_all, take_all, map-append}
use Rattle.trace_lines.specs.declared.trace_line.TraceLine.{TraceLine}
use Rattle.trace_picture.specs.Scenes.{ScenePlain, draw}
use Rattle.trace_picture.specs.Shapes.{scene_after, shapes, drawn, unfinished}
use Rattle.trace_picture.specs.declared.shape.Shape.{Shape}

-- the first of the lines that are left
cut : (lines : List TraceLine) (i : ℕ) (x : TraceLine) → i < length lines → x ≡ get_or lines i x → drop i lines ≡ x ∷ drop (i + 1) lines
cut lines i x within here = drop_more lines i x within ∙ ap (λ (z : TraceLine). z ∷ drop (i + 1) lines) (sym here)

pub after_more : (s0 s s' : ScenePlain) (first i : ℕ) (lines : List TraceLine) (x : TraceLine) → i < length lines → x ≡ get_or lines i x
    → scene_after s0 first lines ≡ scene_after s (first + i) (drop i lines) → s' ≡ (draw s (first + i) x.action).0
    → scene_after s0 first lines ≡ scene_after s' (first + (i + 1)) (drop (i + 1) lines)
after_more s0 s s' first i lines x within here so next =
    so ∙ ap (scene_after s (first + i)) (cut lines i x within here)
    ∙ ap (λ (z : ScenePlain). scene_after z (first + i + 1) (drop (i + 1) lines)) (sym next)
    ∙ ap (λ (n : ℕ). scene_after s' n (drop (i + 1) lines)) (let same : first + i + 1 ≡ first + (i + 1) = omega arith in same)

pub after_all : (s0 s : ScenePlain) (first i : ℕ) (lines : List TraceLine) → length lines ≤ i
    → scene_after s0 first lines ≡ scene_after s (first + i) (drop i lines) → s ≡ scene_after s0 first lines
after_all s0 s first i lines past so = sym (so ∙ ap (scene_after s (first + i)) (drop_all i lines past))

pub shapes_more : (old old' : List Shape) (o : Option Shape) (s s' : ScenePlain) (first i : ℕ) (lines : List TraceLine) (x : TraceLine) (all : List Shape) → i < length lines → x ≡ get_or lines i x
    → all ≡ old ++ shapes s (first + i) (drop i lines) → s' ≡ (draw s (first + i) x.action).0 → o ≡ (draw s (first + i) x.action).1 → old' ≡ old ++ drawn o
    → all ≡ old' ++ shapes s' (first + (i + 1)) (drop (i + 1) lines)
shapes_more old old' o s s' first i lines x all within here so next shape more =
    let rest : List Shape = shapes s' (first + (i + 1)) (drop (i + 1) lines) in
    let one : shapes s (first + i) (drop i lines) ≡ drawn o ++ rest =
    ap (shapes s (first + i)) (cut lines i x within here)
    ∙ ap (λ (z : ScenePlain). drawn (draw s (first + i) x.action).1 ++ shapes z (first + i + 1) (drop (i + 1) lines)) (sym next)
    ∙ ap (λ (n : ℕ). drawn (draw s (first + i) x.action).1 ++ shapes s' n (drop (i + 1) lines)) (let same : first + i + 1 ≡ first + (i + 1) = omega arith in same)
    ∙ ap (λ (z : Option Shape). drawn z ++ rest) (sym shape) in
    so ∙ ap (λ (z : List Shape). old ++ z) one ∙ sym (append_assoc old (drawn o) rest) ∙ ap (λ (z : List Shape). z ++ rest) (sym more)

pub shapes_all : (all old new : List Shape) (s : ScenePlain) (first i n : ℕ) (lines : List TraceLine) → length lines ≤ i → first + i ≡ n
    → all ≡ old ++ shapes s (first + i) (drop i lines) → new ≡ old ++ unfinished s n → new ≡ all
shapes_all all old new s first i n lines past place so last =
    last ∙ ap (λ (k : ℕ). old ++ unfinished s k) (sym place) ∙ sym (so ∙ ap (λ (z : List TraceLine). old ++ shapes s (first + i) z) (drop_all i lines past))

-- a list that grows by what is made of each item
module _ {A : Type 0} (make : A → Shape) where
  pub none_made : (old : List Shape) (xs : List A) → old ≡ old ++ map make (take 0 xs)
  none_made old xs = sym (append-nil old)

  pub one_made : (old new new' : List Shape) (xs : List A) (i : ℕ) (x : A) → i < length xs → x ≡ get_or xs i x → new ≡ old ++ map make (take i xs) → new' ≡ new ++ drawn (Some (make x))
      → new' ≡ old ++ map make (take (i + 1) xs)
  one_made old new new' xs i x within here so more =
      let t : take (i + 1) xs ≡ take i xs ++ x ∷ [] = take_more xs i x within ∙ ap (λ (z : A). take i xs ++ z ∷ []) (sym here) in
      more ∙ ap (λ (z : List Shape). z ++ make x ∷ []) so ∙ append_assoc old (map make (take i xs)) (make x ∷ [])
      ∙ ap (λ (z : List Shape). old ++ z) (sym (ap (map make) t ∙ map-append make (take i xs) (x ∷ [])))

  pub all_made : (old new : List Shape) (xs : List A) (i : ℕ) → length xs ≤ i → new ≡ old ++ map make (take i xs) → new ≡ old ++ map make xs
  all_made old new xs i past so = so ∙ ap (λ (z : List A). old ++ map make z) (take_all i xs past)
