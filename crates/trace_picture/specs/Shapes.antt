-- The shapes of a run: what its entries draw, one after another, and what still goes on after the last one. Own profile.
use Rattle.std.specs.Prelude.{ℕ, ◌+◌, List, [], ◌∷◌, ◌++◌, map, Option, Some, None}
use Rattle.trace_lines.specs.declared.trace_line.TraceLine.{TraceLine}
use Rattle.trace_picture.specs.Scenes.{ScenePlain, draw, bar_to, wait_to}
use Rattle.trace_picture.specs.declared.shape.Shape.{Shape}
use Rattle.trace_picture.specs.declared.shape.WaitEnd.TheVariants as how

-- what goes on after these lines, of which the first is the entry of this number
abbrev pub scene_after : ScenePlain → ℕ → List TraceLine → ScenePlain
scene_after s n [] = s
scene_after s n (l ∷ ls) = scene_after (draw s n l.action).0 (n + 1) ls

-- what still goes on where the entries end: a bar of each request that a thread carries out, and a line of each that waits
abbrev pub unfinished : ScenePlain → ℕ → List Shape
unfinished s n = map (bar_to n) s.running ++ map (wait_to n how.Open) s.waiting

-- the shape of an entry that has one
abbrev pub drawn : Option Shape → List Shape
drawn (Some shape) = shape ∷ []
drawn None = []

-- the shapes of these lines, of which the first is the entry of this number
abbrev pub shapes : ScenePlain → ℕ → List TraceLine → List Shape
shapes s n [] = unfinished s n
shapes s n (l ∷ ls) = drawn (draw s n l.action).1 ++ shapes (draw s n l.action).0 (n + 1) ls
