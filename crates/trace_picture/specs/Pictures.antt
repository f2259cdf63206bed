-- The picture of a run: what it says at its head, the ground, the shapes and the legend. Own profile.
use Rattle.std.specs.Prelude.{ℕ, Bool, true, false, not, ◌+◌, ◌==◌, List, [], ◌++◌, codes, length, take, drop, min, count_by, if◌then◌else◌}
use Rattle.std.specs.List.{flat_map}
use Rattle.std.specs.Fmt.{decimal}
use Rattle.orb_base.specs.Pool.{Pool}
use Rattle.trace_lines.specs.declared.trace_line.TraceLine.{TraceLine}
use Rattle.trace_reading.specs.Traces.{Trace}
use Rattle.trace_picture.specs.Scenes.{no_scene}
use Rattle.trace_picture.specs.Shapes.{scene_after, shapes}
use Rattle.trace_picture.specs.Plots.{Plot, plot_of, home_of}
use Rattle.trace_picture.specs.Marks.{shape_text}
use Rattle.trace_picture.specs.Grounds.{ground_text, legend_text}
use Rattle.trace_picture.specs.declared.shape.Shape.{Shape}
use Rattle.trace_picture.specs.declared.shape.Shape.TheVariants as shape
use Rattle.trace_picture.specs.declared.shape.WaitEnd.{WaitEnd}
use Rattle.trace_picture.specs.declared.shape.WaitEnd.TheVariants as how
use Rattle.trace_picture.specs.declared.view.Counts.{Counts}
use Rattle.trace_picture.specs.declared.view.Title.{Title}
use Rattle.trace_picture.specs.declared.view.View.{View}
use Rattle.trace_picture.specs.declared.view.TheConstants.{MAX_DRAWN}

-- what is counted of shapes: the requests that a thread took, those by a thread that is lent, those that waited, were withdrawn or refused
abbrev pub is_bar : Shape → Bool
is_bar (shape.Bar thread lane request start end) = true
is_bar s = false

-- a bar of a thread that is lent
abbrev pub is_lent : Plot → Shape → Bool
is_lent p (shape.Bar thread lane request start end) = not (home_of p thread == lane)
is_lent p s = false

-- a request that waits
abbrev pub is_wait : Shape → Bool
is_wait (shape.Wait lane request start end how) = true
is_wait s = false

-- a wait ended because the request was withdrawn
abbrev pub is_removal : WaitEnd → Bool
is_removal how.Removed = true
is_removal how.Taken = false
is_removal how.Open = false

-- a request that waits and is withdrawn
abbrev pub is_removed : Shape → Bool
is_removed (shape.Wait lane request start end how) = is_removal how
is_removed s = false

-- a request that is refused
abbrev pub is_full : Shape → Bool
is_full (shape.Full lane at) = true
is_full s = false

-- which entries are shown of how many
unfoldable pub title_text : Title → List ℕ
title_text t =
    codes "<text class='t' x='10' y='22'>run " ++ decimal t.run ++ codes ": " ++ decimal t.count ++ codes " of " ++ decimal t.entries
    ++ codes " entries, from entry " ++ decimal t.first ++ codes "</text>\n"

-- what is counted of shapes
abbrev pub counts_of : Plot → List Shape → Counts
counts_of p s = record {
  bars = count_by is_bar s;
  lent = count_by (is_lent p) s;
  waits = count_by is_wait s;
  removed = count_by is_removed s;
  full = count_by is_full s;
}

-- what is counted, and what x is
unfoldable pub counts_line : Counts → List ℕ
counts_line c =
    codes "<text x='10' y='42'>requests: taken " ++ decimal c.bars ++ codes " (by a lent thread " ++ decimal c.lent ++ codes "), waited "
    ++ decimal c.waits ++ codes ", withdrawn " ++ decimal c.removed ++ codes ", refused " ++ decimal c.full
    ++ codes "</text>\n<text x='10' y='62'>x is the number of the entry in the trace, and not time</text>\n"

-- the line of what is counted of the shapes
abbrev pub counts_text : Plot → List Shape → List ℕ
counts_text p s = counts_line (counts_of p s)

-- that an entry is wrong, and that what begins with it is not drawn
abbrev pub note_text : Title → List ℕ
note_text t =
    if t.legal == t.entries then []
    else
    codes "<text class='n' x='10' y='82'>entry " ++ decimal t.legal ++ codes " is wrong: it is not drawn, and what comes after it</text>\n"

-- the entries that come before the first wrong one, those of them before the picture, and those in it
abbrev pub before : List TraceLine → ℕ → View → List TraceLine
before lines legal v = take v.from (take legal lines)

-- those in the picture
abbrev pub range : List TraceLine → ℕ → View → List TraceLine
range lines legal v = take (min v.entries MAX_DRAWN) (drop v.from (take legal lines))

-- the shapes of the picture
abbrev pub shapes_in : List TraceLine → ℕ → View → List Shape
shapes_in lines legal v =
    shapes (scene_after no_scene 0 (before lines legal v)) (length (before lines legal v)) (range lines legal v)

-- the text of a picture with these shapes
unfoldable pub whole_text : Plot → List Shape → Title → List ℕ
whole_text p s t =
    ground_text p ++ title_text t ++ note_text t ++ counts_text p s ++ flat_map (shape_text p) s ++ legend_text p

-- the picture of these lines
abbrev pub picture_of : Pool → List TraceLine → ℕ → View → List ℕ
picture_of pool lines legal v =
    whole_text (plot_of pool v.from (length (range lines legal v))) (shapes_in lines legal v)
    (record { run = v.run; first = v.from; count = length (range lines legal v); legal = legal; entries = length lines })

-- the picture of a run of which so many entries come before the first wrong one
abbrev pub picture_text : Trace → ℕ → View → List ℕ
picture_text t legal v = picture_of t.pool t.lines legal v
