-- The text of shapes, as elements of SVG 1.1. Attributes are numbers and fixed words in single quotes. Own profile.
use Rattle.std.specs.Prelude.{ℕ, ◌+◌, ◌-◌, ◌*◌, ◌%◌, List, [], ◌++◌, codes, Option, Some, None}
use Rattle.std.specs.Fmt.{decimal}
use Rattle.trace_picture.specs.Plots.{Plot, x_of, thread_y, strip_y, bottom}
use Rattle.trace_picture.specs.declared.layout.TheConstants.{TOP}
use Rattle.trace_picture.specs.declared.marks.Bar.{Bar}
use Rattle.trace_picture.specs.declared.marks.Line.{Line}
use Rattle.trace_picture.specs.declared.marks.Span.{Span}
use Rattle.trace_picture.specs.declared.marks.Mark.{Mark}
use Rattle.trace_picture.specs.declared.shape.Shape.{Shape}
use Rattle.trace_picture.specs.declared.shape.Shape.TheVariants as shape
use Rattle.trace_picture.specs.declared.shape.WaitEnd.{WaitEnd}
use Rattle.trace_picture.specs.declared.shape.WaitEnd.TheVariants as how

-- which request a shape is of, and from which entry to which
unfoldable pub span_text : Span → List ℕ
span_text s =
    codes "request " ++ decimal s.request ++ codes " of lane " ++ decimal s.lane ++ codes ", entries " ++ decimal s.start ++ codes " to "
    ++ decimal s.end

-- where a bar is
unfoldable pub place_text : Bar → List ℕ
place_text b = codes "x='" ++ decimal b.x ++ codes "' y='" ++ decimal b.y ++ codes "' width='" ++ decimal b.width ++ codes "'"

-- a bar, in the colour of the request's lane
unfoldable pub bar_text : Bar → List ℕ
bar_text b =
    codes "<rect class='b' " ++ place_text b ++ codes " height='12' fill='url(#l" ++ decimal b.span.lane ++ codes ")'><title>"
    ++ span_text b.span ++ codes "</title></rect>\n"

-- a line
unfoldable pub line_text : Line → List ℕ
line_text l =
    codes "<path class='w' d='M" ++ decimal l.x ++ codes " " ++ decimal l.y ++ codes "H" ++ decimal l.to ++ codes "'><title>"
    ++ span_text l.span ++ codes "</title></path>\n"

-- a cross
unfoldable pub cross_text : Mark → List ℕ
cross_text m =
    codes "<path class='x' transform='translate(" ++ decimal m.x ++ codes " " ++ decimal m.y ++ codes ")' d='M-3 -3L3 3M-3 3L3 -3'/>\n"

-- a tick
unfoldable pub tick_text : Mark → List ℕ
tick_text m =
    codes "<path class='f' d='M" ++ decimal m.x ++ codes " " ++ decimal m.y ++ codes "v28'><title>refused, entry " ++ decimal m.at
    ++ codes "</title></path>\n"

-- a rule
unfoldable pub rule_text : Mark → List ℕ
rule_text m =
    codes "<path class='r' d='M" ++ decimal m.x ++ codes " " ++ decimal TOP ++ codes "V" ++ decimal m.y ++ codes "'><title>closing, entry "
    ++ decimal m.at ++ codes "</title></path>\n"

-- what a dot is filled with: the colour of the lane of the request that is replied to, or grey
unfoldable pub fill_text : Option ℕ → List ℕ
fill_text (Some lane) = codes "url(#l" ++ decimal lane ++ codes ")"
fill_text None = codes "#bbb"

-- a dot
unfoldable pub dot_text : Option ℕ → Mark → List ℕ
dot_text lane m =
    codes "<circle class='b' cx='" ++ decimal m.x ++ codes "' cy='" ++ decimal m.y ++ codes "' r='3' fill='" ++ fill_text lane
    ++ codes "'/>\n"

-- where the line of a request is: lines of requests that follow one another lie below one another
abbrev pub wait_y : Plot → ℕ → ℕ → ℕ
wait_y p lane request = strip_y p lane + 4 + 3 * (request % 9)

-- a request that was withdrawn has a cross where its line ends
abbrev pub end_text : WaitEnd → Mark → List ℕ
end_text how.Removed m = cross_text m
end_text how.Taken m = []
end_text how.Open m = []

-- a mark at an entry
abbrev pub mark_at : Plot → ℕ → ℕ → Mark
mark_at p n y = record { x = x_of p n; y = y; at = n }

-- a bar from one entry to another; what began before the first entry begins at the left edge, here and below
abbrev pub bar_at : Plot → ℕ → Span → Bar
bar_at p thread s = record {
  x = x_of p s.start;
  y = thread_y p thread + 2;
  width = x_of p s.end - x_of p s.start + 2;
  span = s;
}

-- a line from one entry to another
abbrev pub line_at : Plot → Span → Line
line_at p s = record { x = x_of p s.start; y = wait_y p s.lane s.request; to = x_of p s.end; span = s }

-- a request that waits
abbrev pub wait_text : Plot → Span → WaitEnd → List ℕ
wait_text p s how = line_text (line_at p s) ++ end_text how (mark_at p s.end (wait_y p s.lane s.request))

-- the request of a shape
abbrev pub span_of : ℕ → ℕ → ℕ → ℕ → Span
span_of lane request start end = record { request = request; lane = lane; start = start; end = end }

-- the text of a shape
abbrev pub shape_text : Plot → Shape → List ℕ
shape_text p (shape.Bar thread lane request start end) = bar_text (bar_at p thread (span_of lane request start end))
shape_text p (shape.Wait lane request start end how) = wait_text p (span_of lane request start end) how
shape_text p (shape.Full lane at) = tick_text (mark_at p at (strip_y p lane + 2))
shape_text p (shape.Rule at) = rule_text (mark_at p at (bottom p))
shape_text p (shape.Dot lane at) = dot_text lane (mark_at p at (bottom p + 10))
