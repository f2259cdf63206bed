-- What a picture has besides its shapes: the colours of the lanes, the rows with their names, the axis, and the legend. Own profile.
use Rattle.std.specs.Prelude.{ℕ, zero, suc, ◌+◌, ◌*◌, ◌%◌, ◌==◌, nat_lt, List, [], ◌++◌, codes, length, slice_index, if◌then◌else◌}
use Rattle.std.specs.Fmt.{decimal}
use Rattle.trace_picture.specs.Plots.{Plot, row_width, bottom, thread_y, strip_y, width, height, number_of, ticks}
use Rattle.trace_picture.specs.declared.layout.TheConstants.{LEFT, SPACE}
use Rattle.trace_picture.specs.declared.ground.TheConstants.{STYLE, LEGEND}

-- the texts of the numbers below one, one after another
abbrev pub each : (ℕ → List ℕ) → ℕ → List ℕ
each text zero = []
each text (suc k) = each text k ++ text k

-- the first four of the eight colours
abbrev pub warm_colour : ℕ → List ℕ
warm_colour c =
    if c == 0 then codes "#56b4e9" else if c == 1 then codes "#e69f00" else if c == 2 then codes "#009e73" else codes "#f0e442"

-- the other four
abbrev pub cool_colour : ℕ → List ℕ
cool_colour c =
    if c == 4 then codes "#cc79a7" else if c == 5 then codes "#0072b2" else if c == 6 then codes "#ffffff" else codes "#999999"

-- the colour of a lane: eight that those who can't tell red from green tell apart, in turn
unfoldable pub colour : ℕ → List ℕ
colour c = if nat_lt c 4 then warm_colour c else cool_colour c

-- the lines over it: five kinds in turn, so that no two of sixteen lanes look alike, in black and white too
unfoldable pub hatch : ℕ → List ℕ
hatch k =
    if k == 0 then codes "M0 0"
    else if k == 1 then codes "M0 6L6 0"
    else if k == 2 then codes "M 3 0v6"
    else if k == 3 then codes "M0 3H6"
    else codes "M0 0L6 6M0 6L6 0"

-- how what belongs to a lane is filled
unfoldable pub pattern_text : ℕ → List ℕ
pattern_text l =
    codes "<pattern id='l" ++ decimal l ++ codes "' width='6' height='6' patternUnits='userSpaceOnUse'><path fill='" ++ colour (l % 8)
    ++ codes "' d='M0 0H6V6H0z'/><path class='h' d='" ++ hatch (l % 5) ++ codes "'/></pattern>\n"

-- the name of a lane
unfoldable pub name_text : ℕ → ℕ → List ℕ
name_text l priority =
    codes "<path class='b' d='M8 8h16v16h-16z' fill='url(#l" ++ decimal l ++ codes ")'/><text x='30' y='20'>lane " ++ decimal l
    ++ codes ", priority " ++ decimal priority ++ codes "</text>"

-- a strip at a height, so wide, with the name of its lane
unfoldable pub strip_at : ℕ → ℕ → ℕ → ℕ → List ℕ
strip_at y w l priority =
    codes "<g transform='translate(0 " ++ decimal y ++ codes ")'><path class='s' d='M190 1v30h" ++ decimal w ++ codes "v-30z'/>"
    ++ name_text l priority ++ codes "</g>\n"

-- the row of a thread at a height, so wide
unfoldable pub row_at : ℕ → ℕ → ℕ → List ℕ
row_at y w t =
    codes "<g transform='translate(0 " ++ decimal y ++ codes ")'><path class='s' d='M190 1v14h" ++ decimal w
    ++ codes "v-14z'/><text x='110' y='12'>thread " ++ decimal t ++ codes "</text></g>\n"

-- a number at a place of the axis
unfoldable pub number_at : ℕ → ℕ → ℕ → List ℕ
number_at x y n =
    codes "<g transform='translate(" ++ decimal x ++ codes " " ++ decimal y
    ++ codes ")'><path class='a' d='M0 20v5'/><text y='38' text-anchor='middle'>" ++ decimal n ++ codes "</text></g>\n"

-- the axis itself at a height, so wide, and the name of the row of what is handed over
unfoldable pub axis_at : ℕ → ℕ → List ℕ
axis_at y w =
    codes "<g transform='translate(0 " ++ decimal y ++ codes ")'><path class='a' d='M190 20h" ++ decimal w
    ++ codes "'/><text x='110' y='14'>handed over</text><text x='110' y='38'>entry</text></g>\n"

-- how wide and how high the picture is
unfoldable pub size_text : ℕ → ℕ → List ℕ
size_text w h =
    codes "width='" ++ decimal w ++ codes "' height='" ++ decimal h ++ codes "' viewBox='0 0 " ++ decimal w ++ codes " " ++ decimal h
    ++ codes "'"

-- the beginning of a picture so wide and so high, with how its parts look
unfoldable pub head_of : ℕ → ℕ → List ℕ
head_of w h = codes "<svg xmlns='http://www.w3.org/2000/svg' " ++ size_text w h ++ codes ">\n" ++ STYLE.now

-- what the shapes mean, at a height, and the end
unfoldable pub legend_at : ℕ → List ℕ
legend_at y = codes "<g transform='translate(30 " ++ decimal y ++ codes ")'>\n" ++ LEGEND.now

-- the strip of a lane
abbrev pub strip_text : Plot → ℕ → List ℕ
strip_text p l = strip_at (strip_y p l) (row_width p) l (slice_index p.priorities l)

-- the row of a thread
abbrev pub row_text : Plot → ℕ → List ℕ
row_text p t = row_at (thread_y p t) (row_width p) t

-- a number at the axis
abbrev pub number_text : Plot → ℕ → List ℕ
number_text p i = number_at (LEFT + SPACE * i) (bottom p) (number_of p i)

-- the beginning of a picture, with its size
abbrev pub head_text : Plot → List ℕ
head_text p = head_of (width p) (height p)

-- the colours of the lanes
abbrev pub patterns_text : Plot → List ℕ
patterns_text p = each pattern_text (length p.priorities)

-- their strips
abbrev pub strips_text : Plot → List ℕ
strips_text p = each (strip_text p) (length p.priorities)

-- the rows of the threads
abbrev pub rows_text : Plot → List ℕ
rows_text p = each (row_text p) (length p.homes)

-- the axis
abbrev pub axis_text : Plot → List ℕ
axis_text p = axis_at (bottom p) (row_width p)

-- the numbers at the axis
abbrev pub numbers_text : Plot → List ℕ
numbers_text p = each (number_text p) (ticks p + 1)

-- the parts of a picture before its shapes, in the order in which they are written
unfoldable pub ground_text : Plot → List ℕ
ground_text p = head_text p ++ patterns_text p ++ strips_text p ++ rows_text p ++ axis_text p ++ numbers_text p

-- what the shapes mean, and the end
abbrev pub legend_text : Plot → List ℕ
legend_text p = legend_at (bottom p + 62)
