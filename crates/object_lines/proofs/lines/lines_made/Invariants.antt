-- The lines so far, and those of the objects after, are all lines.
use Rattle.std.proofs.Common.{◌≡◌, ◌++◌, ◌≤◌, ◌-◌, length, drop}
use Rattle.std.specs.List.{flat_map}
use Rattle.object_lines.specs.Lines.{line_text, lines_text}
use Rattle.object_lines.proofs.lines.lines_made.Given as goal

abbrev pub invariant-loop-object : goal.invariant-loop-object
invariant-loop-object l = (l.n ≤ length l.setup.objects)
    × (l.lines.items ++ flat_map (line_text l.setup l.host l.port) (drop l.n l.setup.objects) ≡ lines_text l.setup l.host l.port)

abbrev pub decreases-loop-object : goal.decreases-loop-object
decreases-loop-object l = length l.setup.objects - l.n
