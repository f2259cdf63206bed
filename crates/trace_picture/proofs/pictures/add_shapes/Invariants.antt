use Rattle.std.proofs.Common.{◌≡◌, ◌++◌, take, string_bytes}
use Rattle.std.specs.List.{flat_map}
use Rattle.trace_picture.specs.Marks.{shape_text}
use Rattle.trace_picture.proofs.pictures.add_shapes.Given as goal

abbrev pub invariant-loop-shape : goal.invariant-loop-shape
invariant-loop-shape l = string_bytes l.text ≡ string_bytes l.fn.text ++ flat_map (shape_text l.layout) (take l.shape-index l.shapes)
