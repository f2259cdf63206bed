use Rattle.std.proofs.Common.{◌≡◌, Ok, drop}
use Rattle.script_names.specs.Finding.{further}
use Rattle.script_names.specs.Views.{found_of}
use Rattle.script_names.specs.Contents.{known_of}
use Rattle.script_names.proofs.names.Names.further.Given as goal

abbrev pub invariant-loop-part : goal.invariant-loop-part
invariant-loop-part l = further (known_of l.self) (Ok (found_of l.found)) (drop l.part-index l.parts) ≡ further (known_of l.self) (Ok (found_of l.fn.found)) l.parts
