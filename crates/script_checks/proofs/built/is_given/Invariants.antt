use Rattle.std.proofs.Common.{◌≡◌, List, drop}
use Rattle.idl_types.specs.Things.{Thing}
use Rattle.script_values.specs.Views.{parts_view}
use Rattle.script_checks.specs.Built.{is_given}
use Rattle.script_checks.proofs.built.is_given.Given as goal

abbrev pub invariant-loop-element : goal.invariant-loop-element
invariant-loop-element l =
    (ts : List Thing) → is_given (parts_view ts (drop l.element-index l.elements)) l.place
    ≡ is_given (parts_view ts l.elements) l.place
