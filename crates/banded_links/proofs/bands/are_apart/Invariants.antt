use Rattle.std.proofs.Common.{◌≡◌, drop}
use Rattle.orb_base.specs.Apart.{are_apart}
use Rattle.banded_links.proofs.bands.are_apart.Given as goal

abbrev pub invariant-loop-at : goal.invariant-loop-at
invariant-loop-at l = are_apart (drop l.at l.bands) ≡ are_apart l.bands
