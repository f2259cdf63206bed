-- The seats of a link are one tree.
use Rattle.turn_cell.specs.Numbers.{Injects, NotFirst}
use Rattle.client_mux.specs.Callers.{heir}
use Rattle.client_mux.specs.declared.limits.TheConstants.{MAX_SEATS}
use Rattle.flat_seats.proofs.OneTree.{flat_injects, flat_not_first}

pub one_parent_of : Injects heir
one_parent_of = flat_injects MAX_SEATS

pub never_first_of : NotFirst heir
never_first_of = flat_not_first MAX_SEATS
