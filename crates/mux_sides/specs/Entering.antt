-- The calls of one seat, one after another.
use Rattle.std.specs.Prelude.{◌≡◌, ◌++◌}
use Rattle.turn_cell.specs.Calls.{IsLater}
use Rattle.client_mux.specs.Machine.{History}
use Rattle.shared_link.specs.Link.{Sitting}

-- by the same seat these calls were made and answered so, each once and in this order, after those that it had made; it has seen no less
pub record Enters (entries : History) (old new : Sitting) : Type 0 where
  pub later : IsLater old new
  pub mine : new.mine ≡ old.mine ++ entries
