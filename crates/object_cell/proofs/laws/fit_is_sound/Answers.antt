use Rattle.object_cell.specs.Held.{enough}
use Rattle.object_cell.proofs.laws.fit_is_sound.Goals as goal

pub returns : goal.returns
returns g c = enough g.S.Staging.zero g.S.Staging.staged
