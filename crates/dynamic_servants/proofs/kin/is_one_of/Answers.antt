use Rattle.idl_types.specs.Contents.{things_of}
use Rattle.dynamic_servants.proofs.Ancestors.{told_kin}
use Rattle.dynamic_servants.proofs.kin.is_one_of.Goals as goal

pub returns : goal.returns
returns c = told_kin (things_of c.args.repository.now) c.args.repository.now.based c.args.id.now c.args.other.now c.is_a.result c.is_a.ensures
