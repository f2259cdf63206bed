use Rattle.giop_frames.proofs.Framed.{rest_now}
use Rattle.giop_frames.proofs.framer.Framer.rest.Goals as goal

pub returns-in-None-clause-rest : goal.returns-in-None-clause-rest
returns-in-None-clause-rest c =
    λ h. rest_now c.args.self.now c.self.inside.fault c.self.inside.limit c.self.inside.fed.items c.self.inside.joiner c.self.inside.left _ c.rest.result c.self.view_is c.in-None.is c.self.invariant c.rest.ensures
