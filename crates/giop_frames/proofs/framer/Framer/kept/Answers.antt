use Rattle.std.proofs.Common.{ap, arith}
use Rattle.giop_frames.specs.Feeds.{Feed}
use Rattle.giop_frames.proofs.Framed.{kept_bound, kept_fits, kept_held}
use Rattle.giop_frames.proofs.framer.Framer.kept.Goals as goal

pub kept-requires : goal.kept-requires
kept-requires c = kept_fits c.self.inside.fault c.self.inside.limit c.self.inside.fed.items c.self.inside.joiner c.self.inside.left c.self.invariant

pub returns-clause-bound : goal.returns-clause-bound
returns-clause-bound c =
    omega (
      arith,
      kept_bound c.self.inside.fault c.self.inside.limit c.self.inside.fed.items c.self.inside.joiner c.self.inside.left c.self.invariant,
      c.kept.ensures,
      ap (λ (y : Feed). y.limit) c.self.view_is,
    )

pub returns-clause-held : goal.returns-clause-held
returns-clause-held c =
    kept_held c.args.self.now c.self.inside.fault c.self.inside.limit c.self.inside.fed.items c.self.inside.joiner c.self.inside.left _ c.kept.result c.self.view_is c.self.invariant c.kept.ensures
