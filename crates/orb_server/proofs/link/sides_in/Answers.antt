use Rattle.std.proofs.Common.{rules, subst, sym}
use denote.Param.Send.{Quiet-if}
use denote.Exit.{unseen, yes}
use mir.Syntax.{of_param}
use Rattle.lane_pool.specs.Turns.{Writes}
use Rattle.orb_server.proofs.link.sides_in.Goals as goal

pub spawn_with-requires : goal.spawn_with-requires
spawn_with-requires g c κs within = (
  within.0,
  (
    within.1,
    (
      search rules,
      record { owned = c.type_bounds.send-O.owned; leaving = λ k. Quiet-if (k (of_param 0)) _ unseen (c.type_bounds.send-O.leaving yes) (λ x w. tt) },
      subst (λ f. Writes f.1.now.cell f.2) (sym c.in-Err.ensures.err) c.requires.writer,
    ),
  ),
)
