use Rattle.std.proofs.Common.{◌<◌, sym, subst, ◌∙◌, refl, arith}
use Rattle.orb_base.specs.JobRecord.{JobRecord}
use Rattle.names_hall.specs.Hands.{Hand}
use Rattle.names_hall.specs.Seats.{IsHandOf, Invokes}
use Rattle.names_hall.proofs.Invoking.{may_call, still_of}
use Rattle.names_hall.proofs.hall.NamesHallHall.invoke.Goals as goal

pub carry_out-outcome-requires : goal.carry_out-outcome-requires
carry_out-outcome-requires g c = record {
  may = may_call c.args.self.now.map.now _ (subst (λ (h : Hand). IsHandOf c.args.self.now.map.now h) (sym c.hand.view_is) c.requires.of)
      (subst (λ (h : Hand). 0 < h.spare) (sym c.hand.view_is) c.requires.spare);
}

pub returns-clause-of : goal.returns-clause-of
returns-clause-of g c =
    let spare : 0 < c.hand.inside.spare = subst (λ (h : Hand). 0 < h.spare) (sym c.hand.view_is) c.requires.spare in
    still_of c.args.self.now.map.now c.share_job.result c.carry_out-outcome.result _ _
    (subst (λ (h : Hand). IsHandOf c.args.self.now.map.now h) (sym c.hand.view_is) c.requires.of)
    (subst (λ (j : JobRecord). Invokes j c.carry_out-outcome.result c.hand.inside.seat c.carry_out-outcome.new.seat) (c.get.ensures ∙ sym c.share_job.ensures) c.carry_out-outcome.ensures.invokes)
    refl c.kept-done.ensures.done (omega arith)
