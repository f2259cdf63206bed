use Rattle.std.proofs.Common.{◌∙◌, sym, refl, false}
use Rattle.std.proofs.lemmas.Bool.{both_ways}
use Rattle.std.proofs.lemmas.Option.{none-some}
use Rattle.idl_types.specs.Contents.{things_of}
use Rattle.idl_types.proofs.Descent.{has_place, descends_by_places, no_descent}
use Rattle.idl_types.proofs.repository.Repository.descends.Goals as goal

pub returns-in-Some-place_of : goal.returns-in-Some-place_of
returns-in-Some-place_of c =
    let s = c.args.self.now in
    let d = descends_by_places (things_of s) s.based c.args.id.now c.args.base.now c.in-Some.from c.in-Some-place_of.to (sym c.in-Some.ensures.place) (sym c.in-Some-place_of.ensures.place) in
    ((λ e. d.0 (c.leads.ensures.0 e)), (λ x. c.leads.ensures.1 (d.1 x)))

pub returns-in-None-place_of : goal.returns-in-None-place_of
returns-in-None-place_of c =
    let s = c.args.self.now in
    ((λ e. absurd (both_ways false refl e)), (λ x. absurd (no_descent (things_of s) s.based c.args.id.now c.args.base.now c.in-Some.from (sym c.in-Some.ensures.place) (sym c.in-None-place_of.ensures.place) x)))

pub returns-in-None : goal.returns-in-None
returns-in-None c = let h = has_place (things_of c.args.self.now) c.args.id.now c.requires in absurd (none-some h.0 (c.in-None.ensures.place ∙ h.1))
