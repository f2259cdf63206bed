use Rattle.std.proofs.Common.{◌∙◌, sym, rules}
use Rattle.idl_scopes.specs.Views.{table_of}
use Rattle.idl_scopes.proofs.PartLookups.{part_found, part_next}
use Rattle.idl_scopes.proofs.scopes.Scopes.among_parts.Goals as goal

pub returns-in-Some : goal.returns-in-Some
returns-in-Some c =
    part_found (table_of c.args.self.now) c.args.name.now c.args.parts.now c.loop-part.part-index c.part-item.result c.deref.result.now _ c.in-Some.at c.loop-part-test.true (search rules)
    (sym c.in_ok-at.ensures ∙ c.in-Some.is) c.loop-part.invariant

pub loop-part-preserved : goal.loop-part-preserved
loop-part-preserved c =
    part_next (table_of c.args.self.now) c.args.name.now c.args.parts.now c.loop-part.part-index c.part-item.result c.deref.result.now _ c.loop-part-test.true (search rules)
    (sym c.in_ok-at.ensures ∙ c.in_default.is) c.loop-part.invariant
