use Rattle.std.proofs.Common.{◌∙◌}
use Rattle.object_refs.specs.Layout.{reference_fields}
use Rattle.orb_base.specs.declared.order.Order.TheVariants.{Big}
use Rattle.cdr_core.proofs.Loops as puts
use Rattle.object_refs.proofs.ior_write.encapsulated.Goals as goal

pub returns : goal.returns
returns c =
    c.finish.ensures
    ∙ puts.encapsulated Big c.new-into.result c.put_u8.new.self c.put_reference.new.into (reference_fields c.args.ior.now)
    c.new-into.ensures c.in_ok-put_u8.ensures
    c.in_ok-put_reference.ensures
