use Rattle.std.proofs.Common.{◌∙◌}
use Rattle.orb_base.specs.declared.order.Order.TheVariants.{Big}
use Rattle.cdr_core.specs.Lists.{list_fields, tagged_fields}
use Rattle.cdr_core.proofs.CallerLemmas.{encapsulated}
use Rattle.service_contexts.proofs.policies.policies_component.Goals as goal

pub returns : goal.returns
returns c =
    c.finish.ensures
    ∙ encapsulated Big c.new-into.result c.put_u8.new.self c.put_list.new.into (list_fields tagged_fields c.args.policies.now)
    c.new-into.ensures c.in_ok-put_u8.ensures c.in_ok-put_list.ensures
