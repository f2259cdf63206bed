use Rattle.std.proofs.Common.{refl, ap, map, List}
use Rattle.cdr_core.specs.Cursor.{cursor}
use Rattle.cdr_values.specs.Values.{values_view}
use Rattle.cdr_values.specs.declared.value.IdlValue.{IdlValue}
use Rattle.idl_types.specs.Views.{param_of}
use Rattle.dynamic_servants.specs.Arguments.{arguments}
use Rattle.dynamic_servants.proofs.arguments.arguments.Goals as goal

pub loop-param-init : goal.loop-param-init
loop-param-init c = (
  cursor c.args.order 24 c.args.body.now,
  record { order = refl; rest = refl; place = refl },
  ap (λ (vs : List IdlValue). arguments (map param_of c.args.params.now) (values_view vs) (cursor c.args.order 24 c.args.body.now)) c.new-values.ensures.items,
)
