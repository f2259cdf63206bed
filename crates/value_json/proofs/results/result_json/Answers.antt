use Rattle.std.proofs.Common.{map, subst}
use Rattle.std.specs.Prelude.{◌≡◌, IfOk}
use Rattle.serde_json.specs.Data.{Items}
use Rattle.serde_json.specs.View.{items_view}
use Rattle.cdr_values.proofs.Endings.{front_of}
use Rattle.cdr_values.specs.Kinds.{kind_of}
use Rattle.idl_types.specs.Views.{param_of}
use Rattle.value_json.specs.Operations.{kinds_back}
use Rattle.value_json.proofs.Answering.{result_shown, nothing_shown, none_below}
use Rattle.value_json.proofs.results.result_json.Goals as goal

pub returns-in_default : goal.returns-in_default
returns-in_default c =
    nothing_shown (kind_of c.args.kind.now) (kinds_back (map param_of c.args.params.now)) c.args.values.now c.in_ok-list.list.items
    (none_below c.args.values.now c.in_default.len_below) c.in_ok-list.ensures.items

pub returns : goal.returns
returns c =
    let v = c.value-item.result in
    subst (λ (ds : Items). IfOk c.outs_json.result (λ l. items_view l.items ≡ ds))
    (result_shown (kind_of c.args.kind.now) (kinds_back (map param_of c.args.params.now)) c.args.values.now _ v c.in_ok-to_json.field-0 c.push.new.self.items c.in_ok-list.list.items
    (front_of c.args.values.now v _ c.in-len1-up.len_at_least c.value-item.is) c.in_ok-to_json.ensures c.in_ok-list.ensures.items c.in_ok-push.ensures.items)
    c.outs_json.ensures
