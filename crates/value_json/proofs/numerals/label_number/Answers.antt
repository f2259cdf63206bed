use Rattle.std.proofs.Common.{option_map, pos}
use Rattle.serde_json.specs.View.{view}
use Rattle.value_json.proofs.Data.{label_is}
use Rattle.value_json.proofs.numerals.label_number.Goals as goal

pub returns-in-Some : goal.returns-in-Some
returns-in-Some c =
    label_is c.place_of.result c.args.labels.now.items c.as_slice.result.now c.in-Some.text.now (view c.args.json.now) (option_map pos c.as_label.result)
    c.as_label.ensures c.place_of.ensures c.as_slice.ensures c.in-Some.ensures
