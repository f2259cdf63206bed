use Rattle.std.proofs.Common.{◌≡◌, List, [], ◌∷◌, ◌++◌, map, sym, ap, ◌∙◌, subst}
use Rattle.std.proofs.lemmas.Result.{err_from_is_err_and}
use Rattle.cdr_core.specs.Cursor.{Reads}
use Rattle.cdr_values.specs.Kinds.{kind_of}
use Rattle.cdr_values.specs.Reading.{with_front}
use Rattle.cdr_values.specs.Trees.{Value}
use Rattle.cdr_values.specs.Values.{value_of, values_view}
use Rattle.cdr_values.specs.declared.value.IdlValue.{IdlValue}
use Rattle.idl_types.specs.Views.{param_of}
use Rattle.value_json.specs.Operations.{kinds_back}
use Rattle.client_calls.specs.Bodies.{cursor_of, GivesAll}
use Rattle.client_calls.specs.Replies.{values_at}
use Rattle.client_calls.proofs.Readings.{first_then, first_fails}
use Rattle.client_calls.proofs.results.take_result.Goals as goal

pub returns-in_err-value : goal.returns-in_err-value
returns-in_err-value c =
    let p = err_from_is_err_and c.from_residual.result c.from_residual.ensures.1 in
    rw (p.1, p.2) (first_fails c.in_err-value.field-0.0 (kind_of c.args.kind.now) (kinds_back (map param_of c.args.params.now)) (cursor_of c.args.body.now) c.in_err-value.ensures)

pub returns : goal.returns
returns c =
    let ks = kinds_back (map param_of c.args.params.now) in
    let v = value_of c.in_ok-value.value in
    let d = cursor_of c.take.new.body in
    let items : c.add.new.values.items ≡ c.in_ok-value.value ∷ [] = c.in_ok-add.ensures ∙ ap (λ (l : List IdlValue). l ++ c.in_ok-value.value ∷ []) c.new-values.ensures in
    let one : values_view c.add.new.values.items ≡ v ∷ [] = ap (λ (l : List IdlValue). values_view l) items in
    let same : with_front (values_view c.add.new.values.items) (values_at ks d) ≡ values_at (kind_of c.args.kind.now ∷ ks) (cursor_of c.args.body.now) =
    ap (λ (vs : List Value). with_front vs (values_at ks d)) one ∙ sym (first_then (kind_of c.args.kind.now) ks (cursor_of c.args.body.now) v d c.in_ok-value.ensures) in
    subst (λ (r : Reads (List Value)). GivesAll c.take_backs.result r) same c.take_backs.ensures
