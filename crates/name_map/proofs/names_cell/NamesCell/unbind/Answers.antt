use Rattle.std.proofs.Common.{rules, ◌≡◌, true, List, sym, subst, ◌∙◌, ap}
use Rattle.name_map.specs.declared.binding.Binding.{Binding}
use Rattle.name_map.specs.Bindings.{has, out}
use Rattle.name_map.specs.Machine.{IsMap}
use Rattle.name_map.specs.Places.{place}
use Rattle.name_map.proofs.Doing.{removed, out_is_map, unbinds}
use Rattle.name_map.proofs.names_cell.NamesCell.unbind.Goals as goal

pub invariant_of-self : goal.invariant_of-self
invariant_of-self c =
    let items : List Binding = c.self.inside.bindings.items in
    let same : c.as_slice.result.now ≡ items = c.as_slice.ensures.value in
    let at : c.place-at.result ≡ place c.args.key.now items = c.place-at.ensures.value ∙ ap (place c.args.key.now) same in
    let there : has c.args.key.now items ≡ true = search rules in
    (subst IsMap (sym (c.remove.ensures.items ∙ removed c.args.key.now items c.place-at.result c.self.invariant.0.0 at there)) (out_is_map c.args.key.now items c.self.invariant.0), search rules)

pub returns : goal.returns
returns c =
    let items : List Binding = c.self.inside.bindings.items in
    let same : c.as_slice.result.now ≡ items = c.as_slice.ensures.value in
    let at : c.place-at.result ≡ place c.args.key.now items = c.place-at.ensures.value ∙ ap (place c.args.key.now) same in
    let there : has c.args.key.now items ≡ true = search rules in
    unbinds c.args.key.now c.args.self.now c.remove.new.self.items (ap (has c.args.key.now) (sym c.self.view_is) ∙ there)
    (c.remove.ensures.items ∙ removed c.args.key.now items c.place-at.result c.self.invariant.0.0 at there ∙ ap (out c.args.key.now) c.self.view_is)
