use Rattle.std.proofs.Common.{rules, ◌≡◌, ◌<◌, false, List, length, vec_len, sym, subst, ◌∙◌, ap, arith}
use Rattle.name_map.specs.declared.binding.Binding.{Binding}
use Rattle.name_map.specs.declared.limits.TheConstants.{MAX_KEYS}
use Rattle.name_map.specs.Bindings.{has, put}
use Rattle.name_map.specs.Machine.{IsMap}
use Rattle.name_map.specs.Places.{place}
use Rattle.name_map.proofs.Changing.{place_le}
use Rattle.name_map.proofs.Doing.{inserted, put_is_map, adds}
use Rattle.name_map.proofs.names_cell.NamesCell.add.Goals as goal

pub insert-requires : goal.insert-requires
insert-requires c =
    let len : length c.self.inside.bindings.items ≡ vec_len c.self.inside.bindings = search rules in
    let le = place_le c.args.key.now c.self.inside.bindings.items in
    let at : c.args.at ≡ place c.args.key.now c.self.inside.bindings.items = c.requires.place ∙ ap (place c.args.key.now) (sym c.self.view_is) in omega arith

pub invariant_of-self : goal.invariant_of-self
invariant_of-self c =
    let items : List Binding = c.self.inside.bindings.items in
    let at : c.args.at ≡ place c.args.key.now items = c.requires.place ∙ ap (place c.args.key.now) (sym c.self.view_is) in
    let new : has c.args.key.now items ≡ false = ap (has c.args.key.now) c.self.view_is ∙ c.requires.new in
    let few : length items < MAX_KEYS = search rules in
    (subst IsMap (sym (c.in-Ok.ensures.items ∙ inserted c.args.key.now c.args.target.now items c.args.at c.in_ok-binding.binding c.self.invariant.0.0 at new c.in_ok-binding.ensures)) (put_is_map c.args.key.now c.args.target.now items c.self.invariant.0 new few), search rules)

pub returns : goal.returns
returns c =
    let items : List Binding = c.self.inside.bindings.items in
    let at : c.args.at ≡ place c.args.key.now items = c.requires.place ∙ ap (place c.args.key.now) (sym c.self.view_is) in
    let new : has c.args.key.now items ≡ false = ap (has c.args.key.now) c.self.view_is ∙ c.requires.new in
    let few : length items < MAX_KEYS = search rules in
    adds c.args.key.now c.args.target.now c.args.self.now c.insert.new.self.items (subst (λ (z : List Binding). length z < MAX_KEYS) c.self.view_is few)
    (c.in-Ok.ensures.items ∙ inserted c.args.key.now c.args.target.now items c.args.at c.in_ok-binding.binding c.self.invariant.0.0 at new c.in_ok-binding.ensures ∙ ap (put c.args.key.now c.args.target.now) c.self.view_is)
