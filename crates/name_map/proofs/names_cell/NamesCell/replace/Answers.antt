use Rattle.std.proofs.Common.{rules, ◌≡◌, ◌<◌, true, List, length, vec_len, sym, subst, refl, ◌∙◌, ap, arith}
use Rattle.name_map.specs.declared.binding.Binding.{Binding}
use Rattle.name_map.specs.Bindings.{has, put}
use Rattle.name_map.specs.Machine.{IsMap}
use Rattle.name_map.specs.Places.{place}
use Rattle.name_map.proofs.Changing.{there_within, has_is}
use Rattle.name_map.proofs.Doing.{replaced, put_old_is_map}
use Rattle.name_map.proofs.names_cell.NamesCell.replace.Goals as goal

pub index_mut-requires : goal.index_mut-requires
index_mut-requires c =
    let items : List Binding = c.self.inside.bindings.items in
    let len : length items ≡ vec_len c.self.inside.bindings = search rules in
    let old : has c.args.key.now items ≡ true = ap (has c.args.key.now) c.self.view_is ∙ c.requires.old in
    let l = there_within c.args.key.now items (sym (has_is c.args.key.now items c.self.invariant.0.0) ∙ old) in
    let at : c.args.at ≡ place c.args.key.now items = c.requires.place ∙ ap (place c.args.key.now) (sym c.self.view_is) in omega arith

pub invariant_of-self : goal.invariant_of-self
invariant_of-self c =
    let items : List Binding = c.self.inside.bindings.items in
    let at : c.args.at ≡ place c.args.key.now items = c.requires.place ∙ ap (place c.args.key.now) (sym c.self.view_is) in
    let old : has c.args.key.now items ≡ true = ap (has c.args.key.now) c.self.view_is ∙ c.requires.old in
    (subst IsMap (sym (replaced c.args.key.now c.args.target.now items c.args.at c.in_ok-binding.binding c.self.invariant.0.0 at old c.in_ok-binding.ensures)) (put_old_is_map c.args.key.now c.args.target.now items c.self.invariant.0 old), search rules)

pub returns : goal.returns
returns c =
    let items : List Binding = c.self.inside.bindings.items in
    let at : c.args.at ≡ place c.args.key.now items = c.requires.place ∙ ap (place c.args.key.now) (sym c.self.view_is) in
    let old : has c.args.key.now items ≡ true = ap (has c.args.key.now) c.self.view_is ∙ c.requires.old in
    (replaced c.args.key.now c.args.target.now items c.args.at c.in_ok-binding.binding c.self.invariant.0.0 at old c.in_ok-binding.ensures ∙ ap (put c.args.key.now c.args.target.now) c.self.view_is, refl, refl)
