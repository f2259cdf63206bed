use Rattle.std.proofs.Common.{◌≡◌, ◌∷◌, ◌++◌, [], subst, sym, ap, ◌∙◌, true, rules}
use Rattle.indexmap.specs.IndexMap.{get}
use Rattle.idl_scopes.specs.Bases.{holds}
use Rattle.idl_scopes.specs.Groups.{listed}
use Rattle.idl_scopes.proofs.Grouping.{begun_kept, begun_put}
use Rattle.idl_scopes.proofs.groups.Groups.begin.Goals as goal

pub returns-clause-kept : goal.returns-clause-kept
returns-clause-kept g c = λ k n h.
    subst (λ (lists : _). holds (listed lists (get g.K.PartialEq.eq c.insert.new.self k)) n ≡ true) (sym c.in_ok-push-2.ensures.items)
    (begun_kept g.K.PartialEq.eq g.met.K.Eq.laws c.args.self.now.numbered c.insert.new.self c.args.self.now.lists.items c.push.new.self c.args.key c.len-at.result c.in_ok-insert.ensures.updates.0 c.requires k n h)

pub returns-clause-put : goal.returns-clause-put
returns-clause-put g c =
    subst (λ (lists : _). holds (listed lists (get g.K.PartialEq.eq c.insert.new.self c.args.key)) c.args.number ≡ true) (sym c.in_ok-push-2.ensures.items)
    (begun_put g.K.PartialEq.eq g.met.K.Eq.laws c.args.self.now.numbered c.insert.new.self c.args.self.now.lists.items c.push.new.self c.args.key c.len-at.result c.in_ok-insert.ensures.updates.0
    c.args.number (c.in_ok-push.ensures.items ∙ ap (λ (xs : _). xs ++ c.args.number ∷ []) c.new-list.ensures.items) (search rules))
