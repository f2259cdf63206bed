use Rattle.std.proofs.Common.{◌∷◌, rules}
use Rattle.idl_scopes.specs.Inherited.{list_of}
use Rattle.idl_scopes.proofs.OnceEach.{once_more, within_next}
use Rattle.idl_scopes.proofs.inherited.Inherited.inherit.Goals as goal

pub invariant_of-drop : goal.invariant_of-drop
invariant_of-drop c = record {
  once = once_more (list_of c.args.self.now) (c.args.scope ∷ list_of c.args.other.now) _ c.args.self.now.once c.in_ok-pieces.ensures;
  within =
      within_next c.args.self.now.least c.args.self.now.most c.args.other.now.least c.args.other.now.most c.args.scope _ _ (list_of c.args.self.now) (list_of c.args.other.now) _ c.args.self.now.within c.args.other.now.within
      (search rules, search rules) (search rules, search rules) (search rules, search rules) c.in_ok-pieces.ensures;
}
