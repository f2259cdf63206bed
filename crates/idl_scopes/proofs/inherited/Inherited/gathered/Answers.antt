use Rattle.std.proofs.Common.{sym, ◌∙◌}
use Rattle.idl_scopes.specs.Inherited.{list_of}
use Rattle.idl_scopes.proofs.OnceEach.{all_above}
use Rattle.idl_scopes.proofs.inherited.Inherited.gathered.Goals as goal

pub returns-then-is_below : goal.returns-then-is_below
returns-then-is_below c =
    c.in_ok-whole.ensures
    ∙ sym (all_above c.args.self.now.least c.args.self.now.most c.args.other.now.least c.args.other.now.most c.args.scope (list_of c.args.self.now) (list_of c.args.other.now)
    c.args.self.now.within c.args.other.now.within c.args.other.now.once (c.is_below.ensures.own c.if-is_below.true) (c.is_below.ensures.other c.if-is_below.true) (c.is_below.ensures.scope c.if-is_below.true))
