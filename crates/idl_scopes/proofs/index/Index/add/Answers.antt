use Rattle.std.proofs.Common.{◌≡◌, true, subst, refl, ap, ◌∙◌, rules}
use Rattle.std.specs.Str.{bytes_eq}
use Rattle.indexmap.specs.IndexMap.{get_by}
use Rattle.idl_scopes.specs.Bases.{holds}
use Rattle.idl_scopes.specs.Groups.{listed}
use Rattle.idl_scopes.specs.contracts.known.KnownPartialEq.TheImpl.{ghosts}
use Rattle.idl_scopes.proofs.AddedKeys.{key_added}
use Rattle.idl_scopes.proofs.NamedKeys.{named_kept, named_put}
use Rattle.idl_scopes.proofs.index.Index.add.Goals as goal

pub invariant_of-self : goal.invariant_of-self
invariant_of-self c = record { named = named_kept c.args.self.now.by_name c.add.new.self 0 c.args.self.now.known.keys c.add.ensures.kept c.args.self.now.named }

pub invariant_of-self-2 : goal.invariant_of-self-2
invariant_of-self-2 c = record {
  named =
      named_put c.add.new.self ghosts.eq c.insert.result c.args.self.now.known.keys c.insert.new.self.keys c.args.key c.len.result c.insert.ensures.keys c.insert.ensures.err (search rules)
      (named_kept c.args.self.now.by_name c.add.new.self 0 c.args.self.now.known.keys c.add.ensures.kept c.args.self.now.named)
      (subst (λ (zs : _). holds (listed c.add.new.self.lists.items (get_by (λ x. bytes_eq zs x.items) c.add.new.self.numbered)) c.len.result ≡ true) (c.in_ok-low.ensures.items ∙ ap (λ x. x) c.deref.ensures.value) c.in_ok-add.ensures.put);
}

pub returns : goal.returns
returns c = key_added ghosts.eq c.args.key c.args.key.scope c.args.key.name.items c.args.self.now.known.keys c.insert.new.self.keys c.in_ok-insert.ensures.keys refl refl c.requires (λ x. refl)
