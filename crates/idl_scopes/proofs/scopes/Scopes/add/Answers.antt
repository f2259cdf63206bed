use Rattle.std.proofs.Common.{◌≡◌, [], ◌∷◌, ◌++◌, map, ◌∙◌}
use Rattle.idl_scopes.specs.Declarations.{known_of, declared_of, sort_of}
use Rattle.idl_scopes.specs.Finding.{lowered}
use Rattle.idl_scopes.proofs.AddedKeys.{declared_added}
use Rattle.idl_scopes.proofs.scopes.Scopes.add.Goals as goal

pub returns : goal.returns
returns c =
    let keys : map known_of c.add.new.self.known.keys ≡ map known_of c.args.self.now.index.known.keys ++ (c.args.scope, lowered c.args.name.now) ∷ []
    = c.in_ok-add.ensures ∙ (λ j. map known_of c.args.self.now.index.known.keys ++ (c.in_ok-key.ensures.scope j, c.in_ok-key.ensures.name j) ∷ []) in
    let declared : map declared_of c.add-2.new.self.declared.items ≡ map declared_of c.args.self.now.rows.declared.items ++ record { scope = c.args.scope; name = c.args.name.now; place = c.args.place; sort = sort_of c.args.sort } ∷ []
    = declared_added c.args.self.now.rows.declared.items c.add-2.new.self.declared.items (record { scope = c.args.scope; name = c.in_ok-name.name; place = c.args.place; sort = c.args.sort }) c.args.name.now c.in_ok-add-2.ensures c.in_ok-name.ensures.items in
    λ j. record { keys = keys j; declared = declared j }
