use Rattle.std.proofs.Common.{rules}
use Rattle.std.specs.Prelude.{is_ok}
use Rattle.idl_scopes.proofs.PlacedRows.{placed_kept, placed_put}
use Rattle.idl_scopes.proofs.rows.Rows.add.Goals as goal

pub invariant_of-self : goal.invariant_of-self
invariant_of-self c = record { placed = placed_kept c.args.self.now.by_scope c.add.new.self 0 c.args.self.now.declared.items c.add.ensures.kept c.args.self.now.placed }

pub invariant_of-self-2 : goal.invariant_of-self-2
invariant_of-self-2 c = record {
  placed =
      placed_put c.add.new.self c.args.self.now.declared.items c.push.new.self.items c.args.declared (is_ok c.push.result) c.len-at.result c.push.ensures.items (search rules)
      (placed_kept c.args.self.now.by_scope c.add.new.self 0 c.args.self.now.declared.items c.add.ensures.kept c.args.self.now.placed) c.in_ok-add.ensures.put;
}
