use Rattle.std.proofs.Common.{rules, refl}
use Rattle.std.proofs.lemmas.Option.{slice_get_read}
use Rattle.idl_scopes.proofs.FinishedPlaces.{finishes}
use Rattle.idl_scopes.proofs.PlacedRows.{placed_written}
use Rattle.idl_scopes.proofs.rows.Rows.finish.Goals as goal

pub returns-then-at-len : goal.returns-then-at-len
returns-then-at-len c = finishes c.args.self.now.declared.items c.args.at c.index_mut.result.now c.args.sort (search (slice_get_read, rules))

pub invariant_of-self : goal.invariant_of-self
invariant_of-self c = record { placed = placed_written c.args.self.now.by_scope c.args.self.now.declared.items c.args.at c.index_mut.result.now (record c.index_mut.result.now { sort = c.args.sort }) (search (slice_get_read, rules)) refl c.args.self.now.placed }
