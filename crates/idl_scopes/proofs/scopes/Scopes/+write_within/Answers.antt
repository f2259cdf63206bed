use Rattle.std.proofs.Common.{arith}
use Rattle.idl_scopes.specs.Views.{table_of}
use Rattle.idl_scopes.proofs.Within.{none_around, none_asked, wrote}
use Rattle.idl_scopes.proofs.scopes.Scopes.+write_within.Goals as goal

pub returns-then-scope-eq0 : goal.returns-then-scope-eq0
returns-then-scope-eq0 t c = none_around c.args.n (table_of c.args.self.now) c.args.scope c.args.out.now.items (omega arith)

pub returns-then-n-eq0 : goal.returns-then-n-eq0
returns-then-n-eq0 t c = none_asked c.args.n (table_of c.args.self.now) c.args.scope c.args.out.now.items (omega arith)

pub returns : goal.returns
returns t c =
    wrote c.args.n (table_of c.args.self.now) c.args.scope c.args.out.now.items c.write_within.new.out.items c.extend_from_slice.new.self.items c.push.new.self.items c.outer.result c.name_at.result.now
    (omega arith) (omega arith) c.outer.ensures c.in_ok-write_within.ensures c.name_at.ensures c.in_ok-extend_from_slice.ensures.items c.in_ok-push.ensures.items
