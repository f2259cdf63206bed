use Rattle.std.proofs.Common.{◌∙◌, ℕ}
use Rattle.std.specs.Prelude.{Vec}
use Rattle.std.specs.Str.{bytes_eq}
use Rattle.std.specs.declared.alloc.Global.{Global}
use Rattle.idl_types.proofs.Holding.{insert_behind_is}
use Rattle.idl_types.proofs.repository.insert_behind.Goals as goal

pub returns-clause-entries : goal.returns-clause-entries
returns-clause-entries c = c.in_ok-insert.ensures.entries ∙ insert_behind_is (λ (a b : Vec ℕ Global). bytes_eq a.items b.items) c.args.key c.args.held c.args.declared.now.entries c.requires
