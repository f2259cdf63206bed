use Rattle.std.proofs.Common.{◌∙◌, ap, ℕ}
use Rattle.std.specs.Prelude.{Vec}
use Rattle.std.specs.Str.{bytes_eq}
use Rattle.std.specs.declared.alloc.Global.{Global}
use Rattle.idl_types.specs.Names.{names_in}
use Rattle.idl_types.proofs.NamesKept.{not_kept}
use Rattle.idl_types.proofs.NamesKept as kept
use Rattle.idl_types.proofs.repository.put_behind.Goals as goal

pub returns : goal.returns
returns c =
    let n = c.args.name in
    let ns = c.args.names.now.keys in
    ap names_in c.in_ok-insert.ensures.keys ∙ kept.put_behind (λ (a b : Vec ℕ Global). bytes_eq a.items b.items) ns n (not_kept n.items ns c.requires)
