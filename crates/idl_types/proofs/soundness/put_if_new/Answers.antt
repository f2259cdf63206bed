use Rattle.std.proofs.Common.{◌≡◌, ◌∙◌, sym, ap, List, ℕ, not}
use Rattle.std.specs.Prelude.{Vec}
use Rattle.std.specs.List.{list_any}
use Rattle.std.specs.Str.{bytes_eq}
use Rattle.std.specs.declared.alloc.Global.{Global}
use Rattle.idl_types.specs.Names.{names_in}
use Rattle.orb_base.proofs.Places.{any_map}
use Rattle.idl_types.proofs.soundness.put_if_new.Goals as goal

pub returns-clause-new : goal.returns-clause-new
returns-clause-new c =
    let n = c.in_ok-name.name in
    let ns = c.args.names.now.keys in
    let same : n.items ≡ c.args.name.now = c.in_ok-name.ensures.items in
    c.in_ok-insert.ensures.added
    ∙ ap not (sym (any_map (bytes_eq n.items) (λ (v : Vec ℕ Global). v.items) ns) ∙ ap (λ (name : List ℕ). list_any (bytes_eq name) (names_in ns)) same)
