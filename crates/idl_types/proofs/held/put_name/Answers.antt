use Rattle.std.proofs.Common.{◌∙◌, ap, List, ℕ, ◌≡◌, ◌++◌, ◌∷◌, []}
use Rattle.std.specs.Prelude.{Vec}
use Rattle.std.specs.declared.alloc.Global.{Global}
use Rattle.std.specs.Str.{bytes_eq}
use Rattle.std.specs.List.{list_any}
use Rattle.idl_types.specs.Names.{names_in}
use Rattle.idl_types.proofs.NamesKept.{put_behind, not_kept}
use Rattle.idl_types.proofs.held.put_name.Goals as goal

pub returns : goal.returns
returns c =
    let n = c.in_ok-name.name in
    let same : n.items ≡ c.args.name.now = c.in_ok-name.ensures.items in
    let ns = c.args.names.now.keys in
    ap names_in c.in_ok-insert.ensures.keys
    ∙ put_behind (λ (a b : Vec ℕ Global). bytes_eq a.items b.items) ns n (not_kept n.items ns (ap (λ (name : List ℕ). list_any (bytes_eq name) (names_in ns)) same ∙ c.requires))
    ∙ ap (λ (name : List ℕ). names_in ns ++ name ∷ []) same
