use Rattle.std.proofs.Common.{◌≡◌, ◌∙◌, ap, ℕ, List, not, rules}
use Rattle.std.specs.Prelude.{Vec}
use Rattle.std.specs.List.{list_any}
use Rattle.std.specs.Str.{bytes_eq, str_to_ascii_lowercase}
use Rattle.std.specs.declared.alloc.Global.{Global}
use Rattle.idl_types.specs.Views.{thing_of}
use Rattle.idl_types.proofs.Judging.{new_by_case}
use Rattle.idl_types.proofs.repository.Repository.has_new_id.Goals as goal

pub returns : goal.returns
returns c =
    let s = c.args.self.now in
    let same : c.as_slice.result.now ≡ c.in_ok-low.low.items = search rules in
    ap not (c.contains.ensures
    ∙ ap (λ (l : List ℕ). list_any (λ (n : Vec ℕ Global). bytes_eq l n.items) s.folded.keys) same
    ∙ new_by_case c.in_ok-low.low.items s.folded.keys s.declared.entries (thing_of c.args.declaration.now) (c.in_ok-low.ensures ∙ ap str_to_ascii_lowercase c.id.ensures) s.by_case)
