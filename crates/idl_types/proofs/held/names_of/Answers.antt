use Rattle.std.proofs.Common.{◌∙◌, ap, List, ℕ, rules}
use Rattle.std.specs.Str.{bytes_eq}
use Rattle.std.specs.List.{list_any}
use Rattle.std.proofs.lemmas.Option.{slice_get_read}
use Rattle.idl_types.specs.Names.{names_in}
use Rattle.idl_types.proofs.NamesKept.{name_new}
use Rattle.idl_types.proofs.held.names_of.Goals as goal

pub put_name-requires : goal.put_name-requires
put_name-requires c =
    ap (λ (n : List ℕ). list_any (bytes_eq n) (names_in c.loop-operation.names.keys)) c.as_slice.ensures.bytes
    ∙ ap (λ (ns : List (List ℕ)). list_any (bytes_eq c.operation-item.result.name) ns) c.loop-operation.invariant
    ∙ name_new c.args.operations.now c.loop-operation.operation-index c.operation-item.result (search (slice_get_read, rules)) c.requires
