-- One name more, and names that give nothing.
use Rattle.std.proofs.Common.{◌≡◌, ℕ, ◌+◌, ◌<◌, arith, List, ◌∷◌, ◌++◌, length, map, drop, get_or, Option, None, slice_get, option_map, append_assoc, append-nil, sym, ap, ◌∙◌}
use Rattle.std.proofs.lemmas.Option.{slice_get-map}
use Rattle.std.proofs.lemmas.List.{drop_more, get_or-map, length-map}
use Rattle.idl_scopes.specs.Table.{Table}
use Rattle.idl_types.specs.Things as things
use Rattle.idl_names.specs.State as names
use Rattle.idl_names.specs.Changes.{thing_in}
use Rattle.idl_names.specs.Views.{thing_of}
use Rattle.idl_names.specs.declared.state.Thing.{Thing}
use Rattle.idl_reader.specs.Declared.{operations_of, declared_at, listed, declared_from}

-- where no name is, no operation is given
pub none_given : (os : List things.OperationView) (ts : List Thing) (i : ℕ) → slice_get ts i ≡ None → os ≡ os ++ operations_of (thing_in (slice_get (map thing_of ts) i))
none_given os ts i e =
    sym (append-nil os) ∙ ap (λ (o : Option names.Thing). os ++ operations_of (thing_in o)) (sym (slice_get-map thing_of ts i ∙ ap (option_map thing_of) e))

pub thing_next : (ts : List Thing) (i : ℕ) (x : Thing) → i < length ts → x ≡ get_or ts i x → drop i (map thing_of ts) ≡ thing_of x ∷ drop (i + 1) (map thing_of ts)
thing_next ts i x h is =
    let n : length (map thing_of ts) ≡ length ts = length-map ts thing_of in
    drop_more (map thing_of ts) i (thing_of x) (omega arith)
    ∙ ap (λ (t : names.Thing). t ∷ drop (i + 1) (map thing_of ts)) (get_or-map thing_of ts i x (thing_of x) h ∙ ap thing_of (sym is))

-- what one name more declares is after what those before it do
pub declares_on : (table : Table) (all : List names.Thing) (ts : List Thing) (i : ℕ) (x : Thing) (old new total : List things.Thing) → i < length ts → x ≡ get_or ts i x
    → new ≡ old ++ listed (declared_at table all i (thing_of x)) → old ++ declared_from table all i (drop i (map thing_of ts)) ≡ total
    → new ++ declared_from table all (i + 1) (drop (i + 1) (map thing_of ts)) ≡ total
declares_on table all ts i x old new total h is more so_far =
    let rest = declared_from table all (i + 1) (drop (i + 1) (map thing_of ts)) in
    ap (λ (us : List things.Thing). us ++ rest) more
    ∙ append_assoc old (listed (declared_at table all i (thing_of x))) rest
    ∙ ap (λ (us : List names.Thing). old ++ declared_from table all i us) (sym (thing_next ts i x h is))
    ∙ so_far
