-- No type, exception, constant, result or parameter that a text declares is larger than it may be.
use Rattle.std.proofs.Common.{◌≡◌, ◌≤◌, arith, true, List, [], ◌∷◌, Option, Some, None, sym, subst}
use Rattle.std.specs.Prelude.{nat_le}
use Rattle.std.proofs.lemmas.Bool.{and_from, le-leb}
use Rattle.cdr_values.specs.Trees.{Kind, members_of}
use Rattle.idl_types.specs.Counting.{leaves_of, levels_of, leaves_of_members, levels_of_members}
use Rattle.idl_types.specs.Things.{OperationView, ParamView}
use Rattle.idl_names.specs.State.{Thing, nothing, interface, type, exception, constant, enumerator, operations}
use Rattle.idl_reader.specs.Accepted.{Each, TextsGive, is_small_kind, are_small_members, HasSmallTypes}
use Rattle.idl_reader.proofs.KeptTypes.{IsSoResult, AreSoParams, AreSoOperations, IsSoThing}
use Rattle.idl_reader.proofs.Measured.{IsMeasuredThing, measured_text}
use Rattle.idl_reader.proofs.SizedTypes.{small}
use Rattle.idl_reader.proofs.SmallOperations.{IsSmallResult, AreSmallParams, AreSmallOperations, HasSmallOperations, small_text}
use Rattle.idl_reader.proofs.TypedThings.{each_typed}

small_kind : (k : Kind) → leaves_of k ≤ 65536 → levels_of k ≤ 64 → is_small_kind k ≡ true
small_kind k a b = and_from (nat_le (leaves_of k) 65536) (nat_le (levels_of k) 64) (le-leb (leaves_of k) 65536 a) (le-leb (levels_of k) 64 b)

small_params : (ps : List ParamView) → AreSmallParams ps → AreSoParams is_small_kind are_small_members ps
small_params [] h = tt
small_params (p ∷ ps) h = (small_kind p.kind h.0.leaves h.0.levels, small_params ps h.1)

small_result : (o : Option Kind) → IsSmallResult o → IsSoResult is_small_kind are_small_members o
small_result None h = tt
small_result (Some k) h = small_kind k h.leaves h.levels

small_operations : (os : List OperationView) → AreSmallOperations os → AreSoOperations is_small_kind are_small_members os
small_operations [] h = tt
small_operations (o ∷ os) h = ((small_result o.result h.0.0, small_params o.params h.0.1), small_operations os h.1)

-- what is measured is small
small_thing : (x : Thing) → IsMeasuredThing x → HasSmallOperations x → IsSoThing is_small_kind are_small_members x
small_thing nothing m h = tt
small_thing (interface bs os) m h = tt
small_thing (type k) m h = let p = small k m.0 m.1 in small_kind k.kind p.leaves p.levels
small_thing (exception ms) m h =
    and_from (nat_le (leaves_of_members (members_of ms)) 65536) (nat_le (levels_of_members (members_of ms)) 64) (le-leb (leaves_of_members (members_of ms)) 65536 m.0) (le-leb (levels_of_members (members_of ms)) 64 m.1)
small_thing (constant k v) m h =
    let a = m.0 in
    let b = m.1 in
    small_kind k (omega arith) (omega arith)
small_thing (enumerator id n) m h = tt
small_thing (operations os n) m h = small_operations os h

pub texts_give_small_types : TextsGive HasSmallTypes
texts_give_small_types text ts w =
    let n = w.new in
    let a = (measured_text text n w.names).things in
    let b = (small_text text n w.names).things in
    subst (Each HasSmallTypes []) (sym w.told) (each_typed is_small_kind are_small_members n.scopes n.things (λ i x e. small_thing x (a i x e) (b i x e)))
