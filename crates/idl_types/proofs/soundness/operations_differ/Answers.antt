use Rattle.std.proofs.Common.{◌≡◌, ◌∙◌, ◌+◌, ◌++◌, ◌∷◌, [], sym, ap, List, ℕ, Some, suc, rules, arith}
use Rattle.std.specs.Prelude.{slice_get}
use Rattle.std.specs.List.{list_any}
use Rattle.std.specs.Str.{bytes_eq}
use Rattle.std.proofs.lemmas.Bool.{not-true, not-false, OnTrue_at}
use Rattle.std.proofs.lemmas.Option.{slice_get_read}
use Rattle.idl_types.specs.Names.{names_in}
use Rattle.idl_types.proofs.NamesTold.{told_same, names_take, told_apart}
use Rattle.idl_types.proofs.soundness.operations_differ.Goals as goal

pub returns-then-not-branch : goal.returns-then-not-branch
returns-then-not-branch c =
    let l = c.loop-operation in
    let o = c.operation-item.result in
    let os = c.args.operations.now in
    let at : slice_get os l.operation-index ≡ Some o = search (slice_get_read, rules) in
    let is = ap (λ (n : List ℕ). list_any (bytes_eq n) (names_in l.names.keys)) c.as_slice.ensures.bytes
    ∙ ap (λ (ns : List (List ℕ)). list_any (bytes_eq o.name) ns) l.invariant.0 in
    told_same os l.operation-index o at (sym is ∙ not-false (list_any (bytes_eq c.as_slice.result.now) (names_in l.names.keys)) (sym c.in_ok-put_if_new.ensures.new ∙ c.if-not-branch.true))

pub loop-operation-preserved : goal.loop-operation-preserved
loop-operation-preserved c =
    let l = c.loop-operation in
    let o = c.operation-item.result in
    let os = c.args.operations.now in
    let at : slice_get os l.operation-index ≡ Some o = search (slice_get_read, rules) in
    let next : l.operation-index + 1 ≡ suc l.operation-index = omega arith in
    let is = ap (λ (n : List ℕ). list_any (bytes_eq n) (names_in l.names.keys)) c.as_slice.ensures.bytes
    ∙ ap (λ (ns : List (List ℕ)). list_any (bytes_eq o.name) ns) l.invariant.0 in
    let new = not-true (list_any (bytes_eq c.as_slice.result.now) (names_in l.names.keys)) (sym c.in_ok-put_if_new.ensures.new ∙ c.if-not-branch.false) in (
      OnTrue_at c.if-not-branch.false c.in_ok-put_if_new.ensures.put
          ∙ ap (λ (n : List ℕ). names_in l.names.keys ++ n ∷ []) c.as_slice.ensures.bytes
          ∙ ap (λ (ns : List (List ℕ)). ns ++ o.name ∷ []) l.invariant.0
          ∙ sym (names_take os l.operation-index (l.operation-index + 1) o at next),
      told_apart os l.operation-index (l.operation-index + 1) o at next l.invariant.1 (sym is ∙ new),
    )
