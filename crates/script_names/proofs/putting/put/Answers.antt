use Rattle.std.proofs.Common.{◌∙◌, sym, ap, List, ℕ}
use Rattle.std.specs.Prelude.{Vec, is_some}
use Rattle.std.specs.Map.{lookup}
use Rattle.std.specs.Str.{bytes_eq}
use Rattle.std.specs.declared.alloc.Global.{Global}
use Rattle.script_names.specs.Views.{pairs_of, with_pair}
use Rattle.script_names.proofs.Pairs.{put_again, put_behind}
use Rattle.script_names.proofs.putting.put.Goals as goal

pub returns-then-contains_key : goal.returns-then-contains_key
returns-then-contains_key c =
    let es = c.args.index.now.entries in
    put_again c.as_slice.result.now c.args.meaning es (sym c.contains_key.ensures ∙ c.if-contains_key.true)
    ∙ ap (λ (id : List ℕ). with_pair (pairs_of es) (id, c.args.meaning)) c.as_slice.ensures.value

pub returns : goal.returns
returns c =
    let es = c.args.index.now.entries in
    ap pairs_of c.in_ok-insert.ensures.entries
    ∙ put_behind c.args.id c.args.meaning es
    (ap (λ (id : List ℕ). is_some (lookup (λ (k : Vec ℕ Global). bytes_eq id k.items) es)) (sym c.as_slice.ensures.value) ∙ sym c.contains_key.ensures ∙ c.if-contains_key.false)
