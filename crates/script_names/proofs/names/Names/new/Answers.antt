use mathlib.Core.Path.{fun_ext}
use Rattle.std.proofs.Common.{◌∙◌, ◌++◌, sym, ap, List, []}
use Rattle.idl_types.specs.Contents.{things_of}
use Rattle.script_names.specs.Meanings.{Pair, meaning_in, themselves, beside}
use Rattle.script_names.proofs.Pairs.{with_both, first_tells}
use Rattle.script_names.proofs.names.Names.new.Goals as goal

pub returns : goal.returns
returns c =
    let ts = things_of c.args.repository.now in
    let meanings = fun_ext (λ id. ap (λ (ps : List Pair). meaning_in ps id) (c.in_ok-meanings.ensures ∙ sym (with_both [] (themselves 0 ts) (beside 0 ts))) ∙ first_tells id [] (themselves 0 ts ++ beside 0 ts)) in
    let bases = fun_ext c.in_ok-bases.ensures in
    λ j. record { meaning = meanings j; bases = bases j }
