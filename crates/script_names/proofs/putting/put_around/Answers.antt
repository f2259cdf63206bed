use Rattle.std.proofs.Common.{◌∙◌, sym, ap, List, ℕ, [], length, take, ◌-◌}
use Rattle.script_names.specs.declared.meaning.Meaning.TheVariants as means
use Rattle.script_names.specs.Paths.{around, id_in}
use Rattle.script_names.specs.Meanings.{Pair, unused}
use Rattle.script_names.specs.Views.{pairs_of, with_pair, with_pairs}
use Rattle.script_names.proofs.Outward.{at_slash, at_other}
use Rattle.script_names.proofs.putting.put_around.Goals as goal

pub loop-rest-preserved-in_ok-put_unused : goal.loop-rest-preserved-in_ok-put_unused
loop-rest-preserved-in_ok-put_unused c =
    let rest = c.loop-rest.rest.now in
    let front = take (length rest - 1) rest in
    let ps = pairs_of c.loop-rest.index.entries in
    ap (λ (qs : List Pair). with_pairs qs (unused [] (around front))) (c.in_ok-put_unused.ensures ∙ ap (λ (s : List ℕ). with_pair ps (id_in s front, means.Other)) c.as_slice.ensures)
    ∙ ap (λ (xs : List (List ℕ)). with_pairs ps (unused [] xs)) (sym (at_slash rest c.in-len1-up.len_at_least c.if-last-eq47.true))
    ∙ c.loop-rest.invariant

pub loop-rest-preserved : goal.loop-rest-preserved
loop-rest-preserved c =
    ap (λ (xs : List (List ℕ)). with_pairs (pairs_of c.loop-rest.index.entries) (unused [] xs)) (sym (at_other c.loop-rest.rest.now c.in-len1-up.len_at_least c.if-last-eq47.false))
    ∙ c.loop-rest.invariant
