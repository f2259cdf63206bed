use Rattle.std.proofs.Common.{◌∙◌, ◌-◌, sym, ap, Option, length, take}
use Rattle.std.specs.Option.{option_map}
use Rattle.script_names.specs.Paths.{around}
use Rattle.script_names.specs.Meanings.{Pair}
use Rattle.script_names.specs.Finding.{or_else, first_inside}
use Rattle.script_names.specs.Views.{found_of}
use Rattle.script_names.specs.Contents.{known_of}
use Rattle.script_names.proofs.Outward.{at_slash, at_other}
use Rattle.script_names.proofs.names.Names.outwards.Goals as goal

pub returns-in-Some : goal.returns-in-Some
returns-in-Some c =
    let k = known_of c.args.self.now in
    let name = c.args.name.now in
    let rest = c.loop-rest.rest.now in
    let further = first_inside k name (around (take (length rest - 1) rest)) in
    sym (ap (λ (o : Option Pair). or_else o further) (sym c.in_ok-found.ensures ∙ ap (option_map found_of) c.in-Some.is))
    ∙ ap (first_inside k name) (sym (at_slash rest c.in-len1-up.len_at_least c.if-last-eq47.true))
    ∙ c.loop-rest.invariant

pub loop-rest-preserved-in_default-2 : goal.loop-rest-preserved-in_default-2
loop-rest-preserved-in_default-2 c =
    let k = known_of c.args.self.now in
    let name = c.args.name.now in
    let rest = c.loop-rest.rest.now in
    let further = first_inside k name (around (take (length rest - 1) rest)) in
    sym (ap (λ (o : Option Pair). or_else o further) (sym c.in_ok-found.ensures ∙ ap (option_map found_of) c.in_default-2.is))
    ∙ ap (first_inside k name) (sym (at_slash rest c.in-len1-up.len_at_least c.if-last-eq47.true))
    ∙ c.loop-rest.invariant

pub loop-rest-preserved : goal.loop-rest-preserved
loop-rest-preserved c =
    ap (first_inside (known_of c.args.self.now) c.args.name.now) (sym (at_other c.loop-rest.rest.now c.in-len1-up.len_at_least c.if-last-eq47.false)) ∙ c.loop-rest.invariant
