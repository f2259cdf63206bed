use Rattle.std.proofs.Common.{◌∙◌, Some, None, ap, sym, subst, map}
use Rattle.std.proofs.lemmas.Bool.{and_parts}
use Rattle.clap.specs.Words.{app_of, is_simple_and_free}
use Rattle.command_options.specs.Clap.{Matched}
use Rattle.command_options.specs.Items.{are_distinct, are_numbered, items_of}
use Rattle.command_options.proofs.Building.{simple_is}
use Rattle.command_options.proofs.Readers.{refused, stray, taken}
use Rattle.command_options.proofs.options.read_options.Goals as goal

pub returns-then-not-has_no_stray : goal.returns-then-not-has_no_stray
returns-then-not-has_no_stray g c =
    sym (stray (items_of c.args.items.now) (map g.S.AsStr.text c.args.words.now) (sym c.has_no_stray.ensures ∙ c.if-not-has_no_stray.true))

pub matches_of-requires : goal.matches_of-requires
matches_of-requires g c =
    let items = items_of c.args.items.now in
    ap is_simple_and_free c.in_ok-command.ensures ∙ simple_is items (and_parts (are_distinct items) (are_numbered 1 items) c.requires.lawful).1

pub returns-in-Some : goal.returns-in-Some
returns-in-Some g c =
    let words = map g.S.AsStr.text c.args.words.now in
    let took = subst (λ o. Matched (app_of c.in_ok-command.command) words o) c.in-Some.is c.in_ok-matches.ensures in
    taken (items_of c.args.items.now) words (record { matches = c.in-Some.matches }) c.requires.lawful (sym c.has_no_stray.ensures ∙ c.if-not-has_no_stray.false)
    (subst (λ app. Matched app words (Some c.in-Some.matches)) c.in_ok-command.ensures took)

pub returns-in-None : goal.returns-in-None
returns-in-None g c =
    let words = map g.S.AsStr.text c.args.words.now in
    let took = subst (λ o. Matched (app_of c.in_ok-command.command) words o) c.in-None.is c.in_ok-matches.ensures in
    sym (refused (items_of c.args.items.now) words c.requires.lawful (sym c.has_no_stray.ensures ∙ c.if-not-has_no_stray.false)
    (subst (λ app. Matched app words None) c.in_ok-command.ensures took))
