use Rattle.std.proofs.Common.{◌≡◌, ◌++◌, sym, ◌∙◌, chars}
use Rattle.std.specs.Char.{encode_utf8}
use Rattle.std.specs.Str.Iter.{chars_rest}
use Rattle.std.proofs.lemmas.Str.{chars_past_char}
use Rattle.value_json.proofs.Characters.{only_one, only_more}
use Rattle.value_json.proofs.numerals.only.Goals as goal

pub returns-in-None : goal.returns-in-None
returns-in-None c =
    let text = c.args.text.now in
    let rest = chars_rest c.next.new.self in
    let first = c.in_ok-first.first in
    let split : text ≡ encode_utf8 first ++ rest = sym c.chars-characters.ensures.rest ∙ c.in_ok-first.ensures.steps.0 in
    only_one (chars text) (chars rest) first (chars_past_char text rest first c.utf8.text split) c.in-None.ensures.steps.2

pub returns-in-Some : goal.returns-in-Some
returns-in-Some c =
    let text = c.args.text.now in
    let rest = chars_rest c.next.new.self in
    let first = c.in_ok-first.first in
    let split : text ≡ encode_utf8 first ++ rest = sym c.chars-characters.ensures.rest ∙ c.in_ok-first.ensures.steps.0 in
    only_more (chars text) (chars rest) first c.in-Some.field-0 (chars_past_char text rest first c.utf8.text split) c.in-Some.ensures.steps.2
