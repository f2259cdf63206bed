use Rattle.std.proofs.Common.{◌≡◌, true, rules}
use Rattle.std.specs.Char.{is_ascii_digit}
use Rattle.std.specs.List.{list_all}
use Rattle.command_options.proofs.Digits.{number_unparsed}
use Rattle.command_options.proofs.numbers.number_of.Goals as goal

pub returns-in-Err : goal.returns-in-Err
returns-in-Err c =
    let digits : list_all is_ascii_digit c.args.word.now ≡ true = search rules in
    number_unparsed c.args.word.now c.in-Err.field-0 c.in-Err.ensures.value.0 digits
