use Rattle.std.proofs.Common.{◌≡◌, true, rules}
use Rattle.std.specs.Char.{is_ascii_digit}
use Rattle.std.specs.List.{list_all}
use Rattle.object_refs.proofs.Digits.{digits_utf8, port_unparsed}
use Rattle.object_refs.proofs.port.port_number.Goals as goal

pub returns-in_default : goal.returns-in_default
returns-in_default c =
    let digits : list_all is_ascii_digit c.args.digits.now ≡ true = search rules in
    absurd (c.in_default.ensures.cases.0 (digits_utf8 c.args.digits.now digits))

pub returns-in_default-parse-2 : goal.returns-in_default-parse-2
returns-in_default-parse-2 c =
    let digits : list_all is_ascii_digit c.args.digits.now ≡ true = search rules in
    let text = c.in-Ok.ensures.cases.0 in
    let h = c.in_default-parse.ensures.value in
    port_unparsed c.args.most c.args.digits.now c.in_default-parse.field-0 (rw text at h.0) digits
