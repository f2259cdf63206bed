-- Numbers in words. Own profile.
use Rattle.std.specs.Prelude.{◌&&◌, ◌^◌, ℕ, nat_lt, nat_le, length, Option, Some, None, if◌then◌else◌}
use Rattle.std.specs.Char.{is_ascii_digit}
use Rattle.std.specs.List.{list_all}
use Rattle.std.specs.Str.Parse.{digits_value}
use Rattle.command_options.specs.Items.{Text}

-- the number of 1 to 10 decimal digits that a word is, below 2^32; zeros may come before
unfoldable pub number_of : Text → Option ℕ
number_of word =
    let number = digits_value 10 word in
    if nat_lt 0 (length word) && (nat_le (length word) 10 && (list_all is_ascii_digit word && nat_lt number (2 ^ 32)))
    then Some number
    else None
