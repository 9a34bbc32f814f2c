-- Numbers in decimal digits. This project's own.
use Rattle.std.specs.Prelude.{ℕ, Bool, ◌^◌, ◌&&◌, length, Option, Some, None, if◌then◌else◌, nat_lt}
use Rattle.std.specs.Char.{is_ascii_digit}
use Rattle.std.specs.List.{list_all}
use Rattle.std.specs.Str.Parse.{digits_value}
use Rattle.clap.specs.Words.{Text}

-- the text is decimal digits, at least one
abbrev pub is_decimal : Text → Bool
is_decimal text = nat_lt 0 (length text) && list_all is_ascii_digit text

-- the value of decimal digits, if it is below 2^32, or None for every other text; leading zeros are
-- allowed
abbrev pub decimal_number : Text → Option ℕ
decimal_number text =
    let number = digits_value 10 text in
    if is_decimal text && nat_lt number (2 ^ 32) then Some number else None
