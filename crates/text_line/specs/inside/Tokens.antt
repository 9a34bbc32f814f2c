-- The token at the front of a text, in the order in which the code looks for it. It is the longest,
-- which is proved. This project's own.
use Rattle.std.specs.Prelude.{ℕ, ◌==◌, Bool, ◌&&◌, List, length, take, drop, slice_index, nat_eq, Option, Some, None, option_map, if◌then◌else◌, find}
use Rattle.std.specs.Option.{option_or}
use Rattle.std.specs.List.{starts_with, prefix_len}
use Rattle.std.specs.Char.{is_ascii_digit}
use Rattle.std.specs.Str.Parse.{digits_value}
use Rattle.text_line.specs.Token.{Token, name, number, symbol, symbols, is_name_start, is_name_byte, is_hex_digit, value_of}

-- the first of the symbols with which the text begins, the longest, since longer symbols come first
-- in the list; `None` if it begins with none
unfoldable pub symbol_at : List ℕ → Option (List ℕ)
symbol_at text = find (λ s. starts_with nat_eq text s) symbols

-- the text begins with `0x` and a hexadecimal digit
abbrev pub is_hexadecimal : List ℕ → Bool
is_hexadecimal text =
    slice_index text 0 == 48 && slice_index text 1 == 120 && is_hex_digit (slice_index text 2)

-- the bytes at the front that pass a test, up to the first that does not
abbrev pub run : (ℕ → Bool) → List ℕ → List ℕ
run test text = take (prefix_len test text) text

-- the name at the front, and the bytes after it; `None` if there is none
unfoldable pub name_at : List ℕ → Option (Token × List ℕ)
name_at text =
    if is_name_start (slice_index text 0)
    then Some (name (run is_name_byte text), drop (prefix_len is_name_byte text) text)
    else None

-- the number at the front, hexadecimal or decimal, and the bytes after it; `None` if no digit is at
-- the front
unfoldable pub number_at : List ℕ → Option (Token × List ℕ)
number_at text =
    if is_hexadecimal text then
    (let digits = drop 2 text in
    Some (
      number (value_of (digits_value 16 (run is_hex_digit digits))),
      drop (prefix_len is_hex_digit digits) digits,
    ))
    else
    (if is_ascii_digit (slice_index text 0)
    then Some (
      number (value_of (digits_value 10 (run is_ascii_digit text))),
      drop (prefix_len is_ascii_digit text) text,
    )
    else None)

-- the token at the front, and the bytes after it; `None` if no token begins there. Symbols are
-- tried first: a text that begins with `s>=` also begins with the name `s`, which is shorter.
unfoldable pub token_at : List ℕ → Option (Token × List ℕ)
token_at text =
    option_or (option_map (λ s. (symbol s, drop (length s) text)) (symbol_at text))
    (option_or (name_at text) (number_at text))
