-- The classes of bytes of the tokenizer. This project's own.
use Rattle.std.specs.Prelude.{ℕ, Bool, ◌≡◌}
use Rattle.std.specs.Char.{is_ascii_digit}
use Rattle.text_line.specs.declared.token.ByteClass.{ByteClass}
use Rattle.text_line.specs.declared.token.ByteClass.TheVariants.{Blank, Name, Digit, HexDigit}
use Rattle.text_line.specs.Blanks.{is_blank}
use Rattle.text_line.specs.Token.{is_name_byte, is_hex_digit}

-- whether a byte is of this class; `Name` has the bytes of a name after its first, so digits too
abbrev pub in_class : ByteClass → ℕ → Bool
in_class Blank b = is_blank b
in_class Name b = is_name_byte b
in_class Digit b = is_ascii_digit b
in_class HexDigit b = is_hex_digit b

-- the class is that of the digits of this radix, 10 or 16; `Blank` and `Name` have no radix
abbrev pub IsDigits : ByteClass → ℕ → Type 0
IsDigits Digit radix = radix ≡ 10
IsDigits HexDigit radix = radix ≡ 16
IsDigits _ radix = ⊥
