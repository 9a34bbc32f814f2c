-- The tokens of a line: each in turn is the longest with which the text begins. This project's own.
use Rattle.std.specs.Prelude.{◌≡◌, ℕ, ◌≤◌, ◌^◌, ◌==◌, Bool, ◌&&◌, ◌||◌, ◌⊎◌, List, [], ◌∷◌, ◌++◌, length}
use Rattle.std.specs.Prelude.{slice_index, codes, nat_eq, nat_lt, Option, Some, None, if◌then◌else◌, IsTrue}
use Rattle.std.specs.List.{starts_with, list_all, Contains}
use Rattle.std.specs.Char.{is_ascii_alphabetic, is_ascii_digit}
use Rattle.std.specs.Str.{IsAscii}
use Rattle.std.specs.Str.Parse.{digits_value}
use Rattle.text_line.specs.Blanks.{skip_blanks}

-- A name, a number by its value (`None` from 2 ^ 64 on, which no field can hold), or a symbol.
pub data Token : Type 0 where
  name : List ℕ → Token
  number : Option ℕ → Token
  symbol : List ℕ → Token

-- the symbols of a program's text, longer ones first
abbrev pub symbols : List (List ℕ)
symbols =
    codes "s>>=" ∷ codes "s/=" ∷ codes "s%=" ∷ codes "s>=" ∷ codes "s<=" ∷ codes "<<=" ∷ codes ">>="
    ∷ codes "s>" ∷ codes "s<"
    ∷ codes "+=" ∷ codes "-=" ∷ codes "*=" ∷ codes "/=" ∷ codes "|=" ∷ codes "&=" ∷ codes "%="
    ∷ codes "^=" ∷ codes "==" ∷ codes ">=" ∷ codes "!=" ∷ codes "<="
    ∷ codes "=" ∷ codes ">" ∷ codes "<" ∷ codes "&" ∷ codes "+" ∷ codes "-" ∷ codes "*" ∷ codes "("
    ∷ codes ")" ∷ codes ":" ∷ []

-- a letter or an underscore
abbrev pub is_name_start : ℕ → Bool
is_name_start b = is_ascii_alphabetic b || b == 95

-- a letter, an underscore or a digit
abbrev pub is_name_byte : ℕ → Bool
is_name_byte b = is_name_start b || is_ascii_digit b

-- a digit, A to F or a to f
abbrev pub is_hex_digit : ℕ → Bool
is_hex_digit b = is_ascii_digit b || (nat_lt 64 b && nat_lt b 71) || (nat_lt 96 b && nat_lt b 103)

-- the value of a number token whose digits spell n: n; `None` from 2 ^ 64 on, which no field can
-- hold
abbrev pub value_of : ℕ → Option ℕ
value_of n = if nat_lt n (2 ^ 64) then Some n else None

-- the bytes are a name: a letter or an underscore, and after it letters, underscores and digits
abbrev pub is_name : List ℕ → Bool
is_name bytes = is_name_start (slice_index bytes 0) && list_all is_name_byte bytes

-- the bytes are digits by this test, at least one
abbrev pub are_digits : (ℕ → Bool) → List ℕ → Bool
are_digits is_digit bytes = nat_lt 0 (length bytes) && list_all is_digit bytes

-- the bytes are decimal digits, at least one, and `value` is their number, or None from 2 ^ 64 on
abbrev pub IsDecimal : List ℕ → Option ℕ → Type 0
IsDecimal bytes value =
    IsTrue (are_digits is_ascii_digit bytes) × (value ≡ value_of (digits_value 10 bytes))

-- the bytes are `0x` and hexadecimal digits, at least one, and `value` is the number of the digits,
-- or None from 2 ^ 64 on
abbrev pub IsHexadecimal : List ℕ → Option ℕ → Type 0
IsHexadecimal bytes value =
    (digits : List ℕ)
    × (bytes ≡ codes "0x" ++ digits)
    × IsTrue (are_digits is_hex_digit digits)
    × (value ≡ value_of (digits_value 16 digits))

-- the bytes are this token
abbrev pub IsToken : List ℕ → Token → Type 0
IsToken bytes (name n) = (bytes ≡ n) × IsTrue (is_name bytes)
IsToken bytes (number value) = IsDecimal bytes value ⊎ IsHexadecimal bytes value
IsToken bytes (symbol s) = (bytes ≡ s) × Contains symbols s

-- the text is this token and then the rest, and it begins with no longer token
pub record BeginsWith (text : List ℕ) (token : Token) (rest : List ℕ) : Type 0 where
  pub bytes : List ℕ
  pub parts : text ≡ bytes ++ rest
  pub is_token : IsToken bytes token
  pub longest : (other : Token) (front back : List ℕ)
      → text ≡ front ++ back
      → IsToken front other
      → length front ≤ length bytes

-- the text, without blanks at its front, is empty or a comment: the line has no more tokens
abbrev pub is_over : List ℕ → Bool
is_over text = length text == 0 || starts_with nat_eq text (codes "//")

-- The text has these tokens and no others: after spaces, tabs and carriage returns comes the first
-- of them, and then the others; after the last, at most blanks and a comment.
abbrev pub HasTokens : List ℕ → List Token → Type 0
HasTokens text [] = IsTrue (is_over (skip_blanks text))
HasTokens text (t ∷ ts) = (rest : List ℕ) × BeginsWith (skip_blanks text) t rest × HasTokens rest ts

-- the line has these tokens, and each of its bytes is ASCII, those of its comment too
abbrev pub IsTokens : List ℕ → List Token → Type 0
IsTokens line ts = IsAscii line × HasTokens line ts
