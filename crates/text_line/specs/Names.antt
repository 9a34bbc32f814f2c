-- How registers, signs and jumps are written. This project's own.
use Rattle.std.specs.Prelude.{ℕ, ◌+◌, ◌==◌, Bool, true, false, List, [], ◌∷◌, codes, if◌then◌else◌}

-- the letter r of a register's 64 bits (`true`), or w of its low half
abbrev pub register_letter : Bool → ℕ
register_letter true = 114
register_letter false = 119

-- the name of register r: its letter, and its number, 0 to 10, in decimal, as r0 or w10
abbrev pub register_name : Bool → ℕ → List ℕ
register_name wide r = register_letter wide ∷ (if r == 10 then 49 ∷ 48 ∷ [] else (48 + r) ∷ [])

-- the sign of a number, a minus if it is negative (`true`)
abbrev pub sign_name : Bool → List ℕ
sign_name true = codes "-"
sign_name false = codes "+"

-- the first word of a jump, a long one if `true`
abbrev pub jump_name : Bool → List ℕ
jump_name false = codes "goto"
jump_name true = codes "gotol"
