-- Tables: a row for each value of a family, with its number and its symbol, or only with its name.
-- This project's own.
use Rattle.std.specs.Prelude.{ℕ, ◌==◌, List, [], ◌∷◌, map, Option, Some, None, if◌then◌else◌}
use Rattle.std.specs.Str.{bytes_eq}
use Rattle.std.specs.Map.{lookup}
use Rattle.std.specs.Borrow.{Bor}

-- a row of a table: a value, its number and its symbol
abbrev pub Row : Type 0 → Type 0
Row A = A × ℕ × List ℕ

-- the rows of a table of the code, as definitions read them: with the bytes of each symbol, which
-- the code borrows
abbrev pub shown : {A : Type 0} → List (A × ℕ × Bor (List ℕ)) → List (Row A)
shown rows = map (λ row. (row.0, row.1, row.2.now)) rows

-- the value (row.0) of the first row whose number (row.1) is n, as an operator by its code or a
-- load by its opcode; None if there is no such row
abbrev pub by_number : {A : Type 0} → List (Row A) → ℕ → Option A
by_number [] n = None
by_number (row ∷ rows) n = if row.1 == n then Some row.0 else by_number rows n

-- the value of the first row of a table whose symbol has the bytes s; None if there is none. A row
-- has a value (row.0), such as an operator or a condition, its number (row.1), and its symbol
-- (row.2): what a line of a program's text has for the value, as += or s>
abbrev pub by_symbol : {A : Type 0} → List (Row A) → List ℕ → Option A
by_symbol [] s = None
by_symbol (row ∷ rows) s = if bytes_eq s row.2 then Some row.0 else by_symbol rows s

-- ---- only with names

-- the rows of a table of the code that has only names, as definitions read them: with the bytes of
-- each name, which the code borrows
abbrev pub names : {A : Type 0} → List (Bor (List ℕ) × A) → List (List ℕ × A)
names rows = map (λ row. (row.0.now, row.1)) rows

-- the value of the first row with this name; None if there is no such row
abbrev pub named : {A : Type 0} → List (List ℕ × A) → List ℕ → Option A
named table n = lookup (λ m. bytes_eq n m) table
