-- The byte-order conversion with a name, and the sign extension with a name, by the tables of the
-- code; they undo `order_name` and `extension_name`. This project's own.
use Rattle.std.specs.Prelude.{ℕ, List, Option, map}
use Rattle.words.specs.declared.operator.ByteOrder.{ByteOrder}
use Rattle.words.specs.declared.operator.KeptBits.{KeptBits}
use Rattle.words.specs.declared.operator.ExtendedBits.{ExtendedBits}
use Rattle.insn_set.specs.declared.conversion.TheConstants.{ORDERS, EXTENSIONS}
use Rattle.insn_set.specs.Table.{named}

-- the rows of `ORDERS`, as definitions read them: each name and its byte-order conversion
abbrev pub orders : List (List ℕ × (ByteOrder × KeptBits))
orders = map (λ row. (row.0.now, row.1)) ORDERS

-- the byte-order conversion with this name, and the number of bits that it keeps, if there is one
abbrev pub order_by_name : List ℕ → Option (ByteOrder × KeptBits)
order_by_name n = named orders n

-- the rows of `EXTENSIONS`, as definitions read them: each name and the number of bits from which
-- its sign extension starts
abbrev pub extensions : List (List ℕ × ExtendedBits)
extensions = map (λ row. (row.0.now, row.1)) EXTENSIONS

-- the number of low bits from which the sign extension with this name starts, if there is one
abbrev pub extension_by_name : List ℕ → Option ExtendedBits
extension_by_name n = named extensions n
