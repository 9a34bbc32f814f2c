-- The number and the symbol of a condition: RFC 9669, section 4.3, the table of codes. The symbols
-- are this project's own.
use Rattle.std.specs.Prelude.{ℕ, List, codes}
use Rattle.words.specs.declared.operator.Condition.{Condition}
use Rattle.words.specs.declared.operator.Condition.TheVariants.{Equal, Above, AboveOrEqual, CommonBit, NotEqual, SignedAbove}
use Rattle.words.specs.declared.operator.Condition.TheVariants.{SignedAboveOrEqual, Below, BelowOrEqual, SignedBelow, SignedBelowOrEqual}

-- the code of a condition, the upper four bits of a jump's opcode
abbrev pub condition_number : Condition → ℕ
condition_number Equal = 1
condition_number Above = 2
condition_number AboveOrEqual = 3
condition_number CommonBit = 4
condition_number NotEqual = 5
condition_number SignedAbove = 6
condition_number SignedAboveOrEqual = 7
condition_number Below = 10
condition_number BelowOrEqual = 11
condition_number SignedBelow = 12
condition_number SignedBelowOrEqual = 13

-- the symbol of a condition in a line of text
abbrev pub condition_symbol : Condition → List ℕ
condition_symbol Equal = codes "=="
condition_symbol Above = codes ">"
condition_symbol AboveOrEqual = codes ">="
condition_symbol CommonBit = codes "&"
condition_symbol NotEqual = codes "!="
condition_symbol SignedAbove = codes "s>"
condition_symbol SignedAboveOrEqual = codes "s>="
condition_symbol Below = codes "<"
condition_symbol BelowOrEqual = codes "<="
condition_symbol SignedBelow = codes "s<"
condition_symbol SignedBelowOrEqual = codes "s<="
