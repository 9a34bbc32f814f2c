-- The opcode of a load: RFC 9669, sections 5.1 and 5.2. The name of its size is this project's own.
use Rattle.std.specs.Prelude.{ℕ, Bool, true, false, List, codes}
use Rattle.words.specs.declared.stack.AccessSize.{AccessSize}
use Rattle.words.specs.declared.stack.AccessSize.TheVariants as size
use Rattle.insn_set.specs.Numbers.{load_mode, memory_opcode}

-- the opcode of a load (class LDX, 1), by whether it extends the sign and its size
abbrev pub load_opcode : Bool → AccessSize → ℕ
load_opcode signed s = memory_opcode (load_mode signed) s 1

-- the name that a line of text has for a size: with s if the access extends the sign (true), else
-- with u. No load has the size s64, but each size has a name
abbrev pub size_name : Bool → AccessSize → List ℕ
size_name false size.Byte = codes "u8"
size_name false size.Half = codes "u16"
size_name false size.Word = codes "u32"
size_name false size.Double = codes "u64"
size_name true size.Byte = codes "s8"
size_name true size.Half = codes "s16"
size_name true size.Word = codes "s32"
size_name true size.Double = codes "s64"
