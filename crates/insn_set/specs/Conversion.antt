-- The names of byte-order conversions and of sign extensions in a line of text. This project's own.
use Rattle.std.specs.Prelude.{ℕ, List, codes}
use Rattle.words.specs.declared.operator.ByteOrder.{ByteOrder}
use Rattle.words.specs.declared.operator.ByteOrder.TheVariants.{Little, Big, Swap}
use Rattle.words.specs.declared.operator.KeptBits.{KeptBits}
use Rattle.words.specs.declared.operator.KeptBits.TheVariants as bits
use Rattle.words.specs.declared.operator.ExtendedBits.{ExtendedBits}
use Rattle.words.specs.declared.operator.ExtendedBits.TheVariants as narrow

-- the name, in a line of text, of the byte-order conversion that keeps this many low bits
abbrev pub order_name : ByteOrder → KeptBits → List ℕ
order_name Little bits.Bits16 = codes "le16"
order_name Little bits.Bits32 = codes "le32"
order_name Little bits.Bits64 = codes "le64"
order_name Big bits.Bits16 = codes "be16"
order_name Big bits.Bits32 = codes "be32"
order_name Big bits.Bits64 = codes "be64"
order_name Swap bits.Bits16 = codes "bswap16"
order_name Swap bits.Bits32 = codes "bswap32"
order_name Swap bits.Bits64 = codes "bswap64"

-- the name, in a line of text, of the sign extension that starts from this many low bits
abbrev pub extension_name : ExtendedBits → List ℕ
extension_name narrow.Bits8 = codes "s8"
extension_name narrow.Bits16 = codes "s16"
extension_name narrow.Bits32 = codes "s32"
