-- Laws of `view`, of the definitions of `View`, `Profile` and `Spelling`, proved here for the
-- proofs of the crates above. This project's own. No contract cites them, so they are not part of
-- what has to be trusted.
use Rattle.std.proofs.Common.{◌≡◌, length, refl}
use Rattle.insn_set.specs.declared.insn.Insn.{Insn}
use Rattle.insn_set.specs.declared.insn.Insn.TheVariants.{Alu, Const}
use Rattle.insn_set.specs.View.{view, WideLoadFitsWord}
use Rattle.insn_set.specs.Profile.{profile}
use Rattle.insn_set.specs.Spelling.{slots, IsInsn}

-- an instruction takes as many slots by its profile (what it reads, writes and names, its
-- successors and its number of slots) as its spelling has: one, or two for a wide load. Code adds
-- the profile's `slots` to an instruction's slot; by this law the sum is the slot of the next
-- instruction. Both numbers are computed only if the instruction's constructor is known. So the
-- proof has an equation for one constructor, `Alu`; then `_` is each of the others, one by one
pub profile_slots : (i : Insn) → (profile i).slots ≡ length (slots i)
profile_slots (Alu wide op dst src) = refl
profile_slots _ = refl

-- if the numbers of an instruction fit their fields (`IsInsn`), a number that its view (`View`:
-- what it does, and its operands) loads into a register is less than 2 ^ 64 (`WideLoadFitsWord`).
-- Only the view of `Const` loads such a number, and `IsInsn` has this bound (h.1); of others
-- nothing is required. Proofs of `transfer` use this: facts have only ranges of 64-bit numbers
pub view_is : (i : Insn) → IsInsn i → WideLoadFitsWord (view i)
view_is (Const dst value) h = h.1
view_is _ h = tt
