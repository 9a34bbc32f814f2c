-- The memory that the handle of a prepared program owns. This project's own.
use base.Fml.{Fml, ftrue, ffalse}
use denote.RawPtr.{Ptr, block_ptr, null_ptr}
use Rattle.std.specs.Prelude.{Option, Some, None}
use Rattle.std.specs.Coded.{Coded, coded_option}
use Rattle.std.specs.Box.Ownership.{box_owns}
use Rattle.std.specs.Global.{Global}
use Rattle.std_heap.specs.contracts.GlobalAllocator.TheImpl.{ghosts}
use Rattle.verifier.specs.contracts.verified.Verified.{the_row}

-- nothing if the pointer is null; else what a box of the program owns at the pointer: the program,
-- and the right to free its block. A null pointer with a program can't occur, nor can a pointer
-- that is not null without a program
abbrev pub prepared_owns : Global → Ptr → Option the_row.Denot → Fml
prepared_owns alloc null_ptr None = ftrue
prepared_owns alloc null_ptr (Some s) = ffalse
prepared_owns alloc (block_ptr b o) None = ffalse
prepared_owns alloc (block_ptr b o) (Some s) =
    box_owns (ghosts.dealloc_token alloc) the_row (block_ptr b o) s

-- the coding of what a handle has, a program or none; the type of a ghost field requires a coding
abbrev pub prepared_coded : Coded (Option the_row.Denot)
prepared_coded = coded_option the_row.coded
