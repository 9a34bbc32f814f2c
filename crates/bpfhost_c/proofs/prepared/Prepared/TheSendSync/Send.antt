-- The handle of a program may be sent to another thread: it owns its box, and a program is Send.
use mir.Raw.{raw}
use base.Shift.{Keyless}
use denote.Memory.{lone}
use denote.RawPtr.{Ptr, block_ptr, null_ptr}
use denote.Struct.Struct.{exits_of}
use denote.Struct.Owning.{shape, fields, to}
use denote.Param.Send.{IsSend, AllSend, owning_send, struct_send, sendable}
use Rattle.std.specs.Prelude.{Option, Some, None}
use Rattle.std.proofs.Crossing as crossing
use Rattle.std.specs.Global.{Global}
use Rattle.std_alloc.proofs.SendSync.{quiet, lies}
use Rattle.std_heap.proofs.Global.TheSendSync as heap
use Rattle.bpfhost_c.specs.OwnedProgram.{prepared_owns}
use Rattle.verifier.specs.contracts.verified.Verified as program
use Rattle.verifier.proofs.verified.Verified.TheSendSync.{the_send as program_send}
use Rattle.bpfhost_c.specs.contracts.prepared.Prepared.{the_row, the_type}

owned : (a : Global) (p : Ptr) (s : Option program.the_row.Denot) → Keyless (prepared_owns a p s)
owned a null_ptr None = tt
owned a null_ptr (Some x) = tt
owned a (block_ptr b o) None = tt
owned a (block_ptr b o) (Some x) = (
  lies program.the_row program_send (block_ptr b o) x,
  crossing.frees.frees a (raw (lone program.the_row.mir)) (block_ptr b o),
)

-- the handle of a program may be sent to another thread
pub send : IsSend the_row
send =
    let all : AllSend (fields the_type) = (search sendable, (heap.the_field_send, tt)) in
    owning_send the_type all (λ d. owned d.alloc d.at d.program)
    (λ k. quiet (to the_type) (exits_of k (fields the_type)) ((struct_send (shape the_type) all).leaving k))
