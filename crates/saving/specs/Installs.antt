-- A program that is loaded by a frame. This project's own.
use Rattle.std.specs.Prelude.{ℕ, ℤ, List, []}
use Rattle.command_frames.specs.Frame.{reply_to}
use Rattle.insn_set.specs.declared.insn.Insn.{Insn}
use Rattle.command_frames.specs.Encoded.{frame_of}
use Rattle.saving.specs.Restored.{load_of}

-- the frame of tenant number `tenant` that loads these instructions, with the slots that spell them
abbrev pub load_frame : ℕ → List Insn → List ℕ
load_frame tenant code = frame_of tenant (load_of code)

-- the reply to the frame that loads these instructions, with this status and without a payload
abbrev pub load_reply : ℕ → List Insn → ℤ → List ℕ
load_reply tenant code status = reply_to (load_frame tenant code) status []
