-- The log of the bytes of slots. This project's own.
use Rattle.std.specs.Prelude.{◌≡◌, ◌≢◌, ◌⊎◌, ◌↔◌, IsTrue, ℕ, Bool, false, List, [], ◌∷◌, ◌++◌}
use Rattle.insn_codec.specs.declared.fault.CodecFault.{CodecFault}
use Rattle.insn_codec.specs.ProgramFault.{IsProgramFault}
use Rattle.insn_set.specs.declared.insn.Insn.{Insn}
use Rattle.insn_set.specs.Program.{IsProgram, program_bytes}
use Rattle.log_facts.specs.declared.log.LogStyle.{LogStyle}
use Rattle.log_facts.specs.declared.log.LogStyle.TheVariants.{Graph}
use Rattle.log_facts.specs.Said.{SaysVerdict}
use Rattle.tagged_model.specs.declared.shape.Named.{Named}
use Rattle.verifier.specs.Judgement.{refusal_of_slots, refusal_text}
use Rattle.verifier.specs.Verdict.{IsAccepted}

-- `accepted` is whether the program is accepted, and unless the style is a graph, `text` has the
-- verdict at its end
abbrev pub IsLogOfProgram : List Insn → List Named → LogStyle → Bool → List ℕ → Type 0
IsLogOfProgram code named style accepted text =
    (IsTrue accepted ↔ IsAccepted code named)
    × (style ≢ Graph → SaysVerdict code named accepted text)

-- slots with this fault are no program: `accepted` is false, and `text` is the line of the refusal,
-- with its line feed, 10
abbrev pub SaysNoProgram : CodecFault → Bool → List ℕ → Type 0
SaysNoProgram fault accepted text =
    (accepted ≡ false) × (text ≡ refusal_text (refusal_of_slots fault) ++ 10 ∷ [])

-- `slots` are the bytes of a program, whose verdict and log are `accepted` and `text` as by
-- `IsLogOfProgram`; or they have a fault of the codec, `accepted` is false, and `text` is the line
-- of their refusal
abbrev pub IsLogOfSlots : List ℕ → List Named → LogStyle → Bool → List ℕ → Type 0
IsLogOfSlots slots named style accepted text =
    ((code : List Insn)
    × IsProgram code
    × (slots ≡ program_bytes code)
    × IsLogOfProgram code named style accepted text)
    ⊎ ((fault : CodecFault) × IsProgramFault slots fault × SaysNoProgram fault accepted text)
