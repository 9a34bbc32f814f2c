-- The result of `verify` for the slots on hex lines. This project's own.
use Rattle.std.specs.Prelude.{ℕ, List, Option, Some, None, Ok, Err, IfSome}
use Rattle.clap.specs.Words.{Text}
use Rattle.insn_set.specs.declared.insn.Insn.{Insn}
use Rattle.tagged_model.specs.declared.shape.Named.{Named}
use Rattle.verifier.specs.Judgement.{Judges}
use Rattle.verifier.specs.declared.refusal.Refusal.{Refusal}
use Rattle.host.specs.program.Shapes.{AreMapArguments}
use Rattle.host.specs.program.Texts.{IsSlotText}

-- the verdict on the slots that the input has as hex lines, if these maps are open: their refusal,
-- or None for an accepted program
abbrev pub IsJudgement : List Named → List ℕ → Option Refusal → Type 0
IsJudgement maps input None =
    (slots : List ℕ) × (insns : List Insn) × IsSlotText input slots × Judges maps slots (Ok insns)
IsJudgement maps input (Some refusal) =
    (slots : List ℕ) × IsSlotText input slots × Judges maps slots (Err refusal)

-- ---- a run whose input is known

-- the input has a program that is accepted, if the maps that these arguments name are open
pub record Accepts (arguments : List Text) (input : List ℕ) : Type 0 where
  pub maps : List Named
  pub named : AreMapArguments arguments maps
  pub judged : IsJudgement maps input None

-- If contracts know the bytes of the input, these have a program that is accepted with the maps of
-- the arguments. None is an input whose bytes are not known: nothing is claimed of it
abbrev pub AcceptsIfKnown : List Text → Option (List ℕ) → Type 0
AcceptsIfKnown arguments input = IfSome input (Accepts arguments)
