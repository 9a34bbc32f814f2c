-- A loaded program. This project's own.
use Rattle.std.specs.Prelude.{ℕ, List, map}
use Rattle.insn_set.specs.declared.insn.Insn.{Insn}
use Rattle.tagged_model.specs.declared.shape.Named.{Named}

-- A loaded program: its instructions; the descriptors in them that were open at the load, with
-- their objects; and pairs of each descriptor in them and the handle of its map, in the order of
-- first use. It keeps its maps when their descriptors are closed.
pub record LoadedProgram : Type 0 where
  pub insns : List Insn
  pub named : List Named
  pub maps : List (ℕ × ℕ)

-- the handles of a loaded program's maps
abbrev pub map_handles : LoadedProgram → List ℕ
map_handles l = map (λ m. m.1) l.maps
