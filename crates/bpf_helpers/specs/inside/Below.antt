-- The premises of proofs from the crates below. This project's own.
use Rattle.std.specs.Prelude.{ℕ}
use Rattle.arena.specs.Apart.{WritesStayInside}
use Rattle.bpf_maps.specs.Laws.{CallsRefineValues, AreasKeepElements, DeletesKeepElements}

-- the laws of the memory and of maps on which the laws of calls depend
pub record LawsBelow : Type 0 where
  pub writes : WritesStayInside
  pub along : CallsRefineValues ℕ ℕ
  pub areas : AreasKeepElements
  pub deletes : DeletesKeepElements
