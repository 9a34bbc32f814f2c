-- A call and an exit: the number of calls, and the path, by hand.
use Rattle.std.proofs.Common.{◌≡◌, pos, List, [], ◌∷◌, refl, inl, inr}
use Rattle.insn_set.specs.declared.insn.Insn.{Insn}
use Rattle.insn_set.specs.declared.insn.Insn.TheVariants.{Call, Exit}
use Rattle.insn_set.specs.Program.{begins_at}
use Rattle.verifier.specs.Cost.{IsPath, calls_in}

abbrev calls_once : List Insn
calls_once = Call (pos 1) ∷ Exit ∷ []

one_call : calls_in calls_once ≡ 1
one_call = refl

its_path : IsPath calls_once 0 calls_once
unfolding begins_at
its_path = (refl, inr (1, refl, (refl, inl (refl, refl))))
