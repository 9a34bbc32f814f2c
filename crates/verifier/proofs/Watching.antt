-- The facts that the pass gives to its watcher are those of the definition.
use Rattle.std.proofs.Common.{◌≡◌, ℕ, ◌+◌, List, [], ◌++◌, Option, Some, None, refl, sym, ap, ◌∙◌, ◌⊎◌, add-one, append-nil, append_assoc, inl, inr}
use Rattle.insn_set.specs.declared.insn.Insn.{Insn}
use Rattle.insn_set.specs.Program.{begins_at}
use Rattle.reg_kinds.specs.declared.facts.Facts.{Facts}
use Rattle.tagged_model.specs.Cells.{and_then}
use Rattle.tagged_model.specs.Named.{Shapes}
use Rattle.tagged_model.specs.declared.shape.Named.{Named}
use Rattle.verifier.specs.Before.{facts_before}
use Rattle.verifier.specs.declared.fault.VerifyFault.{VerifyFault}
use Rattle.verifier.specs.Maps.{shapes_of}
use Rattle.verifier.specs.Shape.{structure_fault}
use Rattle.verifier.specs.Seen.{known_at, reached, with_more, SeesBelow, SeesRefused}
use Rattle.verifier.specs.Verdict.{IsFirstFault, memory_fault}

more_twice : (seen : Option (List (ℕ × Facts))) (xs ys : List (ℕ × Facts))
    → with_more (with_more seen xs) ys ≡ with_more seen (xs ++ ys)
more_twice None xs ys = refl
more_twice (Some notes) xs ys = ap Some (append_assoc notes xs ys)

more_none : (seen : Option (List (ℕ × Facts))) → seen ≡ with_more seen []
more_none None = refl
more_none (Some notes) = ap Some (sym (append-nil notes))

-- for the shapes of the maps and a program
module _ (shapes : Shapes) (code : List Insn) where
  reached_next : (n : ℕ)
      → reached shapes code (n + 1)
      ≡ reached shapes code n ++ known_at n (and_then (begins_at code n) (λ insn. facts_before shapes code n))
  unfolding reached
  reached_next n = ap (reached shapes code) (add-one n)

  -- at the start the watcher has received nothing
  pub seen_first : (seen : Option (List (ℕ × Facts))) → SeesBelow 0 shapes code seen seen
  unfolding reached
  seen_first seen = more_none seen

  -- an instruction is passed to the watcher with the facts before it
  pub seen_next : (n : ℕ) (insn : Insn) (here : Option Facts) (old mid new : Option (List (ℕ × Facts)))
      → begins_at code n ≡ Some insn → here ≡ facts_before shapes code n
      → SeesBelow n shapes code old mid → new ≡ with_more mid (known_at n here)
      → SeesBelow (n + 1) shapes code old new
  seen_next n insn here old mid new begins known below more =
      more
      ∙ ap (λ (seen : Option (List (ℕ × Facts))). with_more seen (known_at n here)) below
      ∙ more_twice old (reached shapes code n) (known_at n here)
      ∙ ap (λ (h : Option Facts). with_more old (reached shapes code n ++ known_at n h)) known
      ∙ sym (ap (λ (o : Option Insn).
      with_more old (reached shapes code n ++ known_at n (and_then o (λ insn. facts_before shapes code n))))
      begins)
      ∙ sym (ap (with_more old) (reached_next n))

  -- a slot at which no instruction begins is not passed
  pub seen_past : (n : ℕ) (old mid : Option (List (ℕ × Facts)))
      → begins_at code n ≡ None → SeesBelow n shapes code old mid
      → SeesBelow (n + 1) shapes code old mid
  seen_past n old mid begins below =
      below
      ∙ ap (with_more old) (sym (append-nil (reached shapes code n)))
      ∙ sym (ap (λ (o : Option Insn).
      with_more old (reached shapes code n ++ known_at n (and_then o (λ insn. facts_before shapes code n))))
      begins)
      ∙ sym (ap (with_more old) (reached_next n))

  -- if memory runs out at an instruction, the watcher may or may not have received its facts
  pub seen_or_not : (n : ℕ) (insn : Insn) (here : Option Facts) (old mid new : Option (List (ℕ × Facts)))
      → begins_at code n ≡ Some insn → here ≡ facts_before shapes code n
      → SeesBelow n shapes code old mid
      → (new ≡ mid) ⊎ (new ≡ with_more mid (known_at n here))
      → (k : ℕ) × SeesBelow k shapes code old new
  seen_or_not n insn here old mid new begins known below (inl same) = (n, same ∙ below)
  seen_or_not n insn here old mid new begins known below (inr more) = (
    n + 1,
    seen_next n insn here old mid new begins known below more,
  )

-- before the pass the watcher has received nothing, also if the verification ends there
pub none_seen_at_memory : (code : List Insn) (named : List Named) (seen : Option (List (ℕ × Facts)))
    (fault : VerifyFault)
    → fault ≡ memory_fault → SeesRefused code named seen seen fault
none_seen_at_memory code named seen fault memory = inl (memory, 0, seen_first (shapes_of code named) code seen)

-- if memory runs out or a slot has a fault of its shape, it is right that the watcher receives nothing more
pub none_seen_of_shape : (code : List Insn) (named : List Named) (seen : Option (List (ℕ × Facts)))
    (fault : VerifyFault)
    → (fault ≡ memory_fault) ⊎ IsFirstFault (structure_fault code named) fault.slot fault.reason
    → SeesRefused code named seen seen fault
none_seen_of_shape code named seen fault (inl memory) = none_seen_at_memory code named seen fault memory
none_seen_of_shape code named seen fault (inr first) = inr (inl (first, refl))
