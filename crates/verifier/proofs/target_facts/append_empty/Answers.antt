-- `append_empty`: one more empty entry makes the list longer by one, and changes no slot's entry, as one past the end counts as empty.
use Rattle.std.proofs.Common.{ℕ, ◌+◌, ◌∷◌, [], Option, Box, Global, List, None, length, map, ap, ◌∙◌, length-append}
use Rattle.std.specs.Prelude.{option_map, box_value}
use Rattle.verifier.specs.declared.numbered_facts.NumberedFacts.{NumberedFacts}
use Rattle.verifier.specs.inside.Numbers.{entry_of}
use Rattle.verifier.proofs.EntryLists.{pushed_none}
use Rattle.verifier.proofs.target_facts.append_empty.Goals as goal

pub loop-at-preserved : goal.loop-at-preserved
loop-at-preserved c =
    record {
      long =
          ap length c.in_ok-push.ensures.items
          ∙ length-append c.loop-at.facts.items (None ∷ [])
          ∙ ap (λ (n : ℕ). n + 1) c.loop-at.invariant.long;
      entries = λ i.
          ap (λ (es : List (Option (Box NumberedFacts Global))). entry_of i (map (option_map box_value) es))
          c.in_ok-push.ensures.items
          ∙ pushed_none c.loop-at.facts.items i
          ∙ c.loop-at.invariant.entries i;
    }
