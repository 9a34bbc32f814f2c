-- `append_empty`: the list has an entry for each slot before this one, and the entry of each slot is that at the call.
use Rattle.std.proofs.Common.{◌≡◌, ℕ, length, map}
use Rattle.std.specs.Prelude.{option_map, box_value}
use Rattle.verifier.specs.inside.Numbers.{entry_of}
use Rattle.verifier.proofs.target_facts.append_empty.Given as goal

abbrev pub invariant-loop-at : goal.invariant-loop-at
invariant-loop-at l =
    record {
      long : length l.facts.items ≡ l.at;
      entries : (i : ℕ)
          → entry_of i (map (option_map box_value) l.facts.items)
          ≡ entry_of i (map (option_map box_value) l.fn.facts.items);
    }
