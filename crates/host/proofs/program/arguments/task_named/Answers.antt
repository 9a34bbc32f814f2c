-- `task_named`: for `verify`, `get_strs` returns the map arguments of the definition, by its contract; its `None` means the empty list.
use Rattle.std.proofs.Common.{◌≡◌, ◌∙◌, ap, codes, refl, sym, List, ℕ, Option, Some, None, option_map, unwrap_or, Bor, []}
use Rattle.clap.specs.Words.{found_of, rows_of}
use Rattle.clap.specs.Walk.{texts}
use Rattle.clap.proofs.WalkLemmas.{raw_values-rows}
use Rattle.host.specs.program.Arguments.{Verifies, asked_with}
use Rattle.host.specs.inside.program.Asked.{texts_given}
use Rattle.host.proofs.program.arguments.task_named.Goals as goal

-- the texts of the arguments that were found, or none
given_or_none : (found : Option (Bor (List (Bor (List ℕ)))))
    → texts_given found ≡ unwrap_or (option_map (λ s. texts s.now) found) []
given_or_none None = refl
given_or_none (Some arguments) = refl

pub returns-in-verify-clause-asked : goal.returns-in-verify-clause-asked
returns-in-verify-clause-asked c =
    ap (λ arguments. Some (Verifies arguments))
    (given_or_none c.get_strs-maps.result
    ∙ ap (λ o. unwrap_or o []) (c.get_strs-maps.ensures ∙ raw_values-rows (found_of c.args.options.now) (codes "map")))
    ∙ sym (ap (λ name. asked_with name (rows_of (found_of c.args.options.now))) c.in-verify.is)
