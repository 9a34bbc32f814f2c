-- `parse_arguments`: the command that clap's calls build, one after another, is by their contracts that of the definition (`program`). It
-- is simple and free (`is_simple_and_free`), by computation, so clap's contract gives result and failures.
use Rattle.std.proofs.Common.{◌≡◌, ◌∙◌, ◌&&◌, Bool, not, ap, ap₂, refl, sym, subst, true, false, true≢false, codes}
use Rattle.std.proofs.lemmas.Result.{IfOk-weaker}
use Rattle.clap.specs.Words.{App, FailsBy, Shape, app_of, fault_of, is_simple, is_simple_and_free, new_app, subcommand_of, with_subcommand}
use Rattle.clap.specs.Walk.{texts}
use Rattle.clap.specs.Simple.{app_of_fields, on_top}
use Rattle.clap.proofs.OnLiterals.{clap_on_literals}
use Rattle.host.specs.program.Arguments.{asks_for_subcommand, asm_command, program, program_up_to_dis, program_up_to_serve, refusal_kinds, chosen_subcommand}
use Rattle.host.proofs.program.arguments.parse_arguments.Goals as goal

simple : is_simple program ≡ true
unfolding clap_on_literals
simple = refl

free : is_simple_and_free program ≡ true
unfolding clap_on_literals
free = refl

abbrev is_plain_app : App → Bool
is_plain_app a = a.top.is_plain

-- a plain command has no global argument
plain_local : (a b global rest : Bool) → (a && (not b && (not global && rest))) ≡ true → global ≡ false
plain_local true false false rest e = refl
plain_local true false true rest e = absurd (true≢false (sym e))
plain_local true true global rest e = absurd (true≢false (sym e))
plain_local false b global rest e = absurd (true≢false (sym e))

pub returns : goal.returns
unfolding refusal_kinds chosen_subcommand
returns c =
    let top : App → Shape = λ a. a.top in
    let named : app_of c.no_binary_name.result ≡ on_top (λ s. record s { no_binary_name = true }) (new_app (codes "bpfhost"))
    =
    ap app_of_fields c.no_binary_name.ensures
    ∙ ap (on_top (λ (s : Shape). record s { no_binary_name = true })) c.new.ensures.app in
    let asks : app_of c.subcommand_required.result ≡ on_top asks_for_subcommand (new_app (codes "bpfhost"))
    =
    ap app_of_fields c.subcommand_required.ensures
    ∙ ap (on_top (λ (s : Shape). record s { subcommand_required = true })) named in
    let serving_is : app_of c.in_ok-subcommand.field-0 ≡ program_up_to_serve =
    c.in_ok-subcommand.ensures.shape (plain_local _ _ _ _ (ap is_plain_app c.in_ok-serve_subcommand.ensures))
    ∙ ap₂ with_subcommand asks (ap top c.in_ok-serve_subcommand.ensures) in
    let assembling_is : app_of c.in_ok-subcommand-2.field-0 ≡ with_subcommand program_up_to_serve asm_command.top =
    c.in_ok-subcommand-2.ensures.shape c.new-2.ensures.local
    ∙ ap₂ with_subcommand serving_is (ap top c.new-2.ensures.app) in
    let rewriting_is : app_of c.in_ok-subcommand-3.field-0 ≡ program_up_to_dis =
    c.in_ok-subcommand-3.ensures.shape c.new-3.ensures.local
    ∙ ap₂ with_subcommand assembling_is (ap top c.new-3.ensures.app) in
    let program_is : app_of c.in_ok-program.program ≡ program =
    c.in_ok-program.ensures.shape (plain_local _ _ _ _ (ap is_plain_app c.in_ok-verify_subcommand.ensures))
    ∙ ap₂ with_subcommand rewriting_is (ap top c.in_ok-verify_subcommand.ensures) in
    let parse = c.try_get_matches_from in
    record {
      given =
          IfOk-weaker parse.result _ _
          (λ m has.
          (has (ap is_simple program_is ∙ simple)).1
          ∙ ap (λ (a : App). subcommand_of a (texts c.args.arguments.now)) program_is)
          parse.ensures.matches;
      kinds =
          subst (λ (a : App). FailsBy (fault_of a (texts c.args.arguments.now)) parse.result)
          program_is
          (parse.ensures.kinds (ap is_simple_and_free program_is ∙ free));
    }
