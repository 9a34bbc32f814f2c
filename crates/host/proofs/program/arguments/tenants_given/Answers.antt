-- `tenants_given`: the option's text is that of the definition, by the contract of `get_str`, and its number is that of `tenant_count`.
use Rattle.std.proofs.Common.{◌∙◌, ap, sym, codes, option_and_then, option_map}
use Rattle.clap.specs.Words.{found_of}
use Rattle.clap.proofs.WalkLemmas.{first_value-rows}
use Rattle.host.specs.program.Arguments.{tenant_number}
use Rattle.host.proofs.program.arguments.tenants_given.Goals as goal

pub returns-in_err-get_str : goal.returns-in_err-get_str
returns-in_err-get_str c = c.from_residual.ensures
    ∙ ap (option_and_then tenant_number)
    (ap (option_map (λ digits. digits.now)) (sym c.in_err-get_str.was)
    ∙ c.get_str.ensures
    ∙ first_value-rows (found_of c.args.serve.now) (codes "tenants"))

pub returns : goal.returns
returns c = c.tenant_count.ensures
    ∙ ap (option_and_then tenant_number)
    (ap (option_map (λ digits. digits.now)) (sym c.in_ok-get_str.was)
    ∙ c.get_str.ensures
    ∙ first_value-rows (found_of c.args.serve.now) (codes "tenants"))
