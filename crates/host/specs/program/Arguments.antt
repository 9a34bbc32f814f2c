-- The program's arguments, and the task that they name. The arguments are this project's own; how
-- arguments are parsed is clap's.
use Rattle.std.specs.Prelude.{◌≡◌, ◌⊎◌, ℕ, true, List, [], Option, Some, None, codes, if◌then◌else◌, option_and_then, option_map, unwrap_or}
use Rattle.std.specs.Str.{bytes_eq}
use Rattle.clap.specs.Words.{App, Kinds, Row, Rule, Shape, Text, all_of, fault_of, first_of, new_app, new_rule, subcommand_of, with_rule, with_subcommand}
use Rattle.clap.specs.Simple.{on_top}
use Rattle.clap.specs.Walk.{is_empty}
use Rattle.clap.specs.declared.builder.action.ArgAction.TheVariants.{Append, Set}
use Rattle.tagged_model.specs.Shape.{is_from_to}
use Rattle.host.specs.program.Decimal.{decimal_number}
use Rattle.host.specs.program.Judging.{AcceptsIfKnown}
use Rattle.host.specs.program.Shapes.{IsFirstWrongArgument}
use Rattle.host_core.specs.Limits.{most_tenants}
use Rattle.host.specs.declared.program.texts.TextTask.{TextTask}
use Rattle.host.specs.declared.program.texts.TextTask.TheVariants.{Assemble, Disassemble}

-- The command line in clap's terms: one of the subcommands `serve`, `asm`, `dis` and `verify`,
-- which is required.

-- the option `--tenants` of `serve`, which is required and has a value
abbrev pub tenants_option : Rule
tenants_option = record (new_rule (codes "tenants")) {
  long = Some (codes "tenants");
  required = true;
  action = Some Set;
}

-- the subcommand `serve`, with its option
abbrev pub serve_command : App
serve_command = with_rule (new_app (codes "serve")) tenants_option

-- the subcommand `asm`, without options
abbrev pub asm_command : App
asm_command = new_app (codes "asm")

-- the subcommand `dis`, without options
abbrev pub dis_command : App
dis_command = new_app (codes "dis")

-- any number of arguments, each for a map
abbrev pub maps_argument : Rule
maps_argument = record (new_rule (codes "map")) { action = Some Append }

-- the subcommand `verify`, with its map arguments
abbrev pub verify_command : App
verify_command = with_rule (new_app (codes "verify")) maps_argument

-- clap's settings s with two more: a subcommand is required, and the name of the program is not
-- among the arguments
abbrev pub asks_for_subcommand : Shape → Shape
asks_for_subcommand s = record s { no_binary_name = true; subcommand_required = true }

-- the first step to `program`: with the subcommand `serve` only
abbrev pub program_up_to_serve : App
program_up_to_serve =
    with_subcommand (on_top asks_for_subcommand (new_app (codes "bpfhost"))) serve_command.top

-- the next step to `program`: with the subcommands `serve`, `asm` and `dis`
abbrev pub program_up_to_dis : App
program_up_to_dis =
    with_subcommand (with_subcommand program_up_to_serve asm_command.top) dis_command.top

-- the command line of `bpfhost` as clap knows it, with all four subcommands
abbrev pub program : App
program = with_subcommand program_up_to_dis verify_command.top

-- the kinds of error that clap has for the arguments: empty if it accepts them
unfoldable pub refusal_kinds : List Text → Kinds
refusal_kinds arguments = fault_of program arguments

-- the name of the subcommand that the arguments name, with what they give to its options; None if
-- they name none
unfoldable pub chosen_subcommand : List Text → Option (Text × List Row)
chosen_subcommand arguments = subcommand_of program arguments

-- the text that is given to `--tenants`; None if it is not given
abbrev pub tenants_value : List Row → Option Text
tenants_value rows = first_of (codes "tenants") rows

-- the number of tenants that a text gives in decimal digits, from 1 to `most_tenants`; None for
-- every other text
abbrev pub tenant_number : Text → Option ℕ
tenant_number digits =
    option_and_then (λ number. if is_from_to 1 most_tenants number then Some number else None)
    (decimal_number digits)

-- the arguments of `verify` that are given for maps, which may be none
abbrev pub map_arguments : List Row → List Text
map_arguments rows = unwrap_or (all_of (codes "map") rows) []

-- ---- the task that the arguments name

-- a task: to serve frames to a number of tenants; to assemble or disassemble; or to verify a
-- program, with arguments for its maps
pub data Asked : Type 0 where
  Serves : ℕ → Asked
  Rewrites : TextTask → Asked
  Verifies : List Text → Asked

-- the task of the subcommand with this name, given its arguments; None if no subcommand has the
-- name, or if `serve` is given no number of tenants that `tenant_number` accepts
abbrev pub asked_with : Text → List Row → Option Asked
asked_with name rows =
    if bytes_eq name (codes "serve") then option_map Serves
    (option_and_then tenant_number (tenants_value rows)) else
    (if bytes_eq name (codes "asm") then Some (Rewrites Assemble) else
    (if bytes_eq name (codes "dis") then Some (Rewrites Disassemble) else
    (if bytes_eq name (codes "verify") then Some (Verifies (map_arguments rows)) else None)))

-- the task of the subcommand that is chosen, with its arguments; None if none is, or they are wrong
abbrev pub asked_of : Option (Text × List Row) → Option Asked
asked_of chosen =
    option_and_then (λ (subcommand : Text × List Row). asked_with subcommand.0 subcommand.1) chosen

-- the task that the arguments name; None if they are wrong. Map arguments are not read here, so one
-- that names no map is not wrong yet
abbrev pub asked_by_arguments : List Text → Option Asked
asked_by_arguments arguments =
    if is_empty (refusal_kinds arguments) then asked_of (chosen_subcommand arguments) else None

-- one of the map arguments is wrong: it names no map, or the descriptor of an earlier one
abbrev pub HasWrongMapArgument : List Text → Type 0
HasWrongMapArgument maps = (number : ℕ) × IsFirstWrongArgument maps number

-- the arguments name no task, or a map argument is wrong
abbrev pub AreWrongArguments : List Text → Type 0
AreWrongArguments arguments =
    (asked_by_arguments arguments ≡ None)
    ⊎ ((maps : List Text)
    × (asked_by_arguments arguments ≡ Some (Verifies maps))
    × HasWrongMapArgument maps)

-- if the task is to verify a program and the input's bytes are known, the input has a program that
-- is accepted with the maps of the arguments
abbrev pub AcceptsAsked : List Text → Option (List ℕ) → Type 0
AcceptsAsked arguments input =
    (maps : List Text)
    → asked_by_arguments arguments ≡ Some (Verifies maps)
    → AcceptsIfKnown maps input
