-- The command that each command of the code represents. This project's own.
use Rattle.std.specs.Prelude.{Result}
use Rattle.std.specs.Result.{result_map_both}
use Rattle.command_frames.specs.declared.command.BadFrame.{BadFrame}
use Rattle.command_frames.specs.declared.command.Command.{Command as CodeCommand}
use Rattle.command_frames.specs.declared.command.Command.TheVariants as code
use Rattle.command_frames.specs.Command.{Command, map_create, map_lookup, map_update, map_delete, map_next_key, prog_load, prog_test_run, close}

-- the `Command` of the specifications that a command of the code (`CodeCommand`) represents, and by
-- which contracts describe it. Both have equal fields, but the code borrows its byte fields: such a
-- slice (a key; `rest`, a key and then its value; the bytes of slots; a packet) becomes the list of
-- its bytes (`now`). Numbers and the context words of a test run (`words`) are unchanged
abbrev pub shown_command : CodeCommand → Command
shown_command (code.MapCreate kind key_size value_size max_entries flags) =
    map_create kind key_size value_size max_entries flags
shown_command (code.MapLookup fd key) = map_lookup fd key.now
shown_command (code.MapUpdate fd flags rest) = map_update fd flags rest.now
shown_command (code.MapDelete fd key) = map_delete fd key.now
shown_command (code.MapNextKey fd key) = map_next_key fd key.now
shown_command (code.ProgLoad kind slots) = prog_load kind slots.now
shown_command (code.ProgTestRun fd words packet) = prog_test_run fd words packet.now
shown_command (code.Close fd) = close fd

-- the result of parsing as contracts see it: a command by `shown_command`; a `BadFrame`, why the
-- frame carries no command, is unchanged
abbrev pub shown_result : Result CodeCommand BadFrame → Result Command BadFrame
shown_result r = result_map_both shown_command (λ e. e) r
