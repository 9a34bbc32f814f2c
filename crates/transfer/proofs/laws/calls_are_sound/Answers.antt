-- `calls_are_sound`: by cases of the helper (`HelperCalls`), from the laws of arguments in memory, of map calls, and of look-up sites.
use Rattle.transfer.proofs.HelperCalls.{calls_are_sound}
use Rattle.transfer.proofs.laws.calls_are_sound.Goals as goal

pub returns : goal.returns
returns c = calls_are_sound (record {
  stack_input = c.stack_input_admits.ensures;
  stack_output = c.stack_output_admits.ensures;
  object_read = c.value_read_is_no_fault.ensures;
  object_write = c.object_write_admits.ensures;
  map_calls = c.map_calls_keep.ensures;
  map_change = c.map_change_admits.ensures;
  call = c.call_admits.ensures;
  site = c.site_admits.ensures;
})
