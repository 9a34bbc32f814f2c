-- `transfer_is_sound`: by cases of the instruction (`Cover`), from the laws of ranges (results of operators, edges of comparisons), of null
-- tests, of reads and writes of the stack and of values, and of calls.
use Rattle.transfer.proofs.Cover.{effects_covered}
use Rattle.transfer.proofs.laws.transfer_is_sound.Goals as goal

pub returns : goal.returns
returns c =
    effects_covered (record {
      results = record {
        members = record { wide = c.results_are_members.ensures.wide; narrow = c.results_are_members.ensures.narrow };
        words = record { wide = c.results_are_words.ensures.wide; narrow = c.results_are_words.ensures.narrow };
      };
      comparisons = record {
        members = record { wide = c.edges_keep_members.ensures.wide; narrow = c.edges_keep_members.ensures.narrow };
        words = record { wide = c.edges_are_words.ensures.wide; narrow = c.edges_are_words.ensures.narrow };
        null_tests = c.null_test_admits.ensures;
      };
      accesses = record {
        reads = c.stack_read_admits.ensures;
        writes = c.stack_write_admits.ensures;
        loads = c.value_load_admits.ensures;
        stores = c.value_store_admits.ensures;
      };
      calls = c.calls_are_sound.ensures;
      map_calls = c.map_calls_keep.ensures;
      site = c.site_admits.ensures;
    })
