-- A test run has a frame: it is not too long if the packet is not, and so it is parsed as this test run.
use Rattle.std.proofs.Common.{◌≡◌, ℕ, ◌+◌, ◌*◌, ◌^◌, ◌<◌, List, [], ◌∷◌, ◌++◌, length, Ok, arith}
use Rattle.std.specs.List.{flat_map}
use Rattle.byteorder.specs.Endian.{little_bytes}
use Rattle.command_frames.specs.Command.{prog_test_run, parsed}
use Rattle.command_frames.specs.Encoded.{frame_of}
use Rattle.command_frames.specs.Laws.{EncodingInvertsParsing}
use Rattle.tenant.specs.Batch.{BatchInput}
use Rattle.saving.specs.Laws.{FitsFrame, TestRunsHaveFrames}

words_long : (ws packet : List ℕ) → length (flat_map (little_bytes 4) ws ++ packet) ≡ 4 * length ws + length packet
words_long [] packet = omega arith
words_long (w ∷ ws) packet = let rest = words_long ws packet in omega (arith, rest)

module _ (law : EncodingInvertsParsing) where
  test_run_parsed : (tenant fd : ℕ) (input : BatchInput)
      → fd < 2 ^ 32 → FitsFrame input
      → parsed (frame_of tenant (prog_test_run fd input.words input.packet))
      ≡ Ok (prog_test_run fd input.words input.packet)
  test_run_parsed tenant fd input a (ten, small, fits) =
      law.parsed_again tenant (prog_test_run fd input.words input.packet) (a, ten, small)
      (omega (arith, words_long input.words input.packet, ten, fits))

  -- the frames of test runs that fit are parsed as these test runs
  pub test_runs_have_frames : TestRunsHaveFrames
  test_runs_have_frames tenant fd [] small fit = tt
  test_runs_have_frames tenant fd (input ∷ inputs) small fit = (
    test_run_parsed tenant fd input small fit.0,
    test_runs_have_frames tenant fd inputs small fit.1,
  )
