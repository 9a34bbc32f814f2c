-- `spelled_double`: the low bytes of the number that `read_double` returns are the bytes that it read, since each of these has the range
-- of a byte, so that their number spells them.
use Rattle.std.proofs.Common.{◌≡◌, ℕ, ◌<◌, ◌+◌, length, get_or, ap, sym, subst, ◌∙◌, arith}
use Rattle.words.specs.Bytes.{number_of, low_bytes, bytes_at}
use Rattle.words.specs.ByteLaws.{byte_of, length-bytes_at, low_bytes_of_number}
use Rattle.arena.proofs.numbers.spelled_double.Goals as goal

pub returns : goal.returns
returns c =
    let bytes = c.args.bytes.now in
    let source = bytes_at bytes c.args.at 8 in
    let long : length source ≡ 8 = length-bytes_at bytes c.args.at 8 c.requires in
    let small : (i : ℕ) → i < length source → get_or source i 0 < 256 = λ i below.
    subst (λ b. b < 256) (sym (byte_of bytes c.args.at 8 i (omega arith))) (c.type_inv.bytes (c.args.at + i)).fits in
    ap (low_bytes 8) c.read_double.ensures
    ∙ subst (λ n. low_bytes n (number_of source) ≡ source) long (low_bytes_of_number source small)
