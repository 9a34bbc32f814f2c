-- `write_text`, in a room that is not empty: as many bytes are copied as fit, so with the zero after them the room has the text
-- (`text_ended`).
use Rattle.std.proofs.Common.{rules, ◌≡◌, ℕ, ◌<◌, List, ◌++◌, take, drop, length, set, ap, ◌∙◌, arith}
use Rattle.bpfhost_c.specs.Logs.{fitting}
use Rattle.bpfhost_c.proofs.Rooms.{text_ended}
use Rattle.bpfhost_c.proofs.verifying.write_text.Goals as goal

pub returns : goal.returns
returns c =
    let text = c.args.text.now in
    let room = c.args.room.now in
    let n = c.min-count.result in
    let copied : c.copy_from_slice.new.self ≡ take n text = search rules in
    let some : 0 < length room = search rules in
    let is : n ≡ fitting text room = search rules in
    ap (λ (front : List ℕ). set (front ++ drop n room) n 0) copied
    ∙ text_ended text room n is (omega arith) (omega arith)
