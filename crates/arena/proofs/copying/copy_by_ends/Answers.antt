-- `copy_by_ends`: the first and the last `N` bytes, each written by the contract of `copy_piece`, are all of `bytes`, which has at most
-- twice as many (`ends_written`).
use Rattle.std.proofs.Common.{List, ℕ, ◌+◌, ◌-◌, length, drop, ap, ◌∙◌, arith, length-drop}
use Rattle.std.proofs.lemmas.List.{take_all}
use Rattle.words.specs.Bytes.{written_at}
use Rattle.arena.proofs.Pieces.{ends_written}
use Rattle.arena.proofs.copying.copy_by_ends.Goals as goal

pub returns : goal.returns
returns g c =
    let bytes = c.args.bytes.now in
    let last = length bytes - g.row.N in
    c.copy_piece-2.ensures
    ∙ ap (λ (piece : List ℕ). written_at c.copy_piece.new.to (c.args.offset + last) piece)
    (take_all (length bytes - last) (drop last bytes) (omega (arith, length-drop last bytes)))
    ∙ ap (λ (to : List ℕ). written_at to (c.args.offset + last) (drop last bytes)) c.copy_piece.ensures
    ∙ ends_written c.args.to.now bytes c.args.offset g.row.N last (omega arith) (omega arith) c.requires.room
