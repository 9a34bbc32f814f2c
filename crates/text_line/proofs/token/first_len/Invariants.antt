-- `first_len`: the text begins with none of the symbols so far, so the first with which it begins is among the later ones.
use Rattle.std.proofs.Common.{◌≡◌, nat_eq, drop, map}
use Rattle.std.specs.Prelude.{find}
use Rattle.std.specs.List.{starts_with}
use Rattle.text_line.proofs.token.first_len.Given as goal

abbrev pub invariant-loop-symbol : goal.invariant-loop-symbol
invariant-loop-symbol l =
    find (λ s. starts_with nat_eq l.text s) (map (λ s. s.now) l.symbols)
    ≡ find (λ s. starts_with nat_eq l.text s) (map (λ s. s.now) (drop l.symbol-index l.symbols))
