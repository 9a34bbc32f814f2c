-- `read_shape`: the result is `Ok` of a map exactly if `map_of` returns this map, so the contract of `map_of` holds for it.
use Rattle.std.proofs.Common.{◌≡◌, ◌∙◌, ap, sym, Option, Some, None, Ok, ok_or}
use Rattle.host.proofs.program.shapes.read_shape.Goals as goal

-- if `ok_or` returns a value, the option has this value
seen : {A E : Type 0} (o : Option A) (e : E) (a : A) → ok_or o e ≡ Ok a → o ≡ Some a
seen None e a is = absurd (cc is)
seen (Some x) e a is = let same : x ≡ a = cc is in ap Some same

pub returns : goal.returns
returns c = λ map. (
  (λ is. (c.map_of.ensures map).0 (seen c.map_of.result _ map (sym c.ok_or.ensures.value ∙ is))),
  (λ is. c.ok_or.ensures.value ∙ ap (λ o. ok_or o _) ((c.map_of.ensures map).1 is)),
)
