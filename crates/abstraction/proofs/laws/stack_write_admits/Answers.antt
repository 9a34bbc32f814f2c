-- `stack_write_admits`: a store that facts allow lies in one stack slot, whose new cell fits the slot's new facts (`cell_written`); all
-- other cells and their facts are unchanged.
use Rattle.abstraction.proofs.StackStores.{stack_stored}
use Rattle.abstraction.proofs.laws.stack_write_admits.Goals as goal

pub returns : goal.returns
returns c = λ witness f g s offset size k v proper admits h e.
    stack_stored witness f s proper admits g offset size k v h e
