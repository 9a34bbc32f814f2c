-- Worked cases of the definitions.
use Rattle.std.proofs.Common.{◌≡◌, ℕ, List, [], ◌∷◌, Option, Some, None, refl}
use Rattle.fd_table.specs.Table.{nothing_open, named, lowest, with_open, with_closed}

-- 3 and 5 are open, and 4 is not
three_and_five : List (Option ℕ)
three_and_five = with_open (with_open nothing_open 3 10) 5 12

lowest_is_4 : lowest three_and_five ≡ Some 4
unfolding three_and_five
lowest_is_4 = refl

five_names : named three_and_five 5 ≡ Some 12
unfolding three_and_five
five_names = refl

four_names_nothing : named three_and_five 4 ≡ None
unfolding three_and_five
four_names_nothing = refl

two_names_nothing : named three_and_five 2 ≡ None
unfolding three_and_five
two_names_nothing = refl

past_the_end : named three_and_five 67 ≡ None
unfolding three_and_five
past_the_end = refl

closed_is_free_again : lowest (with_closed three_and_five 3) ≡ Some 3
unfolding three_and_five
closed_is_free_again = refl

all_taken : List (Option ℕ)
all_taken = Some 1 ∷ Some 2 ∷ []

full_has_none : lowest all_taken ≡ None
unfolding all_taken
full_has_none = refl
