-- Descriptors: the numbers from 3 to 66, and what each open one names. A new one is the lowest free
-- number, as that of open(2); the bounds are this project's own.
use Rattle.std.specs.Prelude.{◌≡◌, ℕ, ◌+◌, ◌-◌, nat_lt, is_none, List, Option, Some, None, option_map}
use Rattle.std.specs.Prelude.{option_and_then, position, replicate, slice_get, slice_set, Result, Ok, Err, if◌then◌else◌}

-- the lowest descriptor
abbrev pub first_descriptor : ℕ
first_descriptor = 3

-- how many descriptors may be open at once
abbrev pub most : ℕ
most = 64

module _ {A : Type 0} where
  -- the table with nothing open: None for each descriptor. A table has at index k, from 0, the
  -- object that descriptor 3 + k names, and None if that is free
  abbrev pub nothing_open : List (Option A)
  nothing_open = replicate most None

  -- the value inside; None if either option is None
  abbrev pub flattened : Option (Option A) → Option A
  flattened o = option_and_then (λ x. x) o

  -- what a number names: the object that is open at it, and None if it is free or no descriptor
  abbrev pub named : List (Option A) → ℕ → Option A
  named table fd =
      if nat_lt fd first_descriptor
      then None
      else flattened (slice_get table (fd - first_descriptor))

  -- the lowest descriptor that is free; None if all are open
  abbrev pub lowest : List (Option A) → Option ℕ
  lowest table = option_map (λ index. first_descriptor + index) (position is_none table)

  -- the table with x open at descriptor fd, which is 3 to 66
  abbrev pub with_open : List (Option A) → ℕ → A → List (Option A)
  with_open table fd x = slice_set table (fd - first_descriptor) (Some x)

  -- the table with descriptor fd closed; it is unchanged if fd is free or no descriptor
  abbrev pub with_closed : List (Option A) → ℕ → List (Option A)
  with_closed table fd =
      if nat_lt fd first_descriptor then table else slice_set table (fd - first_descriptor) None

  -- opening x in the table `old` returns `answer` and makes the table `new`. The first argument is
  -- the lowest free descriptor of `old`: x is open at it in `new`, and it is returned. If none is
  -- free (None), x is returned as an error, and the table is unchanged
  abbrev pub OpensLowest : Option ℕ → List (Option A) → A → Result ℕ A → List (Option A) → Type 0
  OpensLowest (Some fd) old x answer new = (answer ≡ Ok fd) × (new ≡ with_open old fd x)
  OpensLowest None old x answer new = (answer ≡ Err x) × (new ≡ old)
