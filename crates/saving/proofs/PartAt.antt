-- Which part of a save has an index.
use Rattle.std.proofs.Common.{◌≡◌, ℕ, suc, ◌+◌, ◌-◌, ◌*◌, ◌/◌, ◌%◌, ◌^◌, ◌<◌, ◌≤◌, min, List, []}
use Rattle.std.proofs.Common.{◌∷◌, ◌++◌, take, drop, length, Some, None, sym, ap, ◌∙◌, arith, get_or}
use Rattle.std.specs.Prelude.{slice_get}
use Rattle.std.specs.List.{flat_map}
use Rattle.std.proofs.lemmas.List.{append_assoc, drop_more}
use Rattle.std.proofs.lemmas.Option.{slice_get_within}
use Rattle.command_frames.specs.Command.{Command}
use Rattle.fd_table.specs.Table.{first_descriptor, most}
use Rattle.tenant.specs.State.{TenantState}
use Rattle.saving.specs.declared.save_parts.TheConstants.{KEYS_PER_SAVE_PART}
use Rattle.saving.specs.Births.{Birth, OfProgram}
use Rattle.saving.specs.Pieces.{first_pieces, pieces}
use Rattle.saving.specs.Restored.{closings}
use Rattle.saving.specs.SaveParts.{key_commands, birth_parts}
use Rattle.saving.specs.inside.PartCommands.{later_parts}
use Rattle.saving.proofs.Pieces.{get_none, get_front, get_after, piece_there, no_piece, piece_count}

-- an index from 1 on follows the one before it
pub after_one : (index before : ℕ) → (1 ≤ index) × (before ≡ index - 1) → index ≡ suc before
after_one index before (some, less) = omega (arith, some, less)

-- the births from an index on are the birth there, then those from the next index on
pub first_left : (births : List Birth) (i : ℕ) (b : Birth)
    → i < length births
    → b ≡ get_or births i b
    → drop i births ≡ b ∷ drop (i + 1) births
first_left births i b within is =
    drop_more births i b within ∙ ap (λ (first : Birth). first ∷ drop (i + 1) births) (sym is)

module _ (s : TenantState) where
  -- ---- the parts of one birth

  -- the number of a birth's parts is one more than that of its keys divided by KEYS_PER_SAVE_PART, rounded up
  pub part_count : (b : Birth) (keys : ℕ)
      → keys ≡ length (key_commands s b)
      → 1 + (keys / KEYS_PER_SAVE_PART + min 1 (keys % KEYS_PER_SAVE_PART)) ≡ length (birth_parts s b)
  part_count b keys is =
      let same : keys / KEYS_PER_SAVE_PART + min 1 (keys % KEYS_PER_SAVE_PART) ≡ length (pieces KEYS_PER_SAVE_PART (key_commands s b)) =
      ap (λ (n : ℕ). n / KEYS_PER_SAVE_PART + min 1 (n % KEYS_PER_SAVE_PART)) is
      ∙ sym (piece_count KEYS_PER_SAVE_PART (omega arith) (key_commands s b)) in
      omega (arith, same)

  -- a part after a birth's first one puts the next KEYS_PER_SAVE_PART keys, or as many as are left, if some are
  pub key_part : (b : Birth) (index piece first keys : ℕ)
      → index ≡ suc piece
      → first ≡ min (piece * KEYS_PER_SAVE_PART) (2 ^ 64 - 1)
      → keys ≡ length (key_commands s b)
      → keys < 2 ^ 32
      → first < keys
      → slice_get (birth_parts s b) index ≡ Some (take KEYS_PER_SAVE_PART (drop first (key_commands s b)))
  key_part b index piece first keys next is count small within =
      let same : piece * KEYS_PER_SAVE_PART ≡ first = omega (arith, is, small, within) in
      ap (slice_get (birth_parts s b)) next
      ∙ piece_there KEYS_PER_SAVE_PART (omega arith) (key_commands s b) piece (omega (arith, same, count, within))
      ∙ ap (λ (n : ℕ). Some (take KEYS_PER_SAVE_PART (drop n (key_commands s b)))) same

  -- a birth has no part at an index at which no key is left to put
  pub no_key_part : (b : Birth) (index piece first keys : ℕ)
      → index ≡ suc piece
      → first ≡ min (piece * KEYS_PER_SAVE_PART) (2 ^ 64 - 1)
      → keys ≡ length (key_commands s b)
      → keys < 2 ^ 32
      → keys ≤ first
      → slice_get (birth_parts s b) index ≡ None
  no_key_part b index piece first keys next is count small past =
      ap (slice_get (birth_parts s b)) next
      ∙ no_piece KEYS_PER_SAVE_PART (omega arith) (key_commands s b) piece (omega (arith, is, count, small, past))

  -- the birth of a program has no part after its first one
  pub no_program_part : (b : Birth) (index piece fd : ℕ)
      → b ≡ OfProgram fd
      → index ≡ suc piece
      → slice_get (birth_parts s b) index ≡ None
  unfolding first_pieces
  no_program_part b index piece fd is next =
      ap (λ (x : Birth). slice_get (birth_parts s x) index) is
      ∙ ap (slice_get (birth_parts s (OfProgram fd))) next

  -- ---- the parts of several births

  later_more : (b : Birth) (births : List Birth)
      → later_parts s (b ∷ births) ≡ birth_parts s b ++ later_parts s births
  later_more b births =
      append_assoc (birth_parts s b) (flat_map (birth_parts s) births) (closings s.objects first_descriptor most ∷ [])

  -- a part of the first birth that is left is, at the same index, one of the parts that are left
  pub part_found : (births older : List Birth) (b : Birth) (left : ℕ) (commands : List Command)
      → births ≡ b ∷ older
      → slice_get (birth_parts s b) left ≡ Some commands
      → slice_get (later_parts s births) left ≡ Some commands
  part_found births older b left commands are found =
      ap (λ (bs : List Birth). slice_get (later_parts s bs) left) are
      ∙ ap (λ (ps : List (List Command)). slice_get ps left) (later_more b older)
      ∙ get_front (birth_parts s b) (later_parts s older) left
      (slice_get_within (birth_parts s b) left commands found)
      ∙ found

  -- an index after the parts of the first birth is one among those of the others, less the number of its parts
  pub birth_passed : (births older : List Birth) (b : Birth) (left count : ℕ)
      → births ≡ b ∷ older
      → count ≡ length (birth_parts s b)
      → slice_get (birth_parts s b) left ≡ None
      → slice_get (later_parts s births) left ≡ slice_get (later_parts s older) (left - count)
  birth_passed births older b left count are is none =
      ap (λ (bs : List Birth). slice_get (later_parts s bs) left) are
      ∙ ap (λ (ps : List (List Command)). slice_get ps left) (later_more b older)
      ∙ get_after (birth_parts s b) (later_parts s older) left (get_none (birth_parts s b) left none)
      ∙ ap (λ (n : ℕ). slice_get (later_parts s older) (left - n)) (sym is)

  -- if no birth is left, the next part closes the descriptors that are not open
  pub last_part : (births : List Birth) (left : ℕ)
      → births ≡ []
      → left ≡ 0
      → slice_get (later_parts s births) left ≡ Some (closings s.objects first_descriptor most)
  last_part births left none first =
      ap (λ (bs : List Birth). slice_get (later_parts s bs) left) none
      ∙ ap (slice_get (later_parts s [])) first

  -- if no birth is left, no part follows the one that closes descriptors
  pub no_part : (births : List Birth) (left : ℕ)
      → births ≡ []
      → 1 ≤ left
      → slice_get (later_parts s births) left ≡ None
  no_part births left none more =
      let next : left ≡ suc (left - 1) = omega (arith, more) in
      ap (λ (bs : List Birth). slice_get (later_parts s bs) left) none
      ∙ ap (slice_get (later_parts s [])) next
