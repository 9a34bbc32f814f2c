-- Keys that are kept as numbers (RFC 9669, section 5, on a little-endian machine). This project's
-- own.
use Rattle.std.specs.Prelude.{ℕ, ◌<◌, ◌≤◌, ◌^◌, List, [], ◌∷◌}
use Rattle.words.specs.Bytes.{low_bytes}
use Rattle.bpf_maps.specs.KeyLists.{SizedKeys, shown_by}
use Rattle.bpf_maps.specs.declared.word_index.WordIndex.TheInside.{Inside}

-- the keys of the index as contracts see them: a key is stored as a number, and shown as the `size`
-- low bytes of this number, lowest first
abbrev pub words_shown : Inside → SizedKeys
words_shown w = record {
  size = w.size;
  bound = w.map.bound;
  entries = shown_by (low_bytes w.size) w.map.entries;
}

-- each key is a number less than `bound`
abbrev pub AreBelow : ℕ → List (ℕ × ℕ) → Type 0
AreBelow bound [] = Unit {0}
AreBelow bound (e ∷ es) = (e.0 < bound) × AreBelow bound es

-- the keys have at most eight bytes each, and each number that is kept for a key fits in the bytes
-- of a key
pub record IsWellFormedWords (w : Inside) : Type 0 where
  pub short : w.size ≤ 8
  pub below : AreBelow (256 ^ w.size) w.map.entries
