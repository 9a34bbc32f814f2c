-- The keys in a slab, each in one word. This project's own.
use Rattle.std.specs.Prelude.{ℕ, ◌==◌, if◌then◌else◌, List, map, Option, Some, None}
use Rattle.bpf_maps.specs.declared.slab_keys.TheConstants.{NO_KEY}

-- the number under which a slab stores a map, as a word has it; None for the word `NO_KEY`
abbrev pub key_in : ℕ → Option ℕ
key_in word = if word == NO_KEY then None else Some word

-- for each handle in order the slab's key in its word; None if the word is `NO_KEY`
abbrev pub keys_in : List ℕ → List (Option ℕ)
keys_in words = map key_in words
