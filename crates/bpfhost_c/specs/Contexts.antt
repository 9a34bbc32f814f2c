-- Contexts from C, which have any number of words. This project's own.
use Rattle.std.specs.Prelude.{ℕ, ℤ, zero, suc, Bool, true, not, List, [], ◌∷◌, ◌++◌, ◌&&◌, ◌||◌}
use Rattle.std.specs.Prelude.{◌/◌, ◌%◌, if◌then◌else◌, length, take, drop, replicate, min, nat_eq}
use Rattle.std.specs.List.{list_all}
use Rattle.words.specs.Context.{given_words}
use Rattle.bpfhost_c.specs.declared.codes.TheConstants.{DONE, ERR_SIZE, ERR_TOO_BIG}

-- the words that a run is given of a context: its first `given_words`, and 0 for each of them that
-- it does not have
abbrev pub fitted : List ℕ → List ℕ
fitted words =
    take (min (length words) given_words) words
    ++ drop (min (length words) given_words) (replicate given_words 0)

-- a context has only zeros after its first `given_words` words, which are those that a run is given
abbrev pub has_only_known_words : List ℕ → Bool
has_only_known_words words = list_all (λ word. nat_eq word 0) (drop given_words words)

-- for each of the first n contexts in `words`, n being the second argument, each of `size` words:
-- the words that a run is given of it (`fitted`)
abbrev pub fitted_all : ℕ → ℕ → List ℕ → List (List ℕ)
fitted_all size zero words = []
fitted_all size (suc count) words =
    fitted (take size words) ∷ fitted_all size count (drop size words)

-- `words` has contexts of `size` words each, one after another. In each of the first n, n being the
-- second argument, every word after those that a run is given is zero
abbrev pub have_known_words : ℕ → ℕ → List ℕ → Bool
have_known_words size zero words = true
have_known_words size (suc count) words =
    has_only_known_words (take size words) && have_known_words size count (drop size words)

-- the contexts of a call, each of `size` words, as a run is given them; if the last one is cut off,
-- its words are left out, and the call has the code of an error (`contexts_code`)
abbrev pub contexts_of : ℕ → List ℕ → List (List ℕ)
contexts_of size words = fitted_all size (length words / size) words

-- the code of a call with contexts of `size` words, unless it is out of memory: ERR_SIZE if `size`
-- is 0 or the last context is cut off; else ERR_TOO_BIG if a context has a word other than 0 after
-- those that a run is given; else DONE
abbrev pub contexts_code : ℕ → List ℕ → ℤ
contexts_code size words =
    if nat_eq size 0 || not (nat_eq (length words % size) 0) then ERR_SIZE
    else (if have_known_words size (length words / size) words then DONE else ERR_TOO_BIG)
