-- The loops that write a part of a save: the frames so far and the frames that are left.
use Rattle.std.proofs.Common.{◌≡◌, ℕ, suc, ◌+◌, ◌-◌, ◌≤◌, List, [], ◌∷◌, ◌++◌, map, take, drop}
use Rattle.std.proofs.Common.{Option, Some, None, Result, Ok, Err, OnOk, refl, sym, ap, ap₂, ◌∙◌, arith}
use Rattle.std.specs.Map.{values_of}
use Rattle.std.proofs.Math.Seq.{take-nil, drop-nil}
use Rattle.std.proofs.lemmas.Grind.{flat_map-append}
use Rattle.std.proofs.lemmas.List.{append-nil, take-map, drop-map, drop-drop}
use Rattle.command_frames.specs.Command.{Command}
use Rattle.command_frames.specs.Frame.{framed}
use Rattle.ordered_keys.specs.Orders.{occurrences, next_entry}
use Rattle.bpf_maps.specs.Live.{LiveMaps, keys_at, value_in, map_in}
use Rattle.tenant.specs.Entry.{NumberedEntry, numbered_entries}
use Rattle.command_frames.specs.Encoded.{frame_of}
use Rattle.saving.specs.Restored.{put_of}
use Rattle.saving.specs.SaveParts.{frames_of}
use Rattle.saving.specs.inside.Puts.{puts, rest_after}
use Rattle.saving.proofs.Saves.{then_more, one_less, nothing_left, first_of_rest, none_first, rest_of_next}

frames_append : (n : ℕ) (cs ds : List Command) → frames_of n (cs ++ ds) ≡ frames_of n cs ++ frames_of n ds
frames_append n cs ds = flat_map-append (λ (c : Command). framed (frame_of n c)) cs ds

-- after the frame of the first command that is left is written, all frames are those so far and those still left
pub one_command : (before : List ℕ) {all after : List ℕ} (n m : ℕ) (c : Command) (left rest : List Command)
    → left ≡ c ∷ rest → m ≡ n
    → before ++ frames_of n left ≡ all → after ≡ before ++ framed (frame_of n c)
    → after ++ frames_of m rest ≡ all
one_command before {all} {after} n m c left rest is same was written =
    ap (λ (k : ℕ). after ++ frames_of k rest) same
    ∙ one_less before (framed (frame_of n c)) (frames_of n rest)
    (ap (λ (cs : List Command). before ++ frames_of n cs) (sym is) ∙ was)
    written

-- after the frames of the next commands are written, all frames are those so far and those still left
pub some_commands : (before : List ℕ) {all after : List ℕ} (n m : ℕ) (cs left rest : List Command)
    → left ≡ cs ++ rest → m ≡ n
    → before ++ frames_of n left ≡ all → after ≡ before ++ frames_of n cs
    → after ++ frames_of m rest ≡ all
some_commands before {all} {after} n m cs left rest is same was written =
    ap (λ (k : ℕ). after ++ frames_of k rest) same
    ∙ one_less before (frames_of n cs) (frames_of n rest)
    (ap (λ (xs : List ℕ). before ++ xs) (sym (frames_append n cs rest))
    ∙ ap (λ (ds : List Command). before ++ frames_of n ds) (sym is)
    ∙ was)
    written

-- if no command is left, the frames so far are all
pub no_commands : {all now : List ℕ} (n : ℕ) (left : List Command)
    → left ≡ [] → now ++ frames_of n left ≡ all → now ≡ all
no_commands {all} {now} n left none was = nothing_left (frames_of n left) was (ap (frames_of n) none)

-- ---- the keys of a map

-- the commands that put the next keys are that of the next entry, and those that put one key less after it
pub next_put : (fd : ℕ) (es : List NumberedEntry) (element : Option ℕ) (e : NumberedEntry) (n m : ℕ)
    → ((p : ℕ) → occurrences p (values_of es) ≤ 1)
    → n ≡ suc m
    → Some e ≡ next_entry element es
    → puts fd (take n (rest_after element es)) ≡ put_of fd e.0 ∷ puts fd (take m (rest_after (Some e.1) es))
next_put fd es element e n m once more is =
    ap₂ (λ (k : ℕ) (xs : List NumberedEntry). puts fd (take k xs)) more (rest_of_next element e es once (sym is))

-- if no entry is left, no key is left to put
pub no_key : (fd : ℕ) (es : List NumberedEntry) (element : Option ℕ) (n : ℕ)
    → None ≡ next_entry element es
    → puts fd (take n (rest_after element es)) ≡ []
no_key fd es element n is =
    ap (λ (xs : List NumberedEntry). puts fd (take n xs))
    (none_first (rest_after element es) (sym (first_of_rest element es) ∙ sym is))
    ∙ ap (puts fd) (take-nil n)

-- to put none of the entries takes no command
pub no_put : (fd : ℕ) (es : List NumberedEntry) (n : ℕ) → n ≡ 0 → puts fd (take n es) ≡ []
no_put fd es n none = ap (λ (k : ℕ). puts fd (take k es)) none

-- if i entries are skipped up to an element, i + 1 are skipped up to the next entry
pub skip_one : (es : List NumberedEntry) (element : Option ℕ) (e : NumberedEntry) (i : ℕ)
    → ((p : ℕ) → occurrences p (values_of es) ≤ 1)
    → Some e ≡ next_entry element es
    → rest_after element es ≡ drop i es
    → rest_after (Some e.1) es ≡ drop (i + 1) es
skip_one es element e i once is so_far =
    ap (drop 1) (sym (rest_of_next element e es once (sym is)) ∙ so_far) ∙ drop-drop 1 i es

-- if no entry is left after those that are skipped so far, none is left once more are to be skipped
pub all_skipped : (es : List NumberedEntry) (element : Option ℕ) (i count : ℕ)
    → None ≡ next_entry element es → i ≤ count
    → rest_after element es ≡ drop i es
    → rest_after element es ≡ drop count es
all_skipped es element i count is le so_far =
    let none = none_first (rest_after element es) (sym (first_of_rest element es) ∙ sym is) in
    let same : i + (count - i) ≡ count = omega (arith, le) in
    none
    ∙ sym (ap (drop (count - i)) (sym so_far ∙ none) ∙ drop-nil (count - i))
    ∙ drop-drop (count - i) i es
    ∙ ap (λ (n : ℕ). drop n es) same

-- ---- a map

same_puts : (fd : ℕ) (v : ℕ → List ℕ) (es : List (List ℕ × ℕ))
    → map (put_of fd) (map (λ (e : List ℕ × ℕ). (e.0, v e.1)) es)
    ≡ puts fd (map (λ (e : List ℕ × ℕ). ((e.0, v e.1), e.1)) es)
same_puts fd v [] = refl
same_puts fd v (e ∷ es) = ap (λ (cs : List Command). put_of fd (e.0, v e.1) ∷ cs) (same_puts fd v es)

-- the commands that put the entries of a live map are those for its numbered entries
pub map_puts : (part : List ℕ) (t : LiveMaps) (k fd : ℕ)
    → map (put_of fd) (map_in part t k).entries ≡ puts fd (numbered_entries part t k)
map_puts part t k fd = same_puts fd (value_in part t k) (keys_at t k).entries

-- the commands that put at most `count` keys from an index on are those for the entries after the skipped ones
pub some_puts : (part : List ℕ) (t : LiveMaps) (k fd first count : ℕ) (element : Option ℕ)
    → rest_after element (numbered_entries part t k) ≡ drop first (numbered_entries part t k)
    → take count (drop first (map (put_of fd) (map_in part t k).entries))
    ≡ puts fd (take count (rest_after element (numbered_entries part t k)))
some_puts part t k fd first count element skipped =
    let es = numbered_entries part t k in
    let put = λ (e : NumberedEntry). put_of fd e.0 in
    ap (λ (cs : List Command). take count (drop first cs)) (map_puts part t k fd)
    ∙ ap (take count) (drop-map put first es)
    ∙ take-map put count (drop first es)
    ∙ ap (λ (xs : List NumberedEntry). puts fd (take count xs)) (sym skipped)

-- if the only command's frame is written, or there is an error, the frames of all commands are, or it is an error
pub ok_one : {U E : Type 0} (r : Result U E) (old new : List ℕ) (n : ℕ) (c : Command) (all : List Command)
    → all ≡ c ∷ []
    → OnOk r (new ≡ old ++ framed (frame_of n c))
    → OnOk r (new ≡ old ++ frames_of n all)
ok_one (Ok x) old new n c all is one =
    one
    ∙ ap (λ (bytes : List ℕ). old ++ bytes) (sym (append-nil (framed (frame_of n c))))
    ∙ ap (λ (cs : List Command). old ++ frames_of n cs) (sym is)
ok_one (Err e) old new n c all is one = tt

-- if the first frame and then the others are written, or there is an error, all are, or it is an error
pub ok_more : {U E : Type 0} (r : Result U E) (old : List ℕ) {mid : List ℕ} (new : List ℕ) (n m : ℕ)
    (c : Command) (rest all : List Command)
    → all ≡ c ∷ rest → m ≡ n
    → mid ≡ old ++ framed (frame_of n c) → OnOk r (new ≡ mid ++ frames_of m rest)
    → OnOk r (new ≡ old ++ frames_of n all)
ok_more (Ok x) old {mid} new n m c rest all is same one more =
    then_more old (framed (frame_of n c)) (frames_of n rest) one (more ∙ ap (λ (k : ℕ). mid ++ frames_of k rest) same)
    ∙ ap (λ (cs : List Command). old ++ frames_of n cs) (sym is)
ok_more (Err e) old new n m c rest all is same one more = tt
