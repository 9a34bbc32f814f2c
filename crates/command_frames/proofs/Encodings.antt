-- The frame of a command is parsed as this command, by its fields; and a frame that is parsed as a command has the bytes of this command,
-- since each number is encoded by the bytes from which it is read.
use Rattle.std.proofs.Common.{◌≡◌, ℕ, zero, suc, ◌+◌, ◌*◌, ◌^◌, ◌<◌, ◌≤◌, Bool, true, false, List, [], ◌∷◌, ◌++◌}
use Rattle.std.proofs.Common.{length, take, drop, get_or, Result, Ok, Err, refl, sym, ap, ap₂, subst, ◌∙◌, arith, inl, inr}
use Rattle.std.proofs.Common.{length-take, length-take-le, length-drop, take-append-drop}
use Rattle.std.specs.Prelude.{if◌then◌else◌, ◌⊎◌, ◌==◌, nat_le, nat_lt}
use Rattle.std.specs.Int.{w16, w32, w64, from_le_bytes}
use Rattle.std.specs.List.{AllByRecursion, flat_map}
use Rattle.std.proofs.lemmas.Bool.{cases_lt, le-leb, le-ltb, eqb-true, leb-true}
use Rattle.std.proofs.lemmas.List.{get_or-take, get_or-drop, get_or_past, drop-drop, drop_all}
use Rattle.std.proofs.lemmas.Nat.{le_bytes_2, le_bytes_4, le_bytes_8}
use Rattle.byteorder.specs.Endian.{little_number, little_bytes}
use Rattle.words.specs.Context.{given_words}
use Rattle.command_frames.specs.declared.command.BadFrame.{BadFrame}
use Rattle.command_frames.specs.declared.command.BadFrame.TheVariants.{TooLong, Body}
use Rattle.command_frames.specs.Command.{Command, map_create, map_lookup, map_update, map_delete, map_next_key, prog_load, prog_test_run, close}
use Rattle.command_frames.specs.Command.{parsed, command_in, exactly, at_least, longest_frame, before_key_and_value, word_length, before_packet}
use Rattle.command_frames.specs.Command.{word_at, long_at, words_in}
use Rattle.command_frames.specs.Encoded.{command_code, body_of, frame_of, FitsFields}
use Rattle.command_frames.specs.Frame.{head_length, owner}
use Rattle.command_frames.specs.Laws.{EncodingInvertsParsing, FramesHaveOwners}
use Rattle.command_frames.proofs.Spelling.{number_of_bytes, half_of_bytes}

-- ---- a command is parsed from its frame

long_of_bytes : (n : ℕ) (rest : List ℕ) → n < 2 ^ 64 → little_number 8 (little_bytes 8 n ++ rest) ≡ n
long_of_bytes n rest small = omega arith

code_small : (c : Command) → command_code c < 2 ^ 16
code_small (map_create kind key value max flags) = omega arith
code_small (map_lookup fd key) = omega arith
code_small (map_update fd flags bytes) = omega arith
code_small (map_delete fd key) = omega arith
code_small (map_next_key fd key) = omega arith
code_small (prog_load kind slots) = omega arith
code_small (prog_test_run fd words packet) = omega arith
code_small (close fd) = omega arith

parsed_by_code : (tenant : ℕ) (c : Command)
    → length (frame_of tenant c) ≤ longest_frame
    → parsed (frame_of tenant c) ≡ command_in (command_code c) (body_of c)
parsed_by_code tenant c short =
    ap (λ (b : Bool).
    if b
    then Err TooLong
    else command_in (little_number 2 (drop 2 (frame_of tenant c))) (drop head_length (frame_of tenant c)))
    (le-ltb longest_frame (length (frame_of tenant c)) short)
    ∙ ap (λ (n : ℕ). command_in n (body_of c)) (half_of_bytes (command_code c) (body_of c) (code_small c))

abbrev at_least_if : Bool → Command → Result Command BadFrame
at_least_if b c = if b then Ok c else Err Body

-- a body of a number in four bytes and some bytes is long enough for the number
enough : (n : ℕ) (bytes : List ℕ) (c : Command) → at_least_if (nat_le word_length (length (little_bytes 4 n ++ bytes))) c ≡ Ok c
enough n bytes c = ap (λ (b : Bool). at_least_if b c) (le-leb word_length (length (little_bytes 4 n ++ bytes)) (omega arith))

same_create : (a b c d e f g h i j : ℕ)
    → a ≡ f → b ≡ g → c ≡ h → d ≡ i → e ≡ j
    → map_create a b c d e ≡ map_create f g h i j
same_create a b c d e f g h i j p q r s t = cc

same_update : (a b f g : ℕ) (bytes : List ℕ) → a ≡ f → b ≡ g → map_update a b bytes ≡ map_update f g bytes
same_update a b f g bytes p q = cc

same_run : (a b : ℕ) (ws vs packet other : List ℕ)
    → a ≡ b → ws ≡ vs
    → packet ≡ other
    → prog_test_run a ws packet ≡ prog_test_run b vs other
same_run a b ws vs packet other p q r = cc

-- words are read from their bytes
words_read : (n : ℕ) (ws packet : List ℕ)
    → length ws ≡ n → AllByRecursion (λ w. w < 2 ^ 32) ws
    → words_in n (flat_map (little_bytes 4) ws ++ packet) ≡ ws
unfolding words_in
words_read zero [] packet e small = refl
words_read zero (w ∷ ws) packet e small = absurd (omega (arith, e))
words_read (suc n) [] packet e small = absurd (omega (arith, e))
words_read (suc n) (w ∷ ws) packet e small =
    ap₂ (λ (x : ℕ) (xs : List ℕ). x ∷ xs)
    (number_of_bytes w (flat_map (little_bytes 4) ws ++ packet) small.0)
    (words_read n ws packet (omega (arith, e)) small.1)

-- the packet begins after four bytes for each word
after_words : (ws packet : List ℕ) → drop (4 * length ws) (flat_map (little_bytes 4) ws ++ packet) ≡ packet
after_words [] packet = refl
after_words (w ∷ ws) packet =
    let four : 4 * length (w ∷ ws) ≡ suc (suc (suc (suc (4 * length ws)))) = omega arith in
    ap (λ (k : ℕ). drop k (flat_map (little_bytes 4) (w ∷ ws) ++ packet)) four ∙ after_words ws packet

words_long : (ws packet : List ℕ) → length (flat_map (little_bytes 4) ws ++ packet) ≡ 4 * length ws + length packet
words_long [] packet = omega arith
words_long (w ∷ ws) packet = let rest = words_long ws packet in omega (arith, rest)

in_body : (c : Command) → FitsFields c → command_in (command_code c) (body_of c) ≡ Ok c
in_body (map_create kind key value max flags) (a, b, c, d, e) =
    ap (λ (x : Command). Ok x)
    (same_create _ _ _ _ _ kind key value max flags (number_of_bytes kind [] a) (number_of_bytes key [] b)
    (number_of_bytes value [] c) (number_of_bytes max [] d) (number_of_bytes flags [] e))
in_body (map_lookup fd key) a =
    enough fd key (map_lookup (little_number 4 (little_bytes 4 fd)) key)
    ∙ ap (λ (n : ℕ). Ok (map_lookup n key)) (number_of_bytes fd [] a)
in_body (map_update fd flags bytes) (a, b) =
    ap (λ (t : Bool). at_least_if t (map_update (little_number 4 (little_bytes 4 fd)) (little_number 8 (little_bytes 8 flags)) bytes))
    (le-leb before_key_and_value (length (body_of (map_update fd flags bytes))) (omega arith))
    ∙ ap (λ (x : Command). Ok x)
    (same_update _ _ fd flags bytes (number_of_bytes fd [] a) (long_of_bytes flags [] b))
in_body (map_delete fd key) a =
    enough fd key (map_delete (little_number 4 (little_bytes 4 fd)) key)
    ∙ ap (λ (n : ℕ). Ok (map_delete n key)) (number_of_bytes fd [] a)
in_body (map_next_key fd key) a =
    enough fd key (map_next_key (little_number 4 (little_bytes 4 fd)) key)
    ∙ ap (λ (n : ℕ). Ok (map_next_key n key)) (number_of_bytes fd [] a)
in_body (prog_load kind slots) a =
    enough kind slots (prog_load (little_number 4 (little_bytes 4 kind)) slots)
    ∙ ap (λ (n : ℕ). Ok (prog_load n slots)) (number_of_bytes kind [] a)
in_body (prog_test_run fd ws packet) (a, ten, small) =
    let body = body_of (prog_test_run fd ws packet) in
    let rest = flat_map (little_bytes 4) ws ++ packet in
    let size : length body ≡ 4 + length rest = omega arith in
    let later : drop 40 rest ≡ packet =
    ap (λ (k : ℕ). drop k rest) (let forty : 40 ≡ 4 * length ws = omega (arith, ten) in forty) ∙ after_words ws packet in
    ap (λ (b : Bool). at_least_if b (prog_test_run (little_number 4 body) (words_in given_words rest) (drop 40 rest)))
    (le-leb before_packet (length body) (omega (arith, words_long ws packet, ten, size)))
    ∙ ap (λ (c : Command). Ok c)
    (same_run _ fd _ ws _ packet (number_of_bytes fd rest a) (words_read given_words ws packet ten small) later)
in_body (close fd) a = ap (λ (n : ℕ). Ok (close n)) (number_of_bytes fd [] a)

-- the frame of a command whose numbers fit, and that is not too long, is parsed as this command
pub parsed_from_frame : (tenant : ℕ) (c : Command)
    → FitsFields c → length (frame_of tenant c) ≤ longest_frame
    → parsed (frame_of tenant c) ≡ Ok c
parsed_from_frame tenant c fits short = parsed_by_code tenant c short ∙ in_body c fits

-- the owner of the frame of a command to a tenant is this tenant
pub frames_have_owners : FramesHaveOwners
frames_have_owners tenant c small =
    ap (λ (b : Bool). if b then 65535 else little_number 2 (frame_of tenant c))
    (le-ltb (length (frame_of tenant c)) head_length (omega arith))
    ∙ half_of_bytes tenant (little_bytes 2 (command_code c) ++ body_of c) small

-- ---- numbers are encoded by the bytes from which they are read

abbrev AreBytes : List ℕ → Type 0
AreBytes bytes = (i : ℕ) → get_or bytes i 0 < 256

dropped_are : (k : ℕ) (bytes : List ℕ) → AreBytes bytes → AreBytes (drop k bytes)
dropped_are k bytes fits i = omega (arith, get_or-drop k bytes i 0, fits (k + i))

taken_by : (k : ℕ) (bytes : List ℕ) → AreBytes bytes → (i : ℕ) → (i < k) ⊎ (k ≤ i) → get_or (take k bytes) i 0 < 256
taken_by k bytes fits i (inl low) = omega (arith, get_or-take k bytes i 0 low, fits i)
taken_by k bytes fits i (inr high) =
    omega (arith, get_or_past (take k bytes) i 0 (omega (arith, length-take k bytes)))

taken_are : (k : ℕ) (bytes : List ℕ) → AreBytes bytes → AreBytes (take k bytes)
taken_are k bytes fits i = taken_by k bytes fits i (cases_lt i k)

byte_of_front : (k i : ℕ) (bytes : List ℕ) → i < k → get_or (take k bytes) i 0 ≡ get_or bytes i 0
byte_of_front k i bytes lt = get_or-take k bytes i 0 lt

two_encoded : (bytes : List ℕ) → AreBytes bytes → 2 ≤ length bytes → little_bytes 2 (little_number 2 bytes) ≡ take 2 bytes
two_encoded bytes fits long =
    let same : little_number 2 bytes ≡ from_le_bytes w16 (take 2 bytes) =
    omega (arith, byte_of_front 2 0 bytes (omega arith), byte_of_front 2 1 bytes (omega arith)) in
    le_bytes_2 (take 2 bytes) (little_number 2 bytes) (length-take-le 2 bytes long) (taken_are 2 bytes fits) same

four_encoded : (bytes : List ℕ) → AreBytes bytes → 4 ≤ length bytes → little_bytes 4 (little_number 4 bytes) ≡ take 4 bytes
four_encoded bytes fits long =
    let same : little_number 4 bytes ≡ from_le_bytes w32 (take 4 bytes) =
    omega (
      arith,
      byte_of_front 4 0 bytes (omega arith),
      byte_of_front 4 1 bytes (omega arith),
      byte_of_front 4 2 bytes (omega arith),
      byte_of_front 4 3 bytes (omega arith),
    ) in
    le_bytes_4 (take 4 bytes) (little_number 4 bytes) (length-take-le 4 bytes long) (taken_are 4 bytes fits) same

eight_encoded : (bytes : List ℕ) → AreBytes bytes → 8 ≤ length bytes → little_bytes 8 (little_number 8 bytes) ≡ take 8 bytes
eight_encoded bytes fits long =
    let same : little_number 8 bytes ≡ from_le_bytes w64 (take 8 bytes) =
    omega (
      arith,
      byte_of_front 8 0 bytes (omega arith),
      byte_of_front 8 1 bytes (omega arith),
      byte_of_front 8 2 bytes (omega arith),
      byte_of_front 8 3 bytes (omega arith),
      byte_of_front 8 4 bytes (omega arith),
      byte_of_front 8 5 bytes (omega arith),
      byte_of_front 8 6 bytes (omega arith),
      byte_of_front 8 7 bytes (omega arith),
    ) in
    le_bytes_8 (take 8 bytes) (little_number 8 bytes) (length-take-le 8 bytes long) (taken_are 8 bytes fits) same

-- bytes are the encoding of the number at their front, followed by the bytes after it
front_of : (k : ℕ) (bytes front : List ℕ) → front ≡ take k bytes → bytes ≡ front ++ drop k bytes
front_of k bytes front same = sym (ap (λ (l : List ℕ). l ++ drop k bytes) same ∙ take-append-drop k bytes)

word_encoded_at : (at : ℕ) (bytes : List ℕ)
    → AreBytes bytes → at + 4 ≤ length bytes
    → drop at bytes ≡ little_bytes 4 (word_at at bytes) ++ drop (at + 4) bytes
word_encoded_at at bytes fits long =
    front_of 4 (drop at bytes) _ (four_encoded (drop at bytes) (dropped_are at bytes fits) (omega (arith, length-drop at bytes)))
    ∙ ap (λ (l : List ℕ). little_bytes 4 (word_at at bytes) ++ l) (drop-drop 4 at bytes)

long_encoded_at : (at : ℕ) (bytes : List ℕ)
    → AreBytes bytes → at + 8 ≤ length bytes
    → drop at bytes ≡ little_bytes 8 (long_at at bytes) ++ drop (at + 8) bytes
long_encoded_at at bytes fits long =
    front_of 8 (drop at bytes) _ (eight_encoded (drop at bytes) (dropped_are at bytes fits) (omega (arith, length-drop at bytes)))
    ∙ ap (λ (l : List ℕ). little_bytes 8 (long_at at bytes) ++ l) (drop-drop 8 at bytes)

word_small : (at : ℕ) (bytes : List ℕ) → AreBytes bytes → word_at at bytes < 2 ^ 32
word_small at bytes fits =
    let later = dropped_are at bytes fits in omega (arith, later 0, later 1, later 2, later 3)

long_small : (at : ℕ) (bytes : List ℕ) → AreBytes bytes → long_at at bytes < 2 ^ 64
long_small at bytes fits =
    let later = dropped_are at bytes fits in
    omega (arith, later 0, later 1, later 2, later 3, later 4, later 5, later 6, later 7)

-- ---- words of a context

words_count : (n : ℕ) (bytes : List ℕ) → length (words_in n bytes) ≡ n
unfolding words_in
words_count zero bytes = refl
words_count (suc n) bytes = ap suc (words_count n (drop 4 bytes))

words_small : (n : ℕ) (bytes : List ℕ) → AreBytes bytes → AllByRecursion (λ w. w < 2 ^ 32) (words_in n bytes)
unfolding words_in
words_small zero bytes fits = tt
words_small (suc n) bytes fits = (word_small 0 bytes fits, words_small n (drop 4 bytes) (dropped_are 4 bytes fits))

words_encoded : (n : ℕ) (bytes : List ℕ)
    → AreBytes bytes → 4 * n ≤ length bytes
    → bytes ≡ flat_map (little_bytes 4) (words_in n bytes) ++ drop (4 * n) bytes
unfolding words_in
words_encoded zero bytes fits long = refl
words_encoded (suc n) bytes fits long =
    let four : 4 * suc n ≡ 4 + 4 * n = omega arith in
    let first : bytes ≡ little_bytes 4 (word_at 0 bytes) ++ drop 4 bytes = word_encoded_at 0 bytes fits (omega arith) in
    let rest : drop 4 bytes ≡ flat_map (little_bytes 4) (words_in n (drop 4 bytes)) ++ drop (4 * n) (drop 4 bytes) =
    words_encoded n (drop 4 bytes) (dropped_are 4 bytes fits) (omega (arith, length-drop 4 bytes)) in
    first
    ∙ ap (λ (l : List ℕ). little_bytes 4 (word_at 0 bytes) ++ l)
    (rest
    ∙ ap (λ (l : List ℕ). flat_map (little_bytes 4) (words_in n (drop 4 bytes)) ++ l)
    (drop-drop (4 * n) 4 bytes ∙ ap (λ (k : ℕ). drop k bytes) (sym four)))

-- ---- a frame that is parsed as a command has the bytes of this command

-- if a command is parsed from the number and the body, these are its number and its body
abbrev IsOf : ℕ → List ℕ → Result Command BadFrame → Type 0
IsOf n body (Ok c) = (n ≡ command_code c) × (body ≡ body_of c) × FitsFields c
IsOf n body (Err fault) = Unit {0}

if_of : (n : ℕ) (body : List ℕ) (b : Bool) (x y : Result Command BadFrame)
    → (b ≡ true → IsOf n body x) → IsOf n body y
    → IsOf n body (if b then x else y)
if_of n body true x y h k = h refl
if_of n body false x y h k = k

exactly_of : (n m : ℕ) (body : List ℕ) (c : Command)
    → (length body ≡ m → IsOf n body (Ok c)) → IsOf n body (exactly m body c)
exactly_of n m body c h = if_of n body (length body == m) (Ok c) (Err Body) (λ t. h (eqb-true (length body) m t)) tt

at_least_of : (n m : ℕ) (body : List ℕ) (c : Command)
    → (m ≤ length body → IsOf n body (Ok c)) → IsOf n body (at_least m body c)
at_least_of n m body c h = if_of n body (nat_le m (length body)) (Ok c) (Err Body) (λ t. h (leb-true m (length body) t)) tt

module _ (n : ℕ) (body : List ℕ) (fits : AreBytes body) where
  create_is : n ≡ 0 → length body ≡ 20
      → IsOf n body (Ok (map_create (word_at 0 body) (word_at 4 body) (word_at 8 body) (word_at 12 body) (word_at 16 body)))
  create_is number size =
      let last : drop 16 body ≡ little_bytes 4 (word_at 16 body) =
      word_encoded_at 16 body fits (omega arith)
      ∙ ap (λ (l : List ℕ). little_bytes 4 (word_at 16 body) ++ l) (drop_all 20 body (omega arith)) in
      let fourth = word_encoded_at 12 body fits (omega arith) ∙ ap (λ (l : List ℕ). little_bytes 4 (word_at 12 body) ++ l) last in
      let third = word_encoded_at 8 body fits (omega arith) ∙ ap (λ (l : List ℕ). little_bytes 4 (word_at 8 body) ++ l) fourth in
      let second = word_encoded_at 4 body fits (omega arith) ∙ ap (λ (l : List ℕ). little_bytes 4 (word_at 4 body) ++ l) third in (
        number,
        word_encoded_at 0 body fits (omega arith) ∙ ap (λ (l : List ℕ). little_bytes 4 (word_at 0 body) ++ l) second,
        (
          word_small 0 body fits,
          word_small 4 body fits,
          word_small 8 body fits,
          word_small 12 body fits,
          word_small 16 body fits,
        ),
      )

  update_is : n ≡ 2 → 12 ≤ length body → IsOf n body (Ok (map_update (word_at 0 body) (long_at 4 body) (drop 12 body)))
  update_is number long = (
    number,
    word_encoded_at 0 body fits (omega arith)
        ∙ ap (λ (l : List ℕ). little_bytes 4 (word_at 0 body) ++ l) (long_encoded_at 4 body fits (omega arith)),
    (word_small 0 body fits, long_small 4 body fits),
  )

  run_is : n ≡ 10 → 44 ≤ length body → IsOf n body (Ok (prog_test_run (word_at 0 body) (words_in 10 (drop 4 body)) (drop 44 body)))
  run_is number long =
      let rest : drop 4 body ≡ flat_map (little_bytes 4) (words_in 10 (drop 4 body)) ++ drop 44 body =
      words_encoded 10 (drop 4 body) (dropped_are 4 body fits) (omega (arith, length-drop 4 body))
      ∙ ap (λ (l : List ℕ). flat_map (little_bytes 4) (words_in 10 (drop 4 body)) ++ l) (drop-drop 40 4 body) in (
        number,
        word_encoded_at 0 body fits (omega arith) ∙ ap (λ (l : List ℕ). little_bytes 4 (word_at 0 body) ++ l) rest,
        (
          word_small 0 body fits,
          words_count 10 (drop 4 body),
          words_small 10 (drop 4 body) (dropped_are 4 body fits),
        ),
      )

  close_is : n ≡ 256 → length body ≡ 4 → IsOf n body (Ok (close (word_at 0 body)))
  close_is number size = (
    number,
    word_encoded_at 0 body fits (omega arith)
        ∙ ap (λ (l : List ℕ). little_bytes 4 (word_at 0 body) ++ l) (drop_all 4 body (omega arith)),
    word_small 0 body fits,
  )

  named : 4 ≤ length body → body ≡ little_bytes 4 (word_at 0 body) ++ drop 4 body
  named long = word_encoded_at 0 body fits long

  command_is : IsOf n body (command_in n body)
  command_is =
      if_of n body (n == 0) _ _ (λ t. exactly_of n 20 body _ (create_is (eqb-true n 0 t)))
      (if_of n body (n == 1) _ _
      (λ t. at_least_of n 4 body _ (λ long. (eqb-true n 1 t, named long, word_small 0 body fits)))
      (if_of n body (n == 2) _ _ (λ t. at_least_of n 12 body _ (update_is (eqb-true n 2 t)))
      (if_of n body (n == 3) _ _
      (λ t. at_least_of n 4 body _ (λ long. (eqb-true n 3 t, named long, word_small 0 body fits)))
      (if_of n body (n == 4) _ _
      (λ t. at_least_of n 4 body _ (λ long. (eqb-true n 4 t, named long, word_small 0 body fits)))
      (if_of n body (n == 5) _ _
      (λ t. at_least_of n 4 body _ (λ long. (eqb-true n 5 t, named long, word_small 0 body fits)))
      (if_of n body (n == 10) _ _ (λ t. at_least_of n 44 body _ (run_is (eqb-true n 10 t)))
      (if_of n body (n == 256) _ _ (λ t. exactly_of n 4 body _ (close_is (eqb-true n 256 t))) tt)))))))

no_command : (fault : BadFrame) (c : Command) → let a : Result Command BadFrame = Err fault in a ≡ Ok c → ⊥
no_command fault c e = cc

-- a frame of bytes that is parsed as a command is the frame of this command to its owner, and its numbers fit
pub encoded_in_frame : (frame : List ℕ) (c : Command)
    → AreBytes frame → head_length ≤ length frame
    → parsed frame ≡ Ok c
    → (frame ≡ frame_of (owner frame) c) × FitsFields c
encoded_in_frame frame c fits long e = by_length (nat_lt longest_frame (length frame)) e
  where
    n : ℕ
    n = little_number 2 (drop 2 frame)

    of_command : IsOf n (drop 4 frame) (Ok c) → (frame ≡ frame_of (owner frame) c) × FitsFields c
    of_command (number, body, fields) =
        let owned : little_number 2 frame ≡ owner frame =
        sym (ap (λ (b : Bool). if b then 65535 else little_number 2 frame) (le-ltb (length frame) head_length long)) in
        let first : frame ≡ little_bytes 2 (little_number 2 frame) ++ drop 2 frame =
        front_of 2 frame _ (two_encoded frame fits (omega arith)) in
        let second : drop 2 frame ≡ little_bytes 2 n ++ drop 4 frame =
        front_of 2 (drop 2 frame) _ (two_encoded (drop 2 frame) (dropped_are 2 frame fits) (omega (arith, length-drop 2 frame)))
        ∙ ap (λ (l : List ℕ). little_bytes 2 n ++ l) (drop-drop 2 2 frame) in (
          first
              ∙ ap₂ (λ (k : ℕ) (l : List ℕ). little_bytes 2 k ++ l) owned
              (second ∙ ap₂ (λ (k : ℕ) (l : List ℕ). little_bytes 2 k ++ l) number body),
          fields,
        )

    by_length : (over : Bool)
        → (if over then Err TooLong else command_in n (drop 4 frame)) ≡ Ok c
        → (frame ≡ frame_of (owner frame) c) × FitsFields c
    by_length true e = absurd (no_command TooLong c e)
    by_length false e =
        of_command (subst (IsOf n (drop 4 frame)) e (command_is n (drop 4 frame) (dropped_are 4 frame fits)))

-- encoding a command inverts parsing
pub encoding_inverts_parsing : EncodingInvertsParsing
encoding_inverts_parsing = record { parsed_again = parsed_from_frame; encoded_again = encoded_in_frame }
