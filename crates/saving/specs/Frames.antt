-- Replies without an error. This project's own; a negative status is an error of bpf(2).
use Rattle.std.specs.Prelude.{◌≡◌, ℕ, pos, List, [], ◌∷◌}
use Rattle.command_frames.specs.Frame.{reply_to}

-- the reply to this frame is no error: its status is not negative, and its payload is any
abbrev pub IsGoodReply : List ℕ → List ℕ → Type 0
IsGoodReply frame reply = (n : ℕ) × (payload : List ℕ) × (reply ≡ reply_to frame (pos n) payload)

-- there are as many replies as frames, and each reply is one to the frame at its index, and no
-- error (`IsGoodReply`). True for two empty lists, false (⊥) if one list is longer. Laws of saves
-- state this of the frames of a save, and of the replies to them of a new tenant
abbrev pub AreGood : List (List ℕ) → List (List ℕ) → Type 0
AreGood [] [] = Unit {0}
AreGood (frame ∷ frames) (reply ∷ replies) = IsGoodReply frame reply × AreGood frames replies
AreGood [] (reply ∷ replies) = ⊥
AreGood (frame ∷ frames) [] = ⊥
