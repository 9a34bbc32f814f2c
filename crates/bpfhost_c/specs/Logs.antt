-- The call for the verifier's log. This project's own.
use Rattle.std.specs.Prelude.{◌≡◌, Bool, ℕ, ℤ, ◌+◌, ◌-◌, List, [], ◌∷◌, ◌++◌, ◌==◌, length, take, drop, min, Option, Some, None, is_none, if◌then◌else◌}
use Rattle.log_facts.specs.declared.log.LogStyle.{LogStyle}
use Rattle.log_facts.specs.declared.log.LogStyle.TheVariants.{New, Whole, Graph}
use Rattle.log_core.specs.Slots.{IsLogOfSlots}
use Rattle.tagged_model.specs.declared.shape.Named.{Named}
use Rattle.bpfhost_c.specs.declared.codes.TheConstants.{DONE, ERR_NO_HOST, ERR_STYLE}
use Rattle.bpfhost_c.specs.declared.session.Session.{Session}

-- the style of a log by its number; None for a number above 2
abbrev pub style_of : ℕ → Option LogStyle
style_of n =
    if n == 0 then Some New else
    (if n == 1 then Some Whole else (if n == 2 then Some Graph else None))

-- `text` is the log of the slots in the style with this number, if descriptors name the objects
-- `named`, and `accepted` is whether their program is accepted. If no style has the number, no text
-- is a log
abbrev pub Logs : ℕ → List ℕ → List Named → Bool → List ℕ → Type 0
Logs number slots named accepted text =
    (style : LogStyle)
    × (style_of number ≡ Some style)
    × IsLogOfSlots slots named style accepted text

-- how many bytes of a text fit in a room, if a zero byte follows them; 0 for an empty room, since
-- 0 - 1 is 0
abbrev pub fitting : List ℕ → List ℕ → ℕ
fitting text room = min (length text) (length room - 1)

-- a room with as much of a text as fits at its front, and a zero byte after it; an empty room stays
-- empty
abbrev pub text_in : List ℕ → List ℕ → List ℕ
text_in text [] = []
text_in text (byte ∷ rest) =
    take (fitting text (byte ∷ rest)) text
    ++ 0 ∷ drop (fitting text (byte ∷ rest) + 1) (byte ∷ rest)

-- the code of a call for a log in the style with this number, unless it is out of memory; `before`
-- is what the handle has, None if it is empty
abbrev pub verify_code : Option Session → ℕ → ℤ
verify_code before style =
    if is_none before
    then ERR_NO_HOST
    else (if is_none (style_of style) then ERR_STYLE else DONE)
