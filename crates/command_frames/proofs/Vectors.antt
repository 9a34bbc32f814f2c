-- Worked cases of the definitions.
use Rattle.std.proofs.Common.{◌≡◌, ℕ, List, [], ◌∷◌, None, Ok, Err, refl}
use Rattle.std.specs.Prelude.{pos, ◌-ℤ◌}
use Rattle.command_frames.specs.declared.command.BadFrame.TheVariants.{Unknown, Body}
use Rattle.command_frames.specs.Command.{parsed, close}
use Rattle.command_frames.specs.Frame.{framed, head_of, owner, command_number, reply_bytes, reply_to}

-- a frame for tenant 1 with the command 256
closing : List ℕ
closing = 1 ∷ 0 ∷ 0 ∷ 1 ∷ 5 ∷ 0 ∷ 0 ∷ 0 ∷ []

on_the_stream : framed closing ≡ 8 ∷ 0 ∷ 0 ∷ 0 ∷ 1 ∷ 0 ∷ 0 ∷ 1 ∷ 5 ∷ 0 ∷ 0 ∷ 0 ∷ []
unfolding closing
on_the_stream = refl

of_tenant_1 : owner closing ≡ 1
unfolding closing
of_tenant_1 = refl

command_256 : command_number closing ≡ 256
unfolding closing
command_256 = refl

-- three bytes are no head
no_head : head_of (7 ∷ 0 ∷ 5 ∷ []) ≡ None
no_head = refl

no_tenant : owner (7 ∷ 0 ∷ 5 ∷ []) ≡ 65535
no_tenant = refl

closes_5 : parsed closing ≡ Ok (close 5)
unfolding closing
closes_5 = refl

-- a descriptor of three bytes, and a number that no command has
short_body : parsed (1 ∷ 0 ∷ 0 ∷ 1 ∷ 5 ∷ 0 ∷ 0 ∷ []) ≡ Err Body
short_body = refl

no_command : parsed (1 ∷ 0 ∷ 6 ∷ 0 ∷ []) ≡ Err Unknown
no_command = refl

-- a refusal is -9 in two's complement
bad_descriptor : reply_to closing (pos 0 -ℤ pos 9) [] ≡ 8 ∷ 0 ∷ 0 ∷ 0 ∷ 1 ∷ 0 ∷ 0 ∷ 1 ∷ 247 ∷ 255 ∷ 255 ∷ 255 ∷ []
unfolding closing
bad_descriptor = refl

-- the length counts the payload
with_payload :
    reply_bytes 2 10 (pos 0) (1 ∷ 0 ∷ 0 ∷ 0 ∷ []) ≡ 12 ∷ 0 ∷ 0 ∷ 0 ∷ 2 ∷ 0 ∷ 10 ∷ 0 ∷ 0 ∷ 0 ∷ 0 ∷ 0 ∷ 1 ∷ 0 ∷ 0 ∷ 0 ∷ []
with_payload = refl
