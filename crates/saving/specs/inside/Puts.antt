-- The commands that close a descriptor or put the keys of a map, and the entries of a map after a
-- given one. This project's own.
use Rattle.std.specs.Prelude.{ℕ, nat_eq, is_none, if◌then◌else◌, List, [], ◌∷◌, map, Option, Some, None}
use Rattle.command_frames.specs.Command.{Command, close}
use Rattle.tenant.specs.declared.object.OpenObject.{OpenObject}
use Rattle.tenant.specs.Entry.{NumberedEntry}
use Rattle.saving.specs.Restored.{put_of}

-- the command that closes descriptor fd in the tenant that is restored, which has all descriptors
-- open until then; none if fd names an object, o, in the saved tenant
abbrev pub closing : ℕ → Option OpenObject → List Command
closing fd o = if is_none o then close fd ∷ [] else []

-- the commands that put the key and the value of each entry into the map at descriptor fd; e.0 is
-- the pair of both
abbrev pub puts : ℕ → List NumberedEntry → List Command
puts fd es = map (λ (e : NumberedEntry). put_of fd e.0) es

-- the entries after the entry of element p; none if no entry has this element. The element of an
-- entry is e.1
abbrev pub entries_after : {K : Type 0} → ℕ → List (K × ℕ) → List (K × ℕ)
entries_after p [] = []
entries_after p (e ∷ es) = if nat_eq p e.1 then es else entries_after p es

-- the entries of a map that a save has not written yet. For each entry, in the order of es, a save
-- writes a command that puts its key and its value into the restored map. If none is written
-- (None), the result is all entries; else those after the entry of element p, which was written
-- last (Some p), and none if no entry has that element. The first component of an entry, of type K,
-- has its key and value, the second is the number of its element
abbrev pub rest_after : {K : Type 0} → Option ℕ → List (K × ℕ) → List (K × ℕ)
rest_after None es = es
rest_after (Some p) es = entries_after p es
