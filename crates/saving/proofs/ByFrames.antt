-- The commands of a walk, sent as frames.
use Rattle.std.proofs.Common.{◌≡◌, ℕ, zero, suc, ◌+◌, ◌^◌, ◌<◌, ◌≤◌, Bool, true, false, List, [], ◌∷◌, ◌++◌}
use Rattle.std.proofs.Common.{length, map, Option, Some, Result, Ok, refl, sym, ap, subst, arith, length-append}
use Rattle.std.specs.Prelude.{ℤ, is_none, if◌then◌else◌}
use Rattle.std.specs.List.{AllByRecursion}
use Rattle.command_frames.specs.declared.command.BadFrame.{BadFrame}
use Rattle.command_frames.specs.Command.{Command, close, parsed}
use Rattle.command_frames.specs.Frame.{reply_to}
use Rattle.fd_table.specs.Table.{first_descriptor, most, named}
use Rattle.insn_set.specs.declared.insn.Insn.{Insn}
use Rattle.insn_set.specs.Program.{IsProgram}
use Rattle.insn_set.specs.SpellingLaws.{length-program_bytes}
use Rattle.tagged_model.specs.declared.shape.MapKind.{MapKind}
use Rattle.tagged_model.specs.declared.shape.MapKind.TheVariants.{Hash, Array}
use Rattle.tagged_model.specs.declared.shape.MapShape.{MapShape}
use Rattle.tenant.specs.declared.object.OpenObject.{OpenObject}
use Rattle.tenant.specs.State.{Map, TenantState, new_tenant, live}
use Rattle.tenant.specs.Alone.{IsFrameResult, IsServedAlone}
use Rattle.saving.specs.Births.{Birth, OfMap, OfProgram, descriptor_of, AreInOrder, IsBorn}
use Rattle.saving.specs.Filler.{filler}
use Rattle.tenant.specs.Described.{type_number}
use Rattle.saving.specs.Restored.{load_of, create_of, put_of, made_map, made_program, made, filled, born, closings, restored, Leads}
use Rattle.saving.specs.Restorable.{IsRestorable}
use Rattle.command_frames.specs.Encoded.{frame_of}
use Rattle.command_frames.specs.Laws.{EncodingInvertsParsing}
use Rattle.saving.specs.Frames.{AreGood}
use Rattle.saving.specs.Laws.{RestoredIsAlike, RestoredByFrames}
use Rattle.saving.proofs.Lists.{is_there}
use Rattle.saving.proofs.Limits.{limited}

module _ (law : EncodingInvertsParsing) (tenant : ℕ) where
  -- each of these commands is read from its frame
  abbrev IsCarried : Command → Type 0
  IsCarried c = parsed (frame_of tenant c) ≡ Ok c

  abbrev AreCarried : List Command → Type 0
  AreCarried cs = AllByRecursion IsCarried cs

  both_carried : (cs ds : List Command) → AreCarried cs → AreCarried ds → AreCarried (cs ++ ds)
  both_carried [] ds h k = k
  both_carried (c ∷ cs) ds h k = (h.0, both_carried cs ds h.1 k)

  -- ---- each command of a walk

  -- the command that loads a program is read from its frame
  pub program_carried : (insns : List Insn) → IsProgram insns → IsCarried (load_of insns)
  program_carried insns is =
      let room = is.room in
      let long = length-program_bytes insns in
      law.parsed_again tenant (load_of insns) (omega arith) (omega arith)

  close_carried : (fd : ℕ) → fd < first_descriptor + most → IsCarried (close fd)
  close_carried fd lt = law.parsed_again tenant (close fd) (omega arith) (omega arith)

  kind_small : (kind : MapKind) → type_number kind < 2 ^ 32
  kind_small Hash = omega arith
  kind_small Array = omega arith

  create_carried : (shape : MapShape) → IsCarried (create_of shape)
  create_carried shape =
      let within = limited shape in
      let key = within.key in
      let value = within.value in
      let entries = within.entries in
      law.parsed_again tenant (create_of shape)
      (kind_small shape.kind, omega arith, omega arith, omega arith, omega arith)
      (omega arith)

  puts_carried : (shape : MapShape) (fd : ℕ) (es : List (List ℕ × List ℕ))
      → fd < first_descriptor + most
      → AllByRecursion (λ e. length e.0 ≡ shape.key_size) es
      → AllByRecursion (λ e. length e.1 ≡ shape.value_size) es
      → AreCarried (map (put_of fd) es)
  puts_carried shape fd [] lt keys values = tt
  puts_carried shape fd (e ∷ es) lt keys values =
      let within = limited shape in
      let key = within.key in
      let value = within.value in
      let size = keys.0 in
      let room = values.0 in
      let long = length-append e.0 e.1 in (
        law.parsed_again tenant (put_of fd e) (omega arith, omega arith) (omega arith),
        puts_carried shape fd es lt keys.1 values.1,
      )

  -- ---- the walk

  made_carried : (s : TenantState)
      → IsRestorable s
      → (older : List Birth) (b : Birth) → descriptor_of b < first_descriptor + most
      → IsBorn s older b
      → AreCarried (made s b)
  made_carried s whole older (OfMap handle fd) lt (live_so, new) =
      let (m, there) = is_there (live s handle) live_so in
      let is = whole.maps handle m there in
      subst (λ (o : Option Map). AreCarried (made_map fd o)) (sym there)
      (create_carried m.shape, puts_carried m.shape fd m.entries lt is.table.keys is.values)
  made_carried s whole older (OfProgram fd) lt (l, there, maps) =
      subst (λ (o : Option OpenObject). AreCarried (made_program o)) (sym there)
      (program_carried l.insns (whole.programs fd l there).program, tt)

  born_carried : (s : TenantState) → IsRestorable s → (bs : List Birth) → AreInOrder s bs → AreCarried (born s bs)
  born_carried s whole [] order = tt
  born_carried s whole (b ∷ older) (low, high, apart, is, order) =
      both_carried (born s older) (close (descriptor_of b) ∷ made s b) (born_carried s whole older order)
      (close_carried (descriptor_of b) high, made_carried s whole older b high is)

  filled_carried : IsProgram filler → (n : ℕ) → AreCarried (filled n)
  unfolding filled
  filled_carried fine zero = tt
  filled_carried fine (suc n) = (program_carried filler fine, filled_carried fine n)

  closings_carried : (objects : List (Option OpenObject)) (fd n : ℕ)
      → fd + n ≤ first_descriptor + most → AreCarried (closings objects fd n)
  unfolding closings
  closings_carried objects fd zero all = tt
  closings_carried objects fd (suc n) all =
      both_carried (if is_none (named objects fd) then close fd ∷ [] else [])
      (closings objects (fd + 1) n) (here (is_none (named objects fd)))
      (closings_carried objects (fd + 1) n (omega arith))
    where
      here : (b : Bool) → AreCarried (if b then close fd ∷ [] else [])
      here true = (close_carried fd (omega arith), tt)
      here false = tt

  restored_carried : IsProgram filler
      → (s : TenantState) (births : List Birth) → IsRestorable s
      → AreInOrder s births
      → AreCarried (restored s births)
  restored_carried fine s births whole order =
      both_carried (filled most) (born s births ++ closings s.objects first_descriptor most) (filled_carried fine most)
      (both_carried (born s births) (closings s.objects first_descriptor most)
      (born_carried s whole births order)
      (closings_carried s.objects first_descriptor most (omega arith)))

  -- ---- the replies to the walk

  record Seen (s : TenantState) (cs : List Command) (t : TenantState) : Type 0 where
    replies : List (List ℕ)
    seen : IsServedAlone (Some s) (map (frame_of tenant) cs) replies (Some t)
    good : AreGood (map (frame_of tenant) cs) replies

  seen_by : (cs : List Command) (s t : TenantState) → AreCarried cs → Leads s cs t → Seen s cs t
  seen_by [] s t carried e = record { replies = []; seen = ap (λ (x : TenantState). Some x) e; good = tt }
  seen_by (c ∷ cs) s t carried (a, answers, well, rest) =
      let later = seen_by cs a.after t carried.1 rest in
      let frame = frame_of tenant c in
      record {
        replies = reply_to frame a.status a.payload ∷ later.replies;
        seen = (
          Some a.after,
          (a, subst (λ (p : Result Command BadFrame). IsFrameResult false s p a) (sym carried.0) answers, refl, refl),
          later.seen,
        );
        good = ((well.0, a.payload, ap (λ (status : ℤ). reply_to frame status a.payload) well.1), later.good);
      }

-- the frames that carry a save's commands restore the state if the commands do
pub restored_by_frames : EncodingInvertsParsing → IsProgram filler → RestoredIsAlike → RestoredByFrames
restored_by_frames encoded fine law tenant s births whole are =
    let (t, leads, alike, holds) = law s births whole are in
    let all =
    seen_by encoded tenant (restored s births) new_tenant t
    (restored_carried encoded tenant fine s births whole are.order) leads in
    (t, all.replies, all.seen, all.good, alike, holds)
