-- A reply with the status of a fault has no payload; only a test run that faults has this status.
use Rattle.std.proofs.Common.{Result, Ok, Err, ◌≡◌, ◌≢◌, ℕ, Bool, true, false, List, [], ◌++◌}
use Rattle.std.proofs.Common.{length, Option, Some, None, refl, sym, ap, subst, ◌∙◌, arith, get_or}
use Rattle.std.specs.Prelude.{ℤ, pos, ◌==◌, nat_lt, if◌then◌else◌, MatchBool}
use Rattle.std.specs.Int.{w32, cast_unsigned}
use Rattle.byteorder.specs.Endian.{little_bytes}
use Rattle.command_frames.specs.Command.{Command, map_create, map_lookup, map_update, map_delete, map_next_key, prog_load, prog_test_run, close, parsed}
use Rattle.command_frames.specs.declared.command.BadFrame.{BadFrame}
use Rattle.fd_table.specs.Table as table
use Rattle.insn_codec.specs.declared.fault.FaultKind.{FaultKind}
use Rattle.insn_codec.specs.declared.fault.FaultKind.TheVariants as kind
use Rattle.insn_set.specs.declared.insn.Insn.{Insn}
use Rattle.reg_kinds.specs.declared.reason.Reason.{Reason}
use Rattle.reg_kinds.specs.declared.reason.Reason.TheVariants as reason
use Rattle.tagged_model.specs.declared.shape.MapShape.{MapShape}
use Rattle.tagged_model.specs.declared.fault.MapFault.{MapFault}
use Rattle.tagged_model.specs.declared.value.Outcome.{Outcome}
use Rattle.tagged_model.specs.declared.value.Outcome.TheVariants.{Value, Fault}
use Rattle.tagged_model.specs.Shape.{area}
use Rattle.tagged_model.specs.Table as call
use Rattle.tagged_model.specs.Table.{verdict, removal, look_up, next_of}
use Rattle.verifier.specs.declared.refusal.Cause.{Cause}
use Rattle.verifier.specs.declared.refusal.Cause.TheVariants as cause
use Rattle.verifier.specs.declared.refusal.Refusal.{Refusal}
use Rattle.tenant.specs.declared.errno.Errno.{Errno}
use Rattle.tenant.specs.declared.errno.Errno.TheVariants.{NotPermitted, TooBig, BadAddress, Invalid}
use Rattle.tenant.specs.declared.object.OpenObject.{OpenObject}
use Rattle.tenant.specs.declared.object.OpenObject.TheVariants as object
use Rattle.command_frames.specs.Frame.{owner, command_number, reply_to}
use Rattle.tenant.specs.Alone.{IsFrameResult, IsFault}
use Rattle.tenant.specs.Errno.{status_of}
use Rattle.tenant.specs.Machine.{Answer, ran, refuses, cause_errno, codec_errno, verdict_errno, created_as, created_under, created}
use Rattle.tenant.specs.Machine.{room_for, kind_of, asked_shape, of_object, of_handle, on_map, gives_or_no_entry, element_put}
use Rattle.tenant.specs.Machine.{element_taken_out, result_of_judgement, LoadsUnder, outcome_result, run_of, longest_packet, closed, Answers}
use Rattle.tenant.specs.State.{Map, TenantState, live}
use Rattle.tenant.proofs.LookUps.{has_size}
use Rattle.tenant.proofs.NextKeys.{is_empty_or_fits}
use Rattle.tenant.proofs.Updates.{has_sizes, key_of, value_of, put_of}
use Rattle.tenant.specs.Laws.{FaultsHaveNoPayload}

-- the lowest byte of a status
abbrev low : ℤ → ℕ
low status = get_or (little_bytes 4 (cast_unsigned w32 status)) 0 0

-- the lowest byte of the status of a fault is 242; such a reply has no payload
abbrev IsBare : Answer → Type 0
IsBare a = low a.status ≡ 242 → a.payload ≡ []

-- a status of 0 is not that of a fault
no_zero : (payload : List ℕ) → low (pos 0) ≡ 242 → payload ≡ []
no_zero payload e = let wrong : 0 ≡ 242 = e in absurd (omega (arith, wrong))

invalid : ◌≢◌ {A = ℕ} 234 242
invalid e = absurd (omega (arith, e))

denied : ◌≢◌ {A = ℕ} 243 242
denied e = absurd (omega (arith, e))

not_open : ◌≢◌ {A = ℕ} 247 242
not_open e = absurd (omega (arith, e))

no_memory : ◌≢◌ {A = ℕ} 244 242
no_memory e = absurd (omega (arith, e))

too_big : ◌≢◌ {A = ℕ} 249 242
too_big e = absurd (omega (arith, e))

-- the lowest byte of the status of slots that are no program is not that of a fault
pub codec_other : (k : FaultKind) → low (status_of (codec_errno k)) ≢ 242
codec_other kind.Empty = too_big
codec_other kind.TooLong = too_big
codec_other kind.Memory = no_memory
codec_other other = invalid

-- the lowest byte of the status of a program that is rejected is not that of a fault
pub verdict_other : (why : Reason) → low (status_of (verdict_errno why)) ≢ 242
verdict_other reason.JumpOutside = invalid
verdict_other reason.JumpBackward = invalid
verdict_other reason.FallsOff = invalid
verdict_other reason.Unreachable = invalid
verdict_other reason.UnknownHelper = invalid
verdict_other reason.DescriptorNotOpen = not_open
verdict_other reason.DescriptorNotMap = invalid
verdict_other reason.NoDirectValue = invalid
verdict_other reason.Memory = no_memory
verdict_other other = denied

cause_other : (c : Cause) → low (status_of (cause_errno c)) ≢ 242
cause_other (cause.Slots kind) = codec_other kind
cause_other (cause.Verdict why) = verdict_other why

-- ---- command by command

bare_as : (b : Bool) (s : TenantState) (shape : MapShape) (fd : ℕ) (o : Option ℕ) → IsBare (created_as b s shape fd o)
bare_as b s shape fd None e = refl
bare_as true s shape fd (Some handle) e = refl
bare_as false s shape fd (Some handle) e = refl

bare_under : (b : Bool) (s : TenantState) (shape : MapShape) (o : Option ℕ) → IsBare (created_under b s shape o)
bare_under b s shape None e = refl
bare_under b s shape (Some fd) e = bare_as b s shape fd (room_for s (area shape.value_size shape.max_entries)) e

bare_created : (b : Bool) (s : TenantState) (r : Result MapShape Errno) → IsBare (created b s r)
bare_created b s (Err errno) e = refl
bare_created b s (Ok shape) e = bare_under b s shape (table.lowest s.objects) e

bare_on_map : (s : TenantState) (fd : ℕ) (f : ℕ → Map → Answer)
    → ((handle : ℕ) (t : Map) → IsBare (f handle t)) → IsBare (on_map s fd f)
bare_on_map s fd f each e = of_objects (table.named s.objects fd) e
  where
    of_handles : (handle : ℕ) (o : Option Map) → IsBare (of_handle s handle f o)
    of_handles handle None e = refl
    of_handles handle (Some t) e = each handle t e

    of_objects : (o : Option OpenObject) → IsBare (of_object s f o)
    of_objects None e = refl
    of_objects (Some (object.Program l)) e = refl
    of_objects (Some (object.Map handle)) e = of_handles handle (live s handle) e

bare_if : (right : Bool) (errno : Errno) (s : TenantState) (a : Answer)
    → IsBare a → IsBare (if right then a else refuses errno s)
bare_if true errno s a bare = bare
bare_if false errno s a bare = λ e. refl

-- a command on a map that tests sizes
bare_tested : (s : TenantState) (fd : ℕ) (fits : Map → Bool) (f : ℕ → Map → Answer)
    → ((handle : ℕ) (t : Map) → IsBare (f handle t))
    → IsBare (on_map s fd (λ p t. if fits t then f p t else refuses Invalid s))
bare_tested s fd fits f each = bare_on_map s fd _ (λ handle t. bare_if (fits t) Invalid s (f handle t) (each handle t))

bare_found : (s : TenantState) (o : Option (List ℕ)) → IsBare (gives_or_no_entry s o)
bare_found s None e = refl
bare_found s (Some value) e = no_zero value e

bare_put : (s : TenantState) (handle : ℕ) (t : Map) (key value : List ℕ) (v : call.Verdict (List ℕ))
    → IsBare (element_put s handle t key value v)
bare_put s handle t key value (call.Refused fault) e = refl
bare_put s handle t key value (call.Present old) e = refl
bare_put s handle t key value call.New e = refl

bare_taken : (s : TenantState) (handle : ℕ) (t : Map) (key : List ℕ) (r : Result (List ℕ) MapFault)
    → IsBare (element_taken_out s handle t key r)
bare_taken s handle t key (Err fault) e = refl
bare_taken s handle t key (Ok value) e = refl

bare_judged : (s : TenantState) (fd : ℕ) (j : Result (List Insn) Refusal) → IsBare (result_of_judgement s fd j)
bare_judged s fd (Ok insns) e = refl
bare_judged s fd (Err refusal) e = absurd (cause_other refusal.cause e)

bare_seen : (a b : Answer) → a ≡ b → IsBare b → IsBare a
bare_seen a b same bare = subst IsBare (sym same) bare

bare_load : (b : Bool) (s : TenantState) (o : Option ℕ) (slots : List ℕ) (a : Answer)
    → LoadsUnder b s o slots a → IsBare a
bare_load b s None slots a h = bare_seen a _ h (λ e. refl)
bare_load true s (Some fd) slots a h = bare_seen a _ h (λ e. refl)
bare_load false s (Some fd) slots a (j, is, seen) = bare_seen a _ seen (bare_judged s fd j)

bare_loads : (right b : Bool) (s : TenantState) (slots : List ℕ) (a x : Answer)
    → x.payload ≡ []
    → MatchBool right (LoadsUnder b s (table.lowest s.objects) slots a) (a ≡ x)
    → IsBare a
bare_loads true b s slots a x plain h = bare_load b s (table.lowest s.objects) slots a h
bare_loads false b s slots a x plain h = λ e. ap (λ (y : Answer). y.payload) h ∙ plain

bare_ended : (o : Outcome) (s : TenantState) → IsBare (outcome_result o s)
bare_ended (Value n) s e = no_zero (little_bytes 4 n) e
bare_ended Fault s e = refl

bare_run : (s : TenantState) (words packet : List ℕ) (o : Option OpenObject) → IsBare (run_of s words packet o)
bare_run s words packet None e = refl
bare_run s words packet (Some (object.Map handle)) e = refl
bare_run s words packet (Some (object.Program l)) e = by_length (nat_lt longest_packet (length packet)) e
  where
    by_length : (long : Bool) → IsBare (if long then refuses TooBig s else ran s l words packet)
    by_length true e = refl
    by_length false e = bare_ended _ _ e

bare_closed : (s : TenantState) (fd : ℕ) (o : Option OpenObject) → IsBare (closed s fd o)
bare_closed s fd None e = refl
bare_closed s fd (Some o) e = refl

bare_answer : (refused : Bool) (s : TenantState) (command : Command) (a : Answer)
    → Answers refused s command a → IsBare a
bare_answer refused s (map_create kind key value max flags) a h =
    bare_seen a _ h (bare_created refused s (asked_shape (kind_of kind) key value max flags))
bare_answer refused s (map_lookup fd key) a h =
    bare_seen a _ h (bare_tested s fd (has_size key) _ (λ handle t. bare_found s (look_up t key)))
bare_answer refused s (map_update fd flags bytes) a h =
    bare_seen a _ h (bare_tested s fd (has_sizes bytes) (put_of s flags bytes)
    (λ handle t.
    bare_put s handle t (key_of t.shape bytes) (value_of t.shape bytes) (verdict t (key_of t.shape bytes) flags)))
bare_answer refused s (map_delete fd key) a h =
    bare_seen a _ h (bare_tested s fd (has_size key) _ (λ handle t. bare_taken s handle t key (removal t key)))
bare_answer refused s (map_next_key fd key) a h =
    bare_seen a _ h (bare_tested s fd (is_empty_or_fits key) _ (λ handle t. bare_found s (next_of t key)))
bare_answer refused s (prog_load kind slots) a h = bare_loads (kind == 1) refused s slots a (refuses Invalid s) refl h
bare_answer refused s (prog_test_run fd words packet) a h =
    bare_seen a _ h (bare_run s words packet (table.named s.objects fd))
bare_answer refused s (close fd) a h = bare_seen a _ h (bare_closed s fd (table.named s.objects fd))

bare_frame : (refused : Bool) (s : TenantState) (r : Result Command BadFrame) (a : Answer)
    → IsFrameResult refused s r a → IsBare a
bare_frame refused s (Err fault) a h = bare_seen a _ h (λ e. refl)
bare_frame refused s (Ok command) a h = bare_answer refused s command a h

-- ---- replies

-- the rejection of a frame of a tenant that is not served is not a fault
unserved : (short : Bool) (frame : List ℕ)
    → ¬ IsFault (reply_to frame (status_of (if short then Invalid else NotPermitted)) [])
unserved true frame e = invalid (ap (λ (b : List ℕ). get_or b 0 0) e)
unserved false frame e = let wrong : 255 ≡ 242 = ap (λ (b : List ℕ). get_or b 0 0) e in absurd (omega (arith, wrong))

same_status : (frame : List ℕ) (status : ℤ) (payload : List ℕ)
    → IsFault (reply_to frame status payload) → payload ≡ []
    → reply_to frame status payload ≡ reply_to frame (status_of BadAddress) []
same_status frame status payload e none =
    ap (λ (p : List ℕ). reply_to frame status p) none
    ∙ ap (λ (b : List ℕ).
    little_bytes 4 8 ++ (little_bytes 2 (owner frame) ++ (little_bytes 2 (command_number frame) ++ b)))
    e

pub faults_have_no_payload : FaultsHaveNoPayload
faults_have_no_payload frame reply None after (refused, (goes, seen)) e =
    absurd (unserved (nat_lt (length frame) 4) frame (subst IsFault seen e))
faults_have_no_payload frame reply (Some s) after (refused, (a, answers, seen, goes)) e =
    let fault = subst IsFault seen e in
    let bare = bare_frame refused s (parsed frame) a answers (ap (λ (b : List ℕ). get_or b 0 0) fault) in
    seen ∙ same_status frame a.status a.payload fault bare
